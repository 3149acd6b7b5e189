-- What a scan keeps when it takes a reply, and when the number that it asked for is lost.
use Rattle.std.proofs.Common.{◌≡◌, ◌∙◌, ◌<◌, ◌++◌, ◌∷◌, [], ℕ, List, Bool, true, false, length, refl, sym, ap, subst}
use Rattle.std.specs.Prelude.{Option, Some, None}
use Rattle.fed_bytes.specs.declared.span.Span.{Span}
use Rattle.fed_bytes.specs.Keys.{IsBeforeEnd, IsIn}
use Rattle.fed_bytes.proofs.Orders.{no_answer, up_to-chain}
use Rattle.row_core.specs.declared.rows.Row.{Row}
use Rattle.row_core.specs.declared.rows.Reply.{Reply}
use Rattle.scan_core.specs.Parts.{read_end, GoesOn}
use Rattle.scan_core.specs.Scans.{Scanning, IsScan, IsFitting, Takes, asked_after}
use Rattle.scan_core.proofs.Distinct.{distinct_put}
use Rattle.scan_core.proofs.Keys.{took}

asked_before : (next : Option (List ℕ)) (asked : Option ℕ) (n : ℕ) → asked_after next asked ≡ Some n → asked ≡ Some n
asked_before None asked n e = cc
asked_before (Some k) asked n e = e

same_end : (old : Span) (end : Option (List ℕ)) (new : Span) (done : Bool) → GoesOn old end new done → new.right ≡ old.right
same_end old None new done g = ap (λ (s : Span). s.right) g.1
same_end old (Some end) new true g = ap (λ (s : Span). s.right) g.1
same_end old (Some end) new false g = ap (λ (s : Span). s.right) g.1

begins_in : (whole old : Span) (end : Option (List ℕ)) (new : Span) (done : Bool) → GoesOn old end new done → old.right ≡ whole.right
    → IsIn whole old.left → done ≡ false → IsIn whole new.left
begins_in whole old None new done g e at is = no_answer (sym is ∙ g.0)
begins_in whole old (Some end) new true g e at is = no_answer (sym is)
begins_in whole old (Some end) new false g e at is = subst (λ (s : Span). IsIn whole s.left) (sym g.1)
    (up_to-chain whole.left old.left end at.0 g.0.0, subst (λ (r : Option (List ℕ)). IsBeforeEnd end r) e g.0.1)

-- the scan with what is left, whether nothing is, the number that is asked further, and the rows
abbrev pub with_part : Scanning → Span → Bool → Option ℕ → List Row → Scanning
with_part s rest done asked rows = record s { rest = rest; done = done; asked = asked; rows = rows }

pub keeps : (old : Scanning) (reply : Reply) (rest : Span) (done : Bool) (asked : Option ℕ) (rows : List Row) → IsScan old → old.done ≡ false
    → GoesOn old.rest (read_end reply.chunk.next reply.part.right) rest done → asked ≡ asked_after reply.chunk.next old.asked
    → IsScan (with_part old rest done asked rows)
keeps old reply rest done asked rows is left goes same = record {
  distinct = is.distinct;
  few = is.few;
  other = λ n e. is.other n (asked_before reply.chunk.next old.asked n (sym same ∙ e));
  end = same_end old.rest _ rest done goes ∙ is.end;
  at = λ e. begins_in old.whole old.rest _ rest done goes is.end (is.at left) e;
  late = is.late;
}

pub takes : (old : Scanning) (reply : Reply) (rest : Span) (done : Bool) (asked : Option ℕ) (rows : List Row) → IsScan old → old.done ≡ false
    → IsFitting old.rest reply → GoesOn old.rest (read_end reply.chunk.next reply.part.right) rest done
    → asked ≡ asked_after reply.chunk.next old.asked → rows ≡ old.rows ++ reply.chunk.rows
    → Takes old reply (with_part old rest done asked rows)
takes old reply rest done asked rows is left fits goes same more = record {
  rows = more;
  reads = λ key in_whole. took old.rest rest reply.part reply.chunk.next old.done done key left goes fits.begins fits.within fits.next
      (subst (λ (r : Option (List ℕ)). IsBeforeEnd key r) (sym is.end) in_whole.1);
  asked = same;
  rest = refl;
}

-- the scan with one more number that was lost
pub loses : (old : Scanning) (number : ℕ) (numbers : List ℕ) → IsScan old → old.asked ≡ Some number → numbers ≡ old.retired ++ number ∷ [] → length numbers < 8
    → IsScan (record old { asked = None; retired = numbers })
loses old number numbers is asked are few = record {
  distinct = rw are (distinct_put old.retired number is.distinct (is.other number asked));
  few = few;
  other = λ n e. cc;
  end = is.end;
  at = is.at;
  late = is.late;
}
