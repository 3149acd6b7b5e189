-- What a scan has read of a history, from its start until nothing is left.
use Rattle.std.proofs.Common.{◌≡◌, ◌↔◌, ◌⊎◌, ◌∙◌, ◌++◌, [], ℕ, List, true, false, sym, ap, subst, inl, inr}
use Rattle.std.specs.Prelude.{Option, Some}
use Rattle.base_core.specs.Lists.{Has}
use Rattle.fed_bytes.specs.declared.span.Span.{Span}
use Rattle.fed_bytes.specs.Keys.{IsBefore, IsUpTo, IsBeforeEnd, IsIn}
use Rattle.fed_bytes.proofs.Orders.{no_answer, up_to-itself, up_to-chain, up_to_end, before_up_to}
use Rattle.row_core.specs.declared.rows.Index.{Index}
use Rattle.row_core.specs.declared.rows.Row.{Row}
use Rattle.row_core.specs.declared.rows.Reply.{Reply}
use Rattle.row_core.proofs.Lists.{in_front, behind, in_one}
use Rattle.row_core.proofs.Order.{not_before_itself}
use Rattle.change_model.specs.History.{History}
use Rattle.scan_core.specs.Scans.{Scanning, IsScan, IsStarted, IsRead, IsPassed, IsFitting, Takes}
use Rattle.scan_core.specs.Values.{IsValueRow, AreScanned, TellsValues, AreAllScanned, ScanStartedLaw, ScanTakenLaw, ScanDoneLaw}

-- no key of the span was read at the start
none_read : (span : Span) (s : Scanning) → ((s.done ≡ false) ↔ IsIn span span.left) → s.rest ≡ span → (key : List ℕ) → IsIn span key → IsRead s key → ⊥
none_read span s left rest key within (inl done) =
    no_answer (sym (left.1 (up_to-itself span.left, up_to_end span.left key span.right within.0 within.1)) ∙ done)
none_read span s left rest key within (inr before) =
    not_before_itself key (before_up_to key span.left key (subst (λ (r : Span). IsBefore key r.left) rest before) within.0)

pub scan_started : ScanStartedLaw
scan_started history index span time s is row = (
  λ h. absurd (subst (λ (rows : List Row). Has rows row) (ap (λ (one : Scanning). one.rows) is.is) h),
  λ r. absurd (none_read span s is.left (ap (λ (one : Scanning). one.rest) is.is) row.key (subst (λ (whole : Span). IsIn whole row.key) (ap (λ (one : Scanning). one.whole) is.is) r.1.0) r.1.1),
)

-- rows of what was read, and those of what is passed
step : (V : Row → Type 0) (Within Read After Passed : List ℕ → Type 0) (rows more all : List Row) → all ≡ rows ++ more
    → ((key : List ℕ) → Within key → (After key ↔ (Read key ⊎ Passed key))) → ((key : List ℕ) → Passed key → Within key)
    → ((row : Row) → (Has more row ↔ (V row × Passed row.key))) → ((row : Row) → (Has rows row ↔ (V row × (Within row.key × Read row.key))))
    → (row : Row) → (Has all row ↔ (V row × (Within row.key × After row.key)))
step V Within Read After Passed rows more all is reads passed_in tells were row = (
  λ h. from (in_one rows more row (subst (λ (one : List Row). Has one row) is h)),
  λ r. subst (λ (one : List Row). Has one row) (sym is) (back r ((reads row.key r.1.0).0 r.1.1)),
)
  where
    from : Has rows row ⊎ Has more row → V row × (Within row.key × After row.key)
    from (inl h) = let was = (were row).0 h in (was.0, (was.1.0, (reads row.key was.1.0).1 (inl was.1.1)))
    from (inr h) = let told = (tells row).0 h in let within = passed_in row.key told.1 in (told.0, (within, (reads row.key within).1 (inr told.1)))

    back : V row × (Within row.key × After row.key) → Read row.key ⊎ Passed row.key → Has (rows ++ more) row
    back r (inl read) = in_front rows more row ((were row).1 (r.0, (r.1.0, read)))
    back r (inr passed) = behind rows more row ((tells row).1 (r.0, passed))

-- what the reply passes is in the whole span
passed_in : (old : Scanning) (reply : Reply) → IsScan old → old.done ≡ false → IsFitting old.rest reply → (key : List ℕ) → IsPassed reply key → IsIn old.whole key
passed_in old reply is left fits key passed =
    let rest = fits.within key passed.0 in
    (up_to-chain old.whole.left old.rest.left key (is.at left).0 rest.0, subst (λ (right : Option (List ℕ)). IsBeforeEnd key right) is.end rest.1)

pub scan_taken : ScanTakenLaw
scan_taken history old new reply is left fits takes tells were =
    let found =
    step (IsValueRow old.index history old.time) (IsIn old.whole) (IsRead old) (IsRead new) (IsPassed reply) old.rows reply.chunk.rows new.rows takes.rows takes.reads
    (passed_in old reply is left fits) tells were in
    let Exactly : Index → ℕ → Span → Type 0 = λ index time whole. (row : Row) → (Has new.rows row ↔ (IsValueRow index history time row × (IsIn whole row.key × IsRead new row.key))) in
    subst (λ (index : Index). Exactly index new.time new.whole) (sym (ap (λ (one : Scanning). one.index) takes.rest))
    (subst (λ (time : ℕ). Exactly old.index time new.whole) (sym (ap (λ (one : Scanning). one.time) takes.rest))
    (subst (λ (whole : Span). Exactly old.index old.time whole) (sym (ap (λ (one : Scanning). one.whole) takes.rest)) found))

pub scan_done : ScanDoneLaw
scan_done history s done are row = (λ h. let r = (are row).0 h in (r.0, r.1.0), λ r. (are row).1 (r.0, (r.1, inl done)))
