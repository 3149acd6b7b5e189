-- What a place keeps when it is made, and when the shard of a span is replaced.
use Rattle.std.proofs.Common.{◌≡◌, ◌↔◌, ◌⊎◌, ◌<◌, ℕ, zero, suc, List, [], ◌∷◌, ◌++◌, length, take, drop, map, get_or, refl, sym, ap, ◌∙◌, subst, inl, inr, ⊎_elim, arith}
use Rattle.base_core.specs.Lists.{Has}
use Rattle.fed_bytes.specs.declared.span.Span.{Span}
use Rattle.fed_bytes.specs.Keys.{IsIn}
use Rattle.row_core.specs.declared.rows.Index.{Index}
use Rattle.place_board.specs.declared.view.Known.{Known}
use Rattle.place_board.specs.Tokens.{Noted, Listing, IsSoundList, copied, list_met, list_retired}
use Rattle.place_board.proofs.Members.{has_left, without_sub, without_not, without_keeps}
use Rattle.place_core.specs.declared.shards.Line.{Line}
use Rattle.place_core.specs.declared.shards.Born.{Born}
use Rattle.place_core.specs.Shown.{place_of, IsShownBy}
use Rattle.place_core.specs.Places.{Placing, IsPlace, HasKey, CoverEveryKeyOnce, HaveLeftEnds, AreCutFrom, AreCutOf, AreFresh, WereNeverListed, AreReplaced, LineComesBefore, LinesStandInOrder, IsLocated, line_of, located, all_listed, AreAdded}
use Rattle.place_core.specs.Lines.{AreLines, MayBeListed, ShareLeft, IsElsewhere, IsNumberAt, IsHeldAt}
use Rattle.place_core.proofs.Standing.{has_at, has_rest, has_kept, stand_without, stand_other}
use Rattle.place_core.proofs.Orders.{place_one, not_before_line}
use Rattle.place_core.proofs.Listed.{to_map, from_map, listed_stays, listed_in, listed_from, knows_stays, known_in}

pub as_lines : (p : Placing) → IsPlace p → AreLines p.lines
as_lines p is = record { cover = is.cover; left = is.left; order = is.order }

-- a place that met a note
pub place_met : (p : Placing) (note : Noted) → IsPlace p → IsSoundList (list_met p.list note) → IsPlace (record p { list = list_met p.list note })
place_met p note is sound = record {
  sound = sound;
  cover = is.cover;
  left = is.left;
  order = is.order;
  listed = is.listed;
  shown = λ line h. has_left p.list.noted.knows note.knows _ (is.shown line h);
  found = is.found;
}

-- lines that begin at one key of one index are one, where no key is in two of them
same_left : (lines : List Line) → CoverEveryKeyOnce lines → HaveLeftEnds lines → (line other : Line) → Has lines line → Has lines other → ShareLeft line other → line ≡ other
same_left lines cover left line other h ho share =
    cover.one other.index other.span.left line other h ho
    (place_one line.index other.index share.0, subst (λ key. IsIn line.span key) share.1 (left line h)) (refl, left other ho)

-- a new place
pub may_make : (list : Listing) (born : List Born) → CoverEveryKeyOnce (map line_of born) → HaveLeftEnds (map line_of born) → AreFresh list.noted born → MayBeListed list [] born
may_make list born cover left fresh = record {
  order = tt;
  fresh = fresh;
  listed = λ line h. absurd h;
  lefts = λ line other h ho share. same_left (map line_of born) cover left line other (⊎_elim (λ none. absurd none) (λ l. l) h) ho share;
}

none_listed : (list : Listing) → list.ever ≡ [] → IsSoundList list → (n : ℕ) → ¬ Has list.listed n
none_listed list never sound n h = subst (λ ns. Has ns n) never (sound.listed n h)

line_listed : (born : List Born) (list : Listing) (line : Line) → Has (map line_of born) line → Has (all_listed born list).listed line.number
line_listed born list line h =
    let one = from_map line_of born line h in
    subst (λ n. Has (all_listed born list).listed n) (ap (λ (l : Line). l.number) one.2) (listed_in born list one.0 one.1)

line_shown : (born : List Born) (list : Listing) (noted : Noted) (line : Line) → AreFresh noted born → Has (map line_of born) line → IsShownBy (all_listed born list).noted line.number line.service line.index line.span
line_shown born list noted line fresh h =
    let one = from_map line_of born line h in
    subst (λ (l : Line). IsShownBy (all_listed born list).noted l.number l.service l.index l.span) one.2 (known_in born list one.0 one.1 (fresh one.0 one.1).0.0)

covers_same : (lines after : List Line) → ((line : Line) → (Has after line ↔ Has lines line)) → CoverEveryKeyOnce lines → CoverEveryKeyOnce after
covers_same lines after same cover = record {
  some = λ index key. let found = cover.some index key in (found.0, (same found.0).1 found.1, found.2);
  one = λ index key line other h ho. cover.one index key line other ((same line).0 h) ((same other).0 ho);
}

pub place_made : (list : Listing) (born : List Born) (after : Listing) (lines : List Line) → list.ever ≡ [] → IsSoundList list
    → CoverEveryKeyOnce (map line_of born) → HaveLeftEnds (map line_of born) → AreFresh list.noted born
    → after ≡ all_listed born list → IsSoundList after → AreAdded born [] lines → LinesStandInOrder lines → IsPlace (record { list = after; lines = lines })
place_made list born after lines never was cover left fresh told sound added order =
    let same : (line : Line) → (Has lines line ↔ Has (map line_of born) line) =
    λ line. (λ h. ⊎_elim (λ none. absurd none) (λ l. l) ((added line).0 h), λ h. (added line).1 (inr h)) in
    record {
      sound = sound;
      cover = covers_same (map line_of born) lines same cover;
      left = λ line h. left line ((same line).0 h);
      order = order;
      listed = λ line h. subst (λ (l : Listing). Has l.listed line.number) (sym told) (line_listed born list line ((same line).0 h));
      shown = λ line h. subst (λ (l : Listing). IsShownBy l.noted line.number line.service line.index line.span) (sym told) (line_shown born list list.noted line fresh ((same line).0 h));
      found = λ n h.
          ⊎_elim {C = (line : Line) × Has lines line × (line.number ≡ n)}
          (λ l. absurd (none_listed list never was n l))
          (λ one. (line_of one.0, (same (line_of one.0)).1 (to_map line_of born one.0 one.1), one.2))
          (listed_from born list n (subst (λ (l : Listing). Has l.listed n) told h));
    }

-- lines of one number are one, since the seat knows the number in one way
pub same_number : (p : Placing) → IsPlace p → (line other : Line) → Has p.lines line → Has p.lines other → line.number ≡ other.number → line ≡ other
same_number p is line other h ho same =
    let known = is.sound.noted.agrees _ _ (is.shown line h) (is.shown other ho) same in
    let index = place_one line.index other.index (ap (λ (k : Known). k.index) known) in
    let service = ap (λ (k : Known). k.service) known in
    let span = ap (λ (k : Known). k.span) known in
    λ i. record { number = same i; service = service i; index = index i; span = span i }

-- what is cut from the span that is known of a line's number is cut from its span
pub cut_line : (p : Placing) → IsPlace p → (old : ℕ) (born : List Born) → AreCutOf p.list.noted.knows old born → (line : Line) → Has p.lines line → line.number ≡ old
    → AreCutFrom (place_of line.index) line.span (map line_of born)
cut_line p is old born cut line h same = cut _ (is.shown line h) same

-- a number that no line has just the keys of isn't listed
pub not_listed : (p : Placing) → IsPlace p → (old : ℕ) (born : List Born) → AreCutOf p.list.noted.knows old born → IsElsewhere p.lines old born → ¬ Has p.list.listed old
not_listed p is old born cut elsewhere listed =
    let line = is.found old listed in
    elsewhere line.0 line.1 line.2 (cut_line p is old born cut line.0 line.1 line.2)

module _ (p : Placing) (is : IsPlace p) (old at : ℕ) (born : List Born) (below : at < length p.lines) (gone : Line) (there : (d : Line) → get_or p.lines at d ≡ gone)
    (same : gone.number ≡ old) (cut : AreCutFrom (place_of gone.index) gone.span (map line_of born)) where
  abbrev rest : List Line
  rest = take at p.lines ++ drop (suc at) p.lines

  has_gone : Has p.lines gone
  has_gone = subst (λ line. Has p.lines line) (there gone) (has_at p.lines at gone below)

  rest_not : (line : Line) → Has rest line → ¬ (line ≡ gone)
  rest_not line h e = stand_other LineComesBefore not_before_line p.lines is.order at gone below line h (e ∙ sym (there gone))

  -- a line that is kept has no key of the one that goes
  rest_apart : (line : Line) (index : Index) (key : List ℕ) → Has rest line → HasKey line index key → ¬ HasKey gone index key
  rest_apart line index key h has held = rest_not line h (is.cover.one index key line gone (has_rest at p.lines line h) has_gone has held)

  -- the key of a new line is one of the old
  new_key : (line : Line) (index : Index) (key : List ℕ) → Has (map line_of born) line → HasKey line index key → HasKey gone index key
  new_key line index key h has = (sym (place_one line.index gone.index (cut.index line h)) ∙ has.0, cut.within line key h has.1)

  may_replace_by : AreFresh p.list.noted born → MayBeListed p.list rest born
  may_replace_by fresh = record {
    order = stand_without LineComesBefore at p.lines is.order;
    fresh = fresh;
    listed = λ line h. is.sound.listed line.number (is.listed line (has_rest at p.lines line h));
    lefts = λ line other h ho share.
        let index = place_one line.index other.index share.0 in
        ⊎_elim
        (λ l.
        let key : HasKey line other.index other.span.left = (index, subst (λ k. IsIn line.span k) share.1 (is.left line (has_rest at p.lines line l))) in
        absurd (rest_apart line other.index other.span.left l key (new_key other other.index other.span.left ho (refl, cut.left other ho))))
        (λ l. cut.one other.span.left line other l ho (subst (λ k. IsIn line.span k) share.1 (cut.left line l)) (cut.left other ho)) h;
  }

  kept : (line : Line) → Has p.lines line → ¬ (line.number ≡ old) → Has rest line
  kept line h other = ⊎_elim (λ l. l) (λ e. absurd (other (ap (λ (l : Line). l.number) (e ∙ there gone) ∙ same))) (has_kept p.lines at gone below line h)

  rest_number : (line : Line) → Has rest line → ¬ (line.number ≡ old)
  rest_number line h e = rest_not line h (same_number p is line gone (has_rest at p.lines line h) has_gone (e ∙ sym same))

  replaced_by : (lines : List Line) → AreAdded born rest lines → AreReplaced old born p.lines lines
  replaced_by lines added line = (
    λ h. ⊎_elim (λ l. inl (has_rest at p.lines line l, rest_number line l)) (λ r. inr r) ((added line).0 h),
    λ h. ⊎_elim (λ l. (added line).1 (inl (kept line l.0 l.1))) (λ r. (added line).1 (inr r)) h,
  )

  cover_some : (lines : List Line) → AreAdded born rest lines → (index : Index) (key : List ℕ) (line : Line) → Has p.lines line → HasKey line index key
      → Has rest line ⊎ (line ≡ get_or p.lines at gone) → (found : Line) × Has lines found × HasKey found index key
  cover_some lines added index key line h has (inl l) = (line, (added line).1 (inl l), has)
  cover_some lines added index key line h has (inr e) =
      let held = subst (λ l. HasKey l index key) (e ∙ there gone) has in
      let found = cut.some key held.1 in
      (found.0, (added found.0).1 (inr found.1), (place_one found.0.index gone.index (cut.index found.0 found.1) ∙ held.0, found.2))

  cover_one : (index : Index) (key : List ℕ) (line other : Line) → Has rest line ⊎ Has (map line_of born) line → Has rest other ⊎ Has (map line_of born) other
      → HasKey line index key → HasKey other index key → line ≡ other
  cover_one index key line other (inl a) (inl b) h ho = is.cover.one index key line other (has_rest at p.lines line a) (has_rest at p.lines other b) h ho
  cover_one index key line other (inl a) (inr b) h ho = absurd (rest_apart line index key a h (new_key other index key b ho))
  cover_one index key line other (inr a) (inl b) h ho = absurd (rest_apart other index key b ho (new_key line index key a h))
  cover_one index key line other (inr a) (inr b) h ho = cut.one key line other a b h.1 ho.1

  -- the place afterwards, of which the numbers of the new lines were never listed
  place_replaced_by : (after : Listing) (lines : List Line) → AreFresh p.list.noted born → WereNeverListed born p.list → IsSoundList after
      → after ≡ list_retired old (all_listed born p.list) → AreAdded born rest lines → LinesStandInOrder lines → IsPlace (record { list = after; lines = lines })
  place_replaced_by after lines fresh never sound told added order = record {
    sound = sound;
    cover = record {
      some = λ index key. let found = is.cover.some index key in cover_some lines added index key found.0 found.1 found.2 (has_kept p.lines at gone below found.0 found.1);
      one = λ index key line other h ho. cover_one index key line other ((added line).0 h) ((added other).0 ho);
    };
    left = λ line h. ⊎_elim (λ l. is.left line (has_rest at p.lines line l)) (λ r. cut.left line r) ((added line).0 h);
    order = order;
    listed = λ line h. subst (λ (l : Listing). Has l.listed line.number) (sym told) (listed_after line ((added line).0 h));
    shown = λ line h. subst (λ (l : Listing). IsShownBy l.noted line.number line.service line.index line.span) (sym told) (shown_after line ((added line).0 h));
    found = λ n h. found_after n (subst (λ (l : Listing). Has l.listed n) told h);
  } where
    was_ever : Has p.list.ever old
    was_ever = is.sound.listed old (subst (λ n. Has p.list.listed n) same (is.listed gone has_gone))

    new_number : (line : Line) → Has (map line_of born) line → ¬ (line.number ≡ old)
    new_number line h e =
        let one = from_map line_of born line h in
        never one.0 one.1 (subst (λ n. Has p.list.ever n) (sym (ap (λ (l : Line). l.number) one.2 ∙ e)) was_ever)

    listed_after : (line : Line) → Has rest line ⊎ Has (map line_of born) line → Has (list_retired old (all_listed born p.list)).listed line.number
    listed_after line (inl l) = without_keeps old (all_listed born p.list).listed line.number (rest_number line l) (listed_stays born p.list line.number (is.listed line (has_rest at p.lines line l)))
    listed_after line (inr r) = without_keeps old (all_listed born p.list).listed line.number (new_number line r) (line_listed born p.list line r)

    shown_after : (line : Line) → Has rest line ⊎ Has (map line_of born) line → IsShownBy (all_listed born p.list).noted line.number line.service line.index line.span
    shown_after line (inl l) = knows_stays born p.list _ (is.shown line (has_rest at p.lines line l))
    shown_after line (inr r) = line_shown born p.list p.list.noted line fresh r

    found_after : (n : ℕ) → Has (list_retired old (all_listed born p.list)).listed n → (line : Line) × Has lines line × (line.number ≡ n)
    found_after n h =
        let not = without_not old (all_listed born p.list).listed n h in
        ⊎_elim {C = (line : Line) × Has lines line × (line.number ≡ n)}
        (λ l. let line = is.found n l in (line.0, (added line.0).1 (inl (kept line.0 line.1 (λ e. not (sym line.2 ∙ e)))), line.2))
        (λ one. (line_of one.0, (added (line_of one.0)).1 (inr (to_map line_of born one.0 one.1)), one.2))
        (listed_from born p.list n (without_sub old (all_listed born p.list).listed n h))

gone_of : (lines : List Line) (at : ℕ) → at < length lines → (gone : Line) × ((d : Line) → get_or lines at d ≡ gone)
gone_of [] at below = absurd (omega arith)
gone_of (line ∷ lines) zero below = (line, λ d. refl)
gone_of (line ∷ lines) (suc at) below = gone_of lines at (omega arith)

module _ (p : Placing) (is : IsPlace p) (old at : ℕ) (born : List Born) (number : IsNumberAt p.lines old at) (cut : AreCutOf p.list.noted.knows old born) where
  old_line : (gone : Line) × ((d : Line) → get_or p.lines at d ≡ gone)
  old_line = gone_of p.lines at number.below

  old_same : old_line.0.number ≡ old
  old_same = subst (λ (l : Line). l.number ≡ old) (old_line.1 old_line.0) (number.line old_line.0)

  old_has : Has p.lines old_line.0
  old_has = subst (λ line. Has p.lines line) (old_line.1 old_line.0) (has_at p.lines at old_line.0 number.below)

  old_cut : AreCutFrom (place_of old_line.0.index) old_line.0.span (map line_of born)
  old_cut = cut_line p is old born cut old_line.0 old_has old_same

  pub was_listed : Has p.list.listed old
  was_listed = subst (λ n. Has p.list.listed n) old_same (is.listed old_line.0 old_has)

  pub may_replace : AreFresh p.list.noted born → MayBeListed p.list (take at p.lines ++ drop (suc at) p.lines) born
  may_replace fresh = may_replace_by p is old at born number.below old_line.0 old_line.1 old_same old_cut fresh

  pub are_replaced : (lines : List Line) → AreAdded born (take at p.lines ++ drop (suc at) p.lines) lines → AreReplaced old born p.lines lines
  are_replaced lines added = replaced_by p is old at born number.below old_line.0 old_line.1 old_same old_cut lines added

  pub place_replaced : (after : Listing) (lines : List Line) → AreFresh p.list.noted born → WereNeverListed born p.list → IsSoundList after
      → after ≡ list_retired old (all_listed born p.list) → AreAdded born (take at p.lines ++ drop (suc at) p.lines) lines → LinesStandInOrder lines → IsPlace (record { list = after; lines = lines })
  place_replaced after lines fresh never sound told added order = place_replaced_by p is old at born number.below old_line.0 old_line.1 old_same old_cut after lines fresh never sound told added order

-- the line that has the left end of a born shard has another number, so no line of this number has just the keys of them all
pub elsewhere : (lines : List Line) → AreLines lines → (old : ℕ) (born : List Born) (first : Born) → Has born first → (held : Line) → Has lines held
    → HasKey held first.index first.span.left → ¬ (held.number ≡ old) → IsElsewhere lines old born
elsewhere lines are old born first has held there key not line h number cut =
    let new = to_map line_of born first has in
    let index = place_one first.index line.index (cut.index (line_of first) new) in
    let inside : HasKey line first.index first.span.left = (sym index, cut.within (line_of first) first.span.left new (cut.left (line_of first) new)) in
    not (ap (λ (l : Line). l.number) (are.cover.one first.index first.span.left held line there h key inside) ∙ number)

pub located_by : (p : Placing) → IsPlace p → (index : Index) (key : List ℕ) (at : ℕ) → IsHeldAt p.lines index key at → (found : Line) → found ≡ get_or p.lines at found
    → (span : Span) → span ≡ found.span → (note : Noted) → note ≡ copied p.list.noted
    → IsLocated p index key (record { number = found.number; service = found.service; index = index; span = span; note = note })
located_by p is index key at held found there span spans note notes =
    let has = subst (λ (l : Line). Has p.lines l) (sym there) (has_at p.lines at found held.below) in
    let keyed = subst (λ l. HasKey l index key) (sym there) (held.line found) in
    let indexes = sym keyed.0 in
    let Shown : Noted → Line → Type 0 = λ n l. IsShownBy n l.number l.service l.index l.span in
    let same : located (record { number = found.number; service = found.service; index = index; span = span; note = note }) ≡ found =
    λ i. record { number = found.number; service = found.service; index = indexes i; span = spans i } in
    record {
      has = subst (λ l. HasKey l index key) (sym same) keyed;
      line = subst (λ l. Has p.lines l) (sym same) has;
      listed = is.listed found has;
      shown = subst (λ n. Shown n (located (record { number = found.number; service = found.service; index = index; span = span; note = note }))) (sym notes) (subst (λ l. Shown p.list.noted l) (sym same) (is.shown found has));
    }
