-- How far the fields of bytes keep their rules: a bad field lies in the head, among the terms, at the count of the
-- statements, or among these and behind them. No field further on is reached, so bytes have at most one first bad field.
use Rattle.std.proofs.Common.{◌≡◌, ◌≢◌, ℕ, ◌+◌, ◌<◌, ◌≤◌, List, [], ◌∷◌, ◌++◌, length, refl, sym, ◌∙◌, ap, subst, append_assoc, length-append, inl, inr, arith}
use Rattle.base_core.specs.Numbers.{length_bytes}
use Rattle.std.specs.List.{flat_map, AllByRecursion}
use Rattle.std.proofs.lemmas.Bool.{cases_lt}
use Rattle.term_core.specs.declared.term.Term.{Term}
use Rattle.base_core.specs.Lists.{Has, AreDistinct}
use Rattle.term_core.specs.Spelling.{spelling}
use Rattle.term_core.proofs.Spelling.{rest_same}
use Rattle.change_model.specs.declared.history.Kind.{Kind}
use Rattle.change_model.specs.declared.vocabulary.Places.{Places}
use Rattle.body_codec.specs.Body.{kind_byte, term_field, statement_field, head_and_terms, body, named, IsTermOf, IsPlacing, ArePlacings}
use Rattle.body_codec.specs.Faults.{BeginWithTerms, BeginWithStatements, IsFirstBadField, wrong_format, wrong_kind, short_count, short_length, wrong_spelling, wrong_count, wrong_statement, unused_term, byte_too_many}
use Rattle.body_codec.specs.Reading.{IsBadTerm, no_length, no_spelling}
use Rattle.body_codec.proofs.Agree.{next_of, AreSame, same_of, terms_agree, terms_front, begin_terms, statements_agree, statements_front}
use Rattle.body_codec.proofs.Cuts.{number_same}
use Rattle.body_codec.proofs.Elements.{All-append}
use Rattle.body_codec.proofs.Turns.{ArePlacings-behind}

-- ---- the head

pub data HeadBad (bytes : List ℕ) (at : ℕ) : Type 0 where
  format_bad : at ≡ 0 → ((rest : List ℕ) → bytes ≢ 1 ∷ rest) → HeadBad bytes at
  kind_bad : (rest : List ℕ) → bytes ≡ 1 ∷ rest → at ≡ 1 → ((kind : Kind) (behind : List ℕ) → rest ≢ kind_byte kind ∷ behind) → HeadBad bytes at
  count_bad : (kind : Kind) (rest : List ℕ) → bytes ≡ 1 ∷ kind_byte kind ∷ rest → at ≡ 2 → length rest < 4 → HeadBad bytes at

head_same : (bytes : List ℕ) (a b : ℕ) → HeadBad bytes a → HeadBad bytes b → a ≡ b
head_same bytes a b (format_bad p none) (format_bad q never) = p ∙ sym q
head_same bytes a b (format_bad p none) (kind_bad rest cut q never) = absurd (none rest cut)
head_same bytes a b (format_bad p none) (count_bad kind rest cut q short) = absurd (none (kind_byte kind ∷ rest) cut)
head_same bytes a b (kind_bad rest cut p none) (format_bad q never) = absurd (never rest cut)
head_same bytes a b (kind_bad rest cut p none) (kind_bad other is q never) = p ∙ sym q
head_same bytes a b (kind_bad rest cut p none) (count_bad kind behind is q short) =
    absurd (none kind behind (rest_same 1 1 rest (kind_byte kind ∷ behind) (sym cut ∙ is)))
head_same bytes a b (count_bad kind rest cut p short) (format_bad q never) = absurd (never (kind_byte kind ∷ rest) cut)
head_same bytes a b (count_bad kind rest cut p short) (kind_bad other is q never) =
    absurd (never kind rest (rest_same 1 1 other (kind_byte kind ∷ rest) (sym is ∙ cut)))
head_same bytes a b (count_bad kind rest cut p short) (count_bad other behind is q low) = p ∙ sym q

head_none : (bytes : List ℕ) (at : ℕ) (kind : Kind) (count : ℕ) (terms : List Term) (rest : List ℕ) → HeadBad bytes at → BeginWithTerms bytes kind count terms rest → ⊥
head_none bytes at kind count terms rest (format_bad place none) begin = none _ begin.cut
head_none bytes at kind count terms rest (kind_bad behind cut place none) begin = none kind _ (rest_same 1 1 behind _ (sym cut ∙ begin.cut))
head_none bytes at kind count terms rest (count_bad other behind cut place short) begin =
    let kinds = rest_same 1 1 (kind_byte other ∷ behind) (kind_byte kind ∷ (length_bytes count ++ (flat_map term_field terms ++ rest))) (sym cut ∙ begin.cut) in
    let counts = ap length (rest_same _ _ behind _ kinds) in
    absurd (omega arith)

-- ---- the terms

pub record TermBad (bytes : List ℕ) (at : ℕ) : Type 0 where
  pub kind : Kind
  pub count : ℕ
  pub terms : List Term
  pub rest : List ℕ
  pub begin : BeginWithTerms bytes kind count terms rest
  pub fewer : length terms < count
  pub bad : IsBadTerm kind terms rest (length (head_and_terms kind count terms)) at

-- an element stands nowhere before itself in a distinct list
behind_has : {A : Type 0} → (xs : List A) (x : A) (more : List A) (y : A) → x ≡ y → Has (xs ++ x ∷ more) y
behind_has [] x more y same = inl same
behind_has (z ∷ xs) x more y same = inr (behind_has xs x more y same)

new_there : {A : Type 0} → (xs : List A) (x : A) (more : List A) → AreDistinct (xs ++ x ∷ more) → Has xs x → ⊥
new_there [] x more apart h = h
new_there (y ∷ xs) x more apart (inl same) = apart.0 (behind_has xs x more y (sym same))
new_there (y ∷ xs) x more apart (inr there) = new_there xs x more apart.1 there

-- the term that follows a front of the terms
term_next : (kind : Kind) (terms : List Term) (next : Term) (more all : List Term) → all ≡ terms ++ next ∷ more → AllByRecursion (IsTermOf kind) all → IsTermOf kind next
term_next kind terms next more all split each =
    (All-append (IsTermOf kind) terms (next ∷ more) (subst (AllByRecursion (IsTermOf kind)) split each)).1.0

-- where one more term was read, the field is not bad
no_bad_term : (kind : Kind) (terms : List Term) (rest : List ℕ) (offset at : ℕ) (next : Term) (behind : List ℕ) → IsBadTerm kind terms rest offset at
    → rest ≡ term_field next ++ behind → IsTermOf kind next → (Has terms next → ⊥) → ⊥
no_bad_term kind terms rest offset at next behind (no_length place short) field is new = let long = ap length field in absurd (omega arith)
no_bad_term kind terms rest offset at next behind (no_spelling size tail cut fits place none) field is new =
    let split = append_assoc (length_bytes (length (spelling next))) (spelling next) behind in
    let sizes = number_same size (length (spelling next)) tail (spelling next ++ behind) fits is.short (sym cut ∙ field ∙ split) in
    none (record { term = next; behind = behind; is = is; long = sym sizes.0; new = new; cut = sizes.1 })

term_passed : (bytes : List ℕ) (at : ℕ) (bad : TermBad bytes at) (kind : Kind) (count : ℕ) (terms : List Term) (rest : List ℕ) → BeginWithTerms bytes kind count terms rest
    → length bad.terms < length terms → ⊥
term_passed bytes at bad kind count terms rest begin longer =
    let head = terms_agree bytes bad.kind kind bad.count count bad.terms terms bad.rest rest bad.begin begin in
    let next = next_of term_field bad.terms terms bad.rest rest
    (terms_front bytes bad.kind kind bad.count count bad.terms terms bad.rest rest bad.begin begin (omega arith)) longer in
    let is = subst (λ k. IsTermOf k next.next) (sym head.kind_is) (term_next kind bad.terms next.next next.more terms next.split begin.are.each) in
    no_bad_term bad.kind bad.terms bad.rest _ at next.next _ bad.bad next.rest is
    (new_there bad.terms next.next next.more (subst (λ (l : List Term). AreDistinct l) next.split begin.are.apart))

term_none : (bytes : List ℕ) (at : ℕ) (bad : TermBad bytes at) (kind : Kind) (terms : List Term) (rest : List ℕ) → BeginWithTerms bytes kind (length terms) terms rest → ⊥
term_none bytes at bad kind terms rest begin =
    let head = terms_agree bytes bad.kind kind bad.count (length terms) bad.terms terms bad.rest rest bad.begin begin in
    let count_is = head.count_is in
    let fewer = bad.fewer in
    term_passed bytes at bad kind (length terms) terms rest begin (omega arith)

one_field : (kind other : Kind) (terms more : List Term) (rest behind : List ℕ) (offset place a b : ℕ) → rest ≡ behind → offset ≡ place
    → IsBadTerm kind terms rest offset a → IsBadTerm other more behind place b → a ≡ b
one_field kind other terms more rest behind offset place a b same at (no_length p short) (no_length q low) = p ∙ at ∙ sym q
one_field kind other terms more rest behind offset place a b same at (no_length p short) (no_spelling size tail cut fits q none) =
    let long = ap length (same ∙ cut) in absurd (omega arith)
one_field kind other terms more rest behind offset place a b same at (no_spelling size tail cut fits p none) (no_length q low) =
    let long = ap length (sym same ∙ cut) in absurd (omega arith)
one_field kind other terms more rest behind offset place a b same at (no_spelling size tail cut fits p none) (no_spelling sized tailed is fit q never) =
    p ∙ ap (λ n. n + 4) at ∙ sym q

term_same : (bytes : List ℕ) (a b : ℕ) → TermBad bytes a → TermBad bytes b → a ≡ b
term_same bytes a b one two =
    elim (cases_lt (length one.terms) (length two.terms)) [
      | inl fewer ↦ absurd (term_passed bytes a one two.kind two.count two.terms two.rest two.begin fewer)
      | inr enough ↦ elim (cases_lt (length two.terms) (length one.terms)) [
        | inl more ↦ absurd (term_passed bytes b two one.kind one.count one.terms one.rest one.begin more)
        | inr within ↦
            let long : length one.terms ≡ length two.terms = omega arith in
            let same = same_of term_field one.terms two.terms one.rest two.rest
            (terms_front bytes one.kind two.kind one.count two.count one.terms two.terms one.rest two.rest one.begin two.begin within) long in
            let offset : length (head_and_terms one.kind one.count one.terms) ≡ length (head_and_terms two.kind two.count two.terms) =
            (let size = ap (λ (l : List Term). length (flat_map term_field l)) same.list in omega arith) in
            one_field one.kind two.kind one.terms two.terms one.rest two.rest _ _ a b same.rest offset one.bad two.bad
      ]
    ]

-- ---- the count of the statements

pub record CountBad (bytes : List ℕ) (at : ℕ) : Type 0 where
  pub kind : Kind
  pub terms : List Term
  pub rest : List ℕ
  pub begin : BeginWithTerms bytes kind (length terms) terms rest
  pub place : at ≡ length (head_and_terms kind (length terms) terms)
  pub none : (count : ℕ) (behind : List ℕ) → count ≤ 100000 → rest ≢ length_bytes count ++ behind

-- two readings of all terms
all_terms : (bytes : List ℕ) (kind other : Kind) (terms more : List Term) (rest behind : List ℕ) → BeginWithTerms bytes kind (length terms) terms rest
    → BeginWithTerms bytes other (length more) more behind → AreSame terms more rest behind
all_terms bytes kind other terms more rest behind one two =
    let head = terms_agree bytes kind other (length terms) (length more) terms more rest behind one two in
    let within : length terms ≤ length more = let long = head.count_is in omega arith in
    same_of term_field terms more rest behind (terms_front bytes kind other (length terms) (length more) terms more rest behind one two within) head.count_is

offset_same : (kind other : Kind) (terms more : List Term) → terms ≡ more → length (head_and_terms kind (length terms) terms) ≡ length (head_and_terms other (length more) more)
offset_same kind other terms more same = let size = ap (λ (l : List Term). length (flat_map term_field l)) same in omega arith

count_none : (bytes : List ℕ) (at : ℕ) (kind : Kind) (terms : List Term) (count : ℕ) (placed : List Places) (rest : List ℕ) → CountBad bytes at
    → BeginWithStatements bytes kind terms count placed rest → ⊥
count_none bytes at kind terms count placed rest bad begin =
    let same = all_terms bytes bad.kind kind bad.terms terms bad.rest _ bad.begin (begin_terms bytes kind terms count placed rest begin) in
    bad.none count (flat_map statement_field placed ++ rest) begin.few same.rest

count_same : (bytes : List ℕ) (a b : ℕ) → CountBad bytes a → CountBad bytes b → a ≡ b
count_same bytes a b one two =
    let same = all_terms bytes one.kind two.kind one.terms two.terms one.rest two.rest one.begin two.begin in
    one.place ∙ offset_same one.kind two.kind one.terms two.terms same.list ∙ sym two.place

-- ---- the statements

pub record StatementBad (bytes : List ℕ) (at : ℕ) : Type 0 where
  pub kind : Kind
  pub terms : List Term
  pub count : ℕ
  pub placed : List Places
  pub rest : List ℕ
  pub begin : BeginWithStatements bytes kind terms count placed rest
  pub fewer : length placed < count
  pub place : at ≡ length (head_and_terms kind (length terms) terms ++ (length_bytes count ++ flat_map statement_field placed))
  pub none : (next : Places) (behind : List ℕ) → IsPlacing terms (named placed) next → rest ≢ statement_field next ++ behind

placing_next : (terms : List Term) (placed : List Places) (next : Places) (more all : List Places) → all ≡ placed ++ next ∷ more → ArePlacings terms [] all
    → IsPlacing terms (named placed) next
placing_next terms placed next more all split are =
    (ArePlacings-behind terms [] placed (next ∷ more) (subst (ArePlacings terms []) split are)).0

statement_passed : (bytes : List ℕ) (at : ℕ) (bad : StatementBad bytes at) (kind : Kind) (terms : List Term) (count : ℕ) (placed : List Places) (rest : List ℕ)
    → BeginWithStatements bytes kind terms count placed rest → length bad.placed < length placed → ⊥
statement_passed bytes at bad kind terms count placed rest begin longer =
    let head = statements_agree bytes bad.kind kind bad.terms terms bad.count count bad.placed placed bad.rest rest bad.begin begin in
    let next = next_of statement_field bad.placed placed bad.rest rest
    (statements_front bytes bad.kind kind bad.terms terms bad.count count bad.placed placed bad.rest rest bad.begin begin (omega arith)) longer in
    let is = placing_next terms bad.placed next.next next.more placed next.split begin.placed in
    bad.none next.next _ (subst (λ (l : List Term). IsPlacing l (named bad.placed) next.next) (sym head.terms_are) is) next.rest

statement_none : (bytes : List ℕ) (at : ℕ) (bad : StatementBad bytes at) (kind : Kind) (terms : List Term) (placed : List Places) (rest : List ℕ)
    → BeginWithStatements bytes kind terms (length placed) placed rest → ⊥
statement_none bytes at bad kind terms placed rest begin =
    let head = statements_agree bytes bad.kind kind bad.terms terms bad.count (length placed) bad.placed placed bad.rest rest bad.begin begin in
    let count_is = head.count_is in
    let fewer = bad.fewer in
    statement_passed bytes at bad kind terms (length placed) placed rest begin (omega arith)

-- two readings of the same number of statements
pub record AreAlike (terms more : List Term) (placed ones : List Places) (count size : ℕ) (us vs : List ℕ) : Type 0 where
  pub terms_are : terms ≡ more
  pub placed_are : placed ≡ ones
  pub count_is : count ≡ size
  pub rest : us ≡ vs

alike : (bytes : List ℕ) (kind other : Kind) (terms more : List Term) (count size : ℕ) (placed ones : List Places) (us vs : List ℕ)
    → BeginWithStatements bytes kind terms count placed us → BeginWithStatements bytes other more size ones vs → length placed ≡ length ones
    → AreAlike terms more placed ones count size us vs
alike bytes kind other terms more count size placed ones us vs one two long =
    let head = statements_agree bytes kind other terms more count size placed ones us vs one two in
    let same = same_of statement_field placed ones us vs (statements_front bytes kind other terms more count size placed ones us vs one two (omega arith)) long in
    record { terms_are = head.terms_are; placed_are = same.list; count_is = head.count_is; rest = same.rest }

-- and of all statements
pub all_alike : (bytes : List ℕ) (kind other : Kind) (terms more : List Term) (placed ones : List Places) (us vs : List ℕ)
    → BeginWithStatements bytes kind terms (length placed) placed us → BeginWithStatements bytes other more (length ones) ones vs
    → AreAlike terms more placed ones (length placed) (length ones) us vs
all_alike bytes kind other terms more placed ones us vs one two =
    alike bytes kind other terms more (length placed) (length ones) placed ones us vs one two
    (statements_agree bytes kind other terms more (length placed) (length ones) placed ones us vs one two).count_is

end_same : (kind other : Kind) (terms more : List Term) (placed ones : List Places) (count size : ℕ) → terms ≡ more → placed ≡ ones
    → length (head_and_terms kind (length terms) terms ++ (length_bytes count ++ flat_map statement_field placed))
    ≡ length (head_and_terms other (length more) more ++ (length_bytes size ++ flat_map statement_field ones))
end_same kind other terms more placed ones count size same alike =
    let front = ap (λ (l : List Term). length (flat_map term_field l)) same in
    let back = ap (λ (l : List Places). length (flat_map statement_field l)) alike in
    let mine = length-append (head_and_terms kind (length terms) terms) (length_bytes count ++ flat_map statement_field placed) in
    let yours = length-append (head_and_terms other (length more) more) (length_bytes size ++ flat_map statement_field ones) in
    omega arith

statement_same : (bytes : List ℕ) (a b : ℕ) → StatementBad bytes a → StatementBad bytes b → a ≡ b
statement_same bytes a b one two =
    elim (cases_lt (length one.placed) (length two.placed)) [
      | inl fewer ↦ absurd (statement_passed bytes a one two.kind two.terms two.count two.placed two.rest two.begin fewer)
      | inr enough ↦ elim (cases_lt (length two.placed) (length one.placed)) [
        | inl more ↦ absurd (statement_passed bytes b two one.kind one.terms one.count one.placed one.rest one.begin more)
        | inr within ↦
            let like = alike bytes one.kind two.kind one.terms two.terms one.count two.count one.placed two.placed one.rest two.rest one.begin two.begin (omega arith) in
            one.place ∙ end_same one.kind two.kind one.terms two.terms one.placed two.placed one.count two.count like.terms_are like.placed_are ∙ sym two.place
      ]
    ]

-- ---- the end

pub data EndBad (bytes : List ℕ) (at : ℕ) : Type 0 where
  term_unused : (kind : Kind) (terms : List Term) (placed : List Places) (rest : List ℕ) → BeginWithStatements bytes kind terms (length placed) placed rest
      → at ≡ length (head_and_terms kind (length terms) terms) → (place : ℕ) → place < length terms → ¬ Has (named placed) place → EndBad bytes at
  bytes_left : (kind : Kind) (terms : List Term) (placed : List Places) (rest : List ℕ) → BeginWithStatements bytes kind terms (length placed) placed rest
      → ((place : ℕ) → place < length terms → Has (named placed) place) → at ≡ length (body kind terms placed) → rest ≢ [] → EndBad bytes at

-- where all terms are used, none is unused
pub none_unused : (bytes : List ℕ) (kind other : Kind) (terms more : List Term) (placed ones : List Places) (us vs : List ℕ) (place : ℕ)
    → BeginWithStatements bytes kind terms (length placed) placed us → place < length terms → ¬ Has (named placed) place
    → BeginWithStatements bytes other more (length ones) ones vs → ((place : ℕ) → place < length more → Has (named ones) place) → ⊥
none_unused bytes kind other terms more placed ones us vs place one below unused two used =
    let like = all_alike bytes kind other terms more placed ones us vs one two in
    let low : place < length more = subst (λ (l : List Term). place < length l) like.terms_are below in
    unused (subst (λ (l : List Places). Has (named l) place) (sym like.placed_are) (used place low))

end_one : (bytes : List ℕ) (a b : ℕ) → EndBad bytes a → EndBad bytes b → a ≡ b
end_one bytes a b (term_unused kind terms placed rest begin p place below unused) (term_unused other more ones behind begins q second low none) =
    p ∙ offset_same kind other terms more (all_alike bytes kind other terms more placed ones rest behind begin begins).terms_are ∙ sym q
end_one bytes a b (term_unused kind terms placed rest begin p place below unused) (bytes_left other more ones behind begins used q some) =
    absurd (none_unused bytes kind other terms more placed ones rest behind place begin below unused begins used)
end_one bytes a b (bytes_left kind terms placed rest begin used p some) (term_unused other more ones behind begins q place below unused) =
    absurd (none_unused bytes other kind more terms ones placed behind rest place begins below unused begin used)
end_one bytes a b (bytes_left kind terms placed rest begin used p some) (bytes_left other more ones behind begins uses q left) =
    let like = all_alike bytes kind other terms more placed ones rest behind begin begins in
    p ∙ end_same kind other terms more placed ones (length placed) (length ones) like.terms_are like.placed_are ∙ sym q

-- all fields stand
pub record AllStand (bytes : List ℕ) : Type 0 where
  pub kind : Kind
  pub terms : List Term
  pub placed : List Places
  pub rest : List ℕ
  pub begin : BeginWithStatements bytes kind terms (length placed) placed rest

end_stands : (bytes : List ℕ) (at : ℕ) → EndBad bytes at → AllStand bytes
end_stands bytes at (term_unused kind terms placed rest begin p place below unused) = record { kind = kind; terms = terms; placed = placed; rest = rest; begin = begin }
end_stands bytes at (bytes_left kind terms placed rest begin used p some) = record { kind = kind; terms = terms; placed = placed; rest = rest; begin = begin }

-- ---- the stage of a bad field

pub data Stage (bytes : List ℕ) (at : ℕ) : Type 0 where
  in_head : HeadBad bytes at → Stage bytes at
  in_terms : TermBad bytes at → Stage bytes at
  in_count : CountBad bytes at → Stage bytes at
  in_statements : StatementBad bytes at → Stage bytes at
  at_end : EndBad bytes at → Stage bytes at

pub stage_of : (bytes : List ℕ) (at : ℕ) → IsFirstBadField bytes at → Stage bytes at
stage_of bytes at (wrong_format place none) = in_head (format_bad place none)
stage_of bytes at (wrong_kind rest cut place none) = in_head (kind_bad rest cut place none)
stage_of bytes at (short_count kind rest cut place short) = in_head (count_bad kind rest cut place short)
stage_of bytes at (short_length kind count terms rest begin fewer place short) =
    in_terms (record { kind = kind; count = count; terms = terms; rest = rest; begin = begin; fewer = fewer; bad = no_length place short })
stage_of bytes at (wrong_spelling kind count terms size rest begin fewer fits place none) =
    in_terms (record { kind = kind; count = count; terms = terms; rest = length_bytes size ++ rest; begin = begin; fewer = fewer; bad = no_spelling size rest refl fits place none })
stage_of bytes at (wrong_count kind terms rest begin place none) =
    in_count (record { kind = kind; terms = terms; rest = rest; begin = begin; place = place; none = none })
stage_of bytes at (wrong_statement kind terms count placed rest begin fewer place none) =
    in_statements (record { kind = kind; terms = terms; count = count; placed = placed; rest = rest; begin = begin; fewer = fewer; place = place; none = none })
stage_of bytes at (unused_term kind terms placed rest begin offset place below unused) = at_end (term_unused kind terms placed rest begin offset place below unused)
stage_of bytes at (byte_too_many kind terms placed rest begin used place some) = at_end (bytes_left kind terms placed rest begin used place some)

-- where all fields stand, only the end can be bad
pub not_earlier : (bytes : List ℕ) (at : ℕ) → AllStand bytes → Stage bytes at → EndBad bytes at
not_earlier bytes at all (in_head bad) = absurd (head_none bytes at all.kind _ all.terms _ bad (begin_terms bytes all.kind all.terms _ all.placed all.rest all.begin))
not_earlier bytes at all (in_terms bad) = absurd (term_none bytes at bad all.kind all.terms _ (begin_terms bytes all.kind all.terms _ all.placed all.rest all.begin))
not_earlier bytes at all (in_count bad) = absurd (count_none bytes at all.kind all.terms _ all.placed all.rest bad all.begin)
not_earlier bytes at all (in_statements bad) = absurd (statement_none bytes at bad all.kind all.terms all.placed all.rest all.begin)
not_earlier bytes at all (at_end bad) = bad

head_only : (bytes : List ℕ) (a b : ℕ) → HeadBad bytes a → Stage bytes b → a ≡ b
head_only bytes a b bad (in_head other) = head_same bytes a b bad other
head_only bytes a b bad (in_terms other) = absurd (head_none bytes a other.kind other.count other.terms other.rest bad other.begin)
head_only bytes a b bad (in_count other) = absurd (head_none bytes a other.kind _ other.terms other.rest bad other.begin)
head_only bytes a b bad (in_statements other) =
    absurd (head_none bytes a other.kind _ other.terms _ bad (begin_terms bytes other.kind other.terms other.count other.placed other.rest other.begin))
head_only bytes a b bad (at_end other) = let all = end_stands bytes b other in
    absurd (head_none bytes a all.kind _ all.terms _ bad (begin_terms bytes all.kind all.terms _ all.placed all.rest all.begin))

terms_only : (bytes : List ℕ) (a b : ℕ) → TermBad bytes a → Stage bytes b → a ≡ b
terms_only bytes a b bad (in_head other) = sym (head_only bytes b a other (in_terms bad))
terms_only bytes a b bad (in_terms other) = term_same bytes a b bad other
terms_only bytes a b bad (in_count other) = absurd (term_none bytes a bad other.kind other.terms other.rest other.begin)
terms_only bytes a b bad (in_statements other) =
    absurd (term_none bytes a bad other.kind other.terms _ (begin_terms bytes other.kind other.terms other.count other.placed other.rest other.begin))
terms_only bytes a b bad (at_end other) = let all = end_stands bytes b other in
    absurd (term_none bytes a bad all.kind all.terms _ (begin_terms bytes all.kind all.terms _ all.placed all.rest all.begin))

count_only : (bytes : List ℕ) (a b : ℕ) → CountBad bytes a → Stage bytes b → a ≡ b
count_only bytes a b bad (in_head other) = sym (head_only bytes b a other (in_count bad))
count_only bytes a b bad (in_terms other) = sym (terms_only bytes b a other (in_count bad))
count_only bytes a b bad (in_count other) = count_same bytes a b bad other
count_only bytes a b bad (in_statements other) = absurd (count_none bytes a other.kind other.terms other.count other.placed other.rest bad other.begin)
count_only bytes a b bad (at_end other) = let all = end_stands bytes b other in absurd (count_none bytes a all.kind all.terms _ all.placed all.rest bad all.begin)

one_stage : (bytes : List ℕ) (a b : ℕ) → Stage bytes a → Stage bytes b → a ≡ b
one_stage bytes a b (in_head bad) other = head_only bytes a b bad other
one_stage bytes a b (in_terms bad) other = terms_only bytes a b bad other
one_stage bytes a b (in_count bad) other = count_only bytes a b bad other
one_stage bytes a b (in_statements bad) (in_head other) = sym (head_only bytes b a other (in_statements bad))
one_stage bytes a b (in_statements bad) (in_terms other) = sym (terms_only bytes b a other (in_statements bad))
one_stage bytes a b (in_statements bad) (in_count other) = sym (count_only bytes b a other (in_statements bad))
one_stage bytes a b (in_statements bad) (in_statements other) = statement_same bytes a b bad other
one_stage bytes a b (in_statements bad) (at_end other) = let all = end_stands bytes b other in absurd (statement_none bytes a bad all.kind all.terms all.placed all.rest all.begin)
one_stage bytes a b (at_end bad) other = end_one bytes a b bad (not_earlier bytes b (end_stands bytes a bad) other)

-- bytes have at most one first bad field
pub one_bad_field : (bytes : List ℕ) (a b : ℕ) → IsFirstBadField bytes a → IsFirstBadField bytes b → a ≡ b
one_bad_field bytes a b one two = one_stage bytes a b (stage_of bytes a one) (stage_of bytes b two)
