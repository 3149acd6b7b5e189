-- The newest rows of a span, chunk by chunk.
use Rattle.std.proofs.Common.{◌≡◌, ℕ, suc, ◌<◌, ◌≤◌, Bool, true, false, not, cond, List, [], ◌∷◌, ◌++◌, length, nat_cmp, Option, Some, None, ◌⊎◌, inl, inr, ◌↔◌, refl, sym, ◌∙◌, ap, subst, arith}
use Rattle.std.specs.List.{dedup_from}
use Rattle.std.specs.Ordering.{is_le}
use Rattle.std.specs.Cmp.Lexicographic.{slice_cmp, bytes_decides}
use Rattle.base_core.specs.Lists.{Has}
use Rattle.fed_bytes.specs.declared.span.Span.{Span}
use Rattle.fed_bytes.specs.Keys.{IsBefore, IsUpTo, IsBeforeEnd}
use Rattle.fed_bytes.proofs.Orders.{up_to-itself, up_to-chain, before_up_to, up_to_end, turned}
use Rattle.triple_keys.specs.declared.key.Ids.{Ids}
use Rattle.triple_keys.specs.declared.order.Order.{Order}
use Rattle.triple_keys.specs.Keys.{key_bytes}
use Rattle.row_core.specs.declared.rows.Row.{Row}
use Rattle.row_core.specs.declared.rows.Chunk.{Chunk}
use Rattle.row_core.specs.Rows.{ComesBefore, StandInOrder, AreFrom, HaveKeys, BeginWith, EndsAt, IsChunk}
use Rattle.window_core.specs.Windows.{IsOnward}
use Rattle.row_core.proofs.Lists.{of_each, in_front, in_one}
use Rattle.row_core.proofs.Order.{up_to_later, before_is_up_to, not_before_itself, front_in_order, front_before}
use Rattle.pattern_core.proofs.Members.{AllPairs}
use Rattle.bigfed.specs.Indexed.{HasValue, IsShownIn}
use Rattle.bigfed.specs.Shown.{SpanGoesOn, same_key, firsts}

-- ---- the order of keys

no_answer : {A : Type 0} → false ≡ true → A
no_answer e = cc

before_not : (a b : List ℕ) → IsBefore a b → IsUpTo b a → ⊥
before_not a b p q = not_before_itself a (before_up_to a b a p q)

before_by : (s t : Bool) → s ≡ not t → (t ≡ true → ⊥) → s ≡ true
before_by s true e f = absurd (f refl)
before_by s false e f = e

before_from : (a b : List ℕ) → (IsUpTo b a → ⊥) → IsBefore a b
before_from a b f = before_by _ _ (turned a b) f

first_row : (next : List ℕ) (rest : List Row) → BeginWith next rest → (row : Row) × Has rest row × (row.key ≡ next)
first_row next [] h = absurd h
first_row next (row ∷ rest) h = (row, inl refl, h)

before_next : (one other : Row) (next : List ℕ) → other.key ≡ next → (one.key ≡ next → ⊥) → ComesBefore one other → IsBefore one.key next
before_next one other next is apart (inl before) = subst (IsBefore one.key) is before
before_next one other next is apart (inr (same, later)) = absurd (apart (same ∙ is))

-- rows of so many keys are some
some_key : (keys : List (List ℕ)) → 1 ≤ length keys → (key : List ℕ) × Has keys key
some_key [] h = absurd (omega arith)
some_key (key ∷ keys) h = (key, inl refl)

some_row : (rows : List Row) (count : ℕ) → HaveKeys rows count → 1 ≤ count → (row : Row) × Has rows row
some_row rows count (keys, are, long) h =
    let enough : 1 ≤ length keys = omega arith in
    let (key, there) = some_key keys enough in
    let (row, stands, is) = (are.1 key).0 there in (row, stands)

-- ---- the first row of each key is its newest

-- the first row's key comes before the other's
abbrev pub ByKey : Row → Row → Type 0
ByKey row other = IsBefore row.key other.key

-- the row is the newest of its key
pub record IsNewestIn (rows : List Row) (row : Row) : Type 0 where
  pub stands : Has rows row
  pub newest : (other : Row) → Has rows other → other.key ≡ row.key → other.time ≤ row.time

-- a row stands in front of others, and is newer than those of its key
behind_newer : (row other : Row) → ComesBefore row other → other.key ≡ row.key → other.time < row.time
behind_newer row other (inl before) same = absurd (not_before_itself row.key (subst (IsBefore row.key) same before))
behind_newer row other (inr later) same = later.1

kept_by : (t : Bool) (first row : Row) (rows : List Row) → same_key row first ≡ t → StandInOrder (first ∷ row ∷ rows)
    → ((one : Row) → Has (dedup_from same_key first rows) one ↔ IsNewestIn (first ∷ rows) one)
    → ((one : Row) → Has (dedup_from same_key row rows) one ↔ IsNewestIn (row ∷ rows) one)
    → (one : Row) → Has (cond t (dedup_from same_key first rows) (first ∷ dedup_from same_key row rows)) one ↔ IsNewestIn (first ∷ row ∷ rows) one
kept_by true first row rows tested order with_first with_row one =
    let same : row.key ≡ first.key = (bytes_decides row.key first.key).0 tested in
    let newer : row.time < first.time = behind_newer first row order.0.0 same in (
      λ h. let was = (with_first one).0 h in record {
        stands = elim was.stands [ inl e ↦ inl e | inr more ↦ inr (inr more) ];
        newest = λ other there key. elim there [
          | inl e ↦ was.newest other (inl e) key
          | inr more ↦ elim more [
            | inl e ↦ let up : first.time ≤ one.time = was.newest first (inl refl) (sym same ∙ ap (λ (r : Row). r.key) e ∙ key) in
                let at : row.time ≡ other.time = ap (λ (r : Row). r.time) e in omega arith
            | inr rest ↦ was.newest other (inr rest) key
          ]
        ];
      },
      λ new. (with_first one).1 (record {
        stands = elim new.stands [
          | inl e ↦ inl e
          | inr more ↦ elim more [
            | inl e ↦ let up : first.time ≤ one.time = new.newest first (inl refl) (sym same ∙ ap (λ (r : Row). r.key) e) in
                let at : row.time ≡ one.time = ap (λ (r : Row). r.time) e in absurd (omega arith)
            | inr rest ↦ inr rest
          ]
        ];
        newest = λ other there key. elim there [ inl e ↦ new.newest other (inl e) key | inr rest ↦ new.newest other (inr (inr rest)) key ];
      }),
    )
kept_by false first row rows tested order with_first with_row one =
    let apart : row.key ≡ first.key → ⊥ = λ same. let t : true ≡ false = sym ((bytes_decides row.key first.key).1 same) ∙ tested in cc in
    let before : IsBefore first.key row.key =
    elim (order.0.0) [ inl b ↦ b | inr same ↦ absurd (apart (sym same.0)) ] in
    let later : (other : Row) → Has (row ∷ rows) other → other.key ≡ first.key → ⊥ = λ other there same.
    not_before_itself first.key (subst (IsBefore first.key) same (elim there [
      | inl e ↦ subst (λ (r : Row). IsBefore first.key r.key) e before
      | inr rest ↦ before_up_to first.key row.key other.key before (up_to_later row other (of_each (ComesBefore row) rows order.1.0 other rest))
    ])) in (
      λ h. elim h [
        | inl e ↦ record {
          stands = inl e;
          newest = λ other there key. elim there [
            | inl same ↦ let at : other.time ≡ one.time = ap (λ (r : Row). r.time) (sym same ∙ e) in omega arith
            | inr more ↦ absurd (later other more (key ∙ sym (ap (λ (r : Row). r.key) e)))
          ];
        }
        | inr more ↦ let was = (with_row one).0 more in record {
          stands = inr was.stands;
          newest = λ other there key. elim there [
            | inl same ↦ absurd (later one was.stands (sym key ∙ sym (ap (λ (r : Row). r.key) same)))
            | inr rest ↦ was.newest other rest key
          ];
        }
      ],
      λ new. elim new.stands [
        | inl e ↦ inl e
        | inr more ↦ inr ((with_row one).1 (record { stands = more; newest = λ other there key. new.newest other (inr there) key }))
      ],
    )

firsts_from : (first : Row) (rows : List Row) → StandInOrder (first ∷ rows) → (one : Row) → Has (dedup_from same_key first rows) one ↔ IsNewestIn (first ∷ rows) one
firsts_from first [] order one = (
  λ h. record {
    stands = h;
    newest = λ other there key. elim there [
      | inl same ↦ elim h [ inl e ↦ let at : other.time ≡ one.time = ap (λ (r : Row). r.time) (sym same ∙ e) in omega arith | inr none ↦ absurd none ]
      | inr none ↦ absurd none
    ];
  },
  λ new. new.stands,
)
firsts_from first (row ∷ rows) order one =
    kept_by (same_key row first) first row rows refl order
    (firsts_from first rows (order.0.1, order.1.1)) (firsts_from row rows order.1) one

-- of rows in order, the first of each key are the newest
pub firsts_are : (rows : List Row) → StandInOrder rows → (one : Row) → Has (firsts rows) one ↔ IsNewestIn rows one
firsts_are [] order one = (λ h. absurd h, λ new. new.stands)
firsts_are (row ∷ rows) order one = firsts_from row rows order one

-- the first rows of their keys stand by key, each key once
pairs_by : (t : Bool) (first row : Row) (rows : List Row) → same_key row first ≡ t → StandInOrder (first ∷ row ∷ rows)
    → AllPairs ByKey (dedup_from same_key first rows) → AllPairs ByKey (dedup_from same_key row rows)
    → AllPairs ByKey (cond t (dedup_from same_key first rows) (first ∷ dedup_from same_key row rows))
pairs_by true first row rows tested order with_first with_row = with_first
pairs_by false first row rows tested order with_first with_row =
    let apart : row.key ≡ first.key → ⊥ = λ same. let t : true ≡ false = sym ((bytes_decides row.key first.key).1 same) ∙ tested in cc in
    let before : IsBefore first.key row.key = elim (order.0.0) [ inl b ↦ b | inr same ↦ absurd (apart (sym same.0)) ] in (
      λ other there. elim ((firsts_from row rows order.1 other).0 there).stands [
        | inl same ↦ subst (λ (r : Row). IsBefore first.key r.key) same before
        | inr more ↦ before_up_to first.key row.key other.key before (up_to_later row other (of_each (ComesBefore row) rows order.1.0 other more))
      ],
      with_row,
    )

pairs_from : (first : Row) (rows : List Row) → StandInOrder (first ∷ rows) → AllPairs ByKey (dedup_from same_key first rows)
pairs_from first [] order = (λ other there. absurd there, tt)
pairs_from first (row ∷ rows) order =
    pairs_by (same_key row first) first row rows refl order (pairs_from first rows (order.0.1, order.1.1)) (pairs_from row rows order.1)

pub firsts_by_key : (rows : List Row) → StandInOrder rows → AllPairs ByKey (firsts rows)
firsts_by_key [] order = tt
firsts_by_key (row ∷ rows) order = pairs_from row rows order

-- ---- what a chunk has

-- rows behind a chunk have keys from the next one on
rest_from : (next : List ℕ) (rest : List Row) (other : Row) → StandInOrder rest → BeginWith next rest → Has rest other → IsUpTo next other.key
rest_from next [] other order first there = absurd there
rest_from next (row ∷ rest) other order first (inl e) = subst (λ key. IsUpTo next key) (sym first ∙ ap (λ (r : Row). r.key) e) (up_to-itself next)
rest_from next (row ∷ rest) other order first (inr there) =
    subst (λ key. IsUpTo key other.key) first (up_to_later row other (of_each (ComesBefore row) rest order.0 other there))

-- what stands behind rows in order stands in order
behind_in_order : (rows rest : List Row) → StandInOrder (rows ++ rest) → StandInOrder rest
behind_in_order [] rest order = order
behind_in_order (row ∷ rows) rest order = behind_in_order rows rest order.1

nothing_in : (rest : List Row) (row : Row) → rest ≡ [] → Has rest row → ⊥
nothing_in rest row none there = let Stands : List Row → Type 0 = λ rows. Has rows row in subst Stands none there

module _ (rows : List Row) (key0 : List ℕ) (most count : ℕ) (found rest : List Row) (from : AreFrom rows key0 (found ++ rest)) where
  -- a row behind the chunk has a later key
  late : (next : Option (List ℕ)) → EndsAt next most count found rest → (row : Row) → Has rest row → IsBeforeEnd row.key next → ⊥
  late None ends row there before = nothing_in rest row ends.0 there
  late (Some next) ends row there before =
      before_not row.key next before (rest_from next rest row (behind_in_order found rest from.0) ends.0 there)

  -- a row of the chunk has an earlier key than the next
  early : (next : Option (List ℕ)) → EndsAt next most count found rest → (row : Row) → Has found row → IsBeforeEnd row.key next
  early None ends row there = tt
  early (Some next) ends row there =
      let (other, stands, is) = first_row next rest ends.0 in
      before_next row other next is (ends.2 row there) (front_before found rest from.0 row other there stands)

  pub chunk_value : (next : Option (List ℕ)) → EndsAt next most count found rest → (key : List ℕ)
      → HasValue found key ↔ (HasValue rows key × IsUpTo key0 key × IsBeforeEnd key next)
  chunk_value next ends key = (
    λ has. let there = (from.1 has.row).0 (in_front found rest has.row has.stands) in (
      record {
        row = has.row;
        stands = there.0;
        key_is = has.key_is;
        newest = λ other stands same.
            let up : IsUpTo key0 other.key = subst (IsUpTo key0) (has.key_is ∙ sym same) there.1 in
            elim (in_one found rest other ((from.1 other).1 (stands, up))) [
              | inl here ↦ has.newest other here same
              | inr later ↦ let newer : other.time < has.row.time =
                  behind_newer has.row other (front_before found rest from.0 has.row other has.stands later) (same ∙ sym has.key_is) in omega arith
            ];
        value = has.value;
      },
      subst (IsUpTo key0) has.key_is there.1,
      subst (λ k. IsBeforeEnd k next) has.key_is (early next ends has.row has.stands),
    ),
    λ (has, up, before). record {
      row = has.row;
      stands = elim (in_one found rest has.row ((from.1 has.row).1 (has.stands, subst (IsUpTo key0) (sym has.key_is) up))) [
        | inl here ↦ here
        | inr later ↦ absurd (late next ends has.row later (subst (λ k. IsBeforeEnd k next) (sym has.key_is) before))
      ];
      key_is = has.key_is;
      newest = λ other there same. has.newest other ((from.1 other).0 (in_front found rest other there)).0 same;
      value = has.value;
    },
  )

-- ---- the loop over chunks

-- the ids of the keys of the span that have a value, up to a key
abbrev pub AreShown : List Row → Order → Span → Option (List ℕ) → List Ids → Type 0
AreShown rows order span upto found =
    (ids : Ids) → (Has found ids ↔ (IsShownIn rows order span ids × IsBeforeEnd (key_bytes order ids) upto))

-- the key that the loop goes on from is not before the span
abbrev pub IsFromLeft : Span → Option (List ℕ) → Type 0
IsFromLeft span None = Unit {0}
IsFromLeft span (Some key) = IsUpTo span.left key

pub nothing_shown : (rows : List Row) (order : Order) (span : Span) (left : List ℕ) → left ≡ span.left → AreShown rows order span (Some left) []
nothing_shown rows order span left is ids =
    (λ h. absurd h, λ (shown, before). before_not (key_bytes order ids) left before (subst (λ key. IsUpTo key (key_bytes order ids)) (sym is) shown.within.0))

before_or : (a b : List ℕ) → IsBefore a b ⊎ IsUpTo b a
before_or a b = by (is_le (slice_cmp nat_cmp b a)) refl
  where
    by : (t : Bool) → is_le (slice_cmp nat_cmp b a) ≡ t → IsBefore a b ⊎ IsUpTo b a
    by true e = inr e
    by false e = inl (before_from a b (λ up. let both : true ≡ false = sym up ∙ e in cc))

onward_before : (key0 key : List ℕ) (next : Option (List ℕ)) → IsOnward key0 next → IsBefore key key0 → IsBeforeEnd key next
onward_before key0 key None onward before = tt
onward_before key0 key (Some next) onward before = before_up_to key key0 next before (before_is_up_to key0 next onward)

-- one more chunk, up to its next key
chunk_shown : (rows : List Row) (order : Order) (span : Span) (key0 : List ℕ) (most : ℕ) (chunk : Chunk) (found more : List Ids)
    → AreShown rows order span (Some key0) found → IsChunk rows key0 most chunk → IsOnward key0 chunk.next
    → ((ids : Ids) → Has more ids ↔ (Has found ids ⊎ IsShownIn chunk.rows order span ids))
    → AreShown rows order span chunk.next more
chunk_shown rows order span key0 most chunk found more so_far is onward kept ids =
    let key = key_bytes order ids in
    let values = chunk_value rows key0 most is.count chunk.rows is.rest is.from chunk.next is.ends key in (
      λ h. elim ((kept ids).0 h) [
        | inl old ↦ let was = (so_far ids).0 old in (was.0, onward_before key0 key chunk.next onward was.1)
        | inr new ↦ let has = values.0 new.value in (record { ids_are = new.ids_are; within = new.within; value = has.0 }, has.2)
      ],
      λ (shown, before). (kept ids).1 (elim (before_or key key0) [
        | inl earlier ↦ inl ((so_far ids).1 (shown, earlier))
        | inr up ↦ inr (record { ids_are = shown.ids_are; within = shown.within; value = values.1 (shown.value, up, before) })
      ]),
    )

-- what was found before the chunk isn't in it
pub not_in_chunk : (rows : List Row) (order : Order) (span : Span) (key0 : List ℕ) (most : ℕ) (chunk : Chunk) (found : List Ids)
    → AreShown rows order span (Some key0) found → IsChunk rows key0 most chunk
    → (ids : Ids) → Has found ids → ¬ IsShownIn chunk.rows order span ids
not_in_chunk rows order span key0 most chunk found so_far is ids has shown =
    let there = (is.from.1 shown.value.row).0 (in_front chunk.rows is.rest shown.value.row shown.value.stands) in
    before_not (key_bytes order ids) key0 ((so_far ids).0 has).1 (subst (IsUpTo key0) shown.value.key_is there.1)

-- a next key that isn't in the span ends it
goes_on : (rows : List Row) (order : Order) (span : Span) (key0 : List ℕ) (next goes : Option (List ℕ)) (found : List Ids)
    → IsUpTo span.left key0 → IsOnward key0 next → SpanGoesOn span next goes → AreShown rows order span next found
    → AreShown rows order span goes found × IsFromLeft span goes
goes_on rows order span key0 None goes found left onward is are = (subst (λ g. AreShown rows order span g found) (sym is) are, subst (IsFromLeft span) (sym is) tt)
goes_on rows order span key0 (Some next) goes found left onward (inl is) are =
    (subst (λ g. AreShown rows order span g found) (sym is.1) are, subst (IsFromLeft span) (sym is.1) is.0.0)
goes_on rows order span key0 (Some next) goes found left onward (inr is) are =
    let up : IsUpTo span.left next = up_to-chain span.left key0 next left (before_is_up_to key0 next onward) in
    let ended : AreShown rows order span None found = λ ids. (
      λ h. (((are ids).0 h).0, tt),
      λ (shown, none). (are ids).1 (
        shown,
        before_from (key_bytes order ids) next (λ past.
            is.0 (up, up_to_end next (key_bytes order ids) span.right past shown.within.1)),
      ),
    ) in
    (subst (λ g. AreShown rows order span g found) (sym is.1) ended, subst (IsFromLeft span) (sym is.1) tt)

pub one_more_chunk : (rows : List Row) (order : Order) (span : Span) (key0 : List ℕ) (most : ℕ) (chunk : Chunk) (found more : List Ids) (goes : Option (List ℕ))
    → AreShown rows order span (Some key0) found → IsUpTo span.left key0 → IsChunk rows key0 most chunk → IsOnward key0 chunk.next
    → ((ids : Ids) → Has more ids ↔ (Has found ids ⊎ IsShownIn chunk.rows order span ids))
    → SpanGoesOn span chunk.next goes
    → AreShown rows order span goes more × IsFromLeft span goes
one_more_chunk rows order span key0 most chunk found more goes so_far left is onward kept on =
    goes_on rows order span key0 chunk.next goes more left onward on (chunk_shown rows order span key0 most chunk found more so_far is onward kept)

pub chunk_in_order : (rows : List Row) (key0 : List ℕ) (most : ℕ) (chunk : Chunk) → IsChunk rows key0 most chunk → StandInOrder chunk.rows
chunk_in_order rows key0 most chunk is = front_in_order chunk.rows is.rest is.from.0

-- ---- the loop ends

-- how many rows pass a test
abbrev pub passing : (Row → Bool) → List Row → ℕ
passing test [] = 0
passing test (row ∷ rows) = cond (test row) (suc (passing test rows)) (passing test rows)

abbrev pub is_left : List ℕ → Row → Bool
is_left key row = is_le (slice_cmp nat_cmp key row.key)

-- how many rows have keys from this one on, and one more; nothing at the end
abbrev pub left_from : List Row → Option (List ℕ) → ℕ
left_from rows None = 0
left_from rows (Some key) = suc (passing (is_left key) rows)

module _ (P Q : Row → Bool) (weaker : (row : Row) → P row ≡ true → Q row ≡ true) where
  onto_fewer : (s t : Bool) (m n : ℕ) → (s ≡ true → t ≡ true) → m ≤ n → cond s (suc m) m ≤ cond t (suc n) n
  onto_fewer true true m n f h = omega arith
  onto_fewer true false m n f h = no_answer (f refl)
  onto_fewer false true m n f h = omega arith
  onto_fewer false false m n f h = omega arith

  onto_less : (s t : Bool) (m n : ℕ) → (s ≡ true → t ≡ true) → m < n → cond s (suc m) m < cond t (suc n) n
  onto_less true true m n f h = omega arith
  onto_less true false m n f h = no_answer (f refl)
  onto_less false true m n f h = omega arith
  onto_less false false m n f h = omega arith

  onto_one : (s t : Bool) (m n : ℕ) → (s ≡ true → ⊥) → t ≡ true → m ≤ n → cond s (suc m) m < cond t (suc n) n
  onto_one true t m n f e h = absurd (f refl)
  onto_one false true m n f e h = omega arith
  onto_one false false m n f e h = no_answer e

  passing-fewer : (rows : List Row) → passing P rows ≤ passing Q rows
  passing-fewer [] = omega arith
  passing-fewer (row ∷ rows) = onto_fewer (P row) (Q row) (passing P rows) (passing Q rows) (weaker row) (passing-fewer rows)

  passing-less : (rows : List Row) (one : Row) → Has rows one → Q one ≡ true → (P one ≡ true → ⊥) → passing P rows < passing Q rows
  passing-less [] one there passes fails = absurd there
  passing-less (row ∷ rows) one (inl same) passes fails =
      onto_one (P row) (Q row) (passing P rows) (passing Q rows) (subst (λ r. P r ≡ true → ⊥) (sym same) fails) (subst (λ r. Q r ≡ true) (sym same) passes) (passing-fewer rows)
  passing-less (row ∷ rows) one (inr there) passes fails =
      onto_less (P row) (Q row) (passing P rows) (passing Q rows) (weaker row) (passing-less rows one there passes fails)

fewer_rows : (rows : List Row) (key0 : List ℕ) (most count : ℕ) (found rest : List Row) → AreFrom rows key0 (found ++ rest) → (next : List ℕ)
    → EndsAt (Some next) most count found rest → HaveKeys found count → 1 ≤ most → IsBefore key0 next → left_from rows (Some next) < left_from rows (Some key0)
fewer_rows rows key0 most count found rest from next ends keys some onward =
    let enough : 1 ≤ count = omega (arith, ends.1) in
    let (one, there) = some_row found count keys enough in
    let stands = (from.1 one).0 (in_front found rest one there) in
    let less = passing-less (is_left next) (is_left key0) (λ row up. up_to-chain key0 next row.key (before_is_up_to key0 next onward) up) rows one
    stands.0 stands.1 (before_not one.key next (early rows key0 most count found rest from (Some next) ends one there)) in
    omega arith

fewer_by : (rows : List Row) (span : Span) (key0 : List ℕ) (next goes : Option (List ℕ)) → SpanGoesOn span next goes
    → ((key : List ℕ) → next ≡ Some key → left_from rows (Some key) < left_from rows (Some key0)) → left_from rows goes < left_from rows (Some key0)
fewer_by rows span key0 None goes on fewer = subst (λ g. left_from rows g < left_from rows (Some key0)) (sym on) (omega arith)
fewer_by rows span key0 (Some next) goes (inl is) fewer = subst (λ g. left_from rows g < left_from rows (Some key0)) (sym is.1) (fewer next refl)
fewer_by rows span key0 (Some next) goes (inr is) fewer = subst (λ g. left_from rows g < left_from rows (Some key0)) (sym is.1) (omega arith)

-- one more chunk leaves fewer rows
pub fewer_left : (rows : List Row) (span : Span) (key0 : List ℕ) (most : ℕ) (chunk : Chunk) (goes : Option (List ℕ)) → IsChunk rows key0 most chunk
    → 1 ≤ most → IsOnward key0 chunk.next → SpanGoesOn span chunk.next goes → left_from rows goes < left_from rows (Some key0)
fewer_left rows span key0 most chunk goes is some onward on =
    fewer_by rows span key0 chunk.next goes on (λ next e.
    fewer_rows rows key0 most is.count chunk.rows is.rest is.from next (subst (λ n. EndsAt n most is.count chunk.rows is.rest) e is.ends) is.keys some
    (subst (IsOnward key0) e onward))
