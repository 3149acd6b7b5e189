-- The keys that begin with a prefix are those from the prefix on, and before its end.
use Rattle.std.proofs.Common.{◌≡◌, ◌≢◌, ◌↔◌, ◌<◌, ◌≤◌, ◌+◌, ℕ, List, [], ◌∷◌, ◌++◌, Bool, true, false, refl, sym, ap, ◌∙◌, subst, arith, length, take, get_or, ◌-◌, Fits, w8, Bor, eqb-true, Ordering}
use Rattle.std.specs.declared.cmp.Ordering.TheVariants.{Less, Equal, Greater}
use Rattle.std.specs.Prelude.{Option, Some, None, MatchOption, if◌then◌else◌, ◌==◌, nat_eq, drop}
use Rattle.std.specs.Ordering.{MatchOrdering, is_lt, is_le, nat_cmp, ordering_then}
use Rattle.std.specs.Cmp.{nat_cmp_total, nat_cmp_is, unsigned_Decides}
use Rattle.std.specs.Cmp.Lexicographic.{slice_cmp, pointwise}
use Rattle.std.proofs.lemmas.Slice.Eq.{strip_suffix_is}
use Rattle.std.proofs.lemmas.Cmp.{ranked, tied_itself}
use Rattle.std.proofs.lemmas.List.{take_all, take_more, append-nil}
use Rattle.fed_bytes.proofs.Orders.{no_answer, up_to-itself}
use Rattle.fed_bytes.specs.Keys.{IsBefore, IsUpTo, IsBeforeEnd, AreBytes, BeginsWith}
use Rattle.fed_bytes.specs.Ends.{onto_end, end_of, EndsWithoutFf}

-- what a test that `Greater` fails says of the first bytes, and of what is behind them
by_first : (test : Ordering → Bool) → test Greater ≡ false → (b c : ℕ) (r o : Ordering) → MatchOrdering r (b < c) (b ≡ c) (c < b) → test (ordering_then r o) ≡ true
    → (b ≤ c) × (b ≡ c → test o ≡ true)
by_first test fails b c Less o m h = (omega arith, λ e. absurd (omega arith))
by_first test fails b c Equal o m h = (omega arith, λ e. h)
by_first test fails b c Greater o m h = no_answer (sym fails ∙ h)

-- what stands up to a key, by first bytes
up_parts : (b c : ℕ) (bs cs : List ℕ) → IsUpTo (b ∷ bs) (c ∷ cs) → (b ≤ c) × (b ≡ c → IsUpTo bs cs)
up_parts b c bs cs h = by_first is_le refl b c (nat_cmp b c) (slice_cmp nat_cmp bs cs) (ranked b c (nat_cmp b c) refl) h

-- what stands before a key, by first bytes
before_parts : (b c : ℕ) (bs cs : List ℕ) → IsBefore (b ∷ bs) (c ∷ cs) → (b ≤ c) × (b ≡ c → IsBefore bs cs)
before_parts b c bs cs h = by_first is_lt refl b c (nat_cmp b c) (slice_cmp nat_cmp bs cs) (ranked b c (nat_cmp b c) refl) h

-- nothing stands before the empty key
not_before_empty : (cs : List ℕ) → IsBefore cs [] → ⊥
not_before_empty [] h = no_answer h
not_before_empty (c ∷ cs) h = no_answer h

raised_parts : (t : Bool) (b c : ℕ) (cs : List ℕ) → (b == 255) ≡ t → c < 256 → IsBeforeEnd (c ∷ cs) (if t then None else Some ((b + 1) ∷ [])) → c ≤ b
raised_parts true b c cs e small h = let full : b ≡ 255 = eqb-true b 255 e in omega arith
raised_parts false b c cs e small h =
    let parts = before_parts c (b + 1) cs [] h in
    let low : c ≤ b + 1 = parts.0 in
    let other : c ≢ b + 1 = λ same. not_before_empty cs (parts.1 same) in omega arith

end_parts : (b c : ℕ) (cs : List ℕ) (end : Option (List ℕ)) → c < 256 → IsBeforeEnd (c ∷ cs) (onto_end b end) → (c ≤ b) × (c ≡ b → IsBeforeEnd cs end)
end_parts b c cs None small h = (raised_parts (b == 255) b c cs refl small h, λ e. tt)
end_parts b c cs (Some end) small h = before_parts c b cs end h

-- one more byte in front of both
onto_both : (b c : ℕ) (bs cs : List ℕ) → b ≡ c → BeginsWith bs cs → BeginsWith (b ∷ bs) (c ∷ cs)
onto_both b c bs cs e (rest, whole) = (rest, cc)

-- what stands between a prefix and its end begins with it
pub begins-between : (prefix key : List ℕ) → AreBytes key → IsUpTo prefix key → IsBeforeEnd key (end_of prefix) → BeginsWith prefix key
begins-between [] key bytes up ended = (key, refl)
begins-between (b ∷ bs) [] bytes up ended = no_answer up
begins-between (b ∷ bs) (c ∷ cs) (small, bytes) up ended =
    let low = up_parts b c bs cs up in
    let high = end_parts b c cs (end_of bs) small ended in
    let below : b ≤ c = low.0 in
    let above : c ≤ b = high.0 in
    let same : b ≡ c = omega arith in
    onto_both b c bs cs same (begins-between bs cs bytes (low.1 same) (high.1 (sym same)))

-- a prefix stands up to what begins with it
pub up_to-begins : (prefix rest : List ℕ) → IsUpTo prefix (prefix ++ rest)
up_to-begins [] [] = refl
up_to-begins [] (c ∷ rest) = refl
up_to-begins (b ∷ bs) rest = ap (λ r. is_le (ordering_then r (slice_cmp nat_cmp bs (bs ++ rest)))) (tied_itself nat_cmp_total b) ∙ up_to-begins bs rest

raised_after : (t : Bool) (b : ℕ) (cs : List ℕ) → IsBeforeEnd (b ∷ cs) (if t then None else Some ((b + 1) ∷ []))
raised_after true b cs = tt
raised_after false b cs = ap (λ r. is_lt (ordering_then r (slice_cmp nat_cmp cs []))) (sym (nat_cmp_is b (b + 1) Less (omega arith)))

onto_end-after : (b : ℕ) (cs : List ℕ) (end : Option (List ℕ)) → IsBeforeEnd cs end → IsBeforeEnd (b ∷ cs) (onto_end b end)
onto_end-after b cs None h = raised_after (b == 255) b cs
onto_end-after b cs (Some end) h = ap (λ r. is_lt (ordering_then r (slice_cmp nat_cmp cs end))) (tied_itself nat_cmp_total b) ∙ h

-- what begins with a prefix stands before its end
pub before_end-begins : (prefix rest : List ℕ) → IsBeforeEnd (prefix ++ rest) (end_of prefix)
before_end-begins [] rest = tt
before_end-begins (b ∷ bs) rest = onto_end-after b (bs ++ rest) (end_of bs) (before_end-begins bs rest)

-- both ways
pub between-begins : (prefix key : List ℕ) → AreBytes key → ((IsUpTo prefix key × IsBeforeEnd key (end_of prefix)) ↔ BeginsWith prefix key)
between-begins prefix key bytes = (
  λ h. begins-between prefix key bytes h.0 h.1,
  λ h. let Between : List ℕ → Type 0 = λ k. IsUpTo prefix k × IsBeforeEnd k (end_of prefix) in
      subst Between (sym h.1) (up_to-begins prefix h.0, before_end-begins prefix h.0),
)

-- a byte of ff at the end changes nothing
pub end_of-ff : (bytes : List ℕ) → end_of (bytes ++ 255 ∷ []) ≡ end_of bytes
end_of-ff [] = refl
end_of-ff (b ∷ bytes) = ap (onto_end b) (end_of-ff bytes)

raised_is : (t : Bool) (b : ℕ) → (b == 255) ≡ t → b < 255 → (if t then None else Some ((b + 1) ∷ [])) ≡ Some ((b + 1) ∷ [])
raised_is true b e small = let full : b ≡ 255 = eqb-true b 255 e in absurd (omega arith)
raised_is false b e small = refl

-- another byte at the end becomes one higher
pub end_of-last : (front : List ℕ) (last : ℕ) → last < 255 → end_of (front ++ last ∷ []) ≡ Some (front ++ (last + 1) ∷ [])
end_of-last [] last small = raised_is (last == 255) last refl small
end_of-last (b ∷ front) last small = ap (onto_end b) (end_of-last front last small)

-- a list by its last item
split_last : (bytes : List ℕ) → 0 < length bytes → bytes ≡ take (length bytes - 1) bytes ++ get_or bytes (length bytes - 1) 0 ∷ []
split_last bytes some =
    let all : take (length bytes) bytes ≡ bytes = take_all (length bytes) bytes (omega arith) in
    let count : length bytes ≡ length bytes - 1 + 1 = omega arith in
    sym all ∙ ap (λ n. take n bytes) count ∙ take_more bytes (length bytes - 1) 0 (omega arith)

-- the last byte that is not ff is below it
pub last-below : (bytes : List ℕ) → 0 < length bytes → EndsWithoutFf bytes → ((k : ℕ) → Fits w8 (get_or bytes k 0)) → get_or bytes (length bytes - 1) 0 < 255
last-below bytes some without small =
    let below : get_or bytes (length bytes - 1) 0 < 256 = omega (arith, small (length bytes - 1)) in
    let other : get_or bytes (length bytes - 1) 0 ≢ 255 =
    λ e. without (take (length bytes - 1) bytes) (split_last bytes some ∙ ap (λ last. take (length bytes - 1) bytes ++ last ∷ []) e) in
    omega arith

-- the end of a list by its last byte
pub end_of-split : (bytes : List ℕ) → 0 < length bytes → get_or bytes (length bytes - 1) 0 < 255
    → end_of bytes ≡ Some (take (length bytes - 1) bytes ++ (get_or bytes (length bytes - 1) 0 + 1) ∷ [])
end_of-split bytes some small = ap end_of (split_last bytes some) ∙ end_of-last _ _ small

-- a span whose ends are these
pub prefix_span : (prefix left : List ℕ) (right : Option (List ℕ)) → left ≡ prefix → right ≡ end_of prefix → (key : List ℕ) → AreBytes key
    → ((IsUpTo left key × IsBeforeEnd key right) ↔ BeginsWith prefix key)
prefix_span prefix left right same ended key bytes = rw (same, ended) (between-begins prefix key bytes)

-- what is left where one byte of ff is taken off, and where there is none
pub ff_stripped : (bytes : List ℕ) (r : Option (Bor (List ℕ)))
    → MatchOption r (pointwise nat_eq (drop (length bytes - 1) bytes) (255 ∷ []) ≡ false) (λ x. (pointwise nat_eq (drop (length bytes - 1) bytes) (255 ∷ []) ≡ true) × (x.now ≡ take (length bytes - 1) bytes) × (length x.now + 1 ≡ length bytes))
    → MatchOption r ((front : List ℕ) → bytes ≢ front ++ 255 ∷ []) (λ x. bytes ≡ x.now ++ 255 ∷ [])
ff_stripped bytes r h = strip_suffix_is unsigned_Decides bytes (255 ∷ []) r h

-- a span of a prefix has the prefix
pub prefix_own : (prefix left : List ℕ) (right : Option (List ℕ)) → left ≡ prefix → right ≡ end_of prefix → IsUpTo left left × IsBeforeEnd left right
prefix_own prefix left right same ended = rw (same, ended) (up_to-itself prefix, subst (λ (key : List ℕ). IsBeforeEnd key (end_of prefix)) (append-nil prefix) (before_end-begins prefix []))

-- what stands from a key on, and before the key with a zero byte behind it, is the key
pub key_only : (key other : List ℕ) → IsUpTo key other → IsBefore other (key ++ 0 ∷ []) → other ≡ key
key_only [] [] up before = refl
key_only [] (c ∷ cs) up before =
    let parts = before_parts c 0 cs [] before in
    let none : c ≤ 0 = parts.0 in absurd (not_before_empty cs (parts.1 (omega arith)))
key_only (b ∷ bs) [] up before = no_answer up
key_only (b ∷ bs) (c ∷ cs) up before =
    let low = up_parts b c bs cs up in
    let high = before_parts c b cs (bs ++ 0 ∷ []) before in
    let below : b ≤ c = low.0 in
    let above : c ≤ b = high.0 in
    let same : b ≡ c = omega arith in ap (λ (first : ℕ). first ∷ cs) (sym same) ∙ ap (λ (rest : List ℕ). b ∷ rest) (key_only bs cs (low.1 same) (high.1 (sym same)))

-- a key stands before itself with a zero byte behind it
pub key_before : (key : List ℕ) → IsBefore key (key ++ 0 ∷ [])
key_before [] = refl
key_before (b ∷ bs) = ap (λ r. is_lt (ordering_then r (slice_cmp nat_cmp bs (bs ++ 0 ∷ [])))) (tied_itself nat_cmp_total b) ∙ key_before bs

-- both ways, for a span whose ends are these
pub key_span : (key left end : List ℕ) → left ≡ key → end ≡ key ++ 0 ∷ [] → (other : List ℕ) → ((IsUpTo left other × IsBefore other end) ↔ (other ≡ key))
key_span key left end same ended other =
    rw (same, ended) (λ h. key_only key other h.0 h.1, λ e. subst (λ (one : List ℕ). IsUpTo key one × IsBefore one (key ++ 0 ∷ [])) (sym e) (up_to-itself key, key_before key))
