-- Bytes are those of the number that they read as.
use Rattle.std.proofs.Common.{◌≡◌, ◌≤◌, ◌<◌, ◌+◌, ℕ, zero, suc, List, [], ◌∷◌, length, take, drop, get_or, ◌++◌, sym, ap, ◌∙◌, arith, refl, Fits, w8}
use Rattle.std.specs.Int.{w32, w64, from_be_bytes}
use Rattle.std.proofs.lemmas.Nat.{be_bytes_4, be_bytes_8}
use Rattle.std.proofs.lemmas.List.{length-take-le, get_or-drop, take-append-drop}
use Rattle.byteorder.specs.Endian.{big_number}
use Rattle.base_core.specs.Numbers.{number_bytes, length_bytes}

-- all items are bytes
abbrev pub AreSmall : List ℕ → Type 0
AreSmall bytes = (k : ℕ) → get_or bytes k 0 < 256

-- the items of a front are bytes too
pub small_take : (n : ℕ) (bytes : List ℕ) → AreSmall bytes → AreSmall (take n bytes)
small_take zero bytes small k = omega arith
small_take (suc n) [] small k = omega arith
small_take (suc n) (b ∷ bytes) small zero = small 0
small_take (suc n) (b ∷ bytes) small (suc k) = small_take n bytes (λ j. small (suc j)) k

-- and so are those behind one
pub small_drop : (at : ℕ) (bytes rest : List ℕ) → rest ≡ drop at bytes → AreSmall bytes → AreSmall rest
small_drop at bytes rest from small k =
    let there : get_or rest k 0 ≡ get_or bytes (at + k) 0 = ap (λ list. get_or list k 0) from ∙ get_or-drop at bytes k 0 in
    let low = small (at + k) in omega arith

small_field : (n at : ℕ) (bytes rest field : List ℕ) → rest ≡ drop at bytes → field ≡ take n rest → AreSmall bytes → AreSmall field
small_field n at bytes rest field from same small k =
    let there : get_or field k 0 ≡ get_or (take n rest) k 0 = ap (λ list. get_or list k 0) same in
    let low = small_take n rest (small_drop at bytes rest from small) k in omega arith

bytes_small : (bytes : List ℕ) → ((k : ℕ) → Fits w8 (get_or bytes k 0)) → AreSmall bytes
bytes_small bytes small k = let low = small k in omega arith

-- eight bytes spell the number that they read as
pub number_spelled : (field : List ℕ) (n : ℕ) → length field ≡ 8 → AreSmall field → n ≡ big_number 8 field → number_bytes n ≡ field
number_spelled field n long small is =
    let whole : n ≡ from_be_bytes w64 field = omega (arith, is) in
    be_bytes_8 field n long small whole

-- four bytes spell the number that they read as
pub length_spelled : (field : List ℕ) (n : ℕ) → length field ≡ 4 → AreSmall field → n ≡ big_number 4 field → length_bytes n ≡ field
length_spelled field n long small is =
    let whole : n ≡ from_be_bytes w32 field = omega (arith, is) in
    be_bytes_4 field n long small whole

pub read_number : (bytes : List ℕ) (at : ℕ) (rest field : List ℕ) (n : ℕ) → rest ≡ drop at bytes → 8 ≤ length rest → field ≡ take 8 rest
    → ((k : ℕ) → Fits w8 (get_or bytes k 0)) → n ≡ big_number 8 field → take 8 (drop at bytes) ≡ number_bytes n
read_number bytes at rest field n from enough same small is =
    let long : length field ≡ 8 = ap length same ∙ length-take-le 8 rest enough in
    ap (take 8) (sym from) ∙ sym same ∙ sym (number_spelled field n long (small_field 8 at bytes rest field from same (bytes_small bytes small)) is)

pub read_length : (bytes : List ℕ) (at : ℕ) (rest field : List ℕ) (n : ℕ) → rest ≡ drop at bytes → 4 ≤ length rest → field ≡ take 4 rest
    → ((k : ℕ) → Fits w8 (get_or bytes k 0)) → n ≡ big_number 4 field → take 4 (drop at bytes) ≡ length_bytes n
read_length bytes at rest field n from enough same small is =
    let long : length field ≡ 4 = ap length same ∙ length-take-le 4 rest enough in
    ap (take 4) (sym from) ∙ sym same ∙ sym (length_spelled field n long (small_field 4 at bytes rest field from same (bytes_small bytes small)) is)

-- the number in front, and what stands behind it
pub first_number : (bytes field rest : List ℕ) (n : ℕ) → 8 ≤ length bytes → field ≡ take 8 bytes → rest ≡ drop 8 bytes
    → ((k : ℕ) → Fits w8 (get_or bytes k 0)) → n ≡ big_number 8 field → bytes ≡ number_bytes n ++ rest
first_number bytes field rest n enough same behind small is =
    let long : length field ≡ 8 = ap length same ∙ length-take-le 8 bytes enough in
    let spelled = number_spelled field n long (small_field 8 0 bytes bytes field refl same (bytes_small bytes small)) is in
    sym (take-append-drop 8 bytes) ∙ ap (λ front. front ++ drop 8 bytes) (sym same ∙ sym spelled) ∙ ap (λ back. number_bytes n ++ back) (sym behind)

pub first_length : (bytes field rest : List ℕ) (n : ℕ) → 4 ≤ length bytes → field ≡ take 4 bytes → rest ≡ drop 4 bytes
    → ((k : ℕ) → Fits w8 (get_or bytes k 0)) → n ≡ big_number 4 field → bytes ≡ length_bytes n ++ rest
first_length bytes field rest n enough same behind small is =
    let long : length field ≡ 4 = ap length same ∙ length-take-le 4 bytes enough in
    let spelled = length_spelled field n long (small_field 4 0 bytes bytes field refl same (bytes_small bytes small)) is in
    sym (take-append-drop 4 bytes) ∙ ap (λ front. front ++ drop 4 bytes) (sym same ∙ sym spelled) ∙ ap (λ back. length_bytes n ++ back) (sym behind)
