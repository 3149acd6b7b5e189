-- How many bytes characters have in UTF-8.
use Rattle.std.proofs.Common.{◌≡◌, ℕ, ◌+◌, ◌≤◌, ◌<◌, arith, List, [], ◌∷◌, ◌++◌, take, drop, length, get_or, length-append, ap, ◌∙◌}
use Rattle.std.specs.Char.{encode_utf8, len_utf8}
use Rattle.std.specs.Str.{encode_utf8_all}
use Rattle.std.proofs.lemmas.List.{append-nil, take-append-drop, take_more}
use Rattle.std.proofs.lemmas.Str.{encodes-append, length-encode}

abbrev pub width : List ℕ → ℕ
width cs = length (encode_utf8_all cs)

pub width-append : (xs ys : List ℕ) → width (xs ++ ys) ≡ width xs + width ys
width-append xs ys = ap length (encodes-append xs ys) ∙ length-append (encode_utf8_all xs) (encode_utf8_all ys)

-- a front has no more bytes than the whole
pub width-take : (n : ℕ) (cs : List ℕ) → width (take n cs) ≤ width cs
width-take n cs = omega (arith, ap width (take-append-drop n cs), width-append (take n cs) (drop n cs))

-- one character more
pub width_more : (cs : List ℕ) (i d : ℕ) → i < length cs → width (take (i + 1) cs) ≡ width (take i cs) + len_utf8 (get_or cs i d)
width_more cs i d inside =
    ap width (take_more cs i d inside) ∙ width-append (take i cs) (get_or cs i d ∷ [])
    ∙ ap (λ (n : ℕ). width (take i cs) + n) (ap length (append-nil (encode_utf8 (get_or cs i d))) ∙ length-encode (get_or cs i d))
