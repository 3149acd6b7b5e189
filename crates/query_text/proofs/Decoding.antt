-- The characters of a text.
use Rattle.std.proofs.Common.{◌≡◌, ℕ, arith, true, List, [], ◌++◌, length, length-append, length-take, take, drop, sym, ap, subst, ◌∙◌, append_assoc}
use Rattle.std.specs.Char.{encode_utf8}
use Rattle.std.specs.Str.{IsUtf8, IsValidUpTo, all_scalars, chars, encode_utf8_all}
use Rattle.std.proofs.lemmas.List.{take-append-drop}
use Rattle.std.proofs.Math.Seq.{take-append_seam}
use Rattle.std.proofs.lemmas.Str.{IsUtf8-append, IsUtf8-encode, chars-encodes, length-encode, len_utf8_bounds}
use Rattle.query_text.specs.Texts.{AreCharacters}
use Rattle.query_text.specs.Reading.{BeginsNoCharacter}

pub are_characters : (bytes front bad : List ℕ) → bytes ≡ front ++ bad → IsUtf8 front → BeginsNoCharacter bad → AreCharacters bytes (chars front) bad
are_characters bytes front bad cut (cs, (scalars, encoded)) none =
    let same : chars front ≡ cs = ap chars (sym encoded) ∙ chars-encodes cs scalars in record {
      spelled = cut ∙ ap (λ (x : List ℕ). x ++ bad) (sym (ap encode_utf8_all same ∙ encoded));
      scalars = subst (λ (x : List ℕ). all_scalars x ≡ true) (sym same) scalars;
      bad_is = none;
    }

-- behind the longest front that is UTF-8 no character begins
pub none_behind : (bytes : List ℕ) (n : ℕ) → IsValidUpTo bytes n → BeginsNoCharacter (drop n bytes)
none_behind bytes n valid c rest scalar e =
    let front = take n bytes in
    let whole : bytes ≡ (front ++ encode_utf8 c) ++ rest = sym (take-append-drop n bytes) ∙ ap (λ (x : List ℕ). front ++ x) e ∙ sym (append_assoc front (encode_utf8 c) rest) in
    let longer : take (length (front ++ encode_utf8 c)) bytes ≡ front ++ encode_utf8 c =
    ap (take (length (front ++ encode_utf8 c))) whole ∙ take-append_seam (front ++ encode_utf8 c) rest in
    valid.longest (length (front ++ encode_utf8 c))
    (omega (arith, length-append front (encode_utf8 c), length-take n bytes, valid.short, length-encode c, (len_utf8_bounds c).0))
    (subst IsUtf8 (sym longer) (IsUtf8-append front (encode_utf8 c) valid.front (IsUtf8-encode c scalar)))

pub none_at_end : BeginsNoCharacter []
none_at_end c rest scalar e =
    absurd (omega (arith, ap length e, length-append (encode_utf8 c) rest, length-encode c, (len_utf8_bounds c).0))
