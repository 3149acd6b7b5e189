-- The characters of an IRIREF are tested by their bytes.
use Rattle.std.proofs.Common.{◌≡◌, ℕ, ◌≤◌, true, List, arith}
use Rattle.std.specs.List.{list_all}
use Rattle.std.specs.Str.{IsUtf8}
use Rattle.std.proofs.lemmas.Bool.Decides.{nat_tests}
use Rattle.term_core.specs.Characters.{is_iri_character}
use Rattle.term_core.specs.Term.{IsIri}
use Rattle.nt_text.proofs.Encoded.{chars_pass, text_passes}

-- no character beyond ASCII is left out
pub iri_high : (b : ℕ) → 128 ≤ b → is_iri_character b ≡ true
unfolding is_iri_character
iri_high b h = grind (arith, nat_tests)

-- text whose bytes pass is an IRI
pub IsIri-from_bytes : (iri : List ℕ) → IsUtf8 iri → list_all is_iri_character iri ≡ true → IsIri iri
IsIri-from_bytes iri utf8 h = record { utf8 = utf8; each = chars_pass is_iri_character iri_high iri utf8 h }

-- and the bytes of an IRI pass
pub IsIri-bytes : (iri : List ℕ) → IsIri iri → list_all is_iri_character iri ≡ true
IsIri-bytes iri h = text_passes is_iri_character iri_high iri h.utf8 h.each
