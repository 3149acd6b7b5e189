-- Private: what the texts of tokens mean, from left to right.
use Rattle.std.specs.Prelude.{ℕ, ◌+◌, ◌*◌, ◌||◌, List, [], ◌∷◌, ◌++◌, Option, Some, None, ◌==◌, nat_lt, if◌then◌else◌}
use Rattle.std.specs.Char.{encode_utf8, digit_value}
use Rattle.nt_text.specs.Escapes.{escaped}
use Rattle.query_text.specs.declared.text_scan.TextScan.{TextScan}
use Rattle.query_text.specs.declared.text_scan.TextScan.TheVariants as texts
use Rattle.query_text.specs.Scanning.{closing, text_advance}

-- what a text gains by one more character
abbrev pub gained : TextScan → ℕ → List ℕ
gained (texts.Inside enclosure) c = if c == closing enclosure || c == 92 then [] else encode_utf8 c
gained (texts.Escape enclosure) c = if c == 117 || c == 85 then [] else escaped c ∷ []
gained (texts.Digits enclosure left value) c = if nat_lt 1 left then [] else encode_utf8 (value * 16 + digit_value c)
gained (texts.Opened enclosure) c = []
gained (texts.Empty enclosure) c = []
gained (texts.Closed enclosure) c = []
gained texts.Long c = []

-- the meaning of the rest of a text
abbrev pub meant : Option TextScan → List ℕ → List ℕ
meant None cs = []
meant (Some scan) [] = []
meant (Some scan) (c ∷ cs) = gained scan c ++ meant (text_advance scan c) cs
