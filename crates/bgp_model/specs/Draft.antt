-- What a clause sees of text that is being written.
use Rattle.std.specs.Prelude.{ℕ, List}

-- what is kept in any case, and the text behind it
pub record Drafted : Type 0 where
  pub kept : List ℕ
  pub text : List ℕ
