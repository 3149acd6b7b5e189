use Rattle.std.proofs.Common.{◌≡◌, ◌<◌, ◌≤◌, List, [], ◌∷◌, length, get_or, arith, sym, ◌∙◌, string_bytes, codes}
use Rattle.bigfed.proofs.command.work_named.Goals as goal

-- a list of two
two : {A : Type 0} (xs : List A) (a b : A) → 2 ≤ length xs → length xs < 3 → a ≡ get_or xs 0 a → b ≡ get_or xs 1 b → xs ≡ a ∷ b ∷ []
two [] a b least most first second = absurd (omega arith)
two (x ∷ []) a b least most first second = absurd (omega arith)
two (x ∷ y ∷ []) a b least most first second = cc
two (x ∷ y ∷ z ∷ xs) a b least most first second = absurd (omega arith)

pub returns-then-is_replay : goal.returns-then-is_replay
returns-then-is_replay c =
    let words = two c.args.words.now c.command-item.result c.name-item.result (omega arith) (omega arith) c.command-item.is c.name-item.is in
    let command : string_bytes c.command-item.result ≡ codes "replay" = sym c.as_str.ensures.value ∙ c.is_replay.ensures.0 c.if-is_replay.true in
    let name = sym c.as_str-then-is_replay.ensures.value in
    rw words (λ i. command i ∷ name i ∷ [])
