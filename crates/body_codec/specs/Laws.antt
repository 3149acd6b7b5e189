-- What the body of a change says of it.
use Rattle.std.specs.Prelude.{◌≡◌, ◌+◌, ◌*◌, ◌≤◌, ℕ, List, length}
use Rattle.change_model.specs.declared.history.Change.{Change}
use Rattle.body_codec.specs.Body.{HasSpelling, IsBodyOf, spelled_total}

-- A change has one body.
abbrev pub OneBody : Type 0
OneBody = (change : Change) (bytes other : List ℕ) → IsBodyOf change bytes → IsBodyOf change other → bytes ≡ other

-- A body is that of one change.
abbrev pub OneChange : Type 0
OneChange =
    (change other : Change) (bytes : List ℕ) → HasSpelling change → HasSpelling other
    → IsBodyOf change bytes → IsBodyOf other bytes → change ≡ other

-- A body is no longer than the spellings of its statements' terms, 24 bytes a statement and 10: each statement has three places of four bytes,
-- and at most three terms of its own, each behind a length of four.
abbrev pub BodySize : Type 0
BodySize = (change : Change) (bytes : List ℕ) → IsBodyOf change bytes → length bytes ≤ spelled_total change.statements + 24 * length change.statements + 10
