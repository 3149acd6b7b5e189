-- Private: commands that take a document's name.
use Rattle.std.specs.Prelude.{◌≡◌, ℕ, List, Option, Some, None}
use Rattle.work_text.specs.declared.read_line.DocumentVerb.{DocumentVerb}
use Rattle.work_text.specs.declared.read_line.DocumentVerb.TheVariants as verbs
use Rattle.work_text.specs.declared.work.Command.{Command}
use Rattle.work_text.specs.declared.work.Command.TheVariants.{Load, Unload, QueryFile}
use Rattle.work_text.specs.declared.work.Line.{Line}
use Rattle.work_text.specs.Work.{IsName}

abbrev pub command_with : DocumentVerb → List ℕ → Command
command_with verbs.Load name = Load name
command_with verbs.Unload name = Unload name
command_with verbs.QueryFile name = QueryFile name

-- the line of session 1 with this verb, where the bytes are a name
abbrev pub IsNamedLine : DocumentVerb → List ℕ → Option Line → Type 0
IsNamedLine verb bytes None = IsName bytes → ⊥
IsNamedLine verb bytes (Some line) = IsName bytes × (line ≡ record { session = 1; command = command_with verb bytes })
