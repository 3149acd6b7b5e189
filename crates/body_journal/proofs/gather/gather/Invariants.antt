use Rattle.std.proofs.Common.{◌≡◌, ℕ, ◌+◌, ◌≤◌, ◌^◌, ◌*◌, List, ◌∷◌, ◌++◌, length, drop}
use Rattle.body_journal.specs.Groups.{group_size}
use Rattle.body_journal.specs.Held.{others_in}
use Rattle.body_journal.proofs.gather.gather.Given as goal

-- the others before this place are the group's
abbrev pub invariant-held : goal.invariant-held
invariant-held l = record {
  within : l.group.size ≤ 2 ^ 30;
  few : 4 * l.group.others + 8 ≤ l.group.size;
  so_far : (taken : List (List ℕ)) × (others_in l.fn.serial l.held ≡ taken ++ others_in l.fn.serial (drop l.one-index l.held))
      × (l.group.others ≡ length taken) × (l.group.size ≡ group_size (l.fn.first ∷ taken));
}
