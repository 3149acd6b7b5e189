use Rattle.std.proofs.Common.{◌≡◌, ◌⊎◌, ◌+◌, ◌≤◌, ℕ, length, map, vec_len, vec_capacity}
use Rattle.std.specs.Vec.Iter.{into_iter_items}
use Rattle.base_core.specs.Lists.{Has}
use Rattle.place_board.specs.Tokens.{IsSoundList}
use Rattle.place_core.specs.declared.shards.Line.{Line}
use Rattle.place_core.specs.declared.shards.Born.{Born}
use Rattle.place_core.specs.Places.{all_listed, line_of}
use Rattle.place_core.specs.Lines.{MayBeListed}
use Rattle.place_core.proofs.lines.list_all.Given as goal

-- what is still to come may be listed, and then all is as if all had been listed from the beginning
abbrev pub invariant-born : goal.invariant-born
invariant-born l = record {
  may : MayBeListed l.seat l.lines.items (into_iter_items l.one-iterator);
  sound : IsSoundList l.seat;
  told : all_listed (into_iter_items l.one-iterator) l.seat ≡ all_listed l.fn.born.items l.initial.seat;
  added : (line : Line) → (Has l.lines.items line ⊎ Has (map line_of (into_iter_items l.one-iterator)) line → Has l.initial.lines.items line ⊎ Has (map line_of l.fn.born.items) line) × (Has l.initial.lines.items line ⊎ Has (map line_of l.fn.born.items) line → Has l.lines.items line ⊎ Has (map line_of (into_iter_items l.one-iterator)) line);
  ever : (n : ℕ) → Has l.initial.seat.ever n → Has l.seat.ever n;
  first : (one : Born) → Has l.fn.born.items one → Has (into_iter_items l.one-iterator) one ⊎ (¬ Has l.initial.seat.ever one.number);
  room : vec_len l.lines + length (into_iter_items l.one-iterator) ≤ vec_capacity l.lines;
}
