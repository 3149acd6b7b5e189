use Rattle.std.proofs.Common.{◌≡◌, ◌∷◌, ◌++◌, take}
use Rattle.std.specs.List.{flat_map}
use Rattle.work_text.proofs.write.write_header.Given as goal

abbrev pub invariant-loop-name : goal.invariant-loop-name
invariant-loop-name l = record {
  text : l.draft.text ≡ l.initial.draft.text ++ flat_map (λ name. 9 ∷ 63 ∷ name) (take l.name-index l.others);
  kept : l.draft.kept ≡ l.initial.draft.kept;
}
