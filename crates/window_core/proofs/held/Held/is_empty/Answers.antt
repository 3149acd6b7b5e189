use Rattle.std.proofs.Common.{subst, sym}
use Rattle.std.proofs.Common.{◌≡◌, []}
use Rattle.window_core.specs.Runs.{all_of}
use Rattle.window_core.proofs.Holding.{merged_none}
use Rattle.window_core.proofs.held.Held.is_empty.Goals as goal

pub returns : goal.returns
returns c =
    let same = merged_none c.args.self.now.runs.items c.args.self.now.are_runs in (
      λ h. same.0 (subst (λ runs. all_of runs ≡ []) c.as_slice.ensures.value (c.are_empty.ensures.0 h)),
      λ none. c.are_empty.ensures.1 (subst (λ runs. all_of runs ≡ []) (sym c.as_slice.ensures.value) (same.1 none)),
    )
