use Rattle.std.proofs.Common.{◌≡◌, List, [], ◌∷◌, ◌++◌, sym, ap, ◌∙◌, subst, inr, ⊎_elim, arith}
use Rattle.std.specs.Prelude.{Contains, slice_get}
use Rattle.std.proofs.lemmas.List.Elements.{Contains-append_right}
use Rattle.history_board.specs.declared.tests.Entry.{Entry}
use Rattle.history_board.specs.Bearings.{newcomer}
use Rattle.history_board.specs.Tokens.{Kept, Seen}
use Rattle.history_board.proofs.Members.{has_first}
use Rattle.history_board.proofs.Places.{get_push}
use Rattle.history_board.proofs.Own.{back_again, newcomer_above}
use Rattle.history_board.proofs.tests.two_sessions_and_two_pins.Goals as goal

pub commit_as-requires-clause-one : goal.commit_as-requires-clause-one
commit_as-requires-clause-one g c = (newcomer 1, ap (λ (s : Seen Entry). s.bears) c.enrol-one.ensures.note, sym (ap (λ (e : Entry). e.session) c.made_by-first.ensures), newcomer_above _ _ 1 _)

pub commit-requires-clause-may : goal.commit-requires-clause-may
commit-requires-clause-may g c =
    let K : Type 0 = Kept Entry in
    let first : Entry = c.made_by-first.result in
    let second : Entry = c.made_by-second.result in
    let now : K = c.pin-2.new.self in
    let doubt : now.doubt ≡ c.pin.new.self.doubt ++ second ∷ [] = ap (λ (k : K). k.doubt) c.in_ok-high.ensures.out ∙ c.commit_as.ensures.doubt in
    let empty : c.pin.new.self.seen ≡ [] = ap (λ (k : K). k.seen) c.in_ok-low.ensures.out ∙ (ap (λ (k : K). k.seen) c.enrol-two.ensures.kept ∙ (ap (λ (k : K). k.seen) c.enrol-one.ensures.kept ∙ c.in_ok-keeper.ensures.seen)) in
    let seen : now.seen ≡ [] ++ first ∷ [] = ap (λ (k : K). k.seen) c.in_ok-high.ensures.out ∙ (c.commit_as.ensures.appended ∙ ap (λ (l : List Entry). l ++ first ∷ []) empty) in
    let low : first.command ≡ 1 = ap (λ (e : Entry). e.command) c.made_by-first.ensures in
    let high : second.command ≡ 2 = ap (λ (e : Entry). e.command) c.made_by-second.ensures in
    inr (inr (
      subst (λ (l : List Entry). Contains l second) (sym doubt) (Contains-append_right c.pin.new.self.doubt (second ∷ []) second (has_first second [])),
      (λ n place d is from got same. ⊎_elim
          (λ last. let e : first.command ≡ d.command = ap (λ (x : Entry). x.command) last.1 in omega arith)
          (λ old. let l = old.0 in absurd (omega arith))
          (get_push [] first d place (ap (λ (l : List Entry). slice_get l place) (sym seen) ∙ got))),
    ))

pub commit_as-requires-2-clause-one : goal.commit_as-requires-2-clause-one
commit_as-requires-2-clause-one g c = (newcomer 2, ap (λ (s : Seen Entry). s.bears) c.enrol-two.ensures.note, sym (ap (λ (e : Entry). e.session) c.made_by-other.ensures), newcomer_above _ _ 2 _)

pub leave-requires-clause-one : goal.leave-requires-clause-one
leave-requires-clause-one g c = (_, c.commit_as.ensures.own (newcomer 1) (ap (λ (s : Seen Entry). s.bears) c.enrol-one.ensures.note))

pub enrol-again-requires-clause-may : goal.enrol-again-requires-clause-may
enrol-again-requires-clause-may g c = inr (back_again c.commit_as-2.new.keeper.bears c.commit_as.new.note.bears c.leave.new.self.bears _ (ap (λ (k : Kept Entry). k.bears) c.leave.ensures.kept) (c.commit_as.ensures.own (newcomer 1) (ap (λ (s : Seen Entry). s.bears) c.enrol-one.ensures.note)))

pub commit_as-requires-3-clause-one : goal.commit_as-requires-3-clause-one
commit_as-requires-3-clause-one g c = (newcomer 1, ap (λ (s : Seen Entry). s.bears) c.enrol-again.ensures.note, sym (ap (λ (e : Entry). e.session) c.made_by-first.ensures), newcomer_above _ _ 1 _)

pub leave-requires-2-clause-one : goal.leave-requires-2-clause-one
leave-requires-2-clause-one g c = (_, c.commit_as-3.ensures.own (newcomer 1) (ap (λ (s : Seen Entry). s.bears) c.enrol-again.ensures.note))

pub leave-requires-3-clause-one : goal.leave-requires-3-clause-one
leave-requires-3-clause-one g c = (_, c.commit_as-2.ensures.own (newcomer 2) (ap (λ (s : Seen Entry). s.bears) c.enrol-two.ensures.note))
