use Rattle.std.proofs.Common.{◌≡◌, ◌≤◌, [], ◌∷◌, ◌++◌, length, map, sym, ap, ◌∙◌, subst}
use Rattle.std.specs.Prelude.{Contains}
use Rattle.history_board.specs.declared.view.Bearing.{Bearing}
use Rattle.history_board.specs.Bearings.{borne, unsure_of, others, since_of, IsAbove}
use Rattle.history_board.specs.Tokens.{Kept, Seen}
use Rattle.history_board.proofs.Members.{one_of_one}
use Rattle.history_board.proofs.Bearings.{is_borne}
use Rattle.history_board.proofs.Own.{taken, only_one}
use Rattle.change_model.specs.declared.history.Committed.{Committed}
use Rattle.commit_core.specs.Rooms.{session_of, command_of, MayComeIn}
use Rattle.commit_core.proofs.Turns.{no_other, without_last, keeper_doubts, may_come}
use Rattle.commit_core.proofs.turn.doubt.Goals as goal

pub hand-requires-clause-bears : goal.hand-requires-clause-bears
hand-requires-clause-bears c =
    let k = c.args.keeper.now in
    let one = c.requires.one in
    let b = one.bearing in
    let bears : c.take.new.self.bears ≡ k.bears ++ b ∷ [] = ap (λ (x : Kept Committed). x.bears) c.take.ensures.kept ∙ ap (λ l. k.bears ++ l) one.only in
    (b, subst (λ l. Contains l b) (sym bears) (taken k.bears b), one.session ∙ sym c.session.ensures)

pub hand-requires-clause-unsure : goal.hand-requires-clause-unsure
hand-requires-clause-unsure c =
    let e = c.args.committed.now in
    let k = c.args.keeper.now in
    let one = c.requires.one in
    let b = one.bearing in
    let bears : c.take.new.self.bears ≡ k.bears ++ b ∷ [] = ap (λ (x : Kept Committed). x.bears) c.take.ensures.kept ∙ ap (λ l. k.bears ++ l) one.only in
    let once : length (borne (session_of e) (k.bears ++ b ∷ [])) ≤ 1 = subst (λ l. length (borne (session_of e) l) ≤ 1) bears (c.take.ensures.sound.once (session_of e)) in
    let only : borne (session_of e) c.take.new.self.bears ≡ b ∷ [] = ap (λ l. borne (session_of e) l) bears ∙ only_one (session_of e) k.bears b one.session once in
    record {
      session = sym c.session.ensures;
      command = λ x has_x of_x.
          let there : Contains (b ∷ []) x = subst (λ l. Contains l x) only (is_borne (session_of e) c.take.new.self.bears x (of_x ∙ c.session.ensures) has_x) in
          subst (λ (y : Bearing Committed). IsAbove session_of command_of y (command_of e)) (one_of_one b x there) one.above;
    }

pub returns-clause-is : goal.returns-clause-is
returns-clause-is c =
    let e = c.args.committed.now in
    let k = c.args.keeper.now in
    let one = c.requires.one in
    let b = one.bearing in
    let bears : c.take.new.self.bears ≡ k.bears ++ b ∷ [] = ap (λ (x : Kept Committed). x.bears) c.take.ensures.kept ∙ ap (λ l. k.bears ++ l) one.only in
    let once : length (borne (session_of e) (k.bears ++ b ∷ [])) ≤ 1 = subst (λ l. length (borne (session_of e) l) ≤ 1) bears (c.take.ensures.sound.once (session_of e)) in
    let home : others c.session.result c.take.new.self.bears ≡ k.bears =
    ap (λ s. others s c.take.new.self.bears) c.session.ensures
    ∙ (ap (λ l. others (session_of e) l) bears ∙ without_last (session_of e) k.bears b one.session (no_other (session_of e) k.bears b one.session once)) in
    keeper_doubts k c.take.new.self c.hand.new.self e _ _ _ _ _ _ c.take.ensures.kept c.hand.ensures.kept home

pub returns-clause-own : goal.returns-clause-own
returns-clause-own c = λ b' is'.
    let e = c.args.committed.now in
    let k = c.args.keeper.now in
    let one = c.requires.one in
    let b = one.bearing in
    let bears : c.take.new.self.bears ≡ k.bears ++ b ∷ [] = ap (λ (x : Kept Committed). x.bears) c.take.ensures.kept ∙ ap (λ l. k.bears ++ l) one.only in
    let once : length (borne (session_of e) (k.bears ++ b ∷ [])) ≤ 1 = subst (λ l. length (borne (session_of e) l) ≤ 1) bears (c.take.ensures.sound.once (session_of e)) in
    let only : borne (session_of e) c.take.new.self.bears ≡ b ∷ [] = ap (λ l. borne (session_of e) l) bears ∙ only_one (session_of e) k.bears b one.session once in
    let q : b ∷ [] ≡ b' ∷ [] = sym one.only ∙ is' in
    let is_b : b ≡ b' = cc q in
    let none : c.take.new.seen.bears ≡ [] = ap (λ (x : Seen Committed). x.bears) c.take.ensures.note in
    let got : c.hand.new.seen.bears ≡ record b { unsure = b.unsure ++ e ∷ [] } ∷ [] =
    c.hand.ensures.bears ∙ (ap (λ l. l ++ map (unsure_of (e ∷ [])) (borne c.session.result c.take.new.self.bears)) none
    ∙ (ap (λ s. map (unsure_of (e ∷ [])) (borne s c.take.new.self.bears)) c.session.ensures ∙ ap (λ l. map (unsure_of (e ∷ [])) l) only)) in
    subst (λ (x : Bearing Committed). c.hand.new.seen.bears ≡ record x { unsure = x.unsure ++ e ∷ [] } ∷ []) is_b got

pub returns-clause-enrolled : goal.returns-clause-enrolled
returns-clause-enrolled c =
    let k = c.args.keeper.now in
    let one = c.requires.one in
    let b = one.bearing in
    let bears : c.take.new.self.bears ≡ k.bears ++ b ∷ [] = ap (λ (x : Kept Committed). x.bears) c.take.ensures.kept ∙ ap (λ l. k.bears ++ l) one.only in
    let has : Contains c.take.new.self.bears b = subst (λ l. Contains l b) (sym bears) (taken k.bears b) in
    let is = c.take.ensures.sound.bears b has in
    (is.length_then, ap (λ (s : _). since_of s c.args.committed.now.origin.session) (sym (ap (λ (x : Kept Committed). x.since) c.take.ensures.kept)) ∙ (ap (λ s. since_of c.take.new.self.since s) (sym one.session) ∙ is.enrolled))

pub returns-clause-may : goal.returns-clause-may
returns-clause-may c =
    let e = c.args.committed.now in
    let k = c.args.keeper.now in
    let one = c.requires.one in
    let b = one.bearing in
    let t = c.take.new.self in
    let h = c.hand.new.self in
    let bears : t.bears ≡ k.bears ++ b ∷ [] = ap (λ (x : Kept Committed). x.bears) c.take.ensures.kept ∙ ap (λ l. k.bears ++ l) one.only in
    let has : Contains t.bears b = subst (λ l. Contains l b) (sym bears) (taken k.bears b) in
    let seen : h.seen ≡ t.seen = ap (λ (x : Kept Committed). x.seen) c.hand.ensures.kept in
    let since : h.since ≡ t.since = ap (λ (x : Kept Committed). x.since) c.hand.ensures.kept in
    subst (λ l. MayComeIn l h.since h.doubt e) (sym seen)
    (subst (λ l. MayComeIn t.seen l h.doubt e) (sym since)
    (may_come t.seen t.since t.doubt h.doubt e b (c.take.ensures.sound.bears b has) one.session one.above (ap (λ (x : Kept Committed). x.doubt) c.hand.ensures.kept)))
