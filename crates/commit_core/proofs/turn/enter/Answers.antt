use Rattle.std.proofs.Common.{◌≡◌, ℕ, ◌≤◌, [], ◌∷◌, ◌++◌, length, map, sym, ap, ◌∙◌, subst, inl, inr}
use Rattle.std.proofs.lemmas.List.{append-nil}
use Rattle.std.specs.Prelude.{Contains}
use Rattle.history_board.specs.declared.view.Bearing.{Bearing}
use Rattle.history_board.specs.Bearings.{borne, placed, makes, unsure_of, others, since_of}
use Rattle.history_board.specs.Tokens.{Kept, Seen}
use Rattle.history_board.proofs.Members.{mapped}
use Rattle.history_board.proofs.Bearings.{makes_keeps}
use Rattle.history_board.proofs.Own.{taken, made, not_doubted}
use Rattle.change_model.specs.declared.history.Committed.{Committed}
use Rattle.commit_core.specs.Rooms.{session_of, command_of}
use Rattle.commit_core.proofs.Turns.{home_again, keeper_entered}
use Rattle.commit_core.proofs.turn.enter.Goals as goal

pub commit-length-requires-clause-may : goal.commit-length-requires-clause-may
commit-length-requires-clause-may c =
    let k = c.args.keeper.now in
    let one = c.requires.one in
    let b = one.bearing in
    let bears : c.take.new.self.bears ≡ k.bears ++ b ∷ [] = ap (λ (x : Kept Committed). x.bears) c.take.ensures.kept ∙ ap (λ l. k.bears ++ l) one.only in
    let has : Contains c.take.new.self.bears b = subst (λ l. Contains l b) (sym bears) (taken k.bears b) in
    inr (inl (b, has, one.session, one.above))

pub hand-requires-clause-bears : goal.hand-requires-clause-bears
hand-requires-clause-bears c =
    let e = c.args.committed.now in
    let k = c.args.keeper.now in
    let one = c.requires.one in
    let b = one.bearing in
    let bears : c.take.new.self.bears ≡ k.bears ++ b ∷ [] = ap (λ (x : Kept Committed). x.bears) c.take.ensures.kept ∙ ap (λ l. k.bears ++ l) one.only in
    let has : Contains c.take.new.self.bears b = subst (λ l. Contains l b) (sym bears) (taken k.bears b) in
    let sure : Contains c.take.new.self.doubt e → ⊥ = λ doubted. not_doubted session_of command_of c.take.new.self e b c.take.ensures.sound has one.session one.above doubted in
    let n : ℕ = length c.take.new.self.seen in
    let f = makes session_of n e in
    let own : c.commit-length.new.self.bears ≡ map f (k.bears ++ b ∷ []) = c.commit-length.ensures.own sure ∙ ap (λ l. map f l) bears in
    (f b, subst (λ l. Contains l (f b)) (sym own) (mapped f (k.bears ++ b ∷ []) b (taken k.bears b)), makes_keeps session_of n e b ∙ (one.session ∙ sym c.session.ensures))

pub returns-clause-is : goal.returns-clause-is
returns-clause-is c =
    let e = c.args.committed.now in
    let k = c.args.keeper.now in
    let one = c.requires.one in
    let b = one.bearing in
    let bears : c.take.new.self.bears ≡ k.bears ++ b ∷ [] = ap (λ (x : Kept Committed). x.bears) c.take.ensures.kept ∙ ap (λ l. k.bears ++ l) one.only in
    let has : Contains c.take.new.self.bears b = subst (λ l. Contains l b) (sym bears) (taken k.bears b) in
    let sure : Contains c.take.new.self.doubt e → ⊥ = λ doubted. not_doubted session_of command_of c.take.new.self e b c.take.ensures.sound has one.session one.above doubted in
    let n : ℕ = length c.take.new.self.seen in
    let own : c.commit-length.new.self.bears ≡ map (makes session_of n e) (k.bears ++ b ∷ []) = c.commit-length.ensures.own sure ∙ ap (λ l. map (makes session_of n e) l) bears in
    let once : length (borne (session_of e) (k.bears ++ b ∷ [])) ≤ 1 = subst (λ l. length (borne (session_of e) l) ≤ 1) bears (c.take.ensures.sound.once (session_of e)) in
    let home : others c.session.result c.commit-length.new.self.bears ≡ k.bears =
    ap (λ s. others s c.commit-length.new.self.bears) c.session.ensures ∙ (ap (λ l. others (session_of e) l) own ∙ home_again session_of n e k.bears b one.session once) in
    keeper_entered k c.take.new.self c.commit-length.new.self c.hand.new.self e _ _ _ _ _ _ c.take.ensures.kept c.commit-length.ensures.rest c.commit-length.ensures.appended c.hand.ensures.kept home

pub returns-clause-own : goal.returns-clause-own
returns-clause-own c = λ b' is'.
    let e = c.args.committed.now in
    let k = c.args.keeper.now in
    let one = c.requires.one in
    let b = one.bearing in
    let bears : c.take.new.self.bears ≡ k.bears ++ b ∷ [] = ap (λ (x : Kept Committed). x.bears) c.take.ensures.kept ∙ ap (λ l. k.bears ++ l) one.only in
    let has : Contains c.take.new.self.bears b = subst (λ l. Contains l b) (sym bears) (taken k.bears b) in
    let sure : Contains c.take.new.self.doubt e → ⊥ = λ doubted. not_doubted session_of command_of c.take.new.self e b c.take.ensures.sound has one.session one.above doubted in
    let n : ℕ = length c.take.new.self.seen in
    let own : c.commit-length.new.self.bears ≡ map (makes session_of n e) (k.bears ++ b ∷ []) = c.commit-length.ensures.own sure ∙ ap (λ l. map (makes session_of n e) l) bears in
    let once : length (borne (session_of e) (k.bears ++ b ∷ [])) ≤ 1 = subst (λ l. length (borne (session_of e) l) ≤ 1) bears (c.take.ensures.sound.once (session_of e)) in
    let only : borne (session_of e) c.commit-length.new.self.bears ≡ record b { mine = b.mine ++ placed n e ∷ [] } ∷ [] = made session_of command_of n e k.bears c.commit-length.new.self.bears b one.session once own in
    let q : b ∷ [] ≡ b' ∷ [] = sym one.only ∙ is' in
    let is_b : b ≡ b' = cc q in
    let none : c.take.new.seen.bears ≡ [] = ap (λ (x : Seen Committed). x.bears) c.take.ensures.note in
    let place : n ≡ length k.seen = ap (λ (x : Kept Committed). length x.seen) c.take.ensures.kept in
    let got : c.hand.new.seen.bears ≡ record b { mine = b.mine ++ placed n e ∷ []; unsure = b.unsure ++ [] } ∷ [] =
    c.hand.ensures.bears ∙ (ap (λ l. l ++ map (unsure_of []) (borne c.session.result c.commit-length.new.self.bears)) none
    ∙ (ap (λ s. map (unsure_of []) (borne s c.commit-length.new.self.bears)) c.session.ensures ∙ ap (λ l. map (unsure_of []) l) only)) in
    let plain : c.hand.new.seen.bears ≡ record b { mine = b.mine ++ placed n e ∷ [] } ∷ [] =
    got ∙ ap (λ us. record b { mine = b.mine ++ placed n e ∷ []; unsure = us } ∷ []) (append-nil b.unsure) in
    subst (λ (x : Bearing Committed). c.hand.new.seen.bears ≡ record x { mine = x.mine ++ placed (length k.seen) e ∷ [] } ∷ []) is_b
    (subst (λ (m : ℕ). c.hand.new.seen.bears ≡ record b { mine = b.mine ++ placed m e ∷ [] } ∷ []) place plain)

pub returns-clause-enrolled : goal.returns-clause-enrolled
returns-clause-enrolled c =
    let k = c.args.keeper.now in
    let one = c.requires.one in
    let b = one.bearing in
    let bears : c.take.new.self.bears ≡ k.bears ++ b ∷ [] = ap (λ (x : Kept Committed). x.bears) c.take.ensures.kept ∙ ap (λ l. k.bears ++ l) one.only in
    let has : Contains c.take.new.self.bears b = subst (λ l. Contains l b) (sym bears) (taken k.bears b) in
    let is = c.take.ensures.sound.bears b has in
    (is.length_then, ap (λ (s : _). since_of s c.args.committed.now.origin.session) (sym (ap (λ (x : Kept Committed). x.since) c.take.ensures.kept)) ∙ (ap (λ s. since_of c.take.new.self.since s) (sym one.session) ∙ is.enrolled))
