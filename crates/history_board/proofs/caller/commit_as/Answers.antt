use Rattle.std.proofs.Common.{◌≡◌, ℕ, ◌≤◌, [], ◌∷◌, ◌++◌, length, map, sym, ap, ◌∙◌, subst, inl, inr}
use Rattle.std.specs.Prelude.{Contains, option_copied, option_to_list}
use Rattle.history_board.specs.declared.view.Bearing.{Bearing}
use Rattle.history_board.specs.Bearings.{borne, placed, makes, unsure_of, IsAbove}
use Rattle.history_board.specs.Tokens.{Kept, Seen, MayDoubt}
use Rattle.history_board.proofs.Members.{mapped, one_of_one}
use Rattle.history_board.proofs.Bearings.{makes_keeps, is_borne}
use Rattle.history_board.proofs.Own.{taken, made, not_doubted, above_after, if_some}
use Rattle.history_board.proofs.caller.commit_as.Goals as goal

pub commit-length-requires-clause-may : goal.commit-length-requires-clause-may
commit-length-requires-clause-may g c =
    let sf = g.E.Made.session_of in
    let cf = g.E.Made.command_of in
    let e = c.args.entry.now in
    let k = c.args.keeper.now in
    let b = c.requires.one.0 in
    let same = c.requires.one.2 in
    let above = c.requires.one.3 in
    let bears : c.take.new.self.bears ≡ k.bears ++ b ∷ [] = ap (λ (x : Kept g.row.E.Denot). x.bears) c.take.ensures.kept ∙ ap (λ l. k.bears ++ l) c.requires.one.1 in
    let has : Contains c.take.new.self.bears b = subst (λ l. Contains l b) (sym bears) (taken k.bears b) in
    inr (inl (b, has, same, above))

pub hand-requires-clause-bears : goal.hand-requires-clause-bears
hand-requires-clause-bears g c =
    let sf = g.E.Made.session_of in
    let cf = g.E.Made.command_of in
    let e = c.args.entry.now in
    let k = c.args.keeper.now in
    let b = c.requires.one.0 in
    let same = c.requires.one.2 in
    let above = c.requires.one.3 in
    let bears : c.take.new.self.bears ≡ k.bears ++ b ∷ [] = ap (λ (x : Kept g.row.E.Denot). x.bears) c.take.ensures.kept ∙ ap (λ l. k.bears ++ l) c.requires.one.1 in
    let has : Contains c.take.new.self.bears b = subst (λ l. Contains l b) (sym bears) (taken k.bears b) in
    let sure : Contains c.take.new.self.doubt e → ⊥ = λ doubted. not_doubted sf cf c.take.new.self e b c.take.ensures.sound has same above doubted in
    let n : ℕ = length c.take.new.self.seen in
    let own : c.commit-length.new.self.bears ≡ map (makes sf n e) (k.bears ++ b ∷ []) = c.commit-length.ensures.own sure ∙ ap (λ l. map (makes sf n e) l) bears in
    let once : length (borne (sf e) (k.bears ++ b ∷ [])) ≤ 1 = subst (λ l. length (borne (sf e) l) ≤ 1) bears (c.take.ensures.sound.once (sf e)) in
    let one : borne (sf e) c.commit-length.new.self.bears ≡ record b { mine = b.mine ++ placed n e ∷ [] } ∷ [] = made sf cf n e k.bears c.commit-length.new.self.bears b same once own in
    let f = makes sf n e in
    (f b, subst (λ l. Contains l (f b)) (sym own) (mapped f (k.bears ++ b ∷ []) b (taken k.bears b)), makes_keeps sf n e b ∙ (same ∙ sym c.session.ensures))

pub hand-requires-clause-unsure : goal.hand-requires-clause-unsure
hand-requires-clause-unsure g c =
    let sf = g.E.Made.session_of in
    let cf = g.E.Made.command_of in
    let e = c.args.entry.now in
    let k = c.args.keeper.now in
    let b = c.requires.one.0 in
    let same = c.requires.one.2 in
    let above = c.requires.one.3 in
    let bears : c.take.new.self.bears ≡ k.bears ++ b ∷ [] = ap (λ (x : Kept g.row.E.Denot). x.bears) c.take.ensures.kept ∙ ap (λ l. k.bears ++ l) c.requires.one.1 in
    let has : Contains c.take.new.self.bears b = subst (λ l. Contains l b) (sym bears) (taken k.bears b) in
    let sure : Contains c.take.new.self.doubt e → ⊥ = λ doubted. not_doubted sf cf c.take.new.self e b c.take.ensures.sound has same above doubted in
    let n : ℕ = length c.take.new.self.seen in
    let own : c.commit-length.new.self.bears ≡ map (makes sf n e) (k.bears ++ b ∷ []) = c.commit-length.ensures.own sure ∙ ap (λ l. map (makes sf n e) l) bears in
    let once : length (borne (sf e) (k.bears ++ b ∷ [])) ≤ 1 = subst (λ l. length (borne (sf e) l) ≤ 1) bears (c.take.ensures.sound.once (sf e)) in
    let one : borne (sf e) c.commit-length.new.self.bears ≡ record b { mine = b.mine ++ placed n e ∷ [] } ∷ [] = made sf cf n e k.bears c.commit-length.new.self.bears b same once own in
    if_some _ (MayDoubt sf cf c.commit-length.new.self c.session.result) (option_copied c.args.unsure)
    (λ d p. record {
      session = p.0 ∙ sym c.session.ensures;
      command = λ x has_x of_x.
          let there : Contains (record b { mine = b.mine ++ placed n e ∷ [] } ∷ []) x = subst (λ l. Contains l x) one (is_borne (sf e) c.commit-length.new.self.bears x (of_x ∙ c.session.ensures) has_x) in
          subst (λ (y : Bearing g.row.E.Denot). IsAbove sf cf y (cf d)) (one_of_one (record b { mine = b.mine ++ placed n e ∷ [] }) x there) (above_after sf cf b n (cf d) e (p.2 b c.requires.one.1) p.1);
    })
    c.requires.unsure

pub returns-clause-own : goal.returns-clause-own
returns-clause-own g c = λ b' is'.
    let sf = g.E.Made.session_of in
    let cf = g.E.Made.command_of in
    let e = c.args.entry.now in
    let k = c.args.keeper.now in
    let b = c.requires.one.0 in
    let same = c.requires.one.2 in
    let above = c.requires.one.3 in
    let bears : c.take.new.self.bears ≡ k.bears ++ b ∷ [] = ap (λ (x : Kept g.row.E.Denot). x.bears) c.take.ensures.kept ∙ ap (λ l. k.bears ++ l) c.requires.one.1 in
    let has : Contains c.take.new.self.bears b = subst (λ l. Contains l b) (sym bears) (taken k.bears b) in
    let sure : Contains c.take.new.self.doubt e → ⊥ = λ doubted. not_doubted sf cf c.take.new.self e b c.take.ensures.sound has same above doubted in
    let n : ℕ = length c.take.new.self.seen in
    let own : c.commit-length.new.self.bears ≡ map (makes sf n e) (k.bears ++ b ∷ []) = c.commit-length.ensures.own sure ∙ ap (λ l. map (makes sf n e) l) bears in
    let once : length (borne (sf e) (k.bears ++ b ∷ [])) ≤ 1 = subst (λ l. length (borne (sf e) l) ≤ 1) bears (c.take.ensures.sound.once (sf e)) in
    let one : borne (sf e) c.commit-length.new.self.bears ≡ record b { mine = b.mine ++ placed n e ∷ [] } ∷ [] = made sf cf n e k.bears c.commit-length.new.self.bears b same once own in
    let es = option_to_list (option_copied c.args.unsure) in
    let q : b ∷ [] ≡ b' ∷ [] = sym c.requires.one.1 ∙ is' in
    let is_b : b ≡ b' = cc q in
    let none : c.take.new.seen.bears ≡ [] = ap (λ (x : Seen g.row.E.Denot). x.bears) c.take.ensures.note in
    let place : n ≡ length k.seen = ap (λ (x : Kept g.row.E.Denot). length x.seen) c.take.ensures.kept in
    let got : c.hand.new.seen.bears ≡ record b { mine = b.mine ++ placed n e ∷ []; unsure = b.unsure ++ es } ∷ [] =
    c.hand.ensures.bears ∙ (ap (λ l. l ++ map (unsure_of es) (borne c.session.result c.commit-length.new.self.bears)) none
    ∙ (ap (λ s. map (unsure_of es) (borne s c.commit-length.new.self.bears)) c.session.ensures ∙ ap (λ l. map (unsure_of es) l) one)) in
    subst (λ (x : Bearing g.row.E.Denot). c.hand.new.seen.bears ≡ record x { mine = x.mine ++ placed (length k.seen) e ∷ []; unsure = x.unsure ++ es } ∷ []) is_b
    (subst (λ (m : ℕ). c.hand.new.seen.bears ≡ record b { mine = b.mine ++ placed m e ∷ []; unsure = b.unsure ++ es } ∷ []) place got)
