use Rattle.std.proofs.Common.{◌≡◌, ◌-◌, [], true, false, length, get_or, sym, ◌∙◌}
use Rattle.std.proofs.lemmas.Bool.{cond-true, cond-false}
use Rattle.query_text.specs.declared.kind.TokenKind.TheVariants.{Iriref}
use Rattle.query_text.specs.declared.token.Token.{Token}
use Rattle.query_text.specs.declared.class.Declaration.{Declaration}
use Rattle.query_text.specs.Building.{declares}
use Rattle.query_text.proofs.Newer.{newest_at}
use Rattle.query_text.proofs.token_text.newest.Goals as goal

-- what stands past the end
abbrev nothing : Token
nothing = record { kind = Iriref; characters = record { ref_ptr = (0, 0); now = [] }; behind = record { ref_ptr = (0, 0); now = [] } }

abbrev none : Declaration
none = record { name = nothing; iri = nothing }

pub returns-then-declares : goal.returns-then-declares
returns-then-declares c =
    let ds = c.args.declarations.now in
    let here : declares (get_or ds (length ds - 1 - c.declarations.newer) none) c.args.prefix.now ≡ true = sym c.declares.ensures ∙ c.if-declares.true in
    sym (cond-true _ _ _ here) ∙ sym (newest_at ds none c.args.prefix.now c.declarations.newer c.declarations-test.true) ∙ c.declarations.invariant

pub declarations-preserved : goal.declarations-preserved
declarations-preserved c =
    let ds = c.args.declarations.now in
    let other : declares (get_or ds (length ds - 1 - c.declarations.newer) none) c.args.prefix.now ≡ false = sym c.declares.ensures ∙ c.if-declares.false in
    sym (cond-false _ _ _ other) ∙ sym (newest_at ds none c.args.prefix.now c.declarations.newer c.declarations-test.true) ∙ c.declarations.invariant
