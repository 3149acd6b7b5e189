use Rattle.std.proofs.Common.{[], arith}
use Rattle.query_text.specs.declared.kind.TokenKind.TheVariants.{Iriref}
use Rattle.query_text.specs.declared.token.Token.{Token}
use Rattle.query_text.proofs.Named.{column_more}
use Rattle.query_text.proofs.naming.Names.places_of.Goals as goal

-- what stands past the end
abbrev nothing : Token
nothing = record { kind = Iriref; characters = record { ref_ptr = (0, 0); now = [] }; behind = record { ref_ptr = (0, 0); now = [] } }

pub tokens-preserved : goal.tokens-preserved
tokens-preserved c =
    let so_far = column_more c.args.self.now.list.items c.tokens.self.list.items c.place.new.self.list.items c.args.tokens.now c.tokens.token-index nothing
    c.in_ok-name_of.field-0 c.in_ok-place.field-0 c.tokens.places.items c.push.new.self.items (omega arith)
    (record { names_are = c.tokens.invariant.names; places_are = c.tokens.invariant.places }) c.in_ok-name_of.ensures c.in_ok-place.ensures.names c.in_ok-place.ensures.place
    c.in_ok-push.ensures.items in
    record { knows = c.in_ok-place.ensures.knows; names = so_far.names_are; places = so_far.places_are }
