-- From each state that the machine reaches some tokens complete a query.
use Rattle.std.proofs.Common.{◌≡◌, ℕ, List, [], ◌∷◌, ◌++◌, map, Some, refl, sym, subst, inl}
use Rattle.std.specs.Prelude.{codes}
use Rattle.std.specs.List.{AllByRecursion}
use Rattle.std.specs.Str.{encode_utf8_all}
use Rattle.term_core.specs.Characters.{is_base_character}
use Rattle.nt_text.specs.Cell.{xsd_string}
use Rattle.query_text.specs.declared.kind.TokenKind.TheVariants as kinds
use Rattle.query_text.specs.declared.token.Token.{Token as Found}
use Rattle.query_text.specs.declared.phase.Phase.{Phase}
use Rattle.query_text.specs.declared.phase.Phase.TheVariants as phases
use Rattle.query_text.specs.Characters.{begins_name}
use Rattle.query_text.specs.Tokens.{Token, IsToken, IsVariable, IsIriref, IsPrefixedName}
use Rattle.query_text.specs.Grammar.{Declaration, Node, Variable, Triple, triple, All, These, Written, IsSymbol, IsVar, literal_node, NodeVar, VerbVar, LastObject, EndOfPrologue, Star, NoWhere}
use Rattle.query_text.specs.Reading.{token_of}
use Rattle.query_text.specs.Parsing.{State, start, run}
use Rattle.query_text.specs.Refusals.{IsViable}
use Rattle.query_text.proofs.Rests.{ends, at_other, Place, AtSubject, AtObject, NodeRest, after_further, closing_tail}
use Rattle.query_text.proofs.Moves.{plain, PhaseRest}
use Rattle.query_text.proofs.Back.{PhaseStands}
use Rattle.query_text.proofs.Headings.{BracesRest, SelectRest, PrologueRest, declaration, IriRest, NameRest, RestBy}
use Rattle.query_text.proofs.Stands.{StandsBy}
use Rattle.query_text.proofs.Backwards.{AreFound, reached_stands, reads_back}

-- ---- the tokens that complete

abbrev closing : Token
closing = record { kind = kinds.Symbol; characters = codes "}" }

abbrev opening : Token
opening = record { kind = kinds.Symbol; characters = codes "{" }

abbrev star : Token
star = record { kind = kinds.Symbol; characters = codes "*" }

abbrev select : Token
select = record { kind = kinds.Word; characters = codes "SELECT" }

abbrev variable : Token
variable = record { kind = kinds.Var; characters = codes "?x" }

abbrev brackets : Token
brackets = record { kind = kinds.Iriref; characters = codes "<>" }

abbrev colon : Token
colon = record { kind = kinds.PrefixName; characters = codes ":" }

abbrev x : List ℕ
x = encode_utf8_all (codes "x")

closing_is : IsSymbol (codes "}") closing
closing_is = record { kind = refl; is = refl }

variable_name : IsVariable (codes "?x") x
unfolding begins_name is_base_character
variable_name = record { mark = 63; letters = codes "x"; spelled = refl; mark_is = refl; letters_are = refl; name_is = refl }

variable_is : IsVar variable x
variable_is = record { kind = refl; is = variable_name }

brackets_iri : IsIriref (codes "<>") []
brackets_iri = record { pieces = []; each = tt; spelled = refl; means = refl }

colon_name : IsPrefixedName (codes ":") [] []
colon_name = record { before = []; behind = []; spelled = refl; before_is = inl refl; behind_is = inl refl; prefix_is = refl; local_is = refl }

closing_token : IsToken closing
closing_token = inl (125, refl, refl)

opening_token : IsToken opening
opening_token = inl (123, refl, refl)

star_token : IsToken star
star_token = inl (42, refl, refl)

select_token : IsToken select
select_token = refl

variable_token : IsToken variable
variable_token = (x, variable_name)

-- ---- behind a node

record Behind (ds : List Declaration) (place : Place) : Type 0 where
  tokens : List Token
  each : AllByRecursion IsToken tokens
  more : Node → List Triple
  rest : (node : Node) → NodeRest ds place node tokens (more node)

behind : (ds : List Declaration) (place : Place) → Behind ds place
behind ds AtSubject = record {
  tokens = variable ∷ variable ∷ closing ∷ [];
  each = (variable_token, (variable_token, (closing_token, tt)));
  more = λ s. triple s (Variable x) (Variable x) ∷ [];
  rest = λ s. record {
    verb = Variable x;
    behind = variable ∷ closing ∷ [];
    verb_is = VerbVar variable_is;
    rest = record {
      behind = closing ∷ [];
      first = triple s (Variable x) (Variable x) ∷ [];
      others = [];
      objects = LastObject (NodeVar variable_is);
      rest = after_further ds s (closing ∷ []) [] (ends closing_is);
      all = refl;
    };
  };
}
behind ds (AtObject s v) = record {
  tokens = closing ∷ [];
  each = (closing_token, tt);
  more = λ o. triple s v o ∷ [];
  rest = λ o. at_other (after_further ds s (closing ∷ []) [] (ends closing_is));
}

-- ---- within the triples

record Later (ds : List Declaration) (phase : Phase) : Type 0 where
  tokens : List Token
  more : List Triple
  each : AllByRecursion IsToken tokens
  rest : PhaseRest ds phase tokens more

later : (ds : List Declaration) (phase : Phase) → PhaseStands ds phase → Later ds phase
later ds phases.Triples h = record { tokens = closing ∷ []; more = []; each = (closing_token, tt); rest = closing_tail ds closing closing_is }
later ds (phases.String position t) (place, form, p, is) =
    let b = behind ds place in
    record { tokens = b.tokens; more = b.more (literal_node form xsd_string); each = b.each; rest = (place, p, plain form is (b.rest (literal_node form xsd_string))) }
later ds (phases.Carets position t) (place, form, p, is) =
    let b = behind ds place in record {
      tokens = brackets ∷ b.tokens;
      more = b.more (literal_node form []);
      each = (([], brackets_iri), b.each);
      rest = (
        place,
        p,
        record {
          form = form;
          name = brackets;
          iri = [];
          rest = b.tokens;
          cut = refl;
          form_is = is;
          iri_is = inl (record { kind = refl; is = brackets_iri });
          goes = b.rest (literal_node form []);
        },
      );
    }
later ds (phases.Node position raw) (place, node, p, is) =
    let b = behind ds place in record { tokens = b.tokens; more = b.more node; each = b.each; rest = (place, node, p, is, b.rest node) }
later ds (phases.Verb s v) (subject, verb, is, verb_is) = record {
  tokens = variable ∷ closing ∷ [];
  more = triple subject verb (Variable x) ∷ [];
  each = (variable_token, (closing_token, tt));
  rest = (
    subject,
    verb,
    is,
    verb_is,
    record {
      node = Variable x;
      behind = closing ∷ [];
      node_is = NodeVar variable_is;
      rest = at_other (after_further ds subject (closing ∷ []) [] (ends closing_is));
    },
  );
}
later ds (phases.Semicolon s) (subject, is) = record {
  tokens = closing ∷ [];
  more = [];
  each = (closing_token, tt);
  rest = (subject, is, inl (after_further ds subject (closing ∷ []) [] (ends closing_is)));
}
later ds phases.End h = record { tokens = []; more = []; each = tt; rest = (refl, refl) }
later ds _ h = absurd h

-- ---- before the triples

abbrev braces : List Token
braces = opening ∷ closing ∷ []

braces_each : AllByRecursion IsToken braces
braces_each = (opening_token, (closing_token, tt))

abbrev columns : List Token
columns = star ∷ braces

columns_each : AllByRecursion IsToken columns
columns_each = (star_token, braces_each)

abbrev body : List Token
body = select ∷ columns

body_each : AllByRecursion IsToken body
body_each = (select_token, columns_each)

abbrev all_of_nothing : Written
all_of_nothing = record { columns = All; triples = [] }

braces_rest : (ds : List Declaration) → BracesRest ds braces []
braces_rest ds = record {
  opening = opening;
  inner = closing ∷ [];
  where_is = NoWhere;
  opening_is = record { kind = refl; is = refl };
  tail = closing_tail ds closing closing_is;
}

select_rest : (ds : List Declaration) → SelectRest ds columns all_of_nothing
select_rest ds = record { behind = braces; columns = Star (record { kind = refl; is = refl }); braces = braces_rest ds }

prologue_rest : (ds : List Declaration) → PrologueRest ds body all_of_nothing
prologue_rest ds = record {
  select = select;
  rest = columns;
  others = [];
  prologue = EndOfPrologue;
  select_is = record { kind = refl; letters = refl };
  goes = select_rest (ds ++ []);
}

iri_rest : (ds : List Declaration) (name : List ℕ) → IriRest ds name (brackets ∷ body) all_of_nothing
iri_rest ds name = record {
  bracketed = brackets;
  rest = body;
  iri = [];
  cut = refl;
  iri_is = record { kind = refl; is = brackets_iri };
  goes = prologue_rest (ds ++ declaration name [] ∷ []);
}

name_rest : (ds : List Declaration) → NameRest ds (colon ∷ brackets ∷ body) all_of_nothing
name_rest ds = record {
  token = colon;
  rest = brackets ∷ body;
  name = [];
  cut = refl;
  name_is = record { kind = refl; is = colon_name };
  goes = iri_rest ds [];
}

-- ---- all states

record Completion (phase : Phase) (ds : List Declaration) (state : State) : Type 0 where
  others : List Token
  query : Written
  each : AllByRecursion IsToken others
  goes : RestBy phase ds state others query

completion : (phase : Phase) (ds : List Declaration) (state : State) → state.phase ≡ phase → StandsBy phase ds state → Completion phase ds state
completion phases.Prologue ds state at h = record { others = body; query = all_of_nothing; each = body_each; goes = (h, prologue_rest ds) }
completion phases.Prefix ds state at h = record {
  others = colon ∷ brackets ∷ body;
  query = all_of_nothing;
  each = (([], [], colon_name), (([], brackets_iri), body_each));
  goes = (h, name_rest ds);
}
completion (phases.PrefixName t) ds state at (h, (name, is)) =
    record { others = brackets ∷ body; query = all_of_nothing; each = (([], brackets_iri), body_each); goes = (h, (name, is, iri_rest ds name)) }
completion phases.Select ds state at h = record { others = columns; query = all_of_nothing; each = columns_each; goes = (h, select_rest ds) }
completion phases.Star ds state at h = record { others = braces; query = all_of_nothing; each = braces_each; goes = (h.0, h.1, refl, braces_rest ds) }
completion phases.Columns ds state at (all, none, (names, are)) = record {
  others = braces;
  query = record { columns = These (names ++ []); triples = [] };
  each = braces_each;
  goes = (
    all,
    none,
    record { names = names; more = []; behind = braces; read_are = are; goes = inl (refl, refl); all = refl; braces = braces_rest ds },
  );
}
completion phases.Where ds state at (none, (written, are)) = record {
  others = braces;
  query = record { columns = written; triples = [] };
  each = braces_each;
  goes = (
    none,
    are,
    record { opening = opening; inner = closing ∷ []; cut = refl; is = record { kind = refl; is = refl }; tail = closing_tail ds closing closing_is },
  );
}
completion phase ds state at h =
    let l = later ds state.phase (subst (PhaseStands ds) (sym at) h.last) in record {
      others = l.tokens;
      query = record { columns = h.columns; triples = h.done ++ l.more };
      each = l.each;
      goes = record { done = h.done; more = l.more; columns = h.columns_are; done_are = h.done_are; goes = l.rest; all = refl };
    }

-- tokens that run through the machine are the first of some query's
pub viable : (tokens : List Found) (last : State) → AreFound tokens → run (Some start) tokens ≡ Some last → IsViable (map token_of tokens)
viable tokens last found e =
    let stands = reached_stands tokens last found e in
    let c = completion last.phase stands.ds last refl stands.goes in record {
      others = c.others;
      query = c.query;
      are_tokens = c.each;
      is_query = reads_back tokens last c.others c.query found e (record { ds = stands.ds; declared = stands.declared; goes = c.goes });
    }
