-- The other way round, before the opening brace: what completes a query behind a token completes it from it.
use Rattle.std.proofs.Common.{◌≡◌, ◌⊎◌, ℕ, List, [], ◌∷◌, ◌++◌, refl, sym, ap, subst, ◌∙◌, inl, inr, append_assoc}
use Rattle.std.specs.Prelude.{codes}
use Rattle.std.proofs.lemmas.List.{append-nil}
use Rattle.query_text.specs.declared.token.Token.{Token as Found}
use Rattle.query_text.specs.declared.class.Declaration.{Declaration as Declared}
use Rattle.query_text.specs.Tokens.{Token}
use Rattle.query_text.specs.Grammar.{Declaration, Triple, All, These, Written, IsWord, IsSymbol, IsVar, IsIrirefToken, IsPrefixedNameToken, IsPrologue, EndOfPrologue, PrefixDecl, AreVars, LastVar, MoreVars, AreColumns, Star, Vars, IsWhere, NoWhere, Where}
use Rattle.query_text.specs.Reading.{token_of}
use Rattle.query_text.specs.Saying.{AreDeclared, AreNames}
use Rattle.query_text.proofs.Rests.{Tail}
use Rattle.query_text.proofs.Headings.{BracesRest, OpeningRest, SelectRest, PrologueRest, declaration, IriRest, NameRest, ColumnsRest}

-- ---- declarations

pub select_back : (ds : List Declaration) (x : Token) (ts : List Token) (query : Written) → IsWord (codes "SELECT") x → SelectRest ds ts query → PrologueRest ds (x ∷ ts) query
select_back ds x ts query is r = record {
  select = x;
  rest = ts;
  others = [];
  prologue = EndOfPrologue;
  select_is = is;
  goes = subst (λ (z : List Declaration). SelectRest z ts query) (sym (append-nil ds)) r;
}

pub prefix_back : (ds : List Declaration) (x : Token) (ts : List Token) (query : Written) → IsWord (codes "PREFIX") x → NameRest ds ts query → PrologueRest ds (x ∷ ts) query
prefix_back ds x ts query is r =
    let i = r.goes in
    let p = i.goes in
    let whole : ts ≡ r.token ∷ i.bracketed ∷ i.rest = r.cut ∙ ap (λ (z : List Token). r.token ∷ z) i.cut in record {
      select = p.select;
      rest = p.rest;
      others = declaration r.name i.iri ∷ p.others;
      prologue = subst (λ (z : List Token). IsPrologue (x ∷ z) (p.select ∷ p.rest) (declaration r.name i.iri ∷ p.others)) (sym whole)
          (PrefixDecl is r.name_is i.iri_is p.prologue);
      select_is = p.select_is;
      goes = subst (λ (z : List Declaration). SelectRest z p.rest query) (append_assoc ds (declaration r.name i.iri ∷ []) p.others) p.goes;
    }

pub name_back : (ds : List Declaration) (x : Token) (ts : List Token) (query : Written) (name : List ℕ) → IsPrefixedNameToken x name [] → IriRest ds name ts query
    → NameRest ds (x ∷ ts) query
name_back ds x ts query name is r = record { token = x; rest = ts; name = name; cut = refl; name_is = is; goes = r }

-- the last declaration
pub record LastDeclared (rs : List Declared) (r : Declared) (ds : List Declaration) : Type 0 where
  pub front : List Declaration
  pub name : List ℕ
  pub iri : List ℕ
  pub cut : ds ≡ front ++ declaration name iri ∷ []
  pub front_is : AreDeclared rs front
  pub name_is : IsPrefixedNameToken (token_of r.name) name []
  pub iri_is : IsIrirefToken (token_of r.iri) iri

pub last_declared : (rs : List Declared) (r : Declared) (ds : List Declaration) → AreDeclared (rs ++ r ∷ []) ds → LastDeclared rs r ds
last_declared [] r [] h = absurd h
last_declared [] r (d ∷ []) h = record { front = []; name = d.«prefix»; iri = d.iri; cut = refl; front_is = tt; name_is = h.0; iri_is = h.1 }
last_declared [] r (d ∷ e ∷ ds) h = absurd h.2
last_declared (x ∷ rs) r [] h = absurd h
last_declared (x ∷ rs) r (d ∷ ds) h =
    let l = last_declared rs r ds h.2 in record {
      front = d ∷ l.front;
      name = l.name;
      iri = l.iri;
      cut = ap (λ (z : List Declaration). d ∷ z) l.cut;
      front_is = (h.0, h.1, l.front_is);
      name_is = l.name_is;
      iri_is = l.iri_is;
    }

pub iri_back : (ds whole : List Declaration) (x : Token) (ts : List Token) (query : Written) (name iri : List ℕ) → whole ≡ ds ++ declaration name iri ∷ []
    → IsIrirefToken x iri → PrologueRest whole ts query → IriRest ds name (x ∷ ts) query
iri_back ds whole x ts query name iri e is r =
    record { bracketed = x; rest = ts; iri = iri; cut = refl; iri_is = is; goes = subst (λ (z : List Declaration). PrologueRest z ts query) e r }

-- ---- columns

pub star_back : (ds : List Declaration) (x : Token) (ts : List Token) (query : Written) → IsSymbol (codes "*") x → query.columns ≡ All → BracesRest ds ts query.triples
    → SelectRest ds (x ∷ ts) query
star_back ds x ts query is e r = record { behind = ts; columns = subst (AreColumns (x ∷ ts) ts) (sym e) (Star is); braces = r }

-- the columns that were read, and one more
pub record LastName (ts : List Found) (t : Found) (names : List (List ℕ)) : Type 0 where
  pub front : List (List ℕ)
  pub name : List ℕ
  pub cut : names ≡ front ++ name ∷ []
  pub front_is : AreNames ts front
  pub is : IsVar (token_of t) name

pub last_name : (ts : List Found) (t : Found) (names : List (List ℕ)) → AreNames (ts ++ t ∷ []) names → LastName ts t names
last_name [] t [] h = absurd h
last_name [] t (n ∷ []) h = record { front = []; name = n; cut = refl; front_is = tt; is = h.0 }
last_name [] t (n ∷ m ∷ ns) h = absurd h.1
last_name (y ∷ ts) t [] h = absurd h
last_name (y ∷ ts) t (n ∷ ns) h =
    let l = last_name ts t ns h.1 in
    record { front = n ∷ l.front; name = l.name; cut = ap (λ (z : List (List ℕ)). n ∷ z) l.cut; front_is = (h.0, l.front_is); is = l.is }

vars_onto : (x : Token) (ts behind : List Token) (name : List ℕ) (more : List (List ℕ)) → IsVar x name → ((behind ≡ ts) × (more ≡ [])) ⊎ AreVars ts behind more
    → AreVars (x ∷ ts) behind (name ∷ more)
vars_onto x ts behind name more is (inl (e, f)) =
    subst (λ (z : List Token). AreVars (x ∷ ts) z (name ∷ more)) (sym e) (subst (λ (z : List (List ℕ)). AreVars (x ∷ ts) ts (name ∷ z)) (sym f) (LastVar is))
vars_onto x ts behind name more is (inr r) = MoreVars is r

-- behind one more column, back to the columns before it
pub column_back : (ds : List Declaration) (read : List Found) (t : Found) (ts : List Token) (query : Written) → ColumnsRest ds (read ++ t ∷ []) ts query
    → ColumnsRest ds read (token_of t ∷ ts) query
column_back ds read t ts query r =
    let l = last_name read t r.names r.read_are in record {
      names = l.front;
      more = l.name ∷ r.more;
      behind = r.behind;
      read_are = l.front_is;
      goes = inr (vars_onto (token_of t) ts r.behind l.name r.more l.is r.goes);
      all = r.all ∙ ap (λ (z : List (List ℕ)). These (z ++ r.more)) l.cut ∙ ap These (append_assoc l.front (l.name ∷ []) r.more);
      braces = r.braces;
    }

-- and back to SELECT
pub first_column_back : (ds : List Declaration) (t : Found) (ts : List Token) (query : Written) → ColumnsRest ds (t ∷ []) ts query → SelectRest ds (token_of t ∷ ts) query
first_column_back ds t ts query r =
    let l = last_name [] t r.names r.read_are in
    by l.front l.front_is l.name l.is l.cut
  where
    by : (front : List (List ℕ)) → AreNames [] front → (name : List ℕ) → IsVar (token_of t) name → r.names ≡ front ++ name ∷ [] → SelectRest ds (token_of t ∷ ts) query
    by [] h name is e = record {
      behind = r.behind;
      columns = subst (AreColumns (token_of t ∷ ts) r.behind) (sym (r.all ∙ ap (λ (z : List (List ℕ)). These (z ++ r.more)) e))
          (Vars (vars_onto (token_of t) ts r.behind name r.more is r.goes));
      braces = r.braces;
    }
    by (n ∷ ns) h name is e = absurd h

-- ---- WHERE and the opening brace

pub where_back : (ds : List Declaration) (x : Token) (ts : List Token) (triples : List Triple) → IsWord (codes "WHERE") x → OpeningRest ds ts triples
    → BracesRest ds (x ∷ ts) triples
where_back ds x ts triples is r = record {
  opening = r.opening;
  inner = r.inner;
  where_is = subst (λ (z : List Token). IsWhere (x ∷ z) (r.opening ∷ r.inner)) (sym r.cut) (Where is);
  opening_is = r.is;
  tail = r.tail;
}

pub brace_back : (ds : List Declaration) (x : Token) (ts : List Token) (triples : List Triple) → IsSymbol (codes "{") x → Tail ds ts triples → BracesRest ds (x ∷ ts) triples
brace_back ds x ts triples is r = record { opening = x; inner = ts; where_is = NoWhere; opening_is = is; tail = r }

pub opening_back : (ds : List Declaration) (x : Token) (ts : List Token) (triples : List Triple) → IsSymbol (codes "{") x → Tail ds ts triples → OpeningRest ds (x ∷ ts) triples
opening_back ds x ts triples is r = record { opening = x; inner = ts; cut = refl; is = is; tail = r }
