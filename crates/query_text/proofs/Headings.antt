-- The machine takes each token with which a query goes on, from the first token to the last.
use Rattle.std.proofs.Common.{◌≡◌, ◌⊎◌, ℕ, Bool, true, false, List, [], ◌∷◌, ◌++◌, Some, refl, sym, ap, subst, ◌∙◌, inl, inr, append_assoc, arith, length, length-append}
use Rattle.std.specs.Prelude.{codes}
use Rattle.std.proofs.lemmas.List.{append-nil}
use Rattle.std.specs.Char.{encode_utf8}
use Rattle.std.specs.Str.{encode_utf8_all}
use Rattle.std.proofs.lemmas.Str.{length-encode, len_utf8_bounds}
use Rattle.query_text.specs.declared.token.Token.{Token as Found}
use Rattle.query_text.specs.declared.class.Class.{Class}
use Rattle.query_text.specs.declared.class.Class.TheVariants as classes
use Rattle.query_text.specs.declared.class.Declaration.{Declaration as Declared}
use Rattle.query_text.specs.declared.phase.Triple.{Triple as RawTriple}
use Rattle.query_text.specs.declared.phase.Phase.{Phase}
use Rattle.query_text.specs.declared.phase.Phase.TheVariants as phases
use Rattle.query_text.specs.declared.phase.Said.{Said}
use Rattle.query_text.specs.declared.phase.Said.TheVariants as said
use Rattle.query_text.specs.declared.phase.Move.{Move}
use Rattle.query_text.specs.Tokens.{Token, IsPrefixedName}
use Rattle.query_text.specs.Grammar.{Declaration, Node, Triple, triple, Columns, All, These, Written, IsWord, IsSymbol, IsVar, IsIrirefToken, IsPrefixedNameToken, IsPrologue, EndOfPrologue, PrefixDecl, AreVars, LastVar, MoreVars, AreColumns, Star, Vars, IsWhere, NoWhere, Where, IsQuery}
use Rattle.query_text.specs.Reading.{token_of}
use Rattle.query_text.specs.Parsing.{State, start, step, noted, applied, decide, prologue, star as star', columns as columns', is_empty, is_declared, prefix_at, local_at}
use Rattle.query_text.specs.Saying.{AreDeclared, AreNames, ColumnsAre, NodeIs, AreTriplesOf}
use Rattle.query_text.proofs.Classes.{class, class_of_var, class_of_iriref, class_of_name, class_of_symbol, class_of_prefix, class_of_select, class_of_where, star, opening}
use Rattle.query_text.proofs.Prefixes.{local_is}
use Rattle.query_text.proofs.Rests.{Tail}
use Rattle.query_text.proofs.Moves.{PhaseRest, Adds, token_taken}

cut_head : {x y : Token} {xs ys : List Token} → x ∷ xs ≡ y ∷ ys → x ≡ y
cut_head e = cc

cut_tail : {x y : Token} {xs ys : List Token} → x ∷ xs ≡ y ∷ ys → xs ≡ ys
cut_tail e = cc

-- ---- what completes a query

-- behind the columns
pub record BracesRest (ds : List Declaration) (ts : List Token) (triples : List Triple) : Type 0 where
  pub opening : Token
  pub inner : List Token
  pub where_is : IsWhere ts (opening ∷ inner)
  pub opening_is : IsSymbol (codes "{") opening
  pub tail : Tail ds inner triples

-- behind WHERE
pub record OpeningRest (ds : List Declaration) (ts : List Token) (triples : List Triple) : Type 0 where
  pub opening : Token
  pub inner : List Token
  pub cut : ts ≡ opening ∷ inner
  pub is : IsSymbol (codes "{") opening
  pub tail : Tail ds inner triples

-- behind SELECT
pub record SelectRest (ds : List Declaration) (ts : List Token) (query : Written) : Type 0 where
  pub behind : List Token
  pub columns : AreColumns ts behind query.columns
  pub braces : BracesRest ds behind query.triples

-- behind whole declarations
pub record PrologueRest (ds : List Declaration) (ts : List Token) (query : Written) : Type 0 where
  pub select : Token
  pub rest : List Token
  pub others : List Declaration
  pub prologue : IsPrologue ts (select ∷ rest) others
  pub select_is : IsWord (codes "SELECT") select
  pub goes : SelectRest (ds ++ others) rest query

abbrev pub declaration : List ℕ → List ℕ → Declaration
declaration name iri = record { «prefix» = name; iri = iri }

-- behind PREFIX and the prefix
pub record IriRest (ds : List Declaration) (name : List ℕ) (ts : List Token) (query : Written) : Type 0 where
  pub bracketed : Token
  pub rest : List Token
  pub iri : List ℕ
  pub cut : ts ≡ bracketed ∷ rest
  pub iri_is : IsIrirefToken bracketed iri
  pub goes : PrologueRest (ds ++ declaration name iri ∷ []) rest query

-- behind PREFIX
pub record NameRest (ds : List Declaration) (ts : List Token) (query : Written) : Type 0 where
  pub token : Token
  pub rest : List Token
  pub name : List ℕ
  pub cut : ts ≡ token ∷ rest
  pub name_is : IsPrefixedNameToken token name []
  pub goes : IriRest ds name rest query

-- more columns, or none
pub record ColumnsRest (ds : List Declaration) (read : List Found) (ts : List Token) (query : Written) : Type 0 where
  pub names : List (List ℕ)
  pub more : List (List ℕ)
  pub behind : List Token
  pub read_are : AreNames read names
  pub goes : ((behind ≡ ts) × (more ≡ [])) ⊎ AreVars ts behind more
  pub all : query.columns ≡ These (names ++ more)
  pub braces : BracesRest ds behind query.triples

-- within the triples: those that were read, and those that complete the query
pub record TriplesRest (ds : List Declaration) (state : State) (ts : List Token) (query : Written) : Type 0 where
  pub done : List Triple
  pub more : List Triple
  pub columns : ColumnsAre state.all state.columns query.columns
  pub done_are : AreTriplesOf ds state.triples done
  pub goes : PhaseRest ds state.phase ts more
  pub all : query.triples ≡ done ++ more

-- nothing was said yet but declarations
pub record IsFresh (state : State) : Type 0 where
  pub all : state.all ≡ false
  pub columns : state.columns ≡ []
  pub triples : state.triples ≡ []

abbrev pub RestBy : Phase → List Declaration → State → List Token → Written → Type 0
RestBy phases.Prologue ds state ts query = IsFresh state × PrologueRest ds ts query
RestBy phases.Prefix ds state ts query = IsFresh state × NameRest ds ts query
RestBy (phases.PrefixName t) ds state ts query = IsFresh state × ((name : List ℕ) × IsPrefixedNameToken (token_of t) name [] × IriRest ds name ts query)
RestBy phases.Select ds state ts query = IsFresh state × SelectRest ds ts query
RestBy phases.Star ds state ts query = (state.all ≡ true) × (state.triples ≡ []) × (query.columns ≡ All) × BracesRest ds ts query.triples
RestBy phases.Columns ds state ts query = (state.all ≡ false) × (state.triples ≡ []) × ColumnsRest ds state.columns ts query
RestBy phases.Where ds state ts query = (state.triples ≡ []) × ColumnsAre state.all state.columns query.columns × OpeningRest ds ts query.triples
RestBy _ ds state ts query = TriplesRest ds state ts query

-- what completes a query from a state
pub record Rest (state : State) (ts : List Token) (query : Written) : Type 0 where
  pub ds : List Declaration
  pub declared : AreDeclared state.declarations ds
  pub goes : RestBy state.phase ds state ts query

-- the whole query completes the start
pub start_rest : (ts : List Token) (query : Written) → IsQuery ts query → Rest start ts query
start_rest ts query q = record {
  ds = [];
  declared = tt;
  goes = (
    record { all = refl; columns = refl; triples = refl },
    record {
      select = q.select;
      rest = q.columns;
      others = q.declarations;
      prologue = q.prologue_is;
      select_is = q.select_is;
      goes = record {
        behind = q.behind_columns;
        columns = q.columns_are;
        braces = record { opening = q.opening; inner = q.triples; where_is = q.where_is; opening_is = q.opening_is; tail = record { closing = q.closing; are = q.triples_are; is = q.closing_is } };
      };
    },
  );
}

pub rest_start : (ts : List Token) (query : Written) → PrologueRest [] ts query → IsQuery ts query
rest_start ts query r =
    let s = r.goes in
    let b = s.braces in record {
      select = r.select;
      opening = b.opening;
      closing = b.tail.closing;
      columns = r.rest;
      behind_columns = s.behind;
      triples = b.inner;
      declarations = r.others;
      prologue_is = r.prologue;
      select_is = r.select_is;
      columns_are = s.columns;
      where_is = b.where_is;
      opening_is = b.opening_is;
      triples_are = b.tail.are;
      closing_is = b.tail.is;
    }

-- ---- one token

-- the machine goes on, and the rest completes the query from there
pub record Goes (state : State) (t : Found) (ts : List Token) (query : Written) : Type 0 where
  pub next : State
  pub is : step state t ≡ Some next
  pub rest : Rest next ts query

goes_by : (state : State) (t : Found) (ts : List Token) (query : Written) (m : Move) → decide state.phase (class state.declarations (token_of t)) t ≡ Some m
    → Rest (record (noted state m.said) { phase = m.phase }) ts query → Goes state t ts query
goes_by state t ts query m e rest =
    record { next = record (noted state m.said) { phase = m.phase }; is = ap (applied state) e; rest = rest }

-- ---- within the triples

pub triples_push : (ds : List Declaration) (rs : List RawTriple) (ts : List Triple) (r : RawTriple) (s p o : Node) → AreTriplesOf ds rs ts → NodeIs ds r.subject s
    → NodeIs ds r.predicate p → NodeIs ds r.object o → AreTriplesOf ds (rs ++ r ∷ []) (ts ++ triple s p o ∷ [])
triples_push ds [] [] r s p o h a b c = (a, b, c, tt)
triples_push ds [] (t ∷ ts) r s p o h a b c = absurd h
triples_push ds (x ∷ rs) [] r s p o h a b c = absurd h
triples_push ds (x ∷ rs) (t ∷ ts) r s p o h a b c = (h.0, h.1, h.2, triples_push ds rs ts r s p o h.3 a b c)

in_triples : (ds : List Declaration) (state : State) (phase : Phase) (ts : List Token) (query : Written) (next : List Triple) → PhaseRest ds phase ts next
    → TriplesRest ds state ts query → RestBy phase ds state ts query
in_triples ds state phases.Prologue ts query next r t = absurd r
in_triples ds state phases.Prefix ts query next r t = absurd r
in_triples ds state (phases.PrefixName x) ts query next r t = absurd r
in_triples ds state phases.Select ts query next r t = absurd r
in_triples ds state phases.Star ts query next r t = absurd r
in_triples ds state phases.Columns ts query next r t = absurd r
in_triples ds state phases.Where ts query next r t = absurd r
in_triples ds state _ ts query next r t = t

triples_on : (ds : List Declaration) (state : State) (t : Found) (ts : List Token) (query : Written) (done more : List Triple) → AreDeclared state.declarations ds
    → ColumnsAre state.all state.columns query.columns → AreTriplesOf ds state.triples done → query.triples ≡ done ++ more → (m : Move) (next : List Triple)
    → decide state.phase (class state.declarations (token_of t)) t ≡ Some m → PhaseRest ds m.phase ts next → Adds ds m.said more next → Goes state t ts query
triples_on ds state t ts query done more declared columns are all m next e rest adds = by m.said refl adds
  where
    by : (what : Said) → m.said ≡ what → Adds ds what more next → Goes state t ts query
    by said.Nothing same k =
        let move : decide state.phase (class state.declarations (token_of t)) t ≡ Some (record { phase = m.phase; said = said.Nothing }) =
        e ∙ ap (λ (x : Said). Some (record { phase = m.phase; said = x })) same in
        goes_by state t ts query (record { phase = m.phase; said = said.Nothing }) move (record {
          ds = ds;
          declared = declared;
          goes = in_triples ds (record state { phase = m.phase }) m.phase ts query next rest
              (record { done = done; more = next; columns = columns; done_are = are; goes = rest; all = all ∙ ap (λ (x : List Triple). done ++ x) k });
        })
    by (said.Triple r) same k =
        let move : decide state.phase (class state.declarations (token_of t)) t ≡ Some (record { phase = m.phase; said = said.Triple r }) =
        e ∙ ap (λ (x : Said). Some (record { phase = m.phase; said = x })) same in
        goes_by state t ts query (record { phase = m.phase; said = said.Triple r }) move (record {
          ds = ds;
          declared = declared;
          goes = in_triples ds (record (noted state (said.Triple r)) { phase = m.phase }) m.phase ts query next rest (record {
            done = done ++ triple k.0 k.1 k.2 ∷ [];
            more = next;
            columns = columns;
            done_are = triples_push ds state.triples done r k.0 k.1 k.2 are k.3 k.4 k.5;
            goes = rest;
            all = all ∙ ap (λ (x : List Triple). done ++ x) k.6 ∙ sym (append_assoc done (triple k.0 k.1 k.2 ∷ []) next);
          });
        })
    by (said.Declaration d) same k = absurd k
    by said.AllColumns same k = absurd k
    by (said.Column x) same k = absurd k

triples_goes : (ds : List Declaration) (state : State) (t : Found) (ts : List Token) (query : Written) → AreDeclared state.declarations ds
    → TriplesRest ds state (token_of t ∷ ts) query → Goes state t ts query
triples_goes ds state t ts query declared r =
    let takes = token_taken state.declarations ds declared state.phase t ts r.more r.goes in
    triples_on ds state t ts query r.done r.more declared r.columns r.done_are r.all takes.move takes.next takes.is takes.rest takes.adds

-- ---- the opening brace

data WhereCase (x : Token) (ts : List Token) (opening : Token) (inner : List Token) : Type 0 where
  no_where : opening ≡ x → inner ≡ ts → WhereCase x ts opening inner
  a_where : IsWord (codes "WHERE") x → ts ≡ opening ∷ inner → WhereCase x ts opening inner

where_case : (x : Token) (ts : List Token) (opening : Token) (inner : List Token) → IsWhere (x ∷ ts) (opening ∷ inner) → WhereCase x ts opening inner
where_case x ts _ _ NoWhere = no_where refl refl
where_case x _ brace inner (Where h) = a_where h refl

-- what a state that has read the columns becomes
abbrev Opened : List Declaration → State → List Token → Written → Type 0
Opened ds state ts query = ColumnsAre state.all state.columns query.columns × (state.triples ≡ [])

open_triples : (ds : List Declaration) (state : State) (ts : List Token) (query : Written) → AreDeclared state.declarations ds → Opened ds state ts query
    → Tail ds ts query.triples → Rest (record state { phase = phases.Triples }) ts query
open_triples ds state ts query declared o tail = record {
  ds = ds;
  declared = declared;
  goes = record {
    done = [];
    more = query.triples;
    columns = o.0;
    done_are = subst (λ (x : List RawTriple). AreTriplesOf ds x []) (sym o.1) tt;
    goes = tail;
    all = refl;
  };
}

braces_goes : (ds : List Declaration) (state : State) (t : Found) (ts : List Token) (query : Written) → AreDeclared state.declarations ds → Opened ds state ts query
    → ((c : Class) (m : Move) → star' c ≡ Some m → decide state.phase c t ≡ Some m) → BracesRest ds (token_of t ∷ ts) query.triples → Goes state t ts query
braces_goes ds state t ts query declared o as_star b = by (where_case (token_of t) ts b.opening b.inner b.where_is)
  where
    by : WhereCase (token_of t) ts b.opening b.inner → Goes state t ts query
    by (no_where e f) =
        let is : IsSymbol (codes "{") (token_of t) = subst (IsSymbol (codes "{")) e b.opening_is in
        let c : class state.declarations (token_of t) ≡ classes.Opening = class_of_symbol state.declarations (token_of t) (codes "{") is ∙ opening in
        let m : Move = record { phase = phases.Triples; said = said.Nothing } in
        goes_by state t ts query m (as_star (class state.declarations (token_of t)) m (ap star' c))
        (open_triples ds state ts query declared o (subst (λ (x : List Token). Tail ds x query.triples) f b.tail))
    by (a_where is e) =
        let m : Move = record { phase = phases.Where; said = said.Nothing } in
        goes_by state t ts query m (as_star (class state.declarations (token_of t)) m (ap star' (class_of_where state.declarations (token_of t) is)))
        (record { ds = ds; declared = declared; goes = (o.1, o.0, record { opening = b.opening; inner = b.inner; cut = e; is = b.opening_is; tail = b.tail }) })

-- ---- columns

record VarCase (x : Token) (ts behind : List Token) (names : List (List ℕ)) : Type 0 where
  name : List ℕ
  others : List (List ℕ)
  is : IsVar x name
  all : names ≡ name ∷ others
  goes : ((behind ≡ ts) × (others ≡ [])) ⊎ AreVars ts behind others

var_case : (x : Token) (ts behind : List Token) (names : List (List ℕ)) → AreVars (x ∷ ts) behind names → VarCase x ts behind names
var_case x ts _ _ (LastVar {name = name} h) = record { name = name; others = []; is = h; all = refl; goes = inl (refl, refl) }
var_case x ts behind _ (MoreVars {name = name} {others = others} h r) = record { name = name; others = others; is = h; all = refl; goes = inr r }

pub names_push : (ts : List Found) (ns : List (List ℕ)) (t : Found) (n : List ℕ) → AreNames ts ns → IsVar (token_of t) n → AreNames (ts ++ t ∷ []) (ns ++ n ∷ [])
names_push [] [] t n h k = (k, tt)
names_push [] (x ∷ ns) t n h k = absurd h
names_push (y ∷ ts) [] t n h k = absurd h
names_push (y ∷ ts) (x ∷ ns) t n h k = (h.0, names_push ts ns t n h.1 k)

var_goes : (ds : List Declaration) (state : State) (t : Found) (ts behind : List Token) (query : Written) (names more : List (List ℕ)) → AreDeclared state.declarations ds
    → state.all ≡ false → state.triples ≡ [] → AreNames state.columns names → AreVars (token_of t ∷ ts) behind more → query.columns ≡ These (names ++ more)
    → BracesRest ds behind query.triples
    → decide state.phase classes.Var t ≡ Some (record { phase = phases.Columns; said = said.Column t }) → Goes state t ts query
var_goes ds state t ts behind query names more declared all triples are vars columns braces e =
    let v = var_case (token_of t) ts behind more vars in
    goes_by state t ts query (record { phase = phases.Columns; said = said.Column t })
    (ap (λ (c : Class). decide state.phase c t) (class_of_var state.declarations (token_of t) v.name v.is) ∙ e)
    (record {
      ds = ds;
      declared = declared;
      goes = (
        all,
        triples,
        record {
          names = names ++ v.name ∷ [];
          more = v.others;
          behind = behind;
          read_are = names_push state.columns names t v.name are v.is;
          goes = v.goes;
          all = columns ∙ ap (λ (x : List (List ℕ)). These (names ++ x)) v.all ∙ ap These (sym (append_assoc names (v.name ∷ []) v.others));
          braces = braces;
        },
      );
    })

star_columns : (t : Found) (c : Class) (m : Move) → star' c ≡ Some m → columns' c t ≡ Some m
star_columns t classes.Var m h = absurd cc
star_columns t _ m h = h

columns_goes : (ds : List Declaration) (state : State) (t : Found) (ts : List Token) (query : Written) → AreDeclared state.declarations ds → state.phase ≡ phases.Columns
    → state.all ≡ false → state.triples ≡ [] → ColumnsRest ds state.columns (token_of t ∷ ts) query → Goes state t ts query
columns_goes ds state t ts query declared at all triples r = by r.goes
  where
    by : ((r.behind ≡ token_of t ∷ ts) × (r.more ≡ [])) ⊎ AreVars (token_of t ∷ ts) r.behind r.more → Goes state t ts query
    by (inr vars) = var_goes ds state t ts r.behind query r.names r.more declared all triples r.read_are vars r.all r.braces
        (ap (λ (p : Phase). decide p classes.Var t) at)
    by (inl (e, f)) =
        let columns : query.columns ≡ These r.names = r.all ∙ ap (λ (x : List (List ℕ)). These (r.names ++ x)) f ∙ ap These (append-nil r.names) in
        braces_goes ds state t ts query declared
        (subst (λ (b : Bool). ColumnsAre b state.columns query.columns) (sym all) (r.names, r.read_are, columns), triples)
        (λ c m k. ap (λ (p : Phase). decide p c t) at ∙ star_columns t c m k)
        (subst (λ (x : List Token). BracesRest ds x query.triples) e r.braces)

data ColumnsCase (x : Token) (ts behind : List Token) (columns : Columns) : Type 0 where
  a_star : IsSymbol (codes "*") x → behind ≡ ts → columns ≡ All → ColumnsCase x ts behind columns
  some_vars : (names : List (List ℕ)) → AreVars (x ∷ ts) behind names → columns ≡ These names → ColumnsCase x ts behind columns

columns_case : (x : Token) (ts behind : List Token) (columns : Columns) → AreColumns (x ∷ ts) behind columns → ColumnsCase x ts behind columns
columns_case x ts _ _ (Star h) = a_star h refl refl
columns_case x ts behind _ (Vars {names = names} h) = some_vars names h refl

select_goes : (ds : List Declaration) (state : State) (t : Found) (ts : List Token) (query : Written) → AreDeclared state.declarations ds → state.phase ≡ phases.Select
    → IsFresh state → SelectRest ds (token_of t ∷ ts) query → Goes state t ts query
select_goes ds state t ts query declared at fresh r = by (columns_case (token_of t) ts r.behind query.columns r.columns)
  where
    by : ColumnsCase (token_of t) ts r.behind query.columns → Goes state t ts query
    by (a_star is e f) =
        goes_by state t ts query (record { phase = phases.Star; said = said.AllColumns })
        (ap (λ (c : Class). decide state.phase c t) (class_of_symbol state.declarations (token_of t) (codes "*") is ∙ star) ∙ ap (λ (p : Phase). decide p classes.Star t) at)
        (record { ds = ds; declared = declared; goes = (refl, fresh.triples, f, subst (λ (x : List Token). BracesRest ds x query.triples) e r.braces) })
    by (some_vars names vars e) =
        var_goes ds state t ts r.behind query [] names declared fresh.all fresh.triples (subst (λ (x : List Found). AreNames x []) (sym fresh.columns) tt) vars e r.braces
        (ap (λ (p : Phase). decide p classes.Var t) at)

star_goes : (ds : List Declaration) (state : State) (t : Found) (ts : List Token) (query : Written) → AreDeclared state.declarations ds → state.phase ≡ phases.Star
    → state.all ≡ true → state.triples ≡ [] → query.columns ≡ All → BracesRest ds (token_of t ∷ ts) query.triples → Goes state t ts query
star_goes ds state t ts query declared at all triples columns braces =
    braces_goes ds state t ts query declared (subst (λ (b : Bool). ColumnsAre b state.columns query.columns) (sym all) columns, triples)
    (λ c m k. ap (λ (p : Phase). decide p c t) at ∙ k) braces

where_goes : (ds : List Declaration) (state : State) (t : Found) (ts : List Token) (query : Written) → AreDeclared state.declarations ds → state.phase ≡ phases.Where
    → Opened ds state ts query → OpeningRest ds (token_of t ∷ ts) query.triples → Goes state t ts query
where_goes ds state t ts query declared at o r =
    let same : token_of t ≡ r.opening = cut_head r.cut in
    let behind : ts ≡ r.inner = cut_tail r.cut in
    let is : IsSymbol (codes "{") (token_of t) = subst (IsSymbol (codes "{")) (sym same) r.is in
    goes_by state t ts query (record { phase = phases.Triples; said = said.Nothing })
    (ap (λ (c : Class). decide state.phase c t) (class_of_symbol state.declarations (token_of t) (codes "{") is ∙ opening) ∙ ap (λ (p : Phase). decide p classes.Opening t) at)
    (open_triples ds state ts query declared o (subst (λ (x : List Token). Tail ds x query.triples) (sym behind) r.tail))

-- ---- declarations

data PrologueCase (x : Token) (ts behind : List Token) (others : List Declaration) : Type 0 where
  no_more : behind ≡ x ∷ ts → others ≡ [] → PrologueCase x ts behind others
  one_more : (name bracketed : Token) (rest : List Token) («prefix» iri : List ℕ) (more : List Declaration) → IsWord (codes "PREFIX") x
      → ts ≡ name ∷ bracketed ∷ rest → IsPrefixedNameToken name «prefix» [] → IsIrirefToken bracketed iri → IsPrologue rest behind more
      → others ≡ declaration «prefix» iri ∷ more → PrologueCase x ts behind others

prologue_case : (x : Token) (ts behind : List Token) (others : List Declaration) → IsPrologue (x ∷ ts) behind others → PrologueCase x ts behind others
prologue_case x ts _ _ EndOfPrologue = no_more refl refl
prologue_case x _ behind _ (PrefixDecl {name = name} {bracketed} {rest} {«prefix» = p} {iri} {others} h k i r) =
    one_more name bracketed rest p iri others h refl k i r refl

prologue_goes : (ds : List Declaration) (state : State) (t : Found) (ts : List Token) (query : Written) → AreDeclared state.declarations ds → state.phase ≡ phases.Prologue
    → IsFresh state → PrologueRest ds (token_of t ∷ ts) query → Goes state t ts query
prologue_goes ds state t ts query declared at fresh r = by (prologue_case (token_of t) ts (r.select ∷ r.rest) r.others r.prologue)
  where
    by : PrologueCase (token_of t) ts (r.select ∷ r.rest) r.others → Goes state t ts query
    by (no_more e f) =
        let same : r.select ≡ token_of t = cut_head e in
        let behind : r.rest ≡ ts = cut_tail e in
        let is : IsWord (codes "SELECT") (token_of t) = subst (IsWord (codes "SELECT")) same r.select_is in
        let none : ds ++ r.others ≡ ds = ap (λ (x : List Declaration). ds ++ x) f ∙ append-nil ds in
        goes_by state t ts query (record { phase = phases.Select; said = said.Nothing })
        (ap (λ (c : Class). decide state.phase c t) (class_of_select state.declarations (token_of t) is) ∙ ap (λ (p : Phase). decide p classes.SelectWord t) at)
        (record {
          ds = ds;
          declared = declared;
          goes = (
            record { all = fresh.all; columns = fresh.columns; triples = fresh.triples },
            subst (λ (x : List Declaration). SelectRest x ts query) none (subst (λ (x : List Token). SelectRest (ds ++ r.others) x query) behind r.goes),
          );
        })
    by (one_more name bracketed rest p iri more is e k i prologue f) =
        goes_by state t ts query (record { phase = phases.Prefix; said = said.Nothing })
        (ap (λ (c : Class). decide state.phase c t) (class_of_prefix state.declarations (token_of t) is) ∙ ap (λ (q : Phase). decide q classes.PrefixWord t) at)
        (record {
          ds = ds;
          declared = declared;
          goes = (
            record { all = fresh.all; columns = fresh.columns; triples = fresh.triples },
            record {
              token = name;
              rest = bracketed ∷ rest;
              name = p;
              cut = e;
              name_is = k;
              goes = record {
                bracketed = bracketed;
                rest = rest;
                iri = iri;
                cut = refl;
                iri_is = i;
                goes = record {
                  select = r.select;
                  rest = r.rest;
                  others = more;
                  prologue = prologue;
                  select_is = r.select_is;
                  goes = subst (λ (x : List Declaration). SelectRest x r.rest query)
                      (ap (λ (x : List Declaration). ds ++ x) f ∙ sym (append_assoc ds (declaration p iri ∷ []) more)) r.goes;
                };
              };
            },
          );
        })

-- a prefixed name whose local part is nothing has no local part
empty_code : (letters : List ℕ) → encode_utf8_all letters ≡ [] → letters ≡ []
empty_code [] e = refl
empty_code (c ∷ letters) e =
    absurd (omega (arith, ap length e, length-append (encode_utf8 c) (encode_utf8_all letters), length-encode c, (len_utf8_bounds c).0))

bare_name : (characters name : List ℕ) → IsPrefixedName characters name [] → is_empty (local_at characters) ≡ true
bare_name characters name h = ap is_empty (local_is characters name [] h ∙ empty_code h.behind (sym h.local_is))

name_goes : (ds : List Declaration) (state : State) (t : Found) (ts : List Token) (query : Written) → AreDeclared state.declarations ds → state.phase ≡ phases.Prefix
    → IsFresh state → NameRest ds (token_of t ∷ ts) query → Goes state t ts query
name_goes ds state t ts query declared at fresh r =
    let same : token_of t ≡ r.token = cut_head r.cut in
    let behind : ts ≡ r.rest = cut_tail r.cut in
    let is : IsPrefixedNameToken (token_of t) r.name [] = subst (λ (x : Token). IsPrefixedNameToken x r.name []) (sym same) r.name_is in
    goes_by state t ts query (record { phase = phases.PrefixName t; said = said.Nothing })
    (ap (λ (c : Class). decide state.phase c t) (class_of_name state.declarations (token_of t) r.name [] is)
    ∙ ap (λ (b : Bool). decide state.phase (classes.PrefixName b (is_declared state.declarations (prefix_at t.characters.now))) t) (bare_name t.characters.now r.name is.is)
    ∙ ap (λ (p : Phase). decide p (classes.PrefixName true (is_declared state.declarations (prefix_at t.characters.now))) t) at)
    (record {
      ds = ds;
      declared = declared;
      goes = (record { all = fresh.all; columns = fresh.columns; triples = fresh.triples }, (r.name, is, subst (λ (x : List Token). IriRest ds r.name x query) (sym behind) r.goes));
    })

pub declared_push : (rs : List Declared) (ds : List Declaration) (r : Declared) (name iri : List ℕ) → AreDeclared rs ds → IsPrefixedNameToken (token_of r.name) name []
    → IsIrirefToken (token_of r.iri) iri → AreDeclared (rs ++ r ∷ []) (ds ++ declaration name iri ∷ [])
declared_push [] [] r name iri h k i = (k, i, tt)
declared_push [] (d ∷ ds) r name iri h k i = absurd h
declared_push (x ∷ rs) [] r name iri h k i = absurd h
declared_push (x ∷ rs) (d ∷ ds) r name iri h k i = (h.0, h.1, declared_push rs ds r name iri h.2 k i)

iri_goes : (ds : List Declaration) (state : State) (n t : Found) (ts : List Token) (query : Written) (name : List ℕ) → AreDeclared state.declarations ds
    → state.phase ≡ phases.PrefixName n → IsFresh state → IsPrefixedNameToken (token_of n) name [] → IriRest ds name (token_of t ∷ ts) query → Goes state t ts query
iri_goes ds state n t ts query name declared at fresh is r =
    let same : token_of t ≡ r.bracketed = cut_head r.cut in
    let behind : ts ≡ r.rest = cut_tail r.cut in
    let iri : IsIrirefToken (token_of t) r.iri = subst (λ (x : Token). IsIrirefToken x r.iri) (sym same) r.iri_is in
    let d : Declared = record { name = n; iri = t } in
    goes_by state t ts query (record { phase = phases.Prologue; said = said.Declaration d })
    (ap (λ (c : Class). decide state.phase c t) (class_of_iriref state.declarations (token_of t) r.iri iri) ∙ ap (λ (p : Phase). decide p classes.Iriref t) at)
    (record {
      ds = ds ++ declaration name r.iri ∷ [];
      declared = declared_push state.declarations ds d name r.iri declared is iri;
      goes = (
        record { all = fresh.all; columns = fresh.columns; triples = fresh.triples },
        subst (λ (x : List Token). PrologueRest (ds ++ declaration name r.iri ∷ []) x query) (sym behind) r.goes,
      );
    })

-- ---- each token with which a query goes on is taken

goes_from : (phase : Phase) (state : State) (t : Found) (ts : List Token) (query : Written) (ds : List Declaration) → state.phase ≡ phase → AreDeclared state.declarations ds
    → RestBy phase ds state (token_of t ∷ ts) query → Goes state t ts query
goes_from phases.Prologue state t ts query ds at declared r = prologue_goes ds state t ts query declared at r.0 r.1
goes_from phases.Prefix state t ts query ds at declared r = name_goes ds state t ts query declared at r.0 r.1
goes_from (phases.PrefixName n) state t ts query ds at declared r = iri_goes ds state n t ts query r.1.0 declared at r.0 r.1.1 r.1.2
goes_from phases.Select state t ts query ds at declared r = select_goes ds state t ts query declared at r.0 r.1
goes_from phases.Star state t ts query ds at declared r = star_goes ds state t ts query declared at r.0 r.1 r.2 r.3
goes_from phases.Columns state t ts query ds at declared r = columns_goes ds state t ts query declared at r.0 r.1 r.2
goes_from phases.Where state t ts query ds at declared r = where_goes ds state t ts query declared at (r.1, r.0) r.2
goes_from _ state t ts query ds at declared r = triples_goes ds state t ts query declared r

pub token_goes : (state : State) (t : Found) (ts : List Token) (query : Written) → Rest state (token_of t ∷ ts) query → Goes state t ts query
token_goes state t ts query r = goes_from state.phase state t ts query r.ds refl r.declared r.goes
