-- What completes a query from each place within its triples, and how the grammar goes on from there by one rule.
use Rattle.std.proofs.Common.{◌≡◌, ◌⊎◌, List, [], ◌∷◌, ◌++◌, refl, sym, ap, subst, ◌∙◌, inl, inr, append_assoc}
use Rattle.std.specs.Prelude.{codes}
use Rattle.std.proofs.lemmas.List.{append-nil}
use Rattle.query_text.specs.Tokens.{Token}
use Rattle.query_text.specs.Grammar.{Declaration, Node, Triple, triple, IsSymbol, IsNode, IsVerb, AreObjects, LastObject, MoreObjects, AreFurther, NoFurther, EmptyFurther, MoreFurther, HaveSameSubject, AreTriples, NoTriples, LastTriples, MoreTriples}

-- triples and the closing brace
pub record Tail (ds : List Declaration) (ts : List Token) (more : List Triple) : Type 0 where
  pub closing : Token
  pub are : AreTriples ds ts (closing ∷ []) more
  pub is : IsSymbol (codes "}") closing

-- behind all triples of one subject: the closing brace, or a dot and more triples
pub data AfterGroup (ds : List Declaration) : List Token → List Triple → Type 0 where
  ends : {closing : Token} → IsSymbol (codes "}") closing → AfterGroup ds (closing ∷ []) []
  goes_on : {dot : Token} {rest : List Token} {more : List Triple} → IsSymbol (codes ".") dot → Tail ds rest more → AfterGroup ds (dot ∷ rest) more

-- behind an object and no comma
pub record FurtherRest (ds : List Declaration) (s : Node) (ts : List Token) (more : List Triple) : Type 0 where
  pub behind : List Token
  pub others : List Triple
  pub last : List Triple
  pub further : AreFurther ds s ts behind others
  pub after : AfterGroup ds behind last
  pub all : more ≡ others ++ last

-- behind a verb
pub record ObjectsRest (ds : List Declaration) (s v : Node) (ts : List Token) (more : List Triple) : Type 0 where
  pub behind : List Token
  pub first : List Triple
  pub others : List Triple
  pub objects : AreObjects ds s v ts behind first
  pub rest : FurtherRest ds s behind others
  pub all : more ≡ first ++ others

-- behind a subject
pub record SubjectRest (ds : List Declaration) (s : Node) (ts : List Token) (more : List Triple) : Type 0 where
  pub verb : Node
  pub behind : List Token
  pub verb_is : IsVerb ds ts behind verb
  pub rest : ObjectsRest ds s verb behind more

-- behind an object
pub data ObjectRest (ds : List Declaration) (s v o : Node) : List Token → List Triple → Type 0 where
  at_comma : {comma : Token} {rest : List Token} {others : List Triple} → IsSymbol (codes ",") comma → ObjectsRest ds s v rest others
      → ObjectRest ds s v o (comma ∷ rest) (triple s v o ∷ others)
  at_other : {ts : List Token} {others : List Triple} → FurtherRest ds s ts others → ObjectRest ds s v o ts (triple s v o ∷ others)

-- the place of a node
pub data Place : Type 0 where
  AtSubject : Place
  AtObject : Node → Node → Place

abbrev pub NodeRest : List Declaration → Place → Node → List Token → List Triple → Type 0
NodeRest ds AtSubject node ts more = SubjectRest ds node ts more
NodeRest ds (AtObject s v) node ts more = ObjectRest ds s v node ts more

-- before a node
pub record FirstRest (ds : List Declaration) (place : Place) (ts : List Token) (more : List Triple) : Type 0 where
  pub node : Node
  pub behind : List Token
  pub node_is : IsNode ds ts behind node
  pub rest : NodeRest ds place node behind more

-- ---- objects

pub objects_split : (ds : List Declaration) (s v : Node) (ts behind : List Token) (first others more : List Triple) → AreObjects ds s v ts behind first
    → FurtherRest ds s behind others → more ≡ first ++ others → FirstRest ds (AtObject s v) ts more
objects_split ds s v ts behind _ others more (LastObject {object} is) rest all =
    record { node = object; behind = behind; node_is = is; rest = subst (ObjectRest ds s v object behind) (sym all) (at_other rest) }
objects_split ds s v ts behind _ others more (MoreObjects {rest = next} {comma} {object} {others = then} is symbol objects) rest all =
    record {
      node = object;
      behind = comma ∷ next;
      node_is = is;
      rest = subst (ObjectRest ds s v object (comma ∷ next)) (sym all)
          (at_comma symbol (record { behind = behind; first = then; others = others; objects = objects; rest = rest; all = refl }));
    }

pub objects_first : (ds : List Declaration) (s v : Node) (ts : List Token) (more : List Triple) → ObjectsRest ds s v ts more → FirstRest ds (AtObject s v) ts more
objects_first ds s v ts more r = objects_split ds s v ts r.behind r.first r.others more r.objects r.rest r.all

onto_objects : (ds : List Declaration) (s v o : Node) (ts behind : List Token) (more : List Triple) → IsNode ds ts behind o → ObjectRest ds s v o behind more
    → ObjectsRest ds s v ts more
onto_objects ds s v o ts _ _ is (at_comma {comma} {rest} {others} symbol r) =
    record { behind = r.behind; first = triple s v o ∷ r.first; others = r.others; objects = MoreObjects is symbol r.objects; rest = r.rest; all = ap (λ (x : List Triple). triple s v o ∷ x) r.all }
onto_objects ds s v o ts behind _ is (at_other {others = others} r) =
    record { behind = behind; first = triple s v o ∷ []; others = others; objects = LastObject is; rest = r; all = refl }

pub first_objects : (ds : List Declaration) (s v : Node) (ts : List Token) (more : List Triple) → FirstRest ds (AtObject s v) ts more → ObjectsRest ds s v ts more
first_objects ds s v ts more r = onto_objects ds s v r.node ts r.behind more r.node_is r.rest

-- ---- behind the objects

-- a semicolon, and then nothing or properties
pub record AtSemicolon (ds : List Declaration) (s : Node) (ts : List Token) (more : List Triple) : Type 0 where
  pub semicolon : Token
  pub rest : List Token
  pub cut : ts ≡ semicolon ∷ rest
  pub is : IsSymbol (codes ";") semicolon
  pub goes : FurtherRest ds s rest more ⊎ SubjectRest ds s rest more

further_split : (ds : List Declaration) (s : Node) (ts behind : List Token) (others last more : List Triple) → AreFurther ds s ts behind others → AfterGroup ds behind last
    → more ≡ others ++ last → AfterGroup ds ts more ⊎ AtSemicolon ds s ts more
further_split ds s _ behind _ last more NoFurther after all = inl (subst (AfterGroup ds behind) (sym all) after)
further_split ds s _ behind others last more (EmptyFurther {rest} {semicolon} is further) after all =
    inr (record {
      semicolon = semicolon;
      rest = rest;
      cut = refl;
      is = is;
      goes = inl (record { behind = behind; others = others; last = last; further = further; after = after; all = all });
    })
further_split ds s _ behind _ last more (MoreFurther {tokens} {rest} {semicolon = semicolon} {first} {others} is properties further) after all =
    inr (record {
      semicolon = semicolon;
      rest = tokens;
      cut = refl;
      is = is;
      goes = inr (record {
        verb = properties.verb;
        behind = properties.rest;
        verb_is = properties.verb_is;
        rest = record {
          behind = rest;
          first = first;
          others = others ++ last;
          objects = properties.objects_are;
          rest = record { behind = behind; others = others; last = last; further = further; after = after; all = refl };
          all = all ∙ append_assoc first others last;
        };
      });
    })

pub further_first : (ds : List Declaration) (s : Node) (ts : List Token) (more : List Triple) → FurtherRest ds s ts more → AfterGroup ds ts more ⊎ AtSemicolon ds s ts more
further_first ds s ts more r = further_split ds s ts r.behind r.others r.last more r.further r.after r.all

pub after_further : (ds : List Declaration) (s : Node) (ts : List Token) (more : List Triple) → AfterGroup ds ts more → FurtherRest ds s ts more
after_further ds s ts more after = record { behind = ts; others = []; last = more; further = NoFurther; after = after; all = refl }

pub empty_further : (ds : List Declaration) (s : Node) (semicolon : Token) (rest : List Token) (more : List Triple) → IsSymbol (codes ";") semicolon
    → FurtherRest ds s rest more → FurtherRest ds s (semicolon ∷ rest) more
empty_further ds s semicolon rest more is r =
    record { behind = r.behind; others = r.others; last = r.last; further = EmptyFurther is r.further; after = r.after; all = r.all }

pub more_further : (ds : List Declaration) (s : Node) (semicolon : Token) (rest : List Token) (more : List Triple) → IsSymbol (codes ";") semicolon
    → SubjectRest ds s rest more → FurtherRest ds s (semicolon ∷ rest) more
more_further ds s semicolon rest more is r =
    let o = r.rest in
    let f = o.rest in record {
      behind = f.behind;
      others = o.first ++ f.others;
      last = f.last;
      further = MoreFurther is (record { verb = r.verb; rest = r.behind; verb_is = r.verb_is; objects_are = o.objects }) f.further;
      after = f.after;
      all = o.all ∙ ap (λ (x : List Triple). o.first ++ x) f.all ∙ sym (append_assoc o.first f.others f.last);
    }

-- ---- triples

group_first : (ds : List Declaration) (ts behind : List Token) (triples last more : List Triple) → HaveSameSubject ds ts behind triples → AfterGroup ds behind last
    → more ≡ triples ++ last → FirstRest ds AtSubject ts more
group_first ds ts behind triples last more g after all = record {
  node = g.subject;
  behind = g.properties;
  node_is = g.subject_is;
  rest = record {
    verb = g.first_are.verb;
    behind = g.first_are.rest;
    verb_is = g.first_are.verb_is;
    rest = record {
      behind = g.further;
      first = g.first;
      others = g.others ++ last;
      objects = g.first_are.objects_are;
      rest = record { behind = behind; others = g.others; last = last; further = g.others_are; after = after; all = refl };
      all = all ∙ ap (λ (x : List Triple). x ++ last) g.triples_are ∙ append_assoc g.first g.others last;
    };
  };
}

pub record AtClosing (ts : List Token) (more : List Triple) : Type 0 where
  pub closing : Token
  pub cut : ts ≡ closing ∷ []
  pub is : IsSymbol (codes "}") closing
  pub nothing : more ≡ []

tail_split : (ds : List Declaration) (ts : List Token) (closing : Token) (behind : List Token) (more : List Triple) → behind ≡ closing ∷ [] → AreTriples ds ts behind more
    → IsSymbol (codes "}") closing → AtClosing ts more ⊎ FirstRest ds AtSubject ts more
tail_split ds _ closing behind _ e NoTriples is = inl (record { closing = closing; cut = e; is = is; nothing = refl })
tail_split ds ts closing behind more e (LastTriples g) is =
    inr (group_first ds ts behind more [] more g (subst (λ (x : List Token). AfterGroup ds x []) (sym e) (ends is)) (sym (append-nil more)))
tail_split ds ts closing behind _ e (MoreTriples {rest} {dot = dot} {first} {others} g symbol triples) is =
    inr (group_first ds ts (dot ∷ rest) first others (first ++ others) g
    (goes_on symbol (record { closing = closing; are = subst (λ (x : List Token). AreTriples ds rest x others) e triples; is = is })) refl)

pub tail_first : (ds : List Declaration) (ts : List Token) (more : List Triple) → Tail ds ts more → AtClosing ts more ⊎ FirstRest ds AtSubject ts more
tail_first ds ts more t = tail_split ds ts t.closing (t.closing ∷ []) more refl t.are t.is

pub closing_tail : (ds : List Declaration) (closing : Token) → IsSymbol (codes "}") closing → Tail ds (closing ∷ []) []
closing_tail ds closing is = record { closing = closing; are = NoTriples; is = is }

group_tail : (ds : List Declaration) (ts behind : List Token) (triples last more : List Triple) → HaveSameSubject ds ts behind triples → AfterGroup ds behind last
    → more ≡ triples ++ last → Tail ds ts more
group_tail ds ts _ triples _ more g (ends {closing} is) all =
    record { closing = closing; are = subst (λ (x : List Triple). AreTriples ds ts (closing ∷ []) x) (sym (all ∙ append-nil triples)) (LastTriples g); is = is }
group_tail ds ts _ triples last more g (goes_on symbol t) all =
    record { closing = t.closing; are = subst (λ (x : List Triple). AreTriples ds ts (t.closing ∷ []) x) (sym all) (MoreTriples g symbol t.are); is = t.is }

pub first_tail : (ds : List Declaration) (ts : List Token) (more : List Triple) → FirstRest ds AtSubject ts more → Tail ds ts more
first_tail ds ts more r =
    let s = r.rest in
    let o = s.rest in
    let f = o.rest in
    group_tail ds ts f.behind (o.first ++ f.others) f.last more (record {
      subject = r.node;
      properties = r.behind;
      further = o.behind;
      first = o.first;
      others = f.others;
      subject_is = r.node_is;
      first_are = record { verb = s.verb; rest = s.behind; verb_is = s.verb_is; objects_are = o.objects };
      others_are = f.further;
      triples_are = refl;
    }) f.after (o.all ∙ ap (λ (x : List Triple). o.first ++ x) f.all ∙ sym (append_assoc o.first f.others f.last))
