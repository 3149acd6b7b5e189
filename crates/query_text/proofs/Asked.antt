-- The terms of the query that a text says keep the rules on their characters, since the text's characters do.
use Rattle.std.proofs.Common.{◌≡◌, ℕ, ◌≤◌, arith, Bool, true, false, cond, ◌==◌, ◌⊎◌, List, [], ◌∷◌, ◌++◌, length, length-append, map, Option, Some, None, refl, sym, ap, subst, ◌∙◌, inl, inr, nat_eq}
use Rattle.std.specs.Prelude.{codes, not}
use Rattle.std.specs.Char.{to_ascii_lowercase}
use Rattle.std.specs.List.{AllByRecursion}
use Rattle.std.specs.Str.{all_scalars, encode_utf8_all}
use Rattle.std.specs.Cmp.Lexicographic.{pointwise}
use Rattle.std.proofs.Math.Utf8.{scalar}
use Rattle.std.proofs.lemmas.Bool.{and_parts}
use Rattle.std.proofs.lemmas.List.{length-map}
use Rattle.std.proofs.lemmas.Str.{length-le-encodes}
use Rattle.term_core.specs.declared.term.Term.TheVariants as terms
use Rattle.term_core.specs.Term.{IsTerm}
use Rattle.query_text.specs.Characters.{is_white, is_line_end}
use Rattle.query_text.specs.Tokens.{Token}
use Rattle.query_text.specs.Texts.{behind_gap, AreTokens}
use Rattle.query_text.specs.Grammar.{Declaration, Node, Variable, Label, Constant, Triple, Written, NamesIri, xsd_boolean, iri_for, or_else, IsWord, IsNode, NodeVar, NodeIri, NodeLabel, NodeInteger, NodeDecimal, NodeBoolean, NodeString, NodeTagged, NodeTyped, IsVerb, VerbVar, VerbIri, VerbA, AreObjects, LastObject, MoreObjects, AreProperties, AreFurther, NoFurther, EmptyFurther, MoreFurther, HaveSameSubject, AreTriples, NoTriples, LastTriples, MoreTriples, IsPrologue, EndOfPrologue, PrefixDecl, AreVars, LastVar, MoreVars, Columns, AreColumns, Star, Vars, IsWhere, NoWhere, Where}
use Rattle.query_text.specs.Meaning.{query_of, IsText, HasTerms, IsTermOrOpen, slot_of, pattern_of, names_of, labels_of}
use Rattle.query_text.proofs.TokenTexts.{AreAscii, word_ascii, integer_ascii, decimal_ascii}
use Rattle.query_text.proofs.TermTexts.{scalars_split, string_form, ascii_form, HasIriCharacters, is_iri, iriref_iri, joined_iri, string_iri, integer_iri, decimal_iri, boolean_iri, type_iri}

-- ---- tokens of a text

-- the token's characters are those of a short text
record IsPart (token : Token) : Type 0 where
  scalars : all_scalars token.characters ≡ true
  short : length token.characters ≤ 65536

abbrev AreParts : List Token → Type 0
AreParts tokens = AllByRecursion IsPart tokens

gap_scalars : (text : List ℕ) (comment : Bool) → all_scalars text ≡ true → all_scalars (behind_gap comment text) ≡ true
gap_scalars [] comment h = refl
gap_scalars (c ∷ cs) true h = gap_scalars cs (not (is_line_end c)) (and_parts (scalar c) (all_scalars cs) h).1
gap_scalars (c ∷ cs) false h = by (is_white c) (c == 35) (λ comment. gap_scalars cs comment (and_parts (scalar c) (all_scalars cs) h).1)
  where
    by : (white hash : Bool) → ((comment : Bool) → all_scalars (behind_gap comment cs) ≡ true)
        → all_scalars (cond white (behind_gap false cs) (cond hash (behind_gap true cs) (c ∷ cs))) ≡ true
    by true hash rest = rest false
    by false true rest = rest true
    by false false rest = h

gap_short : (text : List ℕ) (comment : Bool) → length (behind_gap comment text) ≤ length text
gap_short [] comment = omega arith
gap_short (c ∷ cs) true = omega (arith, gap_short cs (not (is_line_end c)))
gap_short (c ∷ cs) false = by (is_white c) (c == 35) (gap_short cs)
  where
    by : (white hash : Bool) → ((comment : Bool) → length (behind_gap comment cs) ≤ length cs)
        → length (cond white (behind_gap false cs) (cond hash (behind_gap true cs) (c ∷ cs))) ≤ length (c ∷ cs)
    by true hash rest = omega (arith, rest false)
    by false true rest = omega (arith, rest true)
    by false false rest = omega arith

are_parts : (text : List ℕ) (tokens : List Token) (rest : List ℕ) → AreTokens text tokens rest → all_scalars text ≡ true → length text ≤ 65536 → AreParts tokens
are_parts text [] rest h s short = tt
are_parts text (t ∷ tokens) rest (behind, begins, more) s short =
    let cut : all_scalars (t.characters ++ behind) ≡ true = subst (λ (x : List ℕ). all_scalars x ≡ true) begins.cut (gap_scalars text false s) in
    let parts = scalars_split t.characters behind cut in
    let long : length t.characters ≤ 65536 = omega (arith, ap length begins.cut, length-append t.characters behind, gap_short text false, short) in
    let left : length behind ≤ 65536 = omega (arith, ap length begins.cut, length-append t.characters behind, gap_short text false, short) in
    (record { scalars = parts.0; short = long }, are_parts behind tokens rest more parts.1 left)

-- ---- IRIs

abbrev AreIris : List Declaration → Type 0
AreIris ds = AllByRecursion (λ (d : Declaration). HasIriCharacters d.iri) ds

none_some : {base : List ℕ} → None ≡ Some base → ⊥
none_some e = cc

some_same : {one other : List ℕ} → Some one ≡ Some other → one ≡ other
some_same e = cc

base_iri : (ds : List Declaration) (name base : List ℕ) → AreIris ds → iri_for ds name ≡ Some base → HasIriCharacters base
base_iri [] name base h e = absurd (none_some e)
base_iri (d ∷ ds) name base h e = by (iri_for ds name) (pointwise nat_eq d.«prefix» name) (λ b k. base_iri ds name b h.1 k) refl e
  where
    by : (found : Option (List ℕ)) (here : Bool) → ((b : List ℕ) → iri_for ds name ≡ Some b → HasIriCharacters b) → iri_for ds name ≡ found
        → or_else found (cond here (Some d.iri) None) ≡ Some base → HasIriCharacters base
    by (Some b) here rest is e = subst HasIriCharacters (some_same e) (rest b is)
    by None true rest is e = subst HasIriCharacters (some_same e) h.0
    by None false rest is e = absurd (none_some e)

names_iri : (ds : List Declaration) (token : Token) (iri : List ℕ) → AreIris ds → IsPart token → NamesIri ds token iri → HasIriCharacters iri
names_iri ds token iri h part (inl i) = iriref_iri token.characters iri i.is part.scalars
names_iri ds token iri h part (inr r) =
    let name = r.name_is.is in
    let cut = scalars_split name.before (58 ∷ name.behind) (subst (λ (x : List ℕ). all_scalars x ≡ true) name.spelled part.scalars) in
    let letters : all_scalars name.behind ≡ true = (and_parts (scalar 58) (all_scalars name.behind) cut.1).1 in
    subst HasIriCharacters (ap (λ (x : List ℕ). r.base ++ x) (sym name.local_is) ∙ sym r.iri_is)
    (joined_iri r.base name.behind (base_iri ds r.«prefix» r.base h r.declared) letters name.behind_is)

-- ---- from the tokens of a rule to what it says, and to the tokens behind it

abbrev IsGood : Node → Type 0
IsGood (Variable name) = Unit {0}
IsGood (Label label) = Unit {0}
IsGood (Constant term) = IsTerm term

abbrev AreGood : List Triple → Type 0
AreGood triples = AllByRecursion (λ (t : Triple). IsGood t.subject × IsGood t.predicate × IsGood t.object) triples

good_append : (xs ys : List Triple) → AreGood xs → AreGood ys → AreGood (xs ++ ys)
good_append [] ys h k = k
good_append (x ∷ xs) ys h k = (h.0, good_append xs ys h.1 k)

word_form : (word : List ℕ) (token : Token) → IsWord word token → IsPart token → word ≡ codes "TRUE" ⊎ word ≡ codes "FALSE" → IsTerm (terms.Literal (map to_ascii_lowercase token.characters) xsd_boolean)
word_form word token is part known = (ascii_form (map to_ascii_lowercase token.characters) (low known) short, boolean_iri)
  where
    short : length (map to_ascii_lowercase token.characters) ≤ 65536
    short = let same = length-map token.characters to_ascii_lowercase in omega (arith, same, part.short)

    low : word ≡ codes "TRUE" ⊎ word ≡ codes "FALSE" → AreAscii (map to_ascii_lowercase token.characters)
    low (inl e) = word_ascii (codes "TRUE") token.characters refl (is.letters ∙ e)
    low (inr e) = word_ascii (codes "FALSE") token.characters refl (is.letters ∙ e)

module _ (ds : List Declaration) (iris : AreIris ds) where
  node_good : (tokens behind : List Token) (node : Node) → IsNode ds tokens behind node → AreParts tokens → IsGood node × AreParts behind
  node_good _ _ _ (NodeVar h) p = (tt, p.1)
  node_good _ _ _ (NodeIri {token = t} {iri = iri} h) p = (is_iri iri (names_iri ds t iri iris p.0 h), p.1)
  node_good _ _ _ (NodeLabel h) p = (tt, p.1)
  node_good _ _ _ (NodeInteger {token = t} h) p = ((ascii_form t.characters (integer_ascii t.characters h.is) p.0.short, integer_iri), p.1)
  node_good _ _ _ (NodeDecimal {token = t} h) p = ((ascii_form t.characters (decimal_ascii t.characters h.is) p.0.short, decimal_iri), p.1)
  node_good _ _ _ (NodeBoolean {token = t} (inl h)) p = (word_form (codes "TRUE") t h p.0 (inl refl), p.1)
  node_good _ _ _ (NodeBoolean {token = t} (inr h)) p = (word_form (codes "FALSE") t h p.0 (inr refl), p.1)
  node_good _ _ _ (NodeString {token = t} {form = form} h) p = ((string_form t.characters form h.is p.0.scalars p.0.short, string_iri), p.1)
  node_good _ _ _ (NodeTagged {token = t} {form = form} h k) p = ((string_form t.characters form h.is p.0.scalars p.0.short, k.is.tag_is), p.1.1)
  node_good _ _ _ (NodeTyped {token = t} {name = name} {form = form} {iri = iri} h k i) p =
      ((string_form t.characters form h.is p.0.scalars p.0.short, is_iri iri (names_iri ds name iri iris p.1.1.0 i)), p.1.1.1)

  verb_good : (tokens behind : List Token) (node : Node) → IsVerb ds tokens behind node → AreParts tokens → IsGood node × AreParts behind
  verb_good _ _ _ (VerbVar h) p = (tt, p.1)
  verb_good _ _ _ (VerbIri {token = t} {iri = iri} h) p = (is_iri iri (names_iri ds t iri iris p.0 h), p.1)
  verb_good _ _ _ (VerbA h k) p = (type_iri, p.1)

  objects_good : (subject verb : Node) (tokens behind : List Token) (triples : List Triple) → AreObjects ds subject verb tokens behind triples
      → IsGood subject → IsGood verb → AreParts tokens → AreGood triples × AreParts behind
  objects_good s v tokens behind _ (LastObject {object = o} h) gs gv p = let n = node_good tokens behind o h p in (((gs, gv, n.0), tt), n.1)
  objects_good s v tokens behind _ (MoreObjects {rest = rest} {comma = comma} {object = o} {others = others} h k m) gs gv p =
      let n = node_good tokens (comma ∷ rest) o h p in
      let more = objects_good s v rest behind others m gs gv n.1.1 in
      (((gs, gv, n.0), more.0), more.1)

  properties_good : (subject : Node) (tokens behind : List Token) (triples : List Triple) → AreProperties ds subject tokens behind triples
      → IsGood subject → AreParts tokens → AreGood triples × AreParts behind
  properties_good s tokens behind triples r gs p =
      let v = verb_good tokens r.rest r.verb r.verb_is p in
      objects_good s r.verb r.rest behind triples r.objects_are gs v.0 v.1

  further_good : (subject : Node) (tokens behind : List Token) (triples : List Triple) → AreFurther ds subject tokens behind triples
      → IsGood subject → AreParts tokens → AreGood triples × AreParts behind
  further_good s _ _ _ NoFurther gs p = (tt, p)
  further_good s _ behind triples (EmptyFurther {rest = rest} h m) gs p = further_good s rest behind triples m gs p.1
  further_good s _ behind _ (MoreFurther {tokens = tokens} {rest = rest} {first = first} {others = others} h r m) gs p =
      let one = properties_good s tokens rest first r gs p.1 in
      let more = further_good s rest behind others m gs one.1 in
      (good_append first others one.0 more.0, more.1)

  same_good : (tokens behind : List Token) (triples : List Triple) → HaveSameSubject ds tokens behind triples → AreParts tokens → AreGood triples × AreParts behind
  same_good tokens behind triples r p =
      let s = node_good tokens r.properties r.subject r.subject_is p in
      let one = properties_good r.subject r.properties r.further r.first r.first_are s.0 s.1 in
      let more = further_good r.subject r.further behind r.others r.others_are s.0 one.1 in
      (subst AreGood (sym r.triples_are) (good_append r.first r.others one.0 more.0), more.1)

  triples_good : (tokens behind : List Token) (triples : List Triple) → AreTriples ds tokens behind triples → AreParts tokens → AreGood triples
  triples_good _ _ _ NoTriples p = tt
  triples_good tokens behind triples (LastTriples h) p = (same_good tokens behind triples h p).0
  triples_good tokens behind _ (MoreTriples {rest = rest} {dot = dot} {first = first} {others = others} h k m) p =
      let one = same_good tokens (dot ∷ rest) first h p in
      good_append first others one.0 (triples_good rest behind others m one.1.1)

prologue_good : (tokens behind : List Token) (ds : List Declaration) → IsPrologue tokens behind ds → AreParts tokens → AreIris ds × AreParts behind
prologue_good _ _ _ EndOfPrologue p = (tt, p)
prologue_good _ behind _ (PrefixDecl {bracketed = bracketed} {rest = rest} {iri = iri} {others = others} w n i m) p =
    let more = prologue_good rest behind others m p.1.1.1 in
    ((iriref_iri bracketed.characters iri i.is p.1.1.0.scalars, more.0), more.1)

vars_part : (tokens behind : List Token) (names : List (List ℕ)) → AreVars tokens behind names → AreParts tokens → AreParts behind
vars_part _ _ _ (LastVar h) p = p.1
vars_part _ behind _ (MoreVars {rest = rest} {others = others} h m) p = vars_part rest behind others m p.1

columns_part : (tokens behind : List Token) (columns : Columns) → AreColumns tokens behind columns → AreParts tokens → AreParts behind
columns_part _ _ _ (Star h) p = p.1
columns_part tokens behind _ (Vars {names = names} h) p = vars_part tokens behind names h p

where_part : (tokens behind : List Token) → IsWhere tokens behind → AreParts tokens → AreParts behind
where_part _ _ NoWhere p = p
where_part _ _ (Where h) p = p.1

-- ---- the query

slot_good : (names labels : List (List ℕ)) (node : Node) → IsGood node → IsTermOrOpen (slot_of names labels node)
slot_good names labels (Variable name) h = tt
slot_good names labels (Label label) h = tt
slot_good names labels (Constant term) h = h

patterns_good : (names labels : List (List ℕ)) (triples : List Triple) → AreGood triples → AllByRecursion HasTerms (map (pattern_of names labels) triples)
patterns_good names labels [] h = tt
patterns_good names labels (t ∷ ts) h = (
  (slot_good names labels t.subject h.0.0, slot_good names labels t.predicate h.0.1, slot_good names labels t.object h.0.2),
  patterns_good names labels ts h.1,
)

-- the terms of a query that a short text says
pub has_terms : (bytes : List ℕ) (written : Written) → length bytes ≤ 65536 → IsText bytes written → AllByRecursion HasTerms (query_of written).patterns
has_terms bytes written short (tokens, read, query) =
    let characters = read.characters in
    let few : length characters ≤ 65536 =
    omega (arith, ap length read.are_characters.spelled, length-append (encode_utf8_all characters) [], length-le-encodes characters, short) in
    let parts = are_parts characters tokens [] read.are_tokens read.are_characters.scalars few in
    let prologue = prologue_good tokens (query.select ∷ query.columns) query.declarations query.prologue_is parts in
    let behind_columns = columns_part query.columns query.behind_columns written.columns query.columns_are prologue.1.1 in
    let inner = where_part query.behind_columns (query.opening ∷ query.triples) query.where_is behind_columns in
    patterns_good (names_of written) (labels_of written) written.triples
    (triples_good query.declarations prologue.0 query.triples (query.closing ∷ []) written.triples query.triples_are inner.1)
