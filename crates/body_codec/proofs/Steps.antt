-- What the functions that read a body find, step by step.
use Rattle.std.proofs.Common.{◌≡◌, ◌≢◌, ℕ, ◌+◌, ◌<◌, ◌≤◌, ◌^◌, List, [], ◌∷◌, ◌++◌, length, take, ◌⊎◌, ◌↔◌, Some, true, false, eqb, eqb-true, refl, sym, ◌∙◌, ap, subst, append_assoc, length-append, arith}
use Rattle.base_core.specs.Numbers.{length_bytes}
use Rattle.std.specs.List.{flat_map, AllByRecursion}
use Rattle.std.proofs.lemmas.Bool.{false≢true}
use Rattle.std.proofs.lemmas.List.{append-nil, take_at, nil_from_length}
use Rattle.term_core.specs.declared.term.Term.{Term}
use Rattle.term_core.specs.declared.statement.Statement.{Statement}
use Rattle.base_core.specs.Lists.{Has}
use Rattle.term_core.specs.Spelling.{spelling}
use Rattle.term_core.proofs.Spelling.{first_same}
use Rattle.change_model.specs.declared.history.Kind.{Kind}
use Rattle.change_model.specs.declared.vocabulary.Places.{Places}
use Rattle.change_model.specs.Entries.{IsPlaced, ArePlaced}
use Rattle.change_model.proofs.Members.{AreDistinct-push}
use Rattle.body_codec.specs.declared.fault.BodyFault.{BodyFault}
use Rattle.body_codec.specs.declared.fault.BodyFault.TheVariants.{NoMemory, BadBody}
use Rattle.body_codec.specs.declared.read_statements.Named.{Named}
use Rattle.body_codec.specs.Body.{kind_byte, term_field, statement_field, head_and_terms, numbers, named, IsTermOf, AreTermsOf, NameTerms, IsPlacing, ArePlacings}
use Rattle.body_codec.specs.Faults.{BeginWithTerms, BeginWithStatements, BeginsWithTerm, IsFirstBadField, wrong_kind, short_count, short_length, wrong_spelling, wrong_count, wrong_statement, unused_term, byte_too_many}
use Rattle.body_codec.specs.Reading.{IsBadBodyAt, IsBadTerm, IsBadTermAt, no_length, no_spelling, IsNoTermAt, AreSpellings, IsNext, AreNamed, IsStatementOf, AreSmall, AreReadStatements, IsBadStatement, IsBadStatementAt, AreAllStatements}
use Rattle.body_codec.proofs.Changes.{ArePlaced-length}
use Rattle.body_codec.proofs.Cuts.{number_same, statement_same, NameTerms-small}
use Rattle.body_codec.proofs.Elements.{cut_more, All-push}
use Rattle.body_codec.proofs.Seen.{AreSpellings-more, new_term, seen_term}
use Rattle.body_codec.proofs.Turns.{ArePlacings-push, named-one_more}

-- ---- the head

pub no_kind : (bytes rest : List ℕ) → bytes ≡ 1 ∷ rest → length rest ≡ 0 → IsFirstBadField bytes 1
no_kind bytes rest cut none = wrong_kind rest cut refl (λ kind behind e. let long = ap length e in absurd (omega arith))

pub unknown_kind : (bytes rest : List ℕ) (byte : ℕ) (behind : List ℕ) → bytes ≡ 1 ∷ rest → rest ≡ byte ∷ behind → ((kind : Kind) → byte ≢ kind_byte kind) → IsFirstBadField bytes 1
unknown_kind bytes rest byte behind cut is unknown = wrong_kind rest cut refl (λ kind more e. unknown kind (first_same byte (kind_byte kind) behind more (sym is ∙ e)))

pub no_count : (bytes : List ℕ) (kind : Kind) (rest behind : List ℕ) (byte : ℕ) → bytes ≡ 1 ∷ rest → rest ≡ byte ∷ behind → byte ≡ kind_byte kind → length behind < 4 → IsFirstBadField bytes 2
no_count bytes kind rest behind byte cut is known short =
    short_count kind behind (cut ∙ ap (λ l. 1 ∷ l) (is ∙ ap (λ b. b ∷ behind) known)) refl short

-- ---- a term

pub spelling_short : (kind : Kind) (before : List Term) (bytes : List ℕ) (at size : ℕ) (rest : List ℕ) → bytes ≡ length_bytes size ++ rest → size < 2 ^ 32
    → length rest < size → IsBadTerm kind before bytes at (at + 4)
spelling_short kind before bytes at size rest cut fits short =
    no_spelling size rest cut fits refl (λ begins.
    let long = ap length begins.cut ∙ length-append (spelling begins.term) begins.behind in
    let size_is = begins.long in
    absurd (omega arith))

-- the bytes of a term that the rest begins with
spelled_is : (kind : Kind) (before : List Term) (size : ℕ) (rest spelled : List ℕ) → spelled ≡ take size rest → (begins : BeginsWithTerm kind before size rest)
    → spelled ≡ spelling begins.term
spelled_is kind before size rest spelled front begins =
    front ∙ ap (take size) begins.cut ∙ take_at (spelling begins.term) begins.behind size begins.long

pub no_term_here : (kind : Kind) (before : List Term) (bytes : List ℕ) (at size : ℕ) (rest spelled : List ℕ) (fault : BodyFault)
    → bytes ≡ length_bytes size ++ rest → size < 2 ^ 32 → spelled ≡ take size rest → IsNoTermAt kind spelled (at + 4) fault → IsBadTermAt kind before bytes at fault
no_term_here kind before bytes at size rest spelled NoMemory cut fits front bad = tt
no_term_here kind before bytes at size rest spelled (BadBody place) cut fits front bad =
    no_spelling size rest cut fits bad.0 (λ begins. bad.1 begins.term begins.is (spelled_is kind before size rest spelled front begins))

pub term_twice : (kind : Kind) (before : List Term) (keys : List (List ℕ)) (bytes : List ℕ) (at size : ℕ) (rest spelled : List ℕ)
    → bytes ≡ length_bytes size ++ rest → size < 2 ^ 32 → spelled ≡ take size rest → AllByRecursion (IsTermOf kind) before → AreSpellings before keys → Has keys spelled
    → IsBadTerm kind before bytes at (at + 4)
term_twice kind before keys bytes at size rest spelled cut fits front all are seen =
    no_spelling size rest cut fits refl (λ begins.
    begins.new (seen_term kind before begins.term keys all begins.is are (subst (Has keys) (spelled_is kind before size rest spelled front begins) seen)))

-- ---- the terms

pub record AreMoreTerms (kind : Kind) (bytes : List ℕ) (terms : List Term) (keys : List (List ℕ)) (rest : List ℕ) : Type 0 where
  pub cut : bytes ≡ flat_map term_field terms ++ rest
  pub are : AreTermsOf kind terms
  pub seen : AreSpellings terms keys

pub terms_more : (kind : Kind) (bytes : List ℕ) (terms all : List Term) (term : Term) (old new : List (List ℕ)) (rest behind : List ℕ)
    → bytes ≡ flat_map term_field terms ++ rest → AreTermsOf kind terms → AreSpellings terms old
    → IsTermOf kind term → rest ≡ term_field term ++ behind → (Has old (spelling term) → ⊥)
    → ((spelled : List ℕ) → Has new spelled ↔ (Has old spelled ⊎ (spelling term ≡ spelled))) → all ≡ terms ++ term ∷ [] → AreMoreTerms kind bytes all new behind
terms_more kind bytes terms all term old new rest behind cut are seen is field fresh told grown =
    subst (λ (l : List Term). AreMoreTerms kind bytes l new behind) (sym grown) (record {
      cut = cut_more term_field terms term bytes rest behind cut field;
      are = record {
        each = All-push (IsTermOf kind) terms term are.each is;
        apart = AreDistinct-push terms term are.apart (new_term terms term old seen fresh);
      };
      seen = AreSpellings-more terms term old new seen told;
    })

-- the head and the terms behind it
begin_of : (kind : Kind) (count : ℕ) (bytes : List ℕ) (terms : List Term) (rest : List ℕ) → count < 2 ^ 32 → bytes ≡ flat_map term_field terms ++ rest → AreTermsOf kind terms
    → BeginWithTerms (head_and_terms kind count [] ++ bytes) kind count terms rest
begin_of kind count bytes terms rest fits cut are = record {
  cut = ap (λ l. 1 ∷ kind_byte kind ∷ (length_bytes count ++ l)) cut;
  fits = fits;
  are = are;
}

offset_of : (count : ℕ) (kind : Kind) (bytes : List ℕ) (terms : List Term) (rest : List ℕ) (at : ℕ) → bytes ≡ flat_map term_field terms ++ rest → at + length rest ≡ length bytes + 6
    → at ≡ length (head_and_terms kind count terms)
offset_of count kind bytes terms rest at cut place =
    let long : length bytes ≡ length (flat_map term_field terms) + length rest = ap length cut ∙ length-append (flat_map term_field terms) rest in
    omega arith

bad_term : (whole : List ℕ) (kind : Kind) (count : ℕ) (terms : List Term) (rest : List ℕ) (at : ℕ) (fault : BodyFault) → BeginWithTerms whole kind count terms rest
    → length terms < count → at ≡ length (head_and_terms kind count terms) → IsBadTermAt kind terms rest at fault → IsBadBodyAt whole fault
bad_term whole kind count terms rest at NoMemory begin fewer offset bad = tt
bad_term whole kind count terms rest at (BadBody place) begin fewer offset (no_length is short) =
    short_length kind count terms rest begin fewer (is ∙ offset) short
bad_term whole kind count terms rest at (BadBody place) begin fewer offset (no_spelling size behind cut fits is none) =
    wrong_spelling kind count terms size behind
    (record { cut = begin.cut ∙ ap (λ l. head_and_terms kind count terms ++ l) cut; fits = begin.fits; are = begin.are })
    fewer fits (is ∙ ap (λ n. n + 4) offset) none

pub bad_term_of : (kind : Kind) (count : ℕ) (bytes : List ℕ) (terms : List Term) (rest : List ℕ) (at : ℕ) (fault : BodyFault) → count < 2 ^ 32
    → bytes ≡ flat_map term_field terms ++ rest → AreTermsOf kind terms → length terms < count → at + length rest ≡ length bytes + 6
    → IsBadTermAt kind terms rest at fault → IsBadBodyAt (head_and_terms kind count [] ++ bytes) fault
bad_term_of kind count bytes terms rest at fault fits cut are fewer place bad =
    bad_term _ kind count terms rest at fault (begin_of kind count bytes terms rest fits cut are) fewer (offset_of count kind bytes terms rest at cut place) bad

-- all terms were read
pub begin_all : (bytes whole : List ℕ) (kind : Kind) (count : ℕ) (terms given : List Term) (rest : List ℕ) → bytes ≡ whole → length terms ≡ count → given ≡ terms
    → BeginWithTerms whole kind count terms rest → BeginWithTerms bytes kind (length given) given rest
begin_all bytes whole kind count terms given rest same all is begin =
    subst (λ (l : List Term). BeginWithTerms bytes kind (length l) l rest) (sym is)
    (subst (λ n. BeginWithTerms bytes kind n terms rest) (sym all) (record { cut = same ∙ begin.cut; fits = begin.fits; are = begin.are }))

pub offset_all : (bytes : List ℕ) (kind : Kind) (terms : List Term) (rest : List ℕ) (at : ℕ) → BeginWithTerms bytes kind (length terms) terms rest
    → at + length rest ≡ length bytes → at ≡ length (head_and_terms kind (length terms) terms)
offset_all bytes kind terms rest at begin place =
    let long = ap length begin.cut ∙ length-append (head_and_terms kind (length terms) terms) rest in
    omega arith

-- ---- a statement

pub other_places : (terms : List Term) (bytes : List ℕ) (found other : Places) (rest behind : List ℕ) → length terms < 2 ^ 32 → AreSmall found → NameTerms terms other
    → bytes ≡ statement_field found ++ rest → bytes ≡ statement_field other ++ behind → other ≡ found
other_places terms bytes found other rest behind fits small names cut is =
    sym (statement_same found other rest behind small (NameTerms-small terms other fits names) (sym cut ∙ is)).0

pub placed_of : (terms : List Term) (places : Places) (found : Named) (statement : Statement) → AreNamed terms places found → IsStatementOf found statement → IsPlaced terms statement places
placed_of terms places found statement are is = record {
  subject = are.subject ∙ ap Some (sym is.subject);
  predicate = are.predicate ∙ ap Some (sym is.predicate);
  object = are.object ∙ ap Some (sym is.object);
}

ArePlaced-push : (terms : List Term) (statements : List Statement) (placed : List Places) (statement : Statement) (places : Places)
    → ArePlaced terms statements placed → IsPlaced terms statement places → ArePlaced terms (statements ++ statement ∷ []) (placed ++ places ∷ [])
ArePlaced-push terms [] [] statement places are is = (is, tt)
ArePlaced-push terms [] (first ∷ placed) statement places are is = absurd are
ArePlaced-push terms (first ∷ statements) [] statement places are is = absurd are
ArePlaced-push terms (first ∷ statements) (one ∷ placed) statement places are is = (are.0, ArePlaced-push terms statements placed statement places are.1 is)

-- ---- the statements

pub statements_more : (terms : List Term) (bytes : List ℕ) (statements all : List Statement) (next after : ℕ) (rest behind : List ℕ) (statement : Statement) (places : Places)
    → AreReadStatements terms bytes statements next rest → rest ≡ statement_field places ++ behind → IsPlaced terms statement places
    → ((before : List ℕ) → IsNext before next → IsPlacing terms before places) → ((before : List ℕ) → IsNext before next → IsNext (before ++ numbers places) after)
    → all ≡ statements ++ statement ∷ [] → AreReadStatements terms bytes all after behind
statements_more terms bytes statements all next after rest behind statement places read field placed placing nexts grown =
    subst (λ (l : List Statement). AreReadStatements terms bytes l after behind) (sym grown) (record {
      places = read.places ++ places ∷ [];
      cut = cut_more statement_field read.places places bytes rest behind read.cut field;
      placed = ArePlaced-push terms statements read.places statement places read.placed placed;
      placings = ArePlacings-push terms [] read.places places read.placings (placing (named read.places) read.next_is);
      next_is = subst (λ l. IsNext l after) (sym (named-one_more read.places places)) (nexts (named read.places) read.next_is);
    })

pub bad_statement_of : (terms : List Term) (count : ℕ) (bytes : List ℕ) (start at : ℕ) (statements : List Statement) (next : ℕ) (rest : List ℕ)
    → AreReadStatements terms bytes statements next rest → length statements < count → at + length rest ≡ start + length bytes
    → ((before : List ℕ) (places : Places) (behind : List ℕ) → IsNext before next → IsPlacing terms before places → rest ≢ statement_field places ++ behind)
    → IsBadStatement terms count bytes start at
bad_statement_of terms count bytes start at statements next rest read fewer place none =
    let long = ArePlaced-length terms statements read.places read.placed in
    let whole : length bytes ≡ length (flat_map statement_field read.places) + length rest = ap length read.cut ∙ length-append (flat_map statement_field read.places) rest in
    record {
      places = read.places;
      rest = rest;
      cut = read.cut;
      placings = read.placings;
      fewer = omega arith;
      place_is = omega arith;
      bad = λ places behind is e. none (named read.places) places behind read.next_is is e;
    }

-- ---- the count of statements and what follows

pub no_number : (whole : List ℕ) (kind : Kind) (terms : List Term) (bytes : List ℕ) (at : ℕ) → BeginWithTerms whole kind (length terms) terms bytes
    → at ≡ length (head_and_terms kind (length terms) terms) → length bytes < 4 → IsFirstBadField whole at
no_number whole kind terms bytes at begin offset short =
    wrong_count kind terms bytes begin offset (λ count behind few e. let long = ap length e in absurd (omega arith))

pub too_many : (whole : List ℕ) (kind : Kind) (terms : List Term) (bytes : List ℕ) (at count : ℕ) (rest : List ℕ) → BeginWithTerms whole kind (length terms) terms bytes
    → at ≡ length (head_and_terms kind (length terms) terms) → bytes ≡ length_bytes count ++ rest → count < 2 ^ 32 → 100000 < count → IsFirstBadField whole at
too_many whole kind terms bytes at count rest begin offset cut fits many =
    wrong_count kind terms bytes begin offset (λ other behind few e.
    let same = (number_same count other rest behind fits (omega arith) (sym cut ∙ e)).0 in absurd (omega arith))

begin_statements : (whole : List ℕ) (kind : Kind) (terms : List Term) (bytes : List ℕ) (count : ℕ) (places : List Places) (rest behind : List ℕ)
    → BeginWithTerms whole kind (length terms) terms bytes → bytes ≡ length_bytes count ++ rest → count ≤ 100000
    → rest ≡ flat_map statement_field places ++ behind → ArePlacings terms [] places → BeginWithStatements whole kind terms count places behind
begin_statements whole kind terms bytes count places rest behind begin cut few fields placings = record {
  cut = begin.cut ∙ ap (λ l. head_and_terms kind (length terms) terms ++ l) (cut ∙ ap (λ l. length_bytes count ++ l) fields)
      ∙ sym (append_assoc (head_and_terms kind (length terms) terms) (length_bytes count ++ flat_map statement_field places) behind);
  fits = begin.fits;
  few = few;
  are = begin.are;
  placed = placings;
}

pub bad_statement_at : (whole : List ℕ) (kind : Kind) (terms : List Term) (bytes : List ℕ) (at count : ℕ) (rest : List ℕ) (fault : BodyFault)
    → BeginWithTerms whole kind (length terms) terms bytes → at ≡ length (head_and_terms kind (length terms) terms)
    → bytes ≡ length_bytes count ++ rest → count ≤ 100000 → IsBadStatementAt terms count rest (at + 4) fault → IsBadBodyAt whole fault
bad_statement_at whole kind terms bytes at count rest NoMemory begin offset cut few bad = tt
bad_statement_at whole kind terms bytes at count rest (BadBody place) begin offset cut few bad =
    let long = length-append (head_and_terms kind (length terms) terms) (length_bytes count ++ flat_map statement_field bad.places) in
    let place_is = bad.place_is in
    wrong_statement kind terms count bad.places bad.rest (begin_statements whole kind terms bytes count bad.places rest bad.rest begin cut few bad.cut bad.placings) bad.fewer
    (omega arith) bad.bad

-- all statements were read
read_all : (whole : List ℕ) (kind : Kind) (terms : List Term) (bytes : List ℕ) (count : ℕ) (rest : List ℕ) (statements : List Statement) (next : ℕ) (behind : List ℕ)
    → BeginWithTerms whole kind (length terms) terms bytes → bytes ≡ length_bytes count ++ rest → count ≤ 100000
    → (read : AreReadStatements terms rest statements next behind) → length statements ≡ count
    → BeginWithStatements whole kind terms (length read.places) read.places behind
read_all whole kind terms bytes count rest statements next behind begin cut few read all =
    let long : length read.places ≡ count = ArePlaced-length terms statements read.places read.placed ∙ all in
    begin_statements whole kind terms bytes (length read.places) read.places rest behind begin (cut ∙ ap (λ n. length_bytes n ++ rest) (sym long)) (omega arith) read.cut read.placings

pub unused_there : (whole : List ℕ) (kind : Kind) (terms : List Term) (bytes : List ℕ) (at count : ℕ) (rest : List ℕ) (statements : List Statement) (next : ℕ) (behind : List ℕ)
    → BeginWithTerms whole kind (length terms) terms bytes → at ≡ length (head_and_terms kind (length terms) terms) → bytes ≡ length_bytes count ++ rest → count ≤ 100000
    → AreReadStatements terms rest statements next behind → length statements ≡ count → next < length terms → IsFirstBadField whole at
unused_there whole kind terms bytes at count rest statements next behind begin offset cut few read all fewer =
    unused_term kind terms read.places behind (read_all whole kind terms bytes count rest statements next behind begin cut few read all) offset next fewer
    (λ h. let low = (read.next_is next).0 h in absurd (omega arith))

all_used : (terms : List Term) (places : List Places) (next : ℕ) → IsNext (named places) next → length terms ≤ next → (place : ℕ) → place < length terms → Has (named places) place
all_used terms places next is enough place below = (is place).1 (omega arith)

pub bytes_behind : (whole : List ℕ) (kind : Kind) (terms : List Term) (bytes : List ℕ) (at count : ℕ) (rest : List ℕ) (statements : List Statement) (next : ℕ) (behind : List ℕ) (end : ℕ)
    → BeginWithTerms whole kind (length terms) terms bytes → at ≡ length (head_and_terms kind (length terms) terms) → bytes ≡ length_bytes count ++ rest → count ≤ 100000
    → AreReadStatements terms rest statements next behind → length statements ≡ count → length terms ≤ next
    → end + length behind ≡ at + 4 + length rest → behind ≢ [] → IsFirstBadField whole end
bytes_behind whole kind terms bytes at count rest statements next behind end begin offset cut few read all enough place some =
    let long : length rest ≡ length (flat_map statement_field read.places) + length behind = ap length read.cut ∙ length-append (flat_map statement_field read.places) behind in
    let whole_length = length-append (head_and_terms kind (length terms) terms) (length_bytes (length read.places) ++ flat_map statement_field read.places) in
    byte_too_many kind terms read.places behind (read_all whole kind terms bytes count rest statements next behind begin cut few read all)
    (all_used terms read.places next read.next_is enough) (omega arith) some

pub all_statements : (terms : List Term) (bytes : List ℕ) (count : ℕ) (rest : List ℕ) (statements : List Statement) (next : ℕ) (behind : List ℕ)
    → bytes ≡ length_bytes count ++ rest → count ≤ 100000 → AreReadStatements terms rest statements next behind → length statements ≡ count
    → length terms ≤ next → behind ≡ [] → AreAllStatements terms bytes statements
all_statements terms bytes count rest statements next behind cut few read all enough none =
    let long : length read.places ≡ count = ArePlaced-length terms statements read.places read.placed ∙ all in
    record {
      places = read.places;
      cut = cut ∙ ap (λ n. length_bytes n ++ rest) (sym long)
          ∙ ap (λ l. length_bytes (length read.places) ++ l) (read.cut ∙ ap (λ l. flat_map statement_field read.places ++ l) none ∙ append-nil (flat_map statement_field read.places));
      few = omega arith;
      placed = read.placed;
      placings = read.placings;
      used = all_used terms read.places next read.next_is enough;
    }

pub some_left : (rest : List ℕ) → false ≡ eqb (length rest) 0 → rest ≢ []
some_left [] e none = false≢true e
some_left (byte ∷ rest) e none = let long = ap length none in absurd (omega arith)

pub none_left : (rest : List ℕ) → true ≡ eqb (length rest) 0 → rest ≡ []
none_left rest e = nil_from_length rest (eqb-true (length rest) 0 (sym e))
