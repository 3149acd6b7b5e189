-- Bytes with a bad field are the body of no change, and a body is that of one change.
use Rattle.std.proofs.Common.{◌≡◌, ℕ, List, [], ◌∷◌, length, refl, sym, ◌∙◌, ap, subst}
use Rattle.std.proofs.lemmas.Option.{same_Some}
use Rattle.term_core.specs.declared.term.Term.{Term}
use Rattle.term_core.specs.declared.statement.Statement.{Statement}
use Rattle.change_model.specs.declared.history.Change.{Change}
use Rattle.change_model.specs.declared.history.Kind.{Kind}
use Rattle.change_model.specs.declared.vocabulary.Places.{Places}
use Rattle.change_model.specs.Entries.{ArePlaced}
use Rattle.change_model.proofs.Terms.{same_statement}
use Rattle.body_codec.specs.Body.{HasSpelling, IsBodyOf}
use Rattle.body_codec.specs.Faults.{IsFirstBadField, IsNoMemory, IsNoMemoryOrAt, IsBodyFault}
use Rattle.body_codec.specs.declared.fault.BodyFault.{BodyFault}
use Rattle.body_codec.specs.declared.fault.BodyFault.TheVariants.{NoMemory, BadBody}
use Rattle.body_codec.specs.Reading.{IsBadBodyAt}
use Rattle.body_codec.proofs.Agree.{statements_agree}
use Rattle.body_codec.proofs.Changes.{IsWhole, whole_of}
use Rattle.body_codec.proofs.Stages.{AllStand, EndBad, term_unused, bytes_left, stage_of, not_earlier, none_unused, all_alike, one_bad_field}

-- a whole body leaves no end that is bad
end_none : (bytes : List ℕ) (at : ℕ) (kind : Kind) (terms : List Term) (placed : List Places) → IsWhole bytes kind terms placed → EndBad bytes at → ⊥
end_none bytes at kind terms placed whole (term_unused other ones read rest begin offset place below unused) =
    none_unused bytes other kind ones terms read placed rest [] place begin below unused whole.begin whole.used
end_none bytes at kind terms placed whole (bytes_left other ones read rest begin used offset some) =
    some (all_alike bytes other kind ones terms read placed rest [] begin whole.begin).rest

no_whole : (bytes : List ℕ) (at : ℕ) (kind : Kind) (terms : List Term) (placed : List Places) → IsFirstBadField bytes at → IsWhole bytes kind terms placed → ⊥
no_whole bytes at kind terms placed bad whole =
    let all : AllStand bytes = record { kind = kind; terms = terms; placed = placed; rest = []; begin = whole.begin } in
    end_none bytes at kind terms placed whole (not_earlier bytes at all (stage_of bytes at bad))

pub bad_is_no_body : (bytes : List ℕ) (at : ℕ) → IsFirstBadField bytes at → (change : Change) → HasSpelling change → IsBodyOf change bytes → ⊥
bad_is_no_body bytes at bad change has is = no_whole bytes at _ _ _ bad (whole_of change bytes has is)

-- ---- what the fault of the reader tells

pub bad_has_cause : (bytes : List ℕ) (fault : BodyFault) → IsBadBodyAt bytes fault → IsBodyFault bytes fault
bad_has_cause bytes NoMemory bad = tt
bad_has_cause bytes (BadBody at) bad = (bad, bad_is_no_body bytes at bad)

pub bad_is_no_want : (bytes : List ℕ) (fault : BodyFault) → IsBadBodyAt bytes fault → (change : Change) → HasSpelling change → IsBodyOf change bytes → IsNoMemory fault
bad_is_no_want bytes NoMemory bad change has is = tt
bad_is_no_want bytes (BadBody at) bad change has is = bad_is_no_body bytes at bad change has is

pub bad_is_here : (bytes : List ℕ) (fault : BodyFault) → IsBadBodyAt bytes fault → (at : ℕ) → IsFirstBadField bytes at → IsNoMemoryOrAt at fault
bad_is_here bytes NoMemory bad at is = tt
bad_is_here bytes (BadBody place) bad at is = one_bad_field bytes place at bad is

-- ---- a body is that of one change

placed_same : (terms : List Term) (one other : List Statement) (placed : List Places) → ArePlaced terms one placed → ArePlaced terms other placed → one ≡ other
placed_same terms [] [] [] are also = refl
placed_same terms [] [] (places ∷ placed) are also = refl
placed_same terms [] (second ∷ other) [] are also = absurd also
placed_same terms [] (second ∷ other) (places ∷ placed) are also = absurd are
placed_same terms (first ∷ one) [] [] are also = absurd are
placed_same terms (first ∷ one) [] (places ∷ placed) are also = absurd also
placed_same terms (first ∷ one) (second ∷ other) [] are also = absurd are
placed_same terms (first ∷ one) (second ∷ other) (places ∷ placed) are also =
    let same = same_statement first second
    (same_Some _ _ (sym are.0.subject ∙ also.0.subject))
    (same_Some _ _ (sym are.0.predicate ∙ also.0.predicate))
    (same_Some _ _ (sym are.0.object ∙ also.0.object)) in
    ap (λ (s : Statement). s ∷ one) same ∙ ap (λ l. second ∷ l) (placed_same terms one other placed are.1 also.1)

same_change : (change other : Change) → change.kind ≡ other.kind → change.statements ≡ other.statements → change ≡ other
same_change change other k s = λ i. record { kind = k i; statements = s i }

pub one_change : (change other : Change) (bytes : List ℕ) → HasSpelling change → HasSpelling other → IsBodyOf change bytes → IsBodyOf other bytes → change ≡ other
one_change change other bytes has own is also =
    let one = whole_of change bytes has is in
    let two = whole_of other bytes own also in
    let terms = is.vocabulary.terms in
    let more = also.vocabulary.terms in
    let placed = is.vocabulary.places in
    let ones = also.vocabulary.places in
    let head = statements_agree bytes change.kind other.kind terms more (length placed) (length ones) placed ones [] [] one.begin two.begin in
    let like = all_alike bytes change.kind other.kind terms more placed ones [] [] one.begin two.begin in
    let mine : ArePlaced more change.statements ones =
    subst (λ (l : List Term). ArePlaced l change.statements ones) like.terms_are (subst (ArePlaced terms change.statements) like.placed_are is.vocabulary_is.places) in
    same_change change other head.kind_is (placed_same more change.statements other.statements ones mine also.vocabulary_is.places)
