-- Reading of a text stops at one place, by one word, and nowhere in a query.
use Rattle.std.proofs.Common.{◌≡◌, ℕ, ◌<◌, ◌≤◌, arith, true, false, List, [], ◌∷◌, ◌++◌, length, map, Option, Some, None, refl, sym, ap, subst, ◌∙◌, append_assoc, inl, inr}
use Rattle.std.specs.Char.{encode_utf8}
use Rattle.std.specs.List.{AllByRecursion}
use Rattle.std.specs.Str.{encode_utf8_all, all_scalars}
use Rattle.std.proofs.lemmas.Bool.{and_parts}
use Rattle.std.proofs.lemmas.List.{append-nil, length-map}
use Rattle.std.proofs.lemmas.Str.{encode_same}
use Rattle.bgp_model.specs.declared.query.Query.{Query as Asked}
use Rattle.query_text.specs.declared.fault.QueryFault.{QueryFault}
use Rattle.query_text.specs.declared.fault.QueryFault.TheVariants as faults
use Rattle.bgp_model.specs.declared.word.Word.{Word}
use Rattle.query_text.specs.Tokens.{Token, IsToken}
use Rattle.query_text.specs.Texts.{behind_gap, AreCharacters, BeginsWith, BeginsWithNone, AreTokens, IsReadTo}
use Rattle.query_text.specs.Grammar.{Written, IsQuery}
use Rattle.query_text.specs.Meaning.{IsText, ReadsQuery, query_of, pattern_of, names_of, labels_of}
use Rattle.query_text.specs.Reading.{BeginsNoCharacter}
use Rattle.query_text.specs.Refusals.{IsLeftOut, IsViable, StopsReading, token, no_token, ended, IsRefused, IsTooLarge, IsNoMemory, IsNoMemoryOr, IsBadText, IsQueryFault}
use Rattle.query_text.proofs.OneCut.{some_code, first_same, no_first}
use Rattle.query_text.proofs.OneWord.{left_out_same}

-- ---- one list of characters

-- bytes are characters and bad bytes behind them in one way
spelled_same : (one other bad wrong : List ℕ) → all_scalars one ≡ true → all_scalars other ≡ true → encode_utf8_all one ++ bad ≡ encode_utf8_all other ++ wrong
    → BeginsNoCharacter bad → BeginsNoCharacter wrong → (one ≡ other) × (bad ≡ wrong)
spelled_same [] [] bad wrong s t e none no_other = (refl, e)
spelled_same (c ∷ one) [] bad wrong s t e none no_other =
    absurd (no_other c (encode_utf8_all one ++ bad) (and_parts _ (all_scalars one) s).0 (sym e ∙ append_assoc (encode_utf8 c) (encode_utf8_all one) bad))
spelled_same [] (d ∷ other) bad wrong s t e none no_other =
    absurd (none d (encode_utf8_all other ++ wrong) (and_parts _ (all_scalars other) t).0 (e ∙ append_assoc (encode_utf8 d) (encode_utf8_all other) wrong))
spelled_same (c ∷ one) (d ∷ other) bad wrong s t e none no_other =
    let both = encode_same c d (encode_utf8_all one ++ bad) (encode_utf8_all other ++ wrong)
    (sym (append_assoc (encode_utf8 c) (encode_utf8_all one) bad) ∙ e ∙ append_assoc (encode_utf8 d) (encode_utf8_all other) wrong) in
    let rest = spelled_same one other bad wrong (and_parts _ (all_scalars one) s).1 (and_parts _ (all_scalars other) t).1 both.1 none no_other in
    (ap (λ (z : ℕ). z ∷ one) both.0 ∙ ap (λ (z : List ℕ). d ∷ z) rest.0, rest.1)

characters_are : (bytes one other bad wrong : List ℕ) → AreCharacters bytes one bad → AreCharacters bytes other wrong → (one ≡ other) × (bad ≡ wrong)
characters_are bytes one other bad wrong h k = spelled_same one other bad wrong h.scalars k.scalars (sym h.spelled ∙ k.spelled) h.bad_is k.bad_is

-- ---- one list of tokens

-- two cuts of a text are the same, or one goes on where the other stops
data AreCuts (one : List Token) (rest : List ℕ) (other : List Token) (left : List ℕ) : Type 0 where
  together : one ≡ other → rest ≡ left → AreCuts one rest other left
  shorter : (next : Token) (behind : List ℕ) (more : List Token) → other ≡ one ++ next ∷ more → BeginsWith rest next behind → AreCuts one rest other left
  longer : (next : Token) (behind : List ℕ) (more : List Token) → one ≡ other ++ next ∷ more → BeginsWith left next behind → AreCuts one rest other left

begins_at : (text rest : List ℕ) (next : Token) (behind : List ℕ) → rest ≡ text → BeginsWith text next behind → BeginsWith rest next behind
begins_at text rest next behind e begins = subst (λ (z : List ℕ). BeginsWith z next behind) (sym e) begins

cuts : (text : List ℕ) (one : List Token) (rest : List ℕ) (other : List Token) (left : List ℕ) → AreTokens text one rest → AreTokens text other left
    → AreCuts one rest other left
cuts text [] rest [] left h k = together refl (h ∙ sym k)
cuts text [] rest (u ∷ us) left h k = shorter u k.0 us refl (begins_at (behind_gap false text) rest u k.0 h k.1)
cuts text (t ∷ ts) rest [] left h k = longer t h.0 ts refl (begins_at (behind_gap false text) left t h.0 k h.1)
cuts text (t ∷ ts) rest (u ∷ us) left h k =
    let first = first_same (behind_gap false text) t u h.0 k.0 h.1 k.1 in
    by first.0 (cuts h.0 ts rest us left h.2 (subst (λ (z : List ℕ). AreTokens z us left) (sym first.1) k.2))
  where
    by : t ≡ u → AreCuts ts rest us left → AreCuts (t ∷ ts) rest (u ∷ us) left
    by e (together same here) = together (ap (λ (z : Token). z ∷ ts) e ∙ ap (λ (z : List Token). u ∷ z) same) here
    by e (shorter next behind more same begins) =
        shorter next behind more (ap (λ (z : Token). z ∷ us) (sym e) ∙ ap (λ (z : List Token). t ∷ z) same) begins
    by e (longer next behind more same begins) =
        longer next behind more (ap (λ (z : Token). z ∷ ts) e ∙ ap (λ (z : List Token). u ∷ z) same) begins

-- and each is a token
each_token : (text : List ℕ) (tokens : List Token) (rest : List ℕ) → AreTokens text tokens rest → AllByRecursion IsToken tokens
each_token text [] rest h = tt
each_token text (t ∷ ts) rest h = (h.1.is, each_token h.0 ts rest h.2)

each_behind : (front more : List Token) (next : Token) → AllByRecursion IsToken (front ++ next ∷ more) → AllByRecursion IsToken more
each_behind [] more next h = h.1
each_behind (t ∷ front) more next h = each_behind front more next h.1

each_append : (one other : List Token) → AllByRecursion IsToken one → AllByRecursion IsToken other → AllByRecursion IsToken (one ++ other)
each_append [] other h k = k
each_append (t ∷ one) other h k = (h.0, each_append one other h.1 k)

-- ---- where reading stops

through : (front more others : List Token) (next : Token) → (front ++ next ∷ more) ++ others ≡ (front ++ next ∷ []) ++ (more ++ others)
through front more others next = append_assoc front (next ∷ more) others ∙ sym (append_assoc front (next ∷ []) (more ++ others))

-- a front of tokens that are the first of a query's is so too
viable_front : (front more : List Token) (next : Token) → AllByRecursion IsToken more → IsViable (front ++ next ∷ more) → IsViable (front ++ next ∷ [])
viable_front front more next each v = record {
  others = more ++ v.others;
  query = v.query;
  are_tokens = each_append more v.others each v.are_tokens;
  is_query = subst (λ (z : List Token). IsQuery z v.query) (through front more v.others next) v.is_query;
}

-- reading doesn't stop where it may go on with the next token
no_stop : (tokens : List Token) (rest bad behind : List ℕ) (word : Option Word) (next : Token) → StopsReading tokens rest bad word → BeginsWith rest next behind
    → IsViable (tokens ++ next ∷ []) → ⊥
no_stop tokens rest bad behind word next (token stopped left said begins none is) goes viable =
    let same = (first_same rest next stopped behind left goes begins).0 in
    none (subst (λ (z : Token). IsViable (tokens ++ z ∷ [])) same viable)
no_stop tokens rest bad behind word next (no_token some none) goes viable = none next.kind next.characters behind goes.cut goes.is
no_stop tokens rest bad behind word next (ended nothing no_bad none) goes viable =
    no_first next behind (subst (λ (z : List ℕ). BeginsWith z next behind) nothing goes)

-- it stops at one word
word_is : (tokens : List Token) (rest bad : List ℕ) (one other : Option Word) → StopsReading tokens rest bad one → StopsReading tokens rest bad other → one ≡ other
word_is tokens rest bad one other (token t behind a begins none is) (token u left b goes no_other was) =
    let same = (first_same rest t u behind left begins goes).0 in
    left_out_same u a b (subst (λ (z : Token). IsLeftOut z a) same is) was
word_is tokens rest bad one other (token t behind a begins none is) (no_token some no_other) = absurd (no_other t.kind t.characters behind begins.cut begins.is)
word_is tokens rest bad one other (token t behind a begins none is) (ended nothing no_bad no_other) =
    absurd (no_first t behind (subst (λ (z : List ℕ). BeginsWith z t behind) nothing begins))
word_is tokens rest bad one other (no_token some no_one) (token u left b goes no_other was) = absurd (no_one u.kind u.characters left goes.cut goes.is)
word_is tokens rest bad one other (no_token some no_one) (no_token more no_other) = refl
word_is tokens rest bad one other (no_token some no_one) (ended nothing no_bad no_other) = refl
word_is tokens rest bad one other (ended nothing no_bad none) (token u left b goes no_other was) =
    absurd (no_first u left (subst (λ (z : List ℕ). BeginsWith z u left) nothing goes))
word_is tokens rest bad one other (ended nothing no_bad none) (no_token some no_other) = refl
word_is tokens rest bad one other (ended nothing no_bad none) (ended no_rest no_wrong no_other) = refl

-- what is read of the bytes up to one place and up to another
read_cuts : (bytes : List ℕ) (place at : ℕ) (one other : List Token) (rest left bad wrong : List ℕ) → IsReadTo bytes place one rest bad → IsReadTo bytes at other left wrong
    → AreCuts one rest other left × (bad ≡ wrong)
read_cuts bytes place at one other rest left bad wrong h k =
    let same = characters_are bytes h.characters k.characters bad wrong h.are_characters k.are_characters in
    (cuts h.characters one rest other left h.are_tokens (subst (λ (z : List ℕ). AreTokens z other left) (sym same.0) k.are_tokens), same.1)

-- tokens that go on behind others, and are the first of a query's, don't stop there
no_longer : (bytes : List ℕ) (place : ℕ) (front tokens more : List Token) (next : Token) (rest bad left wrong behind : List ℕ) (word : Option Word)
    → StopsReading front rest bad word → BeginsWith rest next behind → tokens ≡ front ++ next ∷ more → IsReadTo bytes place tokens left wrong → IsViable tokens → ⊥
no_longer bytes place front tokens more next rest bad left wrong behind word stops begins is read viable =
    let each = each_token read.characters tokens left read.are_tokens in
    let others = each_behind front more next (subst (AllByRecursion IsToken) is each) in
    no_stop front rest bad behind word next stops begins (viable_front front more next others (subst IsViable is viable))

pub refused_same : (bytes : List ℕ) (place at : ℕ) (one other : Option Word) → IsRefused bytes place one → IsRefused bytes at other → (place ≡ at) × (one ≡ other)
refused_same bytes place at one other h k =
    let both = read_cuts bytes place at h.tokens k.tokens h.rest k.rest h.bad k.bad h.read k.read in
    by both.0 both.1
  where
    by : AreCuts h.tokens h.rest k.tokens k.rest → h.bad ≡ k.bad → (place ≡ at) × (one ≡ other)
    by (together same here) bad =
        let stops : StopsReading h.tokens h.rest h.bad other =
        subst (λ (z : List Token). StopsReading z h.rest h.bad other) (sym same)
        (subst (λ (z : List ℕ). StopsReading k.tokens z h.bad other) (sym here) (subst (λ (z : List ℕ). StopsReading k.tokens k.rest z other) (sym bad) k.stops)) in (
          omega (
            arith,
            h.read.place_is,
            k.read.place_is,
            ap (λ (z : List ℕ). length (encode_utf8_all z)) here,
            ap (length {A = ℕ}) bad,
          ),
          word_is h.tokens h.rest h.bad one other h.stops stops,
        )
    by (shorter next behind more is begins) bad =
        absurd (no_longer bytes at h.tokens k.tokens more next h.rest h.bad k.rest k.bad behind one h.stops begins is k.read k.viable)
    by (longer next behind more is begins) bad =
        absurd (no_longer bytes place k.tokens h.tokens more next k.rest k.bad h.rest h.bad behind other k.stops begins is h.read h.viable)

-- the tokens of a query are the first of its own
query_viable : (tokens : List Token) (query : Written) → IsQuery tokens query → IsViable tokens
query_viable tokens query is = record {
  others = [];
  query = query;
  are_tokens = tt;
  is_query = subst (λ (z : List Token). IsQuery z query) (sym (append-nil tokens)) is;
}

-- reading of a query stops nowhere
pub no_query : (bytes : List ℕ) (place : ℕ) (word : Option Word) (query : Written) → IsRefused bytes place word → IsText bytes query → ⊥
no_query bytes place word query h (tokens, all, is) =
    let both = read_cuts bytes place (length bytes) h.tokens tokens h.rest [] h.bad [] h.read all in
    by both.0 both.1
  where
    whole : (front : List Token) (rest bad : List ℕ) (said : Option Word) → StopsReading front rest bad said → front ≡ tokens → rest ≡ [] → bad ≡ [] → ⊥
    whole front rest bad said (token next behind at begins none left) same here nothing =
        no_first next behind (subst (λ (z : List ℕ). BeginsWith z next behind) here begins)
    whole front rest bad said (no_token some none) same here nothing =
        some (ap (λ (z : List ℕ). z ++ bad) here ∙ nothing)
    whole front rest bad said (ended no_rest no_bad none) same here nothing =
        none query (subst (λ (z : List Token). IsQuery z query) (sym same) is)

    by : AreCuts h.tokens h.rest tokens [] → h.bad ≡ [] → ⊥
    by (together same here) bad = whole h.tokens h.rest h.bad word h.stops same here bad
    by (shorter next behind more cut begins) bad =
        no_longer bytes (length bytes) h.tokens tokens more next h.rest h.bad [] [] behind word h.stops begins cut all (query_viable tokens query is)
    by (longer next behind more cut begins) bad = no_first next behind begins

-- ---- a text has one fault

pub bad_same : (bytes : List ℕ) (one other : QueryFault) → IsBadText bytes one → IsBadText bytes other → one ≡ other
bad_same bytes faults.NoMemory other h k = absurd h
bad_same bytes (faults.At place) faults.NoMemory h k = absurd k
bad_same bytes (faults.At place) (faults.At at) h k = ap (λ (n : ℕ). faults.At n) (refused_same bytes place at None None h k).0
bad_same bytes (faults.At place) (faults.LeftOut at word) h k =
    let wrong : None ≡ Some word = (refused_same bytes place at None (Some word) h k).1 in absurd cc
bad_same bytes (faults.At place) faults.TooManyPatterns h k = absurd (no_query bytes place None k.0 h k.1)
bad_same bytes (faults.LeftOut place word) faults.NoMemory h k = absurd k
bad_same bytes (faults.LeftOut place word) (faults.At at) h k =
    let wrong : Some word ≡ None = (refused_same bytes place at (Some word) None h k).1 in absurd cc
bad_same bytes (faults.LeftOut place word) (faults.LeftOut at other) h k =
    let same = refused_same bytes place at (Some word) (Some other) h k in
    let words : word ≡ other = some_same same.1 in
    ap (λ (n : ℕ). faults.LeftOut n word) same.0 ∙ ap (λ (w : Word). faults.LeftOut at w) words
  where
    some_same : {x y : Word} → Some x ≡ Some y → x ≡ y
    some_same e = cc
bad_same bytes (faults.LeftOut place word) faults.TooManyPatterns h k = absurd (no_query bytes place (Some word) k.0 h k.1)
bad_same bytes faults.TooManyPatterns faults.NoMemory h k = absurd k
bad_same bytes faults.TooManyPatterns (faults.At at) h k = absurd (no_query bytes at None h.0 k h.1)
bad_same bytes faults.TooManyPatterns (faults.LeftOut at word) h k = absurd (no_query bytes at (Some word) h.0 k h.1)
bad_same bytes faults.TooManyPatterns faults.TooManyPatterns h k = refl

-- a fault that was found is the one that is there
pub fault_is : (bytes : List ℕ) (found fault : QueryFault) → IsBadText bytes found → IsBadText bytes fault → IsNoMemoryOr fault found
fault_is bytes found fault h k = inr (bad_same bytes found fault h k)

-- and a text that says a query within the limit has none
pub no_fault : (bytes : List ℕ) (fault : QueryFault) (query : Asked) → ((other : Asked) → ReadsQuery bytes other → query ≡ other) → ReadsQuery bytes query
    → length query.patterns ≤ 16 → IsBadText bytes fault → ⊥
no_fault bytes faults.NoMemory query only reads few h = h
no_fault bytes (faults.At place) query only reads few h = no_query bytes place None reads.0 h reads.1
no_fault bytes (faults.LeftOut place word) query only reads few h = no_query bytes place (Some word) reads.0 h reads.1
no_fault bytes faults.TooManyPatterns query only reads few h =
    let same = ap (λ (q : Asked). length q.patterns) (only (query_of h.0) (h.0, h.1, refl)) in
    omega (arith, few, h.2, same, length-map h.0.triples (pattern_of (names_of h.0) (labels_of h.0)))
