-- What the machine leaves is what the definitions of a query and of a refusal ask.
use Rattle.std.proofs.Common.{◌≡◌, ℕ, ◌+◌, ◌≤◌, ◌<◌, arith, true, false, ◌&&◌, List, [], ◌∷◌, ◌++◌, length, length-append, map, Option, Some, None, refl, sym, ap, subst, ◌∙◌}
use Rattle.std.specs.List.{AllByRecursion}
use Rattle.std.specs.Str.{encode_utf8_all}
use Rattle.std.proofs.lemmas.Bool.{and_parts}
use Rattle.std.proofs.lemmas.List.{append-nil, length-map}
use Rattle.bgp_model.specs.declared.query.Query.{Query as Asked}
use Rattle.bgp_model.specs.Solutions.{HasPlaces}
use Rattle.query_text.specs.declared.fault.QueryFault.{QueryFault}
use Rattle.query_text.specs.declared.fault.QueryFault.TheVariants as faults
use Rattle.query_text.specs.declared.parse.Parsed.{Parsed}
use Rattle.query_text.specs.declared.parse.Parsed.TheVariants.{Refused, Read}
use Rattle.query_text.specs.declared.parse.Parser.{Parser}
use Rattle.query_text.specs.declared.phase.Phase.{Phase}
use Rattle.query_text.specs.declared.phase.Phase.TheVariants as phases
use Rattle.query_text.specs.declared.phase.Triple.{Triple as RawTriple}
use Rattle.query_text.specs.declared.token.Token.{Token as Found}
use Rattle.bgp_model.specs.declared.word.Word.{Word}
use Rattle.query_text.specs.Tokens.{Token}
use Rattle.query_text.specs.Texts.{AreCharacters, BeginsWithNone, AreTokens}
use Rattle.query_text.specs.Grammar.{Declaration, Triple, Written, IsQuery}
use Rattle.query_text.specs.Meaning.{query_of, ReadsQuery, IsText, HasTerms, pattern_of, names_of, labels_of}
use Rattle.query_text.specs.Reading.{token_of, AreCut}
use Rattle.query_text.specs.Parsing.{State, start, run, IsStopped, IsRead, IsParsed, seen, is_empty}
use Rattle.query_text.specs.Outcomes.{is_end, is_whole, IsPlace, fault_at, IsRefusal}
use Rattle.query_text.specs.Refusals.{IsViable, StopsReading, token, no_token, ended, IsRefused, IsTooLarge, IsBadText}
use Rattle.query_text.specs.Saying.{AreTriplesOf, Says}
use Rattle.query_text.proofs.Gaps.{cut_tokens}
use Rattle.query_text.proofs.Complete.{runs, refused, nowhere}
use Rattle.query_text.proofs.Backwards.{AreFound}
use Rattle.query_text.proofs.Finish.{viable}
use Rattle.query_text.proofs.Ended.{says_same, some_says, end_says, query_says}
use Rattle.query_text.proofs.Widths.{width}
use Rattle.query_text.proofs.OneCut.{characters_same, cut_same, cut_found, front_same, left_width}
use Rattle.query_text.proofs.Placed.{has_places}
use Rattle.query_text.proofs.Asked.{has_terms}

-- the query of a text is that of its tokens, and then nothing is left
record AsCut (found : List Found) (rest bad : List ℕ) (query : Asked) : Type 0 where
  written : Written
  is_query : IsQuery (map token_of found) written
  nothing_left : rest ≡ []
  nothing_bad : bad ≡ []
  says : query ≡ query_of written

mapped_last : (front : List Found) (t : Found) → map token_of (front ++ t ∷ []) ≡ map token_of front ++ token_of t ∷ []
mapped_last [] t = refl
mapped_last (f ∷ front) t = ap (λ (z : List Token). token_of f ∷ z) (mapped_last front t)

caused : (bytes : List ℕ) (fault : QueryFault) (place : ℕ) (word : Option Word) → fault ≡ fault_at place word → IsRefused bytes place word → IsBadText bytes fault
caused bytes fault place None e h = subst (IsBadText bytes) (sym e) h
caused bytes fault place (Some word) e h = subst (IsBadText bytes) (sym e) h

no_front : (rest : List ℕ) → is_empty rest ≡ true → rest ≡ []
no_front [] h = refl
no_front (c ∷ cs) h = absurd cc

same_number : (ds : List Declaration) (rs : List RawTriple) (ts : List Triple) → AreTriplesOf ds rs ts → length rs ≡ length ts
same_number ds [] [] h = refl
same_number ds [] (t ∷ ts) h = absurd h
same_number ds (r ∷ rs) [] h = absurd h
same_number ds (r ∷ rs) (t ∷ ts) h = omega (arith, same_number ds rs ts h.3)

-- all tokens of a text whose bytes are all characters
record AllTokens (characters bad : List ℕ) (query : Asked) : Type 0 where
  written : Written
  tokens : List Token
  is_query : IsQuery tokens written
  are : AreTokens characters tokens []
  nothing_bad : bad ≡ []
  says : query ≡ query_of written

all_tokens : (bytes characters bad : List ℕ) → AreCharacters bytes characters bad → (query : Asked) → ReadsQuery bytes query → AllTokens characters bad query
all_tokens bytes characters bad h query (written, text, e) =
    let all = text.1 in
    let spelled = sym (append-nil (encode_utf8_all all.characters)) ∙ sym all.are_characters.spelled ∙ h.spelled in
    let same = characters_same all.characters characters bad all.are_characters.scalars spelled h.bad_is in record {
      written = written;
      tokens = text.0;
      is_query = text.2;
      are = subst (λ (z : List ℕ). AreTokens z text.0 []) same.0 all.are_tokens;
      nothing_bad = same.1;
      says = e;
    }

module _ (bytes characters bad : List ℕ) (are_characters : AreCharacters bytes characters bad) where
  -- what is left of the characters is no longer than the bytes
  within : (found : List Found) (rest : List ℕ) → AreCut characters found rest → width rest + length bad ≤ length bytes
  within found rest cut =
      omega (
        arith,
        left_width characters (map token_of found) rest (cut_tokens characters found rest cut),
        ap length are_characters.spelled,
        length-append (encode_utf8_all characters) bad,
      )

  -- ---- a refused token

  module _ (t : Found) (stopped : IsStopped characters t) where
    -- a refused token and what stands behind it are no longer than the bytes
    pub token_within : width (t.characters.now ++ t.behind.now) + length bad ≤ length bytes
    token_within = omega (arith, within stopped.front stopped.here stopped.cut, ap width stopped.begins.cut)

    pub refusal_fault : (fault : QueryFault) → IsRefusal (length bytes) (token_of t) t.behind.now bad fault → IsBadText bytes fault
    refusal_fault fault r =
        let front = cut_found characters stopped.front stopped.here stopped.cut in
        let place : IsPlace (length bytes) stopped.here bad r.place = subst (λ (z : List ℕ). IsPlace (length bytes) z bad r.place) (sym stopped.begins.cut) r.place_is in
        caused bytes fault r.place r.word r.is (record {
          tokens = map token_of stopped.front;
          rest = stopped.here;
          bad = bad;
          read = record {
            characters = characters;
            are_characters = are_characters;
            are_tokens = cut_tokens characters stopped.front stopped.here stopped.cut;
            place_is = place;
          };
          viable = viable stopped.front stopped.state front stopped.read;
          stops = token (token_of t) t.behind.now r.word stopped.begins
              (λ v. refused stopped.front t stopped.state stopped.read stopped.stopped (subst IsViable (sym (mapped_last stopped.front t)) v)) r.word_is;
        })

    pub refusal_only : (query : Asked) → ReadsQuery bytes query → ⊥
    refusal_only query reads =
        let a = all_tokens bytes characters bad are_characters query reads in
        let on = front_same characters stopped.here stopped.front t a.tokens stopped.cut stopped.begins a.are in
        let r = runs (stopped.front ++ t ∷ []) on.others a.written (subst (λ (z : List Token). IsQuery z a.written) on.cut a.is_query) in
        nowhere t stopped.state stopped.stopped stopped.front start r.last stopped.read r.is

  -- ---- the end

  module _ (state : State) (rest : List ℕ) (end : IsRead characters state rest) where
    abbrev found : List Found
    found = end.found

    abbrev read : run (Some start) found ≡ Some state
    read = end.read

    as_cut : (query : Asked) → ReadsQuery bytes query → AsCut found rest bad query
    as_cut query reads =
        let a = all_tokens bytes characters bad are_characters query reads in
        let tokens = cut_same characters found rest a.tokens end.cut end.none a.are in record {
          written = a.written;
          is_query = subst (λ (z : List Token). IsQuery z a.written) (sym tokens.0) a.is_query;
          nothing_left = tokens.1;
          nothing_bad = a.nothing_bad;
          says = a.says;
        }

    all_found : AreFound found
    all_found = cut_found characters found rest end.cut

    -- what is left at the end is no longer than the bytes
    pub rest_within : width rest + length bad ≤ length bytes
    rest_within = within found rest end.cut

    ended_stops : is_whole state.phase rest bad ≡ false → StopsReading (map token_of found) rest bad None
    ended_stops h = by rest bad end.none h
      where
        by : (left wrong : List ℕ) → BeginsWithNone left → is_whole state.phase left wrong ≡ false → StopsReading (map token_of found) left wrong None
        by (c ∷ cs) wrong none k = no_token (λ e. cc) none
        by [] (b ∷ bs) none k = no_token (λ e. cc) none
        by [] [] none k = ended refl refl (λ query is. unread query is k)
          where
            unread : (query : Written) → IsQuery (map token_of found) query → is_whole state.phase [] [] ≡ false → ⊥
            unread query is k =
                let at = (query_says found state query read is).0 in
                let wrong : true ≡ false = sym (ap (λ (p : Phase). is_whole p [] []) at) ∙ k in cc

    pub ended_fault : (place : ℕ) → is_whole state.phase rest bad ≡ false → IsPlace (length bytes) rest bad place → IsBadText bytes (faults.At place)
    ended_fault place h p = record {
      tokens = map token_of found;
      rest = rest;
      bad = bad;
      read = record { characters = characters; are_characters = are_characters; are_tokens = cut_tokens characters found rest end.cut; place_is = p };
      viable = viable found state all_found read;
      stops = ended_stops h;
    }

    pub ended_only : is_whole state.phase rest bad ≡ false → (query : Asked) → ReadsQuery bytes query → ⊥
    ended_only h query reads =
        let a = as_cut query reads in
        let at = (query_says found state a.written read a.is_query).0 in
        let whole = ap (λ (p : Phase). is_whole p rest bad) at ∙ ap (λ (z : List ℕ). is_whole phases.End z bad) a.nothing_left
        ∙ ap (λ (z : List ℕ). is_whole phases.End [] z) a.nothing_bad in
        let wrong : true ≡ false = sym whole ∙ h in cc

    -- ---- a query

    module _ (whole : is_whole state.phase rest bad ≡ true) where
      at_end : state.phase ≡ phases.End
      at_end = by state.phase (and_parts (is_end state.phase) (is_empty rest && is_empty bad) whole).0
        where
          by : (phase : Phase) → is_end phase ≡ true → phase ≡ phases.End
          by phases.End h = refl
          by _ h = absurd cc

      left : (rest ≡ []) × (bad ≡ [])
      left =
          let parts = and_parts (is_empty rest) (is_empty bad) (and_parts (is_end state.phase) (is_empty rest && is_empty bad) whole).1 in
          (no_front rest parts.0, no_front bad parts.1)

      is_text : (written : Written) → Says state written → IsText bytes written
      is_text written says =
          let all : bytes ≡ encode_utf8_all characters ++ [] = are_characters.spelled ∙ ap (λ (z : List ℕ). encode_utf8_all characters ++ z) left.1 in (
            map token_of found,
            record {
              characters = characters;
              are_characters = subst (AreCharacters bytes characters) left.1 are_characters;
              are_tokens = subst (AreTokens characters (map token_of found)) left.0 (cut_tokens characters found rest end.cut);
              place_is = omega arith;
            },
            end_says found state written all_found read at_end says,
          )

      written_of : (written : Written) × Says state written
      written_of = some_says found state all_found read at_end

      -- each query of the text is of what was read
      only_written : (query : Asked) → ReadsQuery bytes query → (written : Written) → Says state written → query ≡ query_of written
      only_written query reads written says =
          let a = as_cut query reads in
          a.says ∙ ap query_of (says_same state a.written written (query_says found state a.written read a.is_query).1 says)

      number : (query : Asked) (written : Written) → Says state written → query ≡ query_of written → length query.patterns ≡ length state.triples
      number query written says e =
          ap (λ (q : Asked). length q.patterns) e ∙ length-map written.triples (pattern_of (names_of written) (labels_of written))
          ∙ sym (same_number says.declarations state.triples written.triples says.triples)

      pub too_large : 16 < length state.triples → IsTooLarge bytes
      too_large h =
          let w = written_of in
          (w.0, is_text w.0 w.1, omega (arith, h, same_number w.1.declarations state.triples w.0.triples w.1.triples))

      pub too_large_only : 16 < length state.triples → (query : Asked) → ReadsQuery bytes query → length query.patterns ≤ 16 → ⊥
      too_large_only h query reads few =
          let w = written_of in
          omega (arith, h, few, number query w.0 w.1 (only_written query reads w.0 w.1))

      module _ (query : Asked) (made : (written : Written) → Says state written → query ≡ query_of written) where
        pub query_reads : ReadsQuery bytes query
        query_reads = let w = written_of in (w.0, is_text w.0 w.1, made w.0 w.1)

        pub query_places : HasPlaces query
        query_places = let w = written_of in subst HasPlaces (sym (made w.0 w.1)) (has_places w.0)

        pub query_terms : length bytes ≤ 65536 → AllByRecursion HasTerms query.patterns
        query_terms short =
            let w = written_of in subst (λ (q : Asked). AllByRecursion HasTerms q.patterns) (sym (made w.0 w.1)) (has_terms bytes w.0 short (is_text w.0 w.1))

        pub query_few : length state.triples ≤ 16 → length query.patterns ≤ 16
        query_few h = let w = written_of in omega (arith, h, number query w.0 w.1 (made w.0 w.1))

        pub query_only : (other : Asked) → ReadsQuery bytes other → query ≡ other
        query_only other reads = let w = written_of in made w.0 w.1 ∙ sym (only_written other reads w.0 w.1)

-- ---- as the code finds them

pub stopped_of : (characters viewed : List ℕ) (parsed : Parsed) (t : Found) → viewed ≡ characters → IsParsed viewed parsed → parsed ≡ Refused t → IsStopped characters t
stopped_of characters viewed parsed t e h f = subst (λ (z : List ℕ). IsStopped z t) e (subst (IsParsed viewed) f h)

pub read_of : (characters viewed : List ℕ) (parsed : Parsed) (parser : Parser) (rest : _) → viewed ≡ characters → IsParsed viewed parsed → parsed ≡ Read parser rest
    → IsRead characters (seen parser) rest.now
read_of characters viewed parsed parser rest e h f = subst (λ (z : List ℕ). IsRead z (seen parser) rest.now) e (subst (IsParsed viewed) f h)
