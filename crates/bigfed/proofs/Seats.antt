-- The terms of ids sit once each, and the rows that name them by their seats are the rows of the ids.
use Rattle.std.proofs.Common.{◌≡◌, ℕ, zero, suc, ◌<◌, List, [], ◌∷◌, ◌++◌, map, length, Option, Some, None, refl, sym, ap, subst, ◌∙◌, arith, length-append, append_assoc, take, get_or, ◌+◌, Result, Ok, Err, IfOk, OnOk, IfSome}
use Rattle.std.specs.Option.{MatchOption}
use Rattle.std.specs.List.{slice_get, AllZip, AllByRecursion}
use Rattle.term_core.specs.declared.term.Term.{Term}
use Rattle.base_core.specs.Flat.{rows_in}
use Rattle.base_core.proofs.Flat.{map_rows, length_rows}
use Rattle.bgp_model.specs.declared.solution.Solution.{Solution}
use Rattle.bgp_model.specs.Table.{cell_at as term_in, row_with, table_rows}
use Rattle.change_model.specs.History.{History}
use Rattle.bigfed.specs.declared.naming.Named.{Named}
use Rattle.bigfed.specs.Naming.{IsPlaceIn, IsGrownFrom, IsBelow, IsSeatOf, AreSeatsOf, seat_or_none, seat_at}
use Rattle.std.proofs.lemmas.List.{take_more, length-map}
use Rattle.term_core.specs.Term.{IsTerm}
use Rattle.bgp_model.specs.Table.{HasTerms}
use Rattle.bgp_model.proofs.Placed.{terms_kept}
use Rattle.bigfed.specs.Indexed.{IsTermOf}
use Rattle.bigfed.specs.Solving.{term_at, cell_at, row_at}
use Rattle.bigfed.proofs.Known.{term_is}

-- ---- places

-- a place in a list is one in a longer list
pub get_more : {A : Type 0} (xs ys : List A) (k : ℕ) (x : A) → slice_get xs k ≡ Some x → slice_get (xs ++ ys) k ≡ Some x
get_more [] ys k x e = cc
get_more (y ∷ xs) ys zero x e = e
get_more (y ∷ xs) ys (suc k) x e = get_more xs ys k x e

pub place_more : (old new : List ℕ) (id place : Option ℕ) → IsGrownFrom old new → IsPlaceIn old id place → IsPlaceIn new id place
place_more old new None place grown is = is
place_more old new (Some id) None grown is = is
place_more old new (Some id) (Some place) (more, e) is = subst (λ keys. slice_get keys place ≡ Some id) (sym e) (get_more old more place id is)

pub places_more : (old new : List ℕ) (ids places : List (Option ℕ)) → IsGrownFrom old new → AllZip (IsPlaceIn old) ids places → AllZip (IsPlaceIn new) ids places
places_more old new [] [] grown all = tt
places_more old new [] (place ∷ places) grown all = absurd all
places_more old new (id ∷ ids) [] grown all = absurd all
places_more old new (id ∷ ids) (place ∷ places) grown all = (place_more old new id place grown all.0, places_more old new ids places grown all.1)

-- one more at the end of both lists
pub zip_more : {A B : Type 0} (R : A → B → Type 0) (xs : List A) (ys : List B) (x : A) (y : B) → AllZip R xs ys → R x y → AllZip R (xs ++ x ∷ []) (ys ++ y ∷ [])
zip_more R [] [] x y all last = (last, tt)
zip_more R [] (b ∷ ys) x y all last = absurd all
zip_more R (a ∷ xs) [] x y all last = absurd all
zip_more R (a ∷ xs) (b ∷ ys) x y all last = (all.0, zip_more R xs ys x y all.1 last)

-- what stands beside the item of a place
beside : {A B : Type 0} (R : A → B → Type 0) (xs : List A) (ys : List B) (k : ℕ) (x : A) → AllZip R xs ys → slice_get xs k ≡ Some x
    → (y : B) × (slice_get ys k ≡ Some y) × R x y
beside R [] ys k x all e = cc
beside R (a ∷ xs) [] k x all e = absurd all
beside R (a ∷ xs) (b ∷ ys) zero x all e = (b, refl, subst (λ z. R z b) (some_inj e) all.0)
  where
    some_inj : {X : Type 0} {u v : X} → Some u ≡ Some v → u ≡ v
    some_inj h = cc
beside R (a ∷ xs) (b ∷ ys) (suc k) x all e = beside R xs ys k x all.1 e

-- ---- seats

get_within : (terms : List Term) (more : List Term) (seat : ℕ) → seat < length terms → slice_get (terms ++ more) seat ≡ slice_get terms seat
get_within [] more seat low = absurd (omega arith)
get_within (term ∷ terms) more zero low = refl
get_within (term ∷ terms) more (suc seat) low = get_within terms more seat (omega arith)

-- a seat stays where terms come behind the others
seat_stays : (history : History) (old new : Named) (more : List Term) (id : ℕ) (seat : Option ℕ) → new.terms.items ≡ old.terms.items ++ more
    → IsSeatOf history old id seat → IsSeatOf history new id seat
seat_stays history old new more id None grown is = is
seat_stays history old new more id (Some seat) grown is =
    let longer : length new.terms.items ≡ length old.terms.items + length more = ap length grown ∙ length-append old.terms.items more in
    let low = is.0 in (
      omega arith,
      ap (λ terms. slice_get terms seat) grown ∙ get_within old.terms.items more seat is.0 ∙ is.1,
    )

seats_stay : (history : History) (old new : Named) (more : List Term) (ids : List ℕ) (seats : List (Option ℕ)) → new.terms.items ≡ old.terms.items ++ more
    → AllZip (IsSeatOf history old) ids seats → AllZip (IsSeatOf history new) ids seats
seats_stay history old new more [] [] grown all = tt
seats_stay history old new more [] (seat ∷ seats) grown all = absurd all
seats_stay history old new more (id ∷ ids) [] grown all = absurd all
seats_stay history old new more (id ∷ ids) (seat ∷ seats) grown all =
    (seat_stays history old new more id seat grown all.0, seats_stay history old new more ids seats grown all.1)

-- the next id has its seat
pub seats_more : (history : History) (old new : Named) (more : List Term) (ids : List ℕ) (id : ℕ) (seat : Option ℕ) → new.terms.items ≡ old.terms.items ++ more
    → new.seats.items ≡ old.seats.items ++ seat ∷ [] → AreSeatsOf history ids old → IsSeatOf history new id seat → AreSeatsOf history (ids ++ id ∷ []) new
seats_more history old new more ids id seat grown seats all is =
    subst (AllZip (IsSeatOf history new) (ids ++ id ∷ [])) (sym seats)
    (zip_more (IsSeatOf history new) ids old.seats.items id seat (seats_stay history old new more ids old.seats.items grown all) is)

-- a term behind the others sits at their number
pub get_last : (terms : List Term) (term : Term) → slice_get (terms ++ term ∷ []) (length terms) ≡ Some term
get_last [] term = refl
get_last (first ∷ terms) term = get_last terms term

append-nil : {A : Type 0} (xs : List A) → xs ≡ xs ++ []
append-nil [] = refl
append-nil (x ∷ xs) = ap (λ rest. x ∷ rest) (append-nil xs)

-- an id without a term has no seat
pub no_seat : (history : History) (old new : Named) (ids : List ℕ) (id : ℕ) → new.terms.items ≡ old.terms.items → new.seats.items ≡ old.seats.items ++ None ∷ []
    → AreSeatsOf history ids old → IsTermOf history id None → AreSeatsOf history (ids ++ id ∷ []) new
no_seat history old new ids id same seats all none =
    seats_more history old new [] ids id None (same ∙ append-nil old.terms.items) seats all (tt, term_is history id None none)

-- a term behind the others has the next seat
pub one_seat : (history : History) (old new : Named) (ids : List ℕ) (id seat : ℕ) (term : Term) → seat ≡ length old.terms.items
    → new.terms.items ≡ old.terms.items ++ term ∷ [] → new.seats.items ≡ old.seats.items ++ Some seat ∷ []
    → AreSeatsOf history ids old → IsTermOf history id (Some term) → AreSeatsOf history (ids ++ id ∷ []) new
one_seat history old new ids id seat term at grown seats all is =
    let longer : length new.terms.items ≡ length old.terms.items + 1 = ap length grown ∙ length-append old.terms.items (term ∷ []) in
    let sits : slice_get new.terms.items seat ≡ Some term = ap (λ terms. slice_get terms seat) grown ∙ ap (slice_get (old.terms.items ++ term ∷ [])) at ∙ get_last old.terms.items term in
    seats_more history old new (term ∷ []) ids id (Some seat) grown seats all (omega arith, sits ∙ term_is history id (Some term) is)

-- one more id is done
pub seats_turn : (history : History) (new : Named) (done left rest keys : List ℕ) (id : ℕ) → done ++ left ≡ keys → left ≡ id ∷ rest
    → AreSeatsOf history (done ++ id ∷ []) new → (more : List ℕ) × (more ++ rest ≡ keys) × AreSeatsOf history more new
seats_turn history new done left rest keys id all split are =
    (done ++ id ∷ [], append_assoc done (id ∷ []) rest ∙ ap (λ behind. done ++ behind) (sym split) ∙ all, are)

-- all ids are done
pub seats_all : (history : History) (new : Named) (done left keys : List ℕ) → done ++ left ≡ keys → left ≡ [] → AreSeatsOf history done new → AreSeatsOf history keys new
seats_all history new done left keys all none are =
    subst (λ ids. AreSeatsOf history ids new) (append-nil done ∙ ap (λ behind. done ++ behind) (sym none) ∙ all) are

-- the place of one more id
pub places_turn : (old new : List ℕ) (ids : List (Option ℕ)) (i : ℕ) (d : Option ℕ) (places pushed : List (Option ℕ)) (place : Option ℕ) → i < length ids
    → IsGrownFrom old new → AllZip (IsPlaceIn old) (take i ids) places → IsPlaceIn new (get_or ids i d) place → pushed ≡ places ++ place ∷ []
    → AllZip (IsPlaceIn new) (take (i + 1) ids) pushed
places_turn old new ids i d places pushed place below grown all is put =
    let longer : take (i + 1) ids ≡ take i ids ++ get_or ids i d ∷ [] = take_more ids i d below in
    subst (AllZip (IsPlaceIn new) (take (i + 1) ids)) (sym put)
    (subst (λ front. AllZip (IsPlaceIn new) front (places ++ place ∷ [])) (sym longer)
    (zip_more (IsPlaceIn new) (take i ids) places (get_or ids i d) place (places_more old new (take i ids) places grown all) is))

-- ---- rows

named_cell : (history : History) (named : Named) (distinct : List ℕ) (id place : Option ℕ) → AreSeatsOf history distinct named → IsPlaceIn distinct id place
    → term_in named.terms.items (seat_at named.seats.items place) ≡ cell_at history id
named_cell history named distinct None place seats is = ap (λ p. term_in named.terms.items (seat_at named.seats.items p)) is
named_cell history named distinct (Some id) None seats is = absurd is
named_cell history named distinct (Some id) (Some place) seats is =
    let there = beside (IsSeatOf history named) distinct named.seats.items place id seats is in
    ap (λ seat. term_in named.terms.items (seat_or_none seat)) there.1 ∙ there.2.1

named_cells : (history : History) (named : Named) (distinct : List ℕ) (ids places : List (Option ℕ)) → AreSeatsOf history distinct named
    → AllZip (IsPlaceIn distinct) ids places → map (term_in named.terms.items) (map (seat_at named.seats.items) places) ≡ map (cell_at history) ids
named_cells history named distinct [] [] seats all = refl
named_cells history named distinct [] (place ∷ places) seats all = absurd all
named_cells history named distinct (id ∷ ids) [] seats all = absurd all
named_cells history named distinct (id ∷ ids) (place ∷ places) seats all =
    ap (λ cell. cell ∷ map (term_in named.terms.items) (map (seat_at named.seats.items) places)) (named_cell history named distinct id place seats all.0)
    ∙ ap (λ cells. cell_at history id ∷ cells) (named_cells history named distinct ids places seats all.1)

abbrev row_of_cells : List (Option Term) → Solution
row_of_cells cells = record { cells = cells }

rows_with : (f : Option ℕ → Option Term) (rows : List (List (Option ℕ))) → map (λ (row : List (Option ℕ)). row_of_cells (map f row)) rows ≡ map row_of_cells (map (map f) rows)
rows_with f [] = refl
rows_with f (row ∷ rows) = ap (λ others. row_of_cells (map f row) ∷ others) (rows_with f rows)

-- the rows that name terms by their seats are those of the ids
pub named_table : (history : History) (named : Named) (distinct : List ℕ) (columns count : ℕ) (ids places cells : List (Option ℕ))
    → AreSeatsOf history distinct named → AllZip (IsPlaceIn distinct) ids places → cells ≡ map (seat_at named.seats.items) places
    → table_rows named.terms.items columns count cells ≡ map (row_at history) (rows_in columns count ids)
named_table history named distinct columns count ids places cells seats all is =
    let same : map (term_in named.terms.items) cells ≡ map (cell_at history) ids = ap (map (term_in named.terms.items)) is ∙ named_cells history named distinct ids places seats all in
    rows_with (term_in named.terms.items) (rows_in columns count cells)
    ∙ ap (map row_of_cells) (sym (map_rows (term_in named.terms.items) columns count cells))
    ∙ ap (λ items. map row_of_cells (rows_in columns count items)) same
    ∙ ap (map row_of_cells) (map_rows (cell_at history) columns count ids)
    ∙ sym (rows_with (cell_at history) (rows_in columns count ids))

-- of what is found with two facts the first is kept
pub keeps_first : {T E : Type 0} (N : Type 0) (P Q : T → Type 0) (result : Result (Option T) E) → IfOk result (λ found. MatchOption found N (λ x. P x × Q x))
    → IfOk result (λ found. IfSome found P)
keeps_first N P Q (Ok None) h = tt
keeps_first N P Q (Ok (Some x)) h = h.0
keeps_first N P Q (Err e) h = tt

-- what follows where a call did its work
pub on_ok : {T E P Q : Type 0} (result : Result T E) → OnOk result P → (P → Q) → OnOk result Q
on_ok (Ok x) done f = f done
on_ok (Err e) done f = tt

-- ---- the table

pub table_named : {E : Type 0} (history : History) (named : Named) (distinct : List ℕ) (rows : List (List (Option ℕ))) (ids places cells : List (Option ℕ)) (columns count : ℕ)
    (result : Result (List Solution) E) → IfOk result (λ made. made ≡ table_rows named.terms.items columns count cells)
    → AreSeatsOf history distinct named → AllZip (IsPlaceIn distinct) ids places → cells ≡ map (seat_at named.seats.items) places
    → count ≡ length rows → rows ≡ rows_in columns (length rows) ids → IfOk result (λ made. made ≡ map (row_at history) rows)
table_named history named distinct rows ids places cells columns count (Ok made) is seats all cells_are counted flat =
    is ∙ ap (λ n. table_rows named.terms.items columns n cells) counted
    ∙ named_table history named distinct columns (length rows) ids places cells seats all cells_are ∙ ap (map (row_at history)) (sym flat)
table_named history named distinct rows ids places cells columns count (Err e) is seats all cells_are counted flat = tt

pub table_kept : {E : Type 0} (terms : List Term) (columns count : ℕ) (cells : List (Option ℕ)) (result : Result (List Solution) E)
    → IfOk result (λ made. made ≡ table_rows terms columns count cells) → AllByRecursion IsTerm terms → IfOk result HasTerms
table_kept terms columns count cells (Ok made) is rules = subst HasTerms (sym is) (terms_kept terms columns count cells rules)
table_kept terms columns count cells (Err e) is rules = tt

pub table_long : {E : Type 0} (terms : List Term) (columns count size : ℕ) (cells : List (Option ℕ)) (result : Result (List Solution) E)
    → IfOk result (λ made. made ≡ table_rows terms columns count cells) → count ≡ size → IfOk result (λ made. length made ≡ size)
table_long terms columns count size cells (Ok made) is counted =
    ap length is ∙ length-map (rows_in columns count cells) (row_with terms) ∙ length_rows columns count cells ∙ counted
table_long terms columns count size cells (Err e) is counted = tt
