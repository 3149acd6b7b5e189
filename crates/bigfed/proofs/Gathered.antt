-- The documents that were read, name by name, and how many bytes they have together.
use Rattle.std.proofs.Common.{◌≡◌, ◌↔◌, ℕ, ◌+◌, ◌<◌, ◌≤◌, Bool, true, false, ◌||◌, cond, if◌then◌else◌, List, [], ◌∷◌, ◌++◌, length, take, drop, get_or, Option, Some, None, inl, inr, IfSome, nat_eq, nat_cmp, is_some, IsSome, IsTrue, unwrap_or, refl, sym, ap, ◌∙◌, subst, arith}
use Rattle.std.specs.BTreeMap.{get, BTreeMap, is_at}
use Rattle.std.specs.Cmp.Lexicographic.{pointwise, slice_cmp, texts_ties, bytes_decides}
use Rattle.std.proofs.lemmas.List.{take_more, take_all, take-append-drop}
use Rattle.work_text.specs.declared.docs.Doc.{Doc}
use Rattle.work_text.specs.declared.docs.Doc.TheVariants.{Missing}
use Rattle.work_text.specs.declared.work.Line.{Line}
use Rattle.work_text.specs.declared.work.Work.{Work}
use Rattle.work_text.specs.Outside.{IsDocOf, IsWithin, read_up_to, document_named}
use Rattle.bigfed.specs.Documents.{docs_of, Holds, AreDocsOf, AreGathered}
use Rattle.bigfed.specs.Program.{Documents, AreDocuments, IsNamed, name_of, size_of, total, with_document, with_lines}
use Rattle.bigfed.specs.Names.{has_name, with_name}
use Rattle.bigfed.proofs.Outsides.{IsDocOf-within}
use Rattle.nt_text.specs.Limits.{largest_document}

-- names that compare alike are one
same_name : (key name : List ℕ) → is_at (slice_cmp nat_cmp key) name ≡ true → key ≡ name
same_name key name alike = (bytes_decides key name).0 (texts_ties key name ∙ alike)

-- one more document under a name
pub IsDocOf-more : (told : Option (List (List ℕ × List ℕ))) (key name : List ℕ) (doc : Doc) (old new : Option Doc)
    → new ≡ cond (is_at (slice_cmp nat_cmp key) name) (Some doc) old → IsDocOf told largest_document key doc
    → IfSome old (IsDocOf told largest_document name) → IfSome new (IsDocOf told largest_document name)
IsDocOf-more told key name doc old new is read was = by (is_at (slice_cmp nat_cmp key) name) refl is
  where
    by : (at : Bool) → is_at (slice_cmp nat_cmp key) name ≡ at → new ≡ cond at (Some doc) old → IfSome new (IsDocOf told largest_document name)
    by true alike e = rw e (subst (λ (n : List ℕ). IsDocOf told largest_document n doc) (same_name key name alike) read)
    by false other e = rw e was

-- some name is one of the names

same : (name : List ℕ) → pointwise nat_eq name name ≡ true
same name = (bytes_decides name name).1 refl

or_right : (b c : Bool) → c ≡ true → (b || c) ≡ true
or_right true c h = refl
or_right false c h = h

or_left : (b c : Bool) → b ≡ true → (b || c) ≡ true
or_left true c h = refl
or_left false c h = cc

not_true : (b : Bool) → (b ≡ true → ⊥) → b ≡ false
not_true true h = absurd (h refl)
not_true false h = refl

has_name-append : (names more : List (List ℕ)) (name : List ℕ) → has_name (names ++ more) name ≡ (has_name names name || has_name more name)
has_name-append [] more name = refl
has_name-append (other ∷ names) more name = by (pointwise nat_eq other name) (has_name-append names more name)
  where
    by : (is : Bool) → has_name (names ++ more) name ≡ (has_name names name || has_name more name) → (is || has_name (names ++ more) name) ≡ ((is || has_name names name) || has_name more name)
    by true rest = refl
    by false rest = rest

has_name-noted : (names : List (List ℕ)) (name : List ℕ) → has_name (with_name names name) name ≡ true
has_name-noted names name = by (has_name names name) refl
  where
    by : (has : Bool) → has_name names name ≡ has → has_name (if has then names else names ++ name ∷ []) name ≡ true
    by true has = has
    by false has = has_name-append names (name ∷ []) name ∙ or_right (has_name names name) (has_name (name ∷ []) name) (or_left (pointwise nat_eq name name) false (same name))

has_name-kept : (names : List (List ℕ)) (document : Option (List ℕ)) (name : List ℕ) → has_name names name ≡ true → has_name (with_document names document) name ≡ true
has_name-kept names None name is = is
has_name-kept names (Some other) name is = by (has_name names other)
  where
    by : (has : Bool) → has_name (if has then names else names ++ other ∷ []) name ≡ true
    by true = is
    by false = has_name-append names (other ∷ []) name ∙ or_left (has_name names name) (has_name (other ∷ []) name) is

has_name-lines : (names : List (List ℕ)) (lines : List Line) (name : List ℕ) → has_name names name ≡ true → has_name (with_lines names lines) name ≡ true
has_name-lines names [] name is = is
has_name-lines names (line ∷ lines) name is =
    has_name-lines (with_document names (name_of line.command)) lines name (has_name-kept names (name_of line.command) name is)

-- each name that some line needs is one of the names
has_name-needed : (names : List (List ℕ)) (lines : List Line) (name : List ℕ) → IsNamed name lines → has_name (with_lines names lines) name ≡ true
has_name-needed names [] name needed = absurd needed
has_name-needed names (line ∷ lines) name (inl is) =
    has_name-lines (with_document names (name_of line.command)) lines name
    (subst (λ (document : Option (List ℕ)). has_name (with_document names document) name ≡ true) (sym is) (has_name-noted names name))
has_name-needed names (line ∷ lines) name (inr later) = has_name-needed (with_document names (name_of line.command)) lines name later

with_lines-append : (names : List (List ℕ)) (front rest : List Line) → with_lines names (front ++ rest) ≡ with_lines (with_lines names front) rest
with_lines-append names [] rest = refl
with_lines-append names (line ∷ front) rest = with_lines-append (with_document names (name_of line.command)) front rest

-- how many bytes documents have together

total-same : (f g : List ℕ → Doc) (names : List (List ℕ)) → ((name : List ℕ) → has_name names name ≡ true → f name ≡ g name) → total f names ≡ total g names
total-same f g [] alike = refl
total-same f g (name ∷ names) alike =
    let first : f name ≡ g name = alike name (or_left (pointwise nat_eq name name) (has_name names name) (same name)) in
    let rest : total f names ≡ total g names = total-same f g names (λ other is. alike other (or_right (pointwise nat_eq name other) (has_name names other) is)) in
    ap (λ (doc : Doc). size_of doc + total f names) first ∙ ap (λ n. size_of (g name) + n) rest

total-append : (docs : List ℕ → Doc) (names : List (List ℕ)) (name : List ℕ) → total docs (names ++ name ∷ []) ≡ total docs names + size_of (docs name)
total-append docs [] name = omega arith
total-append docs (first ∷ names) name = omega (arith, total-append docs names name)

total-document : (docs : List ℕ → Doc) (names : List (List ℕ)) (document : Option (List ℕ)) → total docs names ≤ total docs (with_document names document)
total-document docs names None = omega arith
total-document docs names (Some name) = by (has_name names name)
  where
    by : (has : Bool) → total docs names ≤ total docs (if has then names else names ++ name ∷ [])
    by true = omega arith
    by false = omega (arith, total-append docs names name)

-- further lines need no less
total-lines : (docs : List ℕ → Doc) (names : List (List ℕ)) (lines : List Line) → total docs names ≤ total docs (with_lines names lines)
total-lines docs names [] = omega arith
total-lines docs names (line ∷ lines) =
    omega (arith, total-document docs names (name_of line.command), total-lines docs (with_document names (name_of line.command)) lines)

-- the document was put in under the key, and what was under other names is there as before
abbrev pub Puts : BTreeMap (List ℕ) Doc → BTreeMap (List ℕ) Doc → List ℕ → Doc → Type 0
Puts old new key doc =
    (name : List ℕ) → get (slice_cmp nat_cmp) new name ≡ cond (is_at (slice_cmp nat_cmp key) name) (Some doc) (get (slice_cmp nat_cmp) old name)

not_some : (found : Option Doc) → is_some found ≡ false → IsSome found → ⊥
not_some found is some = cc

-- which names have documents, once one more was put in
held_more : (names : List (List ℕ)) (key name : List ℕ) (doc : Doc) (old new : Option Doc)
    → new ≡ cond (is_at (slice_cmp nat_cmp key) name) (Some doc) old → IsSome old ↔ IsTrue (has_name names name)
    → IsSome new ↔ IsTrue (has_name (names ++ key ∷ []) name)
held_more names key name doc old new is was =
    subst (λ (b : Bool). IsSome new ↔ IsTrue b) (sym (has_name-append names (key ∷ []) name))
    (by (pointwise nat_eq key name) (has_name names name) (subst (λ (b : Bool). new ≡ cond b (Some doc) old) (sym (texts_ties key name)) is) was)
  where
    by : (at has : Bool) → new ≡ cond at (Some doc) old → IsSome old ↔ IsTrue has → IsSome new ↔ IsTrue (has || (at || false))
    by true true e h = (λ some. refl, λ true. subst IsSome (sym e) refl)
    by true false e h = (λ some. refl, λ true. subst IsSome (sym e) refl)
    by false true e h = (λ some. refl, λ true. subst IsSome (sym e) (h.1 refl))
    by false false e h = (λ some. h.0 (subst IsSome e some), λ true. cc)

-- the names before it keep their documents
kept : (names : List (List ℕ)) (name : List ℕ) (doc : Doc) (old new : BTreeMap (List ℕ) Doc) → has_name names name ≡ false → Puts old new name doc
    → (other : List ℕ) → has_name names other ≡ true → docs_of new other ≡ docs_of old other
kept names name doc old new unnamed puts other named = by (is_at (slice_cmp nat_cmp name) other) refl (puts other)
  where
    clash : false ≡ true → ⊥
    clash e = cc

    by : (at : Bool) → is_at (slice_cmp nat_cmp name) other ≡ at → get (slice_cmp nat_cmp) new other ≡ cond at (Some doc) (get (slice_cmp nat_cmp) old other) → docs_of new other ≡ docs_of old other
    by true alike e = absurd (clash (sym unnamed ∙ ap (has_name names) (same_name name other alike) ∙ named))
    by false differs e = ap (λ (found : Option Doc). unwrap_or found Missing) e

-- a name that has its document already brings nothing
pub AreGathered-again : (told : Documents) (docs : BTreeMap (List ℕ) Doc) (names : List (List ℕ)) (size : ℕ) (name : List ℕ)
    → AreGathered told docs names size → Holds docs name → AreGathered told docs (with_name names name) (size + 0)
AreGathered-again told docs names size name gathered held =
    subst (λ (b : Bool). AreGathered told docs (if b then names else names ++ name ∷ []) (size + 0)) (sym ((gathered.held name).0 held))
    (record { held = gathered.held; read = gathered.read; size_is = omega (arith, gathered.size_is) })

-- a new name brings the bytes of its document
pub AreGathered-more : (told : Documents) (old new : BTreeMap (List ℕ) Doc) (names : List (List ℕ)) (size : ℕ) (key name : List ℕ) (doc : Doc)
    → AreGathered told old names size → key ≡ name → is_some (get (slice_cmp nat_cmp) old name) ≡ false
    → Puts old new key doc → IsDocOf told largest_document name doc
    → AreGathered told new (with_name names name) (size + size_of doc)
AreGathered-more told old new names size key name doc gathered is fresh by_key read =
    let puts : Puts old new name doc = subst (λ (k : List ℕ). Puts old new k doc) is by_key in
    let here = get (slice_cmp nat_cmp) old in
    let unnamed = not_true (has_name names name) (λ named. not_some (here name) fresh ((gathered.held name).1 named)) in
    let others : (other : List ℕ) → has_name names other ≡ true → docs_of new other ≡ docs_of old other = kept names name doc old new unnamed puts in
    let last : docs_of new name ≡ doc = ap (λ (found : Option Doc). unwrap_or found Missing) (puts name ∙ ap (λ (b : Bool). cond b (Some doc) (here name)) (sym (texts_ties name name) ∙ same name)) in
    let sum = total-append (docs_of new) names name ∙ ap (λ n. n + size_of (docs_of new name)) (total-same (docs_of new) (docs_of old) names others) in
    subst (λ (b : Bool). AreGathered told new (if b then names else names ++ name ∷ []) (size + size_of doc)) (sym unnamed)
    (record {
      held = λ other. held_more names name other doc (here other) (get (slice_cmp nat_cmp) new other) (puts other) (gathered.held other);
      read = λ other. IsDocOf-more told name other doc (here other) (get (slice_cmp nat_cmp) new other) (puts other) read (gathered.read other);
      size_is = ap (λ n. n + size_of doc) gathered.size_is ∙ sym (sum ∙ ap (λ (d : Doc). total (docs_of old) names + size_of d) last);
    })

-- the documents of one more line
pub AreGathered-line : (told : Documents) (docs : BTreeMap (List ℕ) Doc) (lines : List Line) (i size : ℕ) (line : Line)
    → i < length lines → line ≡ get_or lines i line
    → AreGathered told docs (with_document (with_lines [] (take i lines)) (name_of line.command)) size
    → AreGathered told docs (with_lines [] (take (i + 1) lines)) size
AreGathered-line told docs lines i size line below is gathered =
    let longer : take (i + 1) lines ≡ take i lines ++ line ∷ [] = take_more lines i line below ∙ ap (λ (x : Line). take i lines ++ x ∷ []) (sym is) in
    subst (λ (names : List (List ℕ)). AreGathered told docs names size)
    (sym (ap (with_lines []) longer ∙ with_lines-append [] (take i lines) (line ∷ []))) gathered

pub gathered_line : (told before : Documents) (old new : BTreeMap (List ℕ) Doc) (lines shown : List Line) (i size more : ℕ) (line : Line)
    → before ≡ told → shown ≡ lines → i < length shown → line ≡ get_or shown i line
    → ((names : List (List ℕ)) (so_far : ℕ) → AreGathered before old names so_far → AreGathered before new (with_document names (name_of line.command)) (so_far + more))
    → AreGathered told old (with_lines [] (take i lines)) size
    → AreGathered told new (with_lines [] (take (i + 1) lines)) (size + more)
gathered_line told before old new lines shown i size more line same_told is below item adds gathered =
    let names : List (List ℕ) = with_lines [] (take i lines) in
    let longer : List (List ℕ) = with_document names (name_of line.command) in
    let here : AreGathered before old names size = subst (λ (t : Documents). AreGathered t old names size) (sym same_told) gathered in
    AreGathered-line told new lines i (size + more) line
    (subst (λ (xs : List Line). i < length xs) is below) (subst (λ (xs : List Line). line ≡ get_or xs i line) is item)
    (subst (λ (t : Documents). AreGathered t new longer (size + more)) same_told (adds names size here))

-- what a name that was asked for has
pub docs_of-found : (told : Option (List (List ℕ × List ℕ))) (docs : BTreeMap (List ℕ) Doc) (name : List ℕ) → Holds docs name → AreDocsOf told docs → IsDocOf told largest_document name (docs_of docs name)
docs_of-found told docs name held read = by (get (slice_cmp nat_cmp) docs name) held (read name)
  where
    by : (found : Option Doc) → IsSome found → IfSome found (IsDocOf told largest_document name) → IsDocOf told largest_document name (unwrap_or found Missing)
    by None some h = cc
    by (Some doc) some h = h

-- each document is within the limit
pub docs_of-within : (told : Option (List (List ℕ × List ℕ))) (docs : BTreeMap (List ℕ) Doc) (name : List ℕ) → AreDocsOf told docs → IsWithin largest_document (docs_of docs name)
docs_of-within told docs name read = by (get (slice_cmp nat_cmp) docs name) (read name)
  where
    by : (found : Option Doc) → IfSome found (IsDocOf told largest_document name) → IsWithin largest_document (unwrap_or found Missing)
    by None h = tt
    by (Some doc) h = IsDocOf-within told largest_document name doc h

-- the documents of all names: those that were read, and also the others where the shelf tells them
abbrev all_docs : Documents → BTreeMap (List ℕ) Doc → List ℕ → Doc
all_docs None docs name = docs_of docs name
all_docs (Some documents) docs name = read_up_to largest_document (document_named documents name)

all_docs-each : (told : Documents) (docs : BTreeMap (List ℕ) Doc) (name : List ℕ) → AreDocsOf told docs → IsDocOf told largest_document name (all_docs told docs name)
all_docs-each None docs name read = docs_of-within None docs name read
all_docs-each (Some documents) docs name read = refl

all_docs-read : (told : Documents) (docs : BTreeMap (List ℕ) Doc) (name : List ℕ) → Holds docs name → AreDocsOf told docs → all_docs told docs name ≡ docs_of docs name
all_docs-read None docs name held read = refl
all_docs-read (Some documents) docs name held read = sym (docs_of-found (Some documents) docs name held read)

-- where those of the first lines are too large, those of all lines are
pub gathered_over : (told : Documents) (docs : BTreeMap (List ℕ) Doc) (work : Work) (i size limit : ℕ)
    → AreGathered told docs (with_lines [] (take i work.lines)) size → limit < size
    → (documents : List ℕ → Doc) × (all : ℕ) × AreDocuments told work documents all × (limit < all)
gathered_over told docs work i size limit gathered above =
    let names = with_lines [] (take i work.lines) in
    let alike = total-same (all_docs told docs) (docs_of docs) names (λ name named. all_docs-read told docs name ((gathered.held name).1 named) gathered.read) in
    let split : with_lines [] work.lines ≡ with_lines names (drop i work.lines) =
    ap (with_lines []) (sym (take-append-drop i work.lines)) ∙ with_lines-append [] (take i work.lines) (drop i work.lines) in
    let more : size ≤ total (all_docs told docs) (with_lines names (drop i work.lines)) =
    omega (arith, gathered.size_is, alike, total-lines (all_docs told docs) names (drop i work.lines)) in
    let within : size ≤ total (all_docs told docs) (with_lines [] work.lines) = subst (λ (all : List (List ℕ)). size ≤ total (all_docs told docs) all) (sym split) more in (
      all_docs told docs,
      total (all_docs told docs) (with_lines [] work.lines),
      record { each = λ name named. all_docs-each told docs name gathered.read; size_is = refl },
      omega arith,
    )

-- once all lines were gone through
pub AreGathered-all : (told : Documents) (docs : BTreeMap (List ℕ) Doc) (lines : List Line) (i size : ℕ)
    → length lines ≤ i → AreGathered told docs (with_lines [] (take i lines)) size → AreGathered told docs (with_lines [] lines) size
AreGathered-all told docs lines i size past gathered =
    subst (λ (front : List Line). AreGathered told docs (with_lines [] front) size) (take_all i lines past) gathered

pub gathered_each : (told : Documents) (docs : BTreeMap (List ℕ) Doc) (lines : List Line) (size : ℕ) (name : List ℕ)
    → AreGathered told docs (with_lines [] lines) size → IsNamed name lines → IsDocOf told largest_document name (docs_of docs name)
gathered_each told docs lines size name gathered needed =
    docs_of-found told docs name ((gathered.held name).1 (has_name-needed [] lines name needed)) gathered.read
