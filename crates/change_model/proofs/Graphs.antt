-- The graph that a history leaves: later changes don't touch it, and its triples have ids.
use Rattle.std.proofs.Common.{◌≡◌, ℕ, zero, suc, ◌≤◌, ◌<◌, ◌^◌, List, [], ◌∷◌, ◌++◌, map, length, Option, Some, None, inl, inr, ◌↔◌, refl, sym, subst, arith}
use Rattle.std.specs.List.{slice_get}
use Rattle.term_core.specs.declared.term.Term.{Term}
use Rattle.term_core.specs.declared.statement.Statement.{Statement}
use Rattle.base_core.specs.Lists.{Has}
use Rattle.term_core.specs.Term.{IsStatement}
use Rattle.triple_keys.specs.declared.key.Ids.{Ids}
use Rattle.change_model.specs.declared.history.Kind.{Kind}
use Rattle.change_model.specs.declared.history.Kind.TheVariants.{Add, Remove}
use Rattle.change_model.specs.declared.history.Committed.{Committed}
use Rattle.change_model.specs.History.{History, bound_at, applied, after, graph_at}
use Rattle.change_model.specs.Lexicon.{terms_of, brought, terms_at, known_after, lexicon_at, HaveIds}
use Rattle.change_model.specs.Laws.{IsWritable}
use Rattle.change_model.proofs.Members.{slice_get-append, slice_get-last, Has-from_map, each_of}
use Rattle.change_model.proofs.Terms.{AreTermsOf-each, IsStatement-bound}
use Rattle.change_model.proofs.Lexicons.{AreWith-all, HasId-some, HaveIds-grown, AreStatements, IsWritable-at}

applied-same : (kind : Kind) (statements : List Statement) (graph other : Statement → Type 0) (statement : Statement)
    → (graph statement ↔ other statement) → applied kind statements graph statement ↔ applied kind statements other statement
applied-same Add statements graph other statement same =
    (λ h. elim h [ inl old ↦ inl (same.0 old) | inr new ↦ inr new ], λ h. elim h [ inl old ↦ inl (same.1 old) | inr new ↦ inr new ])
applied-same Remove statements graph other statement same = (λ h. (same.0 h.0, h.1), λ h. (same.1 h.0, h.1))

pub after-same : (entry : Option Committed) (time : ℕ) (graph other : Statement → Type 0) (statement : Statement)
    → (graph statement ↔ other statement) → after entry time graph statement ↔ after entry time other statement
after-same None time graph other statement same = same
after-same (Some committed) time graph other statement same =
    applied-same committed.change.kind (map (bound_at time) committed.change.statements) graph other statement same

-- later changes leave the graph of a time as it was
pub graph_at-append : (history more : History) (k : ℕ) (statement : Statement) → k ≤ length history
    → graph_at (history ++ more) k statement ↔ graph_at history k statement
graph_at-append history more zero statement within = (λ h. h, λ h. h)
graph_at-append history more (suc k) statement within =
    rw (slice_get-append history more k (omega arith))
    (after-same (slice_get history k) (suc k) (graph_at (history ++ more) k) (graph_at history k) statement (graph_at-append history more k statement (omega arith)))

-- the graph after a change that there is
pub graph_at-next : (history : History) (k : ℕ) (committed : Committed) (statement : Statement) → slice_get history k ≡ Some committed
    → graph_at history (suc k) statement ↔ applied committed.change.kind (map (bound_at (suc k)) committed.change.statements) (graph_at history k) statement
graph_at-next history k committed statement at = rw at (λ h. h, λ h. h)

-- the graph after one more change
pub graph_at-one_more : (history : History) (committed : Committed) (statement : Statement)
    → graph_at (history ++ committed ∷ []) (suc (length history)) statement
    ↔ applied committed.change.kind (map (bound_at (suc (length history))) committed.change.statements) (graph_at history (length history)) statement
graph_at-one_more history committed statement =
    let n = length history in
    let longer = history ++ committed ∷ [] in
    let next = graph_at-next longer n committed statement (slice_get-last history committed) in
    let same = applied-same committed.change.kind (map (bound_at (suc n)) committed.change.statements) (graph_at longer n) (graph_at history n) statement
    (graph_at-append history (committed ∷ []) n statement (omega arith)) in
    (λ h. same.0 (next.0 h), λ h. next.1 (same.1 h))

brought-all : (kind : Kind) (terms : List Term) → kind ≡ Add → brought kind terms ≡ terms
brought-all Add terms is = refl
brought-all Remove terms is = cc

-- the statements of an Add have ids after it
pub added-ids : (history : History) (k : ℕ) (committed : Committed) (statement : Statement) → slice_get history k ≡ Some committed → committed.change.kind ≡ Add
    → Has (map (bound_at (suc k)) committed.change.statements) statement → (ids : Ids) × HaveIds history (suc k) statement ids
added-ids history k committed statement at kind has =
    let bound = map (bound_at (suc k)) committed.change.statements in
    let terms = AreTermsOf-each bound statement has in
    let all = AreWith-all (lexicon_at history k) (terms_at (suc k) committed.change) in
    let brings : terms_at (suc k) committed.change ≡ terms_of bound = brought-all committed.change.kind (terms_of bound) kind in
    let known = λ (term : Term) (there : Has (terms_of bound) term).
    HasId-some history (suc k) term
    (subst (λ entry. Has (known_after entry (suc k) (lexicon_at history k)) term) (sym at) (all.has term (subst (λ xs. Has xs term) (sym brings) there))) in
    let s = known statement.subject terms.subject in
    let p = known statement.predicate terms.predicate in
    let o = known statement.object terms.object in
    (record { subject = s.0; predicate = p.0; object = o.0 }, record { subject = s.1; predicate = p.1; object = o.1 })

abbrev HaveSomeIds : History → ℕ → Statement → Type 0
HaveSomeIds history k statement = (ids : Ids) × HaveIds history k statement ids

-- what follows of a triple that stays and of one that is put in
applied-from : (kind : Kind) (statements : List Statement) (graph : Statement → Type 0) (statement : Statement) (Known : Type 0)
    → (graph statement → Known) → (kind ≡ Add → Has statements statement → Known) → applied kind statements graph statement → Known
applied-from Add statements graph statement Known old new h = elim h [ inl before ↦ old before | inr here ↦ new refl here ]
applied-from Remove statements graph statement Known old new h = old h.0

after-ids : (history : History) (k : ℕ) (entry : Option Committed) (statement : Statement) → slice_get history k ≡ entry
    → (graph_at history k statement → HaveSomeIds history (suc k) statement) → after entry (suc k) (graph_at history k) statement → HaveSomeIds history (suc k) statement
after-ids history k None statement at before h = before h
after-ids history k (Some committed) statement at before h =
    applied-from committed.change.kind (map (bound_at (suc k)) committed.change.statements) (graph_at history k) statement (HaveSomeIds history (suc k) statement) before
    (λ kind has. added-ids history k committed statement at kind has) h

-- the triples of a graph have ids
pub graph_at-ids : (history : History) (k : ℕ) (statement : Statement) → graph_at history k statement → (ids : Ids) × HaveIds history k statement ids
graph_at-ids history zero statement h = absurd h
graph_at-ids history (suc k) statement h =
    after-ids history k (slice_get history k) statement refl
    (λ before. let old = graph_at-ids history k statement before in (old.0, HaveIds-grown history k (suc k) statement old.0 (omega arith) old.1)) h

after-statements : (entry : Option Committed) (time : ℕ) (graph : Statement → Type 0) (statement : Statement)
    → ((committed : Committed) → entry ≡ Some committed → (time < 2 ^ 64) × AreStatements committed)
    → (graph statement → IsStatement statement) → after entry time graph statement → IsStatement statement
after-statements None time graph statement fits before h = before h
after-statements (Some committed) time graph statement fits before h =
    let fit = fits committed refl in
    applied-from committed.change.kind (map (bound_at time) committed.change.statements) graph statement (IsStatement statement) before
    (λ kind has. let from = Has-from_map (bound_at time) committed.change.statements statement has in
    subst IsStatement from.2 (IsStatement-bound time from.0 fit.0 (each_of IsStatement committed.change.statements from.0 fit.1 from.1))) h

-- the triples of a graph keep the rules
pub graph_at-IsStatement : (history : History) (k : ℕ) (statement : Statement) → IsWritable history → graph_at history k statement → IsStatement statement
graph_at-IsStatement history zero statement writable h = absurd h
graph_at-IsStatement history (suc k) statement writable h =
    after-statements (slice_get history k) (suc k) (graph_at history k) statement
    (λ committed at. IsWritable-at history k committed writable at)
    (graph_at-IsStatement history k statement writable) h
