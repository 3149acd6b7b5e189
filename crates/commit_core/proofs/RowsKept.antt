-- The entries of the room have the history's rows: what a mend, a put and a plan do to that.
use Rattle.std.proofs.Common.{◌≡◌, ℕ, ◌+◌, ◌-◌, ◌≤◌, List, [], ◌∷◌, ◌++◌, length, take, drop, Bool, true, false, cond, Option, Some, None, Result, Ok, Err, OnOk, OnErr, refl, sym, ◌∙◌, ap, subst, arith, inl, inr, length-append, ◌⊎◌}
use Rattle.std.proofs.lemmas.Bool.{false≢true}
use Rattle.std.proofs.lemmas.List.{take_all, length-drop, take-append-le}
use Rattle.history_board.specs.Tokens.{Seen}
use Rattle.change_model.specs.declared.entry.Entry.{Entry}
use Rattle.change_model.specs.declared.entry.Resolved.{Resolved}
use Rattle.change_model.specs.declared.history.Committed.{Committed}
use Rattle.change_model.specs.History.{History}
use Rattle.change_model.specs.Lexicon.{lexicon_at}
use Rattle.change_model.specs.Entries.{IsLastEntry, AreEntriesBetween, AreEntriesAfter, GrownEntriesLaw, SomeEntriesLaw, CountedEntriesLaw}
use Rattle.change_model.specs.Laws.{IsWritable}
use Rattle.record_log.specs.Items.{with_one}
use Rattle.commit_core.specs.declared.fault.CommitFault.{CommitFault}
use Rattle.commit_core.specs.declared.fault.CommitFault.TheVariants.{NoMemory, Unsure, HistoryFull, DiskFault, LogFull}
use Rattle.commit_core.specs.Rooms.{Room, Waited, change_of}
use Rattle.commit_core.specs.Steps.{Mends, FailsToMend, SettleStep, entry_of_waited}
use Rattle.commit_core.specs.Ledgers.{Ledgered}
use Rattle.commit_core.specs.Puts.{PutStep, PutWaits, IsBehind, IsNextEntry, HavePlannedRows, chosen}
use Rattle.commit_core.specs.Resolving.{HaveRows, HasRows, WaitsWithRows, IsResolvedFor}

pub moved : (seen seen' : History) (entries entries' : List Entry) (waiting waiting' : Option Waited) → seen ≡ seen' → entries ≡ entries' → waiting ≡ waiting'
    → HaveRows seen' entries' waiting' → HaveRows seen entries waiting
moved seen seen' entries entries' waiting waiting' s e w have =
    subst (λ (h : History). HaveRows h entries waiting) (sym s)
    (subst (λ (l : List Entry). HaveRows seen' l waiting) (sym e)
    (subst (λ (o : Option Waited). HaveRows seen' entries' o) (sym w) have))

-- nothing is undecided
settled : (seen : History) (entries : List Entry) → AreEntriesAfter seen 0 entries → IsWritable seen → HaveRows seen entries None
settled seen entries are writable = record { entered = are; waits = tt; writable = writable; writable_with = writable }

-- one change more came in
come_in : GrownEntriesLaw → (seen : History) (entries : List Entry) (committed : Committed) (entry : Entry) → AreEntriesAfter seen 0 entries → IsNextEntry seen committed entry
    → HaveRows (seen ++ committed ∷ []) (entries ++ entry ∷ []) None
come_in grown seen entries committed entry are next = settled (seen ++ committed ∷ []) (entries ++ entry ∷ []) (grown seen committed 0 entries entry are next.last) next.writable

decided_rows : GrownEntriesLaw → (kept : Bool) (seen : History) (entries : List Entry) (waiting : Option Waited) → HaveRows seen entries waiting
    → HaveRows (cond kept (with_one seen (change_of waiting)) seen) (cond kept (with_one entries (entry_of_waited waiting)) entries) None
decided_rows grown false seen entries waiting have = settled seen entries have.entered have.writable
decided_rows grown true seen entries None have = settled seen entries have.entered have.writable
decided_rows grown true seen entries (Some waited) have =
    settled (seen ++ waited.committed ∷ []) (entries ++ waited.entry ∷ []) (grown seen waited.committed 0 entries waited.entry have.entered have.waits) have.writable_with

pub mends_rows : {D : Type 0} → GrownEntriesLaw → (fault_count : D → ℕ) (old new : Room D) → Mends fault_count old new → HasRows old → HasRows new
mends_rows {D = D} grown fault_count old new mends have =
    subst (λ (r : Room D). HasRows r) (sym mends.is) (decided_rows grown mends.kept old.seen old.entries old.undecided have)

fails_rows : {D : Type 0} (fault_count : D → ℕ) (old new : Room D) (count : ℕ) → FailsToMend fault_count old new count → HasRows old → HasRows new
fails_rows {D = D} fault_count old new count fails have = subst (λ (r : Room D). HasRows r) (sym fails.is) have

-- whatever a settle answered
pub settle_rows : {D T : Type 0} → GrownEntriesLaw → (fault_count : D → ℕ) (old new : Room D) (result : Result T CommitFault) → SettleStep fault_count old new result → HasRows old → HasRows new
settle_rows grown fault_count old new (Ok done) step have = mends_rows grown fault_count old new step have
settle_rows grown fault_count old new (Err (DiskFault count)) step have = fails_rows fault_count old new count step have
settle_rows grown fault_count old new (Err (Unsure count)) step have = absurd step
settle_rows grown fault_count old new (Err NoMemory) step have = absurd step
settle_rows grown fault_count old new (Err HistoryFull) step have = absurd step
settle_rows grown fault_count old new (Err LogFull) step have = absurd step

-- whatever a put answered
waits_rows : (mid new : Ledgered) (committed : Committed) (entry : Entry) → PutWaits mid new committed entry → HaveRows mid.keeper.seen mid.entries mid.waiting
    → IsNextEntry mid.keeper.seen committed entry → HaveRows new.keeper.seen new.entries new.waiting
waits_rows mid new committed entry put have next = by put.waits
  where
    by : (new.waiting ≡ None) ⊎ (new.waiting ≡ Some (record { committed = committed; entry = entry })) → HaveRows new.keeper.seen new.entries new.waiting
    by (inl none) = moved _ mid.keeper.seen _ mid.entries _ None put.seen put.entries none (settled mid.keeper.seen mid.entries have.entered have.writable)
    by (inr some) = moved _ mid.keeper.seen _ mid.entries _ (Some (record { committed = committed; entry = entry })) put.seen put.entries some
        (record { entered = have.entered; waits = next.last; writable = have.writable; writable_with = next.writable })

pub put_rows : {D : Type 0} → GrownEntriesLaw → (fault_count : D → ℕ) (mid new : Ledgered) (old_room new_room : Room D) (note note_after : Seen Committed) (committed : Committed) (entry : Entry)
    (result : Result ℕ CommitFault) → old_room.seen ≡ mid.keeper.seen → new_room.seen ≡ new.keeper.seen → old_room.undecided ≡ None → new_room.undecided ≡ new.waiting
    → PutStep fault_count old_room new_room note note_after committed result → OnOk result (new.entries ≡ mid.entries ++ entry ∷ [])
    → OnErr result (PutWaits mid new committed entry) → HaveRows mid.keeper.seen mid.entries mid.waiting → IsNextEntry mid.keeper.seen committed entry
    → HaveRows new.keeper.seen new.entries new.waiting
put_rows {D = D} grown fault_count mid new old_room new_room note note_after committed entry (Ok time) s s' w w' step entered waits have next =
    moved _ (mid.keeper.seen ++ committed ∷ []) _ (mid.entries ++ entry ∷ []) _ None
    (sym s' ∙ (ap (λ (r : Room D). r.seen) step.is ∙ ap (λ (h : History). h ++ committed ∷ []) s)) entered
    (sym w' ∙ (ap (λ (r : Room D). r.undecided) step.is ∙ w))
    (come_in grown mid.keeper.seen mid.entries committed entry have.entered next)
put_rows grown fault_count mid new old_room new_room note note_after committed entry (Err fault) s s' w w' step entered waits have next =
    waits_rows mid new committed entry waits have next

-- the entry for the place to which the change came is that of the change behind the history there
pub chosen_next : (kept : Bool) (waiting : Option Waited) (seen between : History) (committed : Committed) (alone : Entry) (behind : Option Entry) (time : ℕ)
    → (waiting ≡ None → kept ≡ false) → between ≡ cond kept (with_one seen (change_of waiting)) seen → IsBehind waiting time behind
    → HavePlannedRows seen waiting committed alone behind → IsNextEntry between committed (chosen kept alone behind)
chosen_next false waiting seen between committed alone behind time untried is is_behind planned =
    subst (λ (h : History). IsNextEntry h committed alone) (sym is) planned.alone_is
chosen_next true None seen between committed alone behind time untried is is_behind planned = absurd (false≢true (sym (untried refl)))
chosen_next true (Some waited) seen between committed alone None time untried is is_behind planned = absurd is_behind
chosen_next true (Some waited) seen between committed alone (Some entry) time untried is is_behind planned =
    subst (λ (h : History). IsNextEntry h committed entry) (sym is) planned.behind_is

-- the entries after a pin are those that come behind its time
pub after_pinned : SomeEntriesLaw → CountedEntriesLaw → (seen : History) (entries : List Entry) (pinned : ℕ) → AreEntriesAfter seen 0 entries → pinned ≤ length seen → AreEntriesAfter seen pinned (drop pinned entries)
after_pinned some_law counted_law seen entries pinned are within =
    let some : AreEntriesBetween seen pinned (length seen) (take (length seen - pinned) (drop (pinned - 0) entries)) = some_law seen 0 pinned (length seen) (length seen) entries are (omega arith) within (omega arith) in
    let counted : length seen ≡ 0 + length entries = counted_law seen 0 (length seen) entries are in
    let none_less : pinned - 0 ≡ pinned = omega arith in
    subst (λ (l : List Entry). AreEntriesBetween seen pinned (length seen) l) (take_all (length seen - pinned) (drop pinned entries) (omega (arith, counted, length-drop pinned entries)))
    (subst (λ (n : ℕ). AreEntriesBetween seen pinned (length seen) (take (length seen - pinned) (drop n entries))) none_less some)

-- the undecided change's entry is behind those after a pin
pub after_waiting : GrownEntriesLaw → (seen : History) (waiting : Option Waited) (pinned : ℕ) (entries : List Entry) (earlier : Entry) → AreEntriesAfter seen pinned entries
    → WaitsWithRows seen waiting → Some earlier ≡ entry_of_waited waiting → AreEntriesAfter (with_one seen (change_of waiting)) pinned (entries ++ earlier ∷ [])
after_waiting grown seen None pinned entries earlier are waits is = absurd cc
after_waiting grown seen (Some waited) pinned entries earlier are waits is =
    let same : earlier ≡ waited.entry = cc in
    grown seen waited.committed pinned entries earlier are (subst (λ (e : Entry). IsLastEntry (seen ++ waited.committed ∷ []) e) (sym same) waits)

-- and tells how many ids there are then
pub waiting_terms : (seen : History) (waiting : Option Waited) (earlier : Entry) → WaitsWithRows seen waiting → Some earlier ≡ entry_of_waited waiting
    → earlier.terms ≡ length (lexicon_at (with_one seen (change_of waiting)) (length (with_one seen (change_of waiting))))
waiting_terms seen None earlier waits is = absurd cc
waiting_terms seen (Some waited) earlier waits is =
    let same : earlier ≡ waited.entry = cc in
    ap (λ (e : Entry). e.terms) same ∙ waits.terms

pub waiting_length : (seen : History) (waiting : Option Waited) (earlier : Entry) → Some earlier ≡ entry_of_waited waiting → length (with_one seen (change_of waiting)) ≡ length seen + 1
waiting_length seen None earlier is = absurd cc
waiting_length seen (Some waited) earlier is = omega (arith, length-append seen (waited.committed ∷ []))

-- the change keeps the ids of its pin's time, also behind what is undecided
pub waiting_front : (seen : History) (waiting : Option Waited) (pinned : ℕ) → pinned ≤ length seen → take pinned (with_one seen (change_of waiting)) ≡ take pinned seen
waiting_front seen None pinned within = refl
waiting_front seen (Some waited) pinned within = take-append-le pinned seen (waited.committed ∷ []) within

pub resolved_moved : (seen seen' : History) (pinned pinned' : ℕ) (resolved : Resolved) → seen ≡ seen' → pinned ≡ pinned'
    → IsResolvedFor seen' pinned' resolved → IsResolvedFor seen pinned resolved
resolved_moved seen seen' pinned pinned' resolved s p is =
    subst (λ (h : History). IsResolvedFor h pinned resolved) (sym s)
    (subst (λ (n : ℕ). IsResolvedFor seen' n resolved) (sym p) is)

pub planned_moved : (seen seen' : History) (waiting waiting' : Option Waited) (committed : Committed) (alone : Entry) (behind : Option Entry) → seen ≡ seen' → waiting ≡ waiting'
    → HavePlannedRows seen' waiting' committed alone behind → HavePlannedRows seen waiting committed alone behind
planned_moved seen seen' waiting waiting' committed alone behind s w is =
    subst (λ (h : History). HavePlannedRows h waiting committed alone behind) (sym s)
    (subst (λ (o : Option Waited). HavePlannedRows seen' o committed alone behind) (sym w) is)

-- a change that opening found comes in
pub found_rows : GrownEntriesLaw → (first reserved last : Ledgered) (committed : Committed) (entry : Entry) (room room' : ℕ) → reserved ≡ record first { room = room }
    → last ≡ record reserved { keeper = record reserved.keeper { seen = reserved.keeper.seen ++ committed ∷ [] }; entries = reserved.entries ++ entry ∷ []; room = room' }
    → HaveRows first.keeper.seen first.entries first.waiting → first.waiting ≡ None → IsNextEntry first.keeper.seen committed entry
    → HaveRows last.keeper.seen last.entries last.waiting
found_rows grown first reserved last committed entry room room' reserved_is last_is have none is =
    moved _ (first.keeper.seen ++ committed ∷ []) _ (first.entries ++ entry ∷ []) _ None
    (ap (λ (l : Ledgered). l.keeper.seen) last_is ∙ ap (λ (l : Ledgered). l.keeper.seen ++ committed ∷ []) reserved_is)
    (ap (λ (l : Ledgered). l.entries) last_is ∙ ap (λ (l : Ledgered). l.entries ++ entry ∷ []) reserved_is)
    (ap (λ (l : Ledgered). l.waiting) last_is ∙ (ap (λ (l : Ledgered). l.waiting) reserved_is ∙ none))
    (come_in grown first.keeper.seen first.entries committed entry have.entered is)
