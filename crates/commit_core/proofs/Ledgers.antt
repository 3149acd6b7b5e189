-- What keeps the ledger: each of its steps, by what the keeper and the book became.
use Rattle.std.proofs.Common.{◌≡◌, ℕ, suc, ◌+◌, ◌<◌, ◌^◌, List, [], ◌∷◌, ◌++◌, length, sym, ap, ◌∙◌, subst, arith}
use Rattle.std.specs.Prelude.{Some, None}
use Rattle.history_board.specs.declared.view.Bearing.{Bearing}
use Rattle.history_board.specs.Bearings.{without, IsEnrolled}
use Rattle.history_board.specs.Tokens.{Kept, IsSound}
use Rattle.change_model.specs.declared.entry.Entry.{Entry}
use Rattle.change_model.specs.declared.history.Committed.{Committed}
use Rattle.change_model.specs.Entries.{IsEntry}
use Rattle.commit_core.specs.Books.{Booked}
use Rattle.commit_core.specs.Rooms.{Waited, session_of, command_of, change_of, MayComeIn, IsSoundHistory, IsDecidedFor}
use Rattle.commit_core.specs.Ledgers.{IsLedger, IsReserved, ledgered}
use Rattle.commit_core.proofs.Histories.{enrolled, grown, waiting, with_found, reserved_same, none_waits}

next : (n : ℕ) (entry : Entry) → IsEntry (n + 1) entry → IsEntry (suc n) entry
next n entry is = subst (λ m. IsEntry m entry) (omega arith) is

module _ (k k' : Kept Committed) (b b' : Booked) where
  pub ledger_enrolled : (s n : ℕ) (bears : List (Bearing Committed)) → k' ≡ record k { bears = bears; since = record { session = s; length = n } ∷ k.since; doubt = without session_of s k.doubt }
      → IsSound session_of command_of k' → IsDecidedFor b.waiting s → IsLedger (ledgered k b) → IsLedger (ledgered k' b)
  ledger_enrolled s n bears is sound decided ledger = record {
    history = enrolled k k' b.entries b.origins b.waiting s n sound (ap (λ (x : Kept Committed). x.seen) is) (ap (λ (x : Kept Committed). x.since) is) (ap (λ (x : Kept Committed). x.doubt) is) decided ledger.history;
    reserved = reserved_same b.waiting b.room b.room (length k.seen) (length k'.seen) (omega arith) (ap (λ (x : Kept Committed). length x.seen) is) ledger.reserved;
  }

  -- a change came in, and nothing is undecided
  pub ledger_entered : (committed : Committed) (entry : Entry) (s : ℕ) → k'.seen ≡ k.seen ++ committed ∷ [] → k'.since ≡ k.since → IsSound session_of command_of k'
      → b'.entries ≡ b.entries ++ entry ∷ [] → b'.origins ≡ b.origins ++ committed.origin ∷ [] → b'.waiting ≡ None
      → IsEnrolled k.since s → IsEntry (suc (length k.seen)) entry → IsLedger (ledgered k b) → IsLedger (ledgered k' b')
  ledger_entered committed entry s seen since sound entries origins none is_enrolled is_entry ledger = record {
    history = subst (λ es. IsSoundHistory k' es b'.origins b'.waiting) (sym entries)
        (subst (λ os. IsSoundHistory k' (b.entries ++ entry ∷ []) os b'.waiting) (sym origins)
        (subst (λ w. IsSoundHistory k' (b.entries ++ entry ∷ []) (b.origins ++ committed.origin ∷ []) w) (sym none)
        (grown k k' b.entries b.origins b.waiting committed entry s sound seen since is_enrolled is_entry ledger.history)));
    reserved = subst (λ w. IsReserved w b'.room (length k'.seen)) (sym none) tt;
  }

  -- a change is undecided from now on
  pub ledger_waits : (waited : Waited) (s : ℕ) → k'.seen ≡ k.seen → k'.since ≡ k.since → IsSound session_of command_of k' → MayComeIn k'.seen k'.since k'.doubt waited.committed
      → b' ≡ record b { waiting = Some waited } → 0 < b.room → length k.seen + 1 < 2 ^ 64 → IsEntry (suc (length k.seen)) waited.entry → IsLedger (ledgered k b) → IsLedger (ledgered k' b')
  ledger_waits waited s seen since sound may is room fits is_entry ledger =
      subst (λ (x : Booked). IsLedger (ledgered k' x)) (sym is) (record {
        history = waiting k k' b.entries b.origins b.waiting waited s sound seen since may ledger.history;
        reserved = (room, omega (arith, fits, ap length seen), subst (λ l. IsEntry (suc (length l)) waited.entry) (sym seen) is_entry);
      })

  -- a change was found at opening
  pub ledger_found : (committed : Committed) (entry : Entry) (room : ℕ) → k'.seen ≡ k.seen ++ committed ∷ [] → k'.since ≡ k.since → IsSound session_of command_of k' → k.since ≡ []
      → b' ≡ record b { entries = b.entries ++ entry ∷ []; room = room } → IsEntry (suc (length k.seen)) entry → IsLedger (ledgered k b) → IsLedger (ledgered k' b')
  ledger_found committed entry room seen since sound none is is_entry ledger =
      let settled : b.waiting ≡ None = none_waits k b.entries b.origins b.waiting ledger.history none in
      subst (λ (x : Booked). IsLedger (ledgered k' x)) (sym is) (record {
        history = with_found k k' b.entries b.origins b.waiting committed entry sound seen since none is_entry (ap change_of settled) ledger.history;
        reserved = subst (λ w. IsReserved w room (length k'.seen)) (sym settled) tt;
      })

-- the ledger once a change was found
pub found_is : (k k' : Kept Committed) (b b' : Booked) (committed : Committed) (entry : Entry) → k' ≡ record k { seen = k.seen ++ committed ∷ [] }
    → b' ≡ record b { entries = b.entries ++ entry ∷ []; room = b'.room }
    → ledgered k' b' ≡ record (ledgered k b) { keeper = record k { seen = k.seen ++ committed ∷ [] }; entries = b.entries ++ entry ∷ []; room = b'.room }
found_is k k' b b' committed entry k_is b_is =
    ap (λ (x : Kept Committed). ledgered x b') k_is ∙ ap (λ (y : Booked). ledgered (record k { seen = k.seen ++ committed ∷ [] }) y) b_is
