-- The entries of a history as it grows.
use Rattle.std.proofs.Common.{◌≡◌, ℕ, zero, suc, ◌+◌, ◌-◌, ◌≤◌, List, [], ◌∷◌, ◌++◌, length, take, drop, sym, ap, subst, arith, length-append}
use Rattle.std.proofs.Math.Seq.{take-length}
use Rattle.std.proofs.lemmas.List.{take-append-le}
use Rattle.row_core.specs.declared.rows.Index.{Index}
use Rattle.row_core.specs.declared.rows.Index.TheVariants.{T2i, I2t, Spo, Pos, Osp}
use Rattle.row_core.specs.declared.rows.Row.{Row}
use Rattle.row_core.specs.Rows.{AreChanges}
use Rattle.change_model.specs.declared.entry.Entry.{Entry}
use Rattle.change_model.specs.History.{History}
use Rattle.change_model.specs.Entries.{AreRowsOf, IsEntryAt, IsLastEntry, AreEntriesBetween, LastEntryLaw, LongerEntryLaw, LongerEntriesLaw, NextEntryLaw, GrownEntriesLaw, SomeEntriesLaw, CountedEntriesLaw}
use Rattle.change_model.proofs.Members.{length-one_more}
use Rattle.change_model.proofs.EntryHistory.{all_from}

-- the rows of a time change a window at that time
pub changes_of : (index : Index) (history : History) (time : ℕ) (rows : List Row) → AreRowsOf index history time rows → AreChanges time rows
changes_of index history time rows are = record { in_order = are.order; times = all_from (λ row. row.time ≡ time) rows (λ row h. ((are.exactly row).0 h).1) }

pub last_entry_is : LastEntryLaw
last_entry_is history entry last =
    let at = λ (index : Index) (rows : List Row) (are : AreRowsOf index history entry.time rows). subst (λ (n : ℕ). AreChanges n rows) last.time (changes_of index history entry.time rows are) in (
      record {
        time_is = last.time;
        t2i = at T2i entry.t2i last.t2i;
        i2t = at I2t entry.i2t last.i2t;
        spo = at Spo entry.spo last.spo;
        pos = at Pos entry.pos last.pos;
        osp = at Osp entry.osp last.osp;
      },
      record { known = omega arith; last = subst (λ (h : History). IsLastEntry h entry) (sym (take-length history)) last },
    )

pub longer_entry : LongerEntryLaw
longer_entry history more time entry at = record {
  known = let low = at.known in omega (arith, length-append history more);
  last = subst (λ (h : History). IsLastEntry h entry) (sym (take-append-le time history more at.known)) at.last;
}

pub longer_entries : LongerEntriesLaw
longer_entries history more from upto [] are = are
longer_entries history more from upto (entry ∷ entries) are = (longer_entry history more (suc from) entry are.0, longer_entries history more (suc from) upto entries are.1)

pub next_entry : NextEntryLaw
next_entry history from upto [] entry are at = (subst (λ (k : ℕ). IsEntryAt history (suc k) entry) (sym are) at, ap suc are)
next_entry history from upto (first ∷ entries) entry are at = (are.0, next_entry history (suc from) upto entries entry are.1 at)

pub grown_entries : GrownEntriesLaw
grown_entries history committed from entries entry are last =
    let longer : History = history ++ (committed ∷ []) in
    let long : length longer ≡ suc (length history) = length-one_more history committed in
    let at : IsEntryAt longer (suc (length history)) entry = subst (λ (n : ℕ). IsEntryAt longer n entry) long (last_entry_is longer entry last).1 in
    subst (λ (n : ℕ). AreEntriesBetween longer from n (entries ++ (entry ∷ []))) (sym long)
    (next_entry longer from (length history) entries entry (longer_entries history (committed ∷ []) from (length history) entries are) at)

pub counted_entries : CountedEntriesLaw
counted_entries history from upto [] are = omega arith
counted_entries history from upto (entry ∷ entries) are = let rest = counted_entries history (suc from) upto entries are.1 in omega arith

-- the entries from a later time on
dropped : (history : History) (from upto n : ℕ) (entries : List Entry) → AreEntriesBetween history from upto entries → from + n ≤ upto
    → AreEntriesBetween history (from + n) upto (drop n entries)
dropped history from upto zero entries are within = let same : from ≡ from + 0 = omega arith in subst (λ (k : ℕ). AreEntriesBetween history k upto entries) same are
dropped history from upto (suc n) [] are within = absurd (omega arith)
dropped history from upto (suc n) (entry ∷ entries) are within =
    let same : suc from + n ≡ from + suc n = omega arith in
    subst (λ (k : ℕ). AreEntriesBetween history k upto (drop n entries)) same (dropped history (suc from) upto n entries are.1 (omega arith))

-- the entries up to an earlier time
taken : (history : History) (from upto n : ℕ) (entries : List Entry) → AreEntriesBetween history from upto entries → from + n ≤ upto
    → AreEntriesBetween history from (from + n) (take n entries)
taken history from upto zero entries are within = omega arith
taken history from upto (suc n) [] are within = absurd (omega arith)
taken history from upto (suc n) (entry ∷ entries) are within =
    let same : suc from + n ≡ from + suc n = omega arith in
    (are.0, subst (λ (k : ℕ). AreEntriesBetween history (suc from) k (take n entries)) same (taken history (suc from) upto n entries are.1 (omega arith)))

pub some_entries : SomeEntriesLaw
some_entries history from first last upto entries are low up high =
    let begin : from + (first - from) ≡ first = omega arith in
    let end : first + (last - first) ≡ last = omega arith in
    let rest = drop (first - from) entries in
    let behind : AreEntriesBetween history first upto rest =
    subst (λ (k : ℕ). AreEntriesBetween history k upto rest) begin (dropped history from upto (first - from) entries are (omega arith)) in
    subst (λ (k : ℕ). AreEntriesBetween history first k (take (last - first) rest)) end (taken history first upto (last - first) rest behind (omega arith))
