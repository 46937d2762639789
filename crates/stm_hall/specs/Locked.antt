-- The locked history: what holds of every hall whenever nobody is inside one of its calls.
--
-- etcd's API reference, "Revisions": one history with one counter. The Go package `clientv3/concurrency`, "STM": the reads and
-- writes of a committed program are as one step. That a hall keeps its entries, and that they replay, is our own.
use Rattle.std.specs.Prelude.{◌≡◌, ℕ, Bool, true, false, ◌||◌, nat_eq, List, [], ◌∷◌, Ok}
use Rattle.stm_history.specs.declared.key_state.ReadAnswer.{ReadAnswer}
use Rattle.stm_history.specs.History.{History, now, revisions_up_to}
use Rattle.stm_leases.specs.Live.{is_live_in}
use Rattle.stm_program.specs.declared.level.Level.{Level}
use Rattle.stm_program.specs.Syntax.{ProgramTree}
use Rattle.stm_steps.specs.declared.value.Value.{Value}
use Rattle.stm_steps.specs.declared.trace_item.TraceItem.{TraceItem}
use Rattle.stm_steps.specs.declared.run.End.TheVariants.{Done as DoneEnd}
use Rattle.stm_steps.specs.declared.run.Run.{Run}
use Rattle.stm_steps.specs.declared.run.Answered.TheVariants.{Ended}
use Rattle.stm_meaning.specs.Meaning.{run_over}
use Rattle.stm_outcome.specs.Outcome.{Done}
use Rattle.stm_program.specs.Levels.{is_comparing}
use Rattle.stm_entries.specs.declared.entry.Entry.{Entry}
use Rattle.stm_entries.specs.declared.entry.Entry.TheVariants.{Program, Foreign, Grant, Renew, Revoke, Expire}
use Rattle.stm_entries.specs.Replayed.{Replayed, without_moment}
use Rattle.stm_entries.specs.Alone.{seen_at, applied_run}
use Rattle.stm_entries.specs.Replay.{replay, replay_entry}
use Rattle.stm_entries.specs.Legal.{IsForeign, IsEnd}
use Rattle.stm_journal.specs.JournalState.{JournalState}

-- ---- where a hall began

-- a history up to a revision
abbrev pub cut_at : ℕ → History → History
cut_at r h = record { opening = h.opening; revisions = revisions_up_to h.opening r h.revisions }

-- an entry is the expiry of this lease
abbrev pub is_expiry_of : ℕ → Entry → Bool
is_expiry_of id (Program program level answers output trace revision) = false
is_expiry_of id (Foreign txn) = false
is_expiry_of id (Grant lease ttl moment) = false
is_expiry_of id (Renew lease moment) = false
is_expiry_of id (Revoke lease) = false
is_expiry_of id (Expire lease) = nat_eq id lease

-- a lease expired in one of these entries
abbrev pub has_expired : ℕ → List Entry → Bool
has_expired id [] = false
has_expired id (e ∷ es) = is_expiry_of id e || has_expired id es

-- a store by its history and by which leases are live, whatever their terms are
pub record StartingStore : Type 0 where
  pub history : History
  pub is_live : ℕ → Bool

-- The opening state of a hall: its history up to the revision that it began with, and the leases that are live now or expired
-- since. A hall grants, renews and revokes nothing.
abbrev pub opening_of : JournalState → StartingStore
opening_of hall = record {
  history = cut_at hall.start hall.standing.history;
  is_live = λ id. is_live_in hall.standing.live id || has_expired id hall.entries;
}

-- a store has this history, and these leases are live in it
pub record StandsIn (opening : StartingStore) (r : Replayed) : Type 0 where
  pub history : r.history ≡ opening.history
  pub live : (id : ℕ) → is_live_in r.live id ≡ opening.is_live id

-- ---- what its entries are

-- A commit at its point: the program is done with this output and trace, at the comparing levels run alone on the state there, and
-- at ReadCommitted on the answers that it read; its writes apply there, and lead to this revision.
pub record IsCommitThere (program : ProgramTree) (level : Level) (answers : List ReadAnswer) (output : List Value) (trace : List TraceItem)
    (revision : ℕ) (before : Replayed) : Type 0 where
  pub kept : is_comparing level ≡ true → answers ≡ []
  pub run : Run
  pub is_run : run_over (seen_at level answers before.history) program.statements ≡ Ended run
  pub is_done : run.end ≡ DoneEnd
  pub emits : run.output ≡ output
  pub sees : run.trace ≡ trace
  pub done : Done
  pub applies : applied_run before run ≡ Ok done
  pub reached : now done.history ≡ revision

-- An entry of a hall at its point. That the answers of a ReadCommitted program are true is not said: they are the caller's.
abbrev pub IsEntryThere : Entry → Replayed → Type 0
IsEntryThere (Program program level answers output trace revision) r = IsCommitThere program level answers output trace revision r
IsEntryThere (Foreign txn) r = IsForeign txn r
IsEntryThere (Grant id ttl moment) r = ⊥
IsEntryThere (Renew id moment) r = ⊥
IsEntryThere (Revoke id) r = ⊥
IsEntryThere (Expire id) r = IsEnd id r

-- each entry at its point
abbrev pub AreEntriesThere : List Entry → Replayed → Type 0
AreEntriesThere [] r = Unit {0}
AreEntriesThere (e ∷ es) r = IsEntryThere e r × AreEntriesThere es (replay_entry e r)

-- ---- the locked history

-- The entries replay from a store in the hall's opening state, whose counter is the one that the hall began with, to the history and
-- the live leases of now, and each is one that may stand at its point.
pub record IsLocked (hall : JournalState) : Type 0 where
  pub from : Replayed
  pub opens : StandsIn (opening_of hall) from
  pub counter : now from.history ≡ hall.start
  pub replays : replay hall.entries from ≡ without_moment hall.standing
  pub entries : AreEntriesThere hall.entries from
