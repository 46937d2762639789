-- A replay of legal entries stays at or below the highest revision.
use Rattle.std.proofs.Common.{◌≡◌, ◌≤◌, List, [], ◌∷◌, Option, Bool, false, cond, Ok, Err, arith}
use Rattle.std.specs.Prelude.{Result}
use Rattle.std.proofs.lemmas.Bool.Decides.{nat_tests}
use Rattle.stm_history.specs.declared.change.Change.{Change}
use Rattle.stm_history.specs.declared.revisions.TheConstants.{HIGHEST_REVISION}
use Rattle.stm_history.specs.History.{History, now}
use Rattle.stm_steps.specs.declared.run.Answered.{Answered}
use Rattle.stm_outcome.specs.declared.txn.Txn.{Txn}
use Rattle.stm_outcome.specs.declared.answer.FailedCompare.{FailedCompare}
use Rattle.stm_outcome.specs.declared.answer.OpAnswer.{OpAnswer}
use Rattle.stm_outcome.specs.declared.refusal.Refusal.{Refusal}
use Rattle.stm_outcome.specs.declared.refusal.Refusal.TheVariants.{RevisionsUsedUp}
use Rattle.stm_outcome.specs.Outcome.{Done, outcome, unless, with_changes, is_used_up, answer_of}
use Rattle.stm_outcome.specs.Commits.{applied}
use Rattle.stm_outcome.specs.Terms.{Terms}
use Rattle.stm_entries.specs.declared.entry.Entry.{Entry}
use Rattle.stm_entries.specs.Replayed.{Replayed}
use Rattle.stm_entries.specs.Alone.{history_left, left_by_run}
use Rattle.stm_entries.specs.Legal.{IsLegal, AreLegal}
use Rattle.stm_entries.specs.Replay.{replay, replay_entry}
use Rattle.stm_world.proofs.Slots.{differ}

abbrev pub IsLow : History → Type 0
IsLow h = now h ≤ HIGHEST_REVISION

changes_low : (h : History) (changes : List Change) → IsLow h → is_used_up h changes ≡ false → IsLow (with_changes h changes)
changes_low h changes low room = grind (arith, nat_tests, differ)

finished_low : (used : Bool) (h : History) (failed : Option FailedCompare) (changes : List Change) (answers : List OpAnswer) →
    is_used_up h changes ≡ used → IsLow h →
    IsLow (history_left h (cond used (Err RevisionsUsedUp) (Ok (record { answer = answer_of h failed changes answers; history = with_changes h changes }))))
finished_low used h failed changes answers is low = grind (arith, nat_tests, changes_low)

unless_low : (h : History) (o : Option Refusal) (next : Result Done Refusal) → IsLow h → IsLow (history_left h next) → IsLow (history_left h (unless o next))
unless_low h o next low then = grind (arith, nat_tests)

applied_low : (terms : Terms) (writes : List Change) → IsLow terms.history → IsLow (history_left terms.history (applied terms writes))
applied_low terms writes low = grind (arith, nat_tests, finished_low)

outcome_low : (terms : Terms) (txn : Txn) → IsLow terms.history → IsLow (history_left terms.history (outcome terms txn))
outcome_low terms txn low = grind (arith, nat_tests, unless_low, finished_low)

program_low : (r : Replayed) (answered : Answered) → IsLow r.history → IsLow (left_by_run answered r).history
program_low r answered low = grind (arith, nat_tests, applied_low)

entry_low : (e : Entry) (r : Replayed) → IsLegal e r → IsLow r.history → IsLow (replay_entry e r).history
entry_low e r legal low = grind (arith, nat_tests, program_low, outcome_low, changes_low)

pub replay_stays_low : (entries : List Entry) (r : Replayed) → AreLegal entries r → IsLow r.history → IsLow (replay entries r).history
replay_stays_low [] r legal low = low
replay_stays_low (e ∷ es) r legal low = replay_stays_low es (replay_entry e r) legal.1 (entry_low e r legal.0 low)
