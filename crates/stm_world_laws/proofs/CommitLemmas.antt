-- What a legal commit at a level that compares makes of the history.
use Rattle.std.proofs.Common.{◌≡◌, List, Bool, true, cond, Ok, refl, arith}
use Rattle.std.proofs.lemmas.Bool.Decides.{nat_tests}
use Rattle.stm_history.specs.declared.change.Change.{Change}
use Rattle.stm_history.specs.History.{History}
use Rattle.stm_program.specs.Syntax.{Block}
use Rattle.stm_program.specs.Writes.{latest_writes}
use Rattle.stm_steps.specs.declared.run.End.TheVariants.{Done as DoneEnd}
use Rattle.stm_steps.specs.declared.run.Run.{Run}
use Rattle.stm_steps.specs.declared.run.Answered.TheVariants.{Ended}
use Rattle.stm_meaning.specs.Answer.{Lookup}
use Rattle.stm_meaning.specs.Laws.{KnowsEachKey}
use Rattle.stm_meaning.specs.Meaning.{run_over}
use Rattle.stm_outcome.specs.Outcome.{Done, with_changes}
use Rattle.stm_outcome.specs.Commits.{applied, effective}
use Rattle.stm_outcome.specs.Terms.{Terms}
use Rattle.stm_compile.specs.Answers.{state_now}
use Rattle.stm_entries.specs.declared.entry.Entry.{Entry}
use Rattle.stm_entries.specs.Legal.{IsLegal}
use Rattle.stm_entries.specs.Replay.{replay_entry}
use Rattle.stm_entries.specs.Replayed.{Replayed}
use Rattle.stm_world_laws.specs.Commits.{IsCommitOf}
use Rattle.stm_world_laws.specs.Queues.{output_of}

-- the look-up of a program that runs on the store as it is knows every key
pub now_is_known : (h : History) → KnowsEachKey (state_now h)
now_is_known h key = refl

-- what a commit of a program came from, and what it left
pub record Committed (statements : Block) (before after : Replayed) : Type 0 where
  pub run : Run
  pub alone : run_over (state_now before.history) statements ≡ Ended run
  pub is_done : run.end ≡ DoneEnd
  pub left : after.history ≡ with_changes before.history (effective before.history (latest_writes run.writes))

applied_history : (terms : Terms) (writes : List Change) (done : Done) → applied terms writes ≡ Ok done →
    done.history ≡ with_changes terms.history (effective terms.history writes)
applied_history terms writes done is = grind (arith, nat_tests)

alone_by : (comparing : Bool) (h : History) (answers : Lookup) (statements : Block) (run : Run) → comparing ≡ true →
    run_over (cond comparing (state_now h) answers) statements ≡ Ended run → run_over (state_now h) statements ≡ Ended run
alone_by comparing h answers statements run is ran = grind (arith, nat_tests)

pub committed : (statements : Block) (e : Entry) (r : Replayed) → IsCommitOf statements e → IsLegal e r → Committed statements r (replay_entry e r)
committed statements e r of legal = grind (arith, nat_tests, alone_by, applied_history)

-- what the entry of a commit says was emitted is what its run has emitted
pub output_reported : (statements : Block) (e : Entry) (r : Replayed) → IsCommitOf statements e → IsLegal e r → (run : Run) →
    run_over (state_now r.history) statements ≡ Ended run → output_of e ≡ run.output
output_reported statements e r of legal run ran = grind (arith, nat_tests, alone_by)
