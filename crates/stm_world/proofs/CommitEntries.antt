-- What a commit that succeeded leaves of the store is what its entry replays to.
use Rattle.std.proofs.Common.{◌≡◌, List, [], ◌∷◌, None, Ok, Bool, cond, refl, ◌∙◌, ap, arith}
use Rattle.std.specs.Prelude.{MatchBool}
use Rattle.std.proofs.lemmas.Bool.Decides.{nat_tests}
use Rattle.stm_history.specs.declared.change.Change.{Change}
use Rattle.stm_history.specs.declared.key_state.ReadAnswer.{ReadAnswer}
use Rattle.stm_history.specs.History.{History, now}
use Rattle.stm_program.specs.Writes.{latest_writes}
use Rattle.stm_steps.specs.declared.run.End.TheVariants.{Done as DoneEnd}
use Rattle.stm_steps.specs.declared.run.Run.{Run}
use Rattle.stm_steps.specs.declared.run.Answered.TheVariants.{Ended as EndedRun}
use Rattle.stm_meaning.specs.Meaning.{run_over}
use Rattle.stm_outcome.specs.Outcome.{Done}
use Rattle.stm_outcome.specs.Commits.{applied}
use Rattle.stm_txn.specs.Standing.{Standing, HasKept, with_history, terms_of}
use Rattle.stm_outcome.specs.Terms.{Terms}
use Rattle.stm_program.specs.Levels.{is_comparing}
use Rattle.stm_compile.specs.Answers.{AreTrue, look_up, state_now}
use Rattle.stm_compile.specs.Committed.{conflict_now, committed}
use Rattle.stm_compile.specs.Laws.{CommitIsTheRunNow}
use Rattle.stm_attempt.specs.Settled.{run_on}
use Rattle.stm_entries.specs.Replayed.{without_moment}
use Rattle.stm_entries.specs.Alone.{seen_at, left_by_run}
use Rattle.stm_entries.specs.Entered.{answers_kept}
use Rattle.stm_world.specs.Task.{Task}
use Rattle.stm_world.specs.World.{entry_of}
use Rattle.stm_world.proofs.Truth.{Keeps, keeps_changes}
use Rattle.stm_world.proofs.Entered.{EntriesFollow, floor_stays}
use Rattle.stm_world.proofs.KeptFor.{kept_by_changes}
use Rattle.stm_world.proofs.CommitCases.{Succeeds, succeeds, applied_history}

same_seen : (b : Bool) (h : History) (reads : List ReadAnswer) → cond b (state_now h) (look_up (cond b [] reads)) ≡ cond b (state_now h) (look_up reads)
same_seen b h reads = grind (arith, nat_tests)

reported_truth : (b : Bool) (h : History) (reads : List ReadAnswer) → AreTrue h reads → MatchBool b (cond b [] reads ≡ []) (AreTrue h (cond b [] reads))
reported_truth b h reads t = grind (arith, nat_tests)

-- a program that is done on what it read commits, and the commit succeeds
pub record Takes (s : Standing) (task : Task) (reads : List ReadAnswer) (run : Run) (done : Done) : Type 0 where
  pub truth : AreTrue s.history reads
  pub is_run : run_on task.program reads ≡ EndedRun run
  pub is_done : run.end ≡ DoneEnd
  pub comes_to : committed (terms_of s) task.level reads run ≡ Ok done
  pub succeeds : done.answer.failed ≡ None

-- what is known of it
pub record Taken (s : Standing) (task : Task) (reads : List ReadAnswer) (run : Run) (done : Done) : Type 0 where
  pub alone : run_over (seen_at task.level reads s.history) task.program.statements ≡ EndedRun run
  pub applies : applied (terms_of s) (latest_writes run.writes) ≡ Ok done
  pub replayed : left_by_run (run_over (seen_at task.level (answers_kept task.level reads) s.history) task.program.statements) (without_moment s)
      ≡ record { history = done.history; live = s.live }

-- the run of a program that committed, at its point
committed_run : (s : Standing) (task : Task) (reads : List ReadAnswer) (run : Run) (done : Done) → CommitIsTheRunNow → Takes s task reads run done →
    conflict_now s.history task.level reads (latest_writes run.writes) ≡ None →
    run_over (seen_at task.level reads s.history) task.program.statements ≡ EndedRun run
committed_run s task reads run done law t clear = grind (arith, nat_tests)

-- what the commit leaves, as the log and the entry replay it
replayed_run : (s : Standing) (task : Task) (reads : List ReadAnswer) (run : Run) (done : Done) →
    run_over (seen_at task.level reads s.history) task.program.statements ≡ EndedRun run → run.end ≡ DoneEnd →
    applied (terms_of s) (latest_writes run.writes) ≡ Ok done →
    left_by_run (run_over (seen_at task.level (answers_kept task.level reads) s.history) task.program.statements) (without_moment s)
    ≡ record { history = done.history; live = s.live }
replayed_run s task reads run done alone is_done applies = grind (arith, nat_tests, same_seen)

pub taken : (s : Standing) (task : Task) (reads : List ReadAnswer) (run : Run) (done : Done) → CommitIsTheRunNow → Takes s task reads run done →
    Taken s task reads run done
taken s task reads run done law t = grind (arith, nat_tests, Succeeds, succeeds, committed_run, replayed_run)

pub grown_by : (terms : Terms) (changes : List Change) (done : Done) → applied terms changes ≡ Ok done → Keeps terms.history done.history
grown_by terms changes done is = grind (arith, nat_tests, Keeps, applied_history, keeps_changes)

-- a store whose history writes were applied to
pub kept_by_writes : (s : Standing) (terms : Terms) (changes : List Change) (done : Done) → terms.history ≡ s.history → applied terms changes ≡ Ok done →
    HasKept s → HasKept (record s { history = done.history })
kept_by_writes s terms changes done same is k = grind (arith, nat_tests, applied_history, kept_by_changes)

-- the entry of the commit leads to what the commit left
pub commit_follows_entry : (s : Standing) (task : Task) (reads : List ReadAnswer) (run : Run) (done : Done) → Takes s task reads run done →
    Taken s task reads run done → EntriesFollow s (with_history s done.history) (entry_of task reads run (now done.history) ∷ [])
commit_follows_entry s task reads run done t taken = record {
  replays = taken.replayed;
  legal = (
    record {
      run = run;
      is_run = ap (λ look. run_over look task.program.statements) (same_seen (is_comparing task.level) s.history reads) ∙ taken.alone;
      is_done = t.is_done;
      emits = refl;
      sees = refl;
      reads_truth = reported_truth (is_comparing task.level) s.history reads t.truth;
      done = done;
      applies = taken.applies;
      reached = refl;
    },
    tt,
  );
  keeps = grown_by (terms_of s) (latest_writes run.writes) done taken.applies;
  kept = kept_by_writes s (terms_of s) (latest_writes run.writes) done refl taken.applies;
  floor = floor_stays s;
  limit = refl;
}
