-- What a commit comes to, by whether a compare failed.
use Rattle.std.proofs.Common.{◌≡◌, List, Option, Some, None, Ok, Err, Bool, cond, arith}
use Rattle.std.proofs.lemmas.Bool.Decides.{nat_tests}
use Rattle.stm_history.specs.declared.change.Change.{Change}
use Rattle.stm_history.specs.declared.key_state.ReadAnswer.{ReadAnswer}
use Rattle.stm_history.specs.History.{History}
use Rattle.stm_program.specs.declared.level.Level.{Level}
use Rattle.stm_program.specs.Writes.{latest_writes}
use Rattle.stm_steps.specs.declared.run.Run.{Run}
use Rattle.stm_outcome.specs.declared.answer.FailedCompare.{FailedCompare}
use Rattle.stm_outcome.specs.declared.refusal.Refusal.TheVariants.{TooManyOps, LeaseNotFound, RevisionsUsedUp}
use Rattle.stm_outcome.specs.Outcome.{Done, with_changes}
use Rattle.stm_outcome.specs.Commits.{applied, effective}
use Rattle.stm_outcome.specs.Terms.{Terms}
use Rattle.stm_compile.specs.Committed.{conflict_now, judged, committed}

-- a commit that succeeded
pub record Succeeds (terms : Terms) (level : Level) (reads : List ReadAnswer) (run : Run) (done : Done) : Type 0 where
  pub no_conflict : conflict_now terms.history level reads (latest_writes run.writes) ≡ None
  pub applies : applied terms (latest_writes run.writes) ≡ Ok done

-- a commit of which a compare failed
pub record Fails (h : History) (level : Level) (reads : List ReadAnswer) (run : Run) (failed : FailedCompare) (done : Done) : Type 0 where
  pub conflict : conflict_now h level reads (latest_writes run.writes) ≡ Some failed
  pub unchanged : done.history ≡ h

finished_failed : (dead used : Bool) (made done : Done) → cond dead (Err LeaseNotFound) (cond used (Err RevisionsUsedUp) (Ok made)) ≡ Ok done → made ≡ done
finished_failed dead used made done is = grind (arith, nat_tests)

pub applied_history : (terms : Terms) (changes : List Change) (done : Done) → applied terms changes ≡ Ok done →
    with_changes terms.history (effective terms.history changes) ≡ done.history
applied_history terms changes done is = grind (arith, nat_tests, finished_failed)

pub succeeds : (terms : Terms) (level : Level) (reads : List ReadAnswer) (run : Run) (done : Done) →
    committed terms level reads run ≡ Ok done → done.answer.failed ≡ None → Succeeds terms level reads run done
succeeds terms level reads run done is none = grind (arith, nat_tests)

fails_by : (terms : Terms) (level : Level) (reads : List ReadAnswer) (run : Run) (failed : FailedCompare) (done : Done) (many : Bool)
    (o : Option FailedCompare) → conflict_now terms.history level reads (latest_writes run.writes) ≡ o →
    cond many (Err TooManyOps) (judged terms level reads run o) ≡ Ok done → done.answer.failed ≡ Some failed →
    Fails terms.history level reads run failed done
fails_by terms level reads run failed done many o found is some = grind (arith, nat_tests, finished_failed)

pub fails : (terms : Terms) (level : Level) (reads : List ReadAnswer) (run : Run) (failed : FailedCompare) (done : Done) →
    committed terms level reads run ≡ Ok done → done.answer.failed ≡ Some failed → Fails terms.history level reads run failed done
fails terms level reads run failed done is some = grind (arith, nat_tests, fails_by)
