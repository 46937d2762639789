-- What a log says of attempts that come to nothing: from the headline, line by line.
use Rattle.std.proofs.Common.{cond, arith, Bool, ◌∷◌, Option, ◌≡◌, ℕ, ◌≤◌, List, [], Some, Ok, Err, true, sym, ◌∙◌, ap, subst}
use Rattle.std.specs.Prelude.{option_map, Result}
use Rattle.stm_history.specs.declared.key_state.ReadAnswer.{ReadAnswer}
use Rattle.stm_history.specs.History.{History, now}
use Rattle.stm_steps.specs.declared.run.End.{End}
use Rattle.stm_steps.specs.declared.run.End.TheVariants.{Aborted as AbortedEnd, Faulted as FaultedEnd}
use Rattle.stm_steps.specs.declared.run.Answered.{Answered}
use Rattle.stm_meaning.specs.Laws.{IsContinuedBy}
use Rattle.stm_meaning.specs.Meaning.{run_over}
use Rattle.stm_compile.specs.Answers.{state_as_of, AreTrue}
use Rattle.stm_program.specs.Levels.{is_serializable}
use Rattle.stm_attempt.specs.Fetches.{base_of, HaveOneBase}
use Rattle.std.proofs.lemmas.List.Elements.{All-from_recursion}
use Rattle.std.proofs.lemmas.Bool.Decides.{nat_tests}
use Rattle.stm_program.specs.declared.level.Level.{Level}
use Rattle.stm_steps.specs.declared.run.Run.{Run}
use Rattle.stm_outcome.specs.declared.answer.FailedCompare.{FailedCompare}
use Rattle.stm_outcome.specs.declared.refusal.Refusal.TheVariants.{TooManyOps}
use Rattle.stm_outcome.specs.Outcome.{Done}
use Rattle.stm_outcome.specs.Commits.{revision_read}
use Rattle.stm_outcome.specs.Terms.{Terms}
use Rattle.stm_txn.specs.Standing.{terms_of, Setup}
use Rattle.stm_compile.specs.Committed.{sends_too_many, conflict_now, judged}
use Rattle.stm_compile.proofs.AgreeLemmas.{answers_of_one_revision}
use Rattle.stm_program.specs.Writes.{latest_writes}
use Rattle.stm_attempt.specs.Settled.{run_on}
use Rattle.stm_steps.specs.declared.run.Answered.TheVariants.{Ended as EndedRun}
use Rattle.stm_world.proofs.Slots.{other_number}
use Rattle.stm_events.specs.declared.event.WorldEvent.{WorldEvent}
use Rattle.stm_events.specs.declared.reply.Reply.{Reply}
use Rattle.stm_events.specs.declared.reply.Reply.TheVariants.{Started, Conflict, GaveUp, Aborted, Faulted}
use Rattle.stm_events.specs.declared.refusal.Denied.{Denied}
use Rattle.stm_world.specs.Task.{Task}
use Rattle.stm_world.specs.Log.{Line, running, store, known_after_log}
use Rattle.stm_world.specs.Right.{IsConflicted, EndsWith, StepIsRight, situation}
use Rattle.stm_world.specs.World.{World, Runner, opened, runner_at}
use Rattle.stm_world.specs.Headline.{runner_for, AreOfOneState}
use Rattle.stm_world.specs.Doomed.{EachLine, failed_commit, IsRealFailure, IfFailedIsReal, FailuresAreConflicts}
use Rattle.stm_world.specs.Doomed.{stopped, IsEndOnOneState, IfStoppedIsReal, StopsAreOfOneState}
use Rattle.stm_world.proofs.OneState.{are_of_one_state}
use Rattle.stm_world.proofs.Logs.{of_each_log}
use Rattle.stm_world.proofs.Lines.{each_line, by_event}
use Rattle.stm_world.proofs.RunnerSteps.{CommitLaws}
use Rattle.stm_world.proofs.Headlines.{Follows, opened_follows}

-- ---- commits that failed ----

judged_fails : (terms : Terms) (level : Level) (reads : List ReadAnswer) (run : Run) (o : Option FailedCompare) (done : Done)
    (failed : FailedCompare) → judged terms level reads run o ≡ Ok done → done.answer.failed ≡ Some failed → o ≡ Some failed
judged_fails terms level reads run o done failed is some = grind (arith, nat_tests)

commit_fails : (too_many : Bool) (terms : Terms) (level : Level) (reads : List ReadAnswer) (run : Run) (o : Option FailedCompare)
    (done : Done) (failed : FailedCompare) → cond too_many (Err TooManyOps) (judged terms level reads run o) ≡ Ok done →
    done.answer.failed ≡ Some failed → o ≡ Some failed
commit_fails too_many terms level reads run o done failed is some = grind (arith, nat_tests, judged_fails)

-- a commit that failed by a conflict, at the number of its runner
pub real_failure : (start : Setup) (log : List Line) (id runner : ℕ) (task : Task) (key : List ℕ) (seen now_modified : ℕ) → running id log ≡ Some task →
    runner ≡ id → IsConflicted (situation start log id task) key seen now_modified →
    IsRealFailure start log (record { runner = runner; key = key; seen = seen; now_modified = now_modified })
real_failure start log id runner task key seen now_modified runs same c =
    let h : History = (store start log).history in
    let terms : Terms = terms_of (store start log) in
    subst (λ n. IsRealFailure start log (record { runner = n; key = key; seen = seen; now_modified = now_modified })) (sym same)
    (record {
      task = task;
      runs = runs;
      has_list = c.commits.has_list;
      run = c.commits.run;
      is_run = c.commits.is_run;
      is_done = c.commits.is_done;
      named = record {
        compare = c.failed;
        fails = commit_fails (sends_too_many terms.limit task.level (known_after_log start id task log).reads (latest_writes c.commits.run.writes)) terms
            task.level (known_after_log start id task log).reads c.commits.run
            (conflict_now h task.level (known_after_log start id task log).reads (latest_writes c.commits.run.writes)) c.done c.failed c.commits.comes_to c.fails;
        conflict = c.conflict;
        key = c.about;
        was = c.was;
        is = c.is;
      };
    })

reply_is_real : (start : Setup) (log : List Line) (id : ℕ) (task : Task) (reply : Result Reply Denied) → running id log ≡ Some task →
    StepIsRight (situation start log id task) reply → IfFailedIsReal start log (failed_commit reply)
reply_is_real start log id task (Ok (Conflict runner key seen now)) runs right =
    real_failure start log id runner task key seen now runs right.0 right.2
reply_is_real start log id task (Ok (GaveUp runner attempts key seen now)) runs right =
    real_failure start log id runner task key seen now runs right.0 right.3
reply_is_real start log id task (Ok (Started runner)) runs right = tt
reply_is_real start log id task _ runs right = tt

pub failures_are_conflicts : CommitLaws → FailuresAreConflicts
failures_are_conflicts laws =
    of_each_log (λ (start : Setup) (log : List Line). EachLine (λ older line. IfFailedIsReal start older (failed_commit line.reply)) log)
    (λ start events. each_line start (λ older line. IfFailedIsReal start older (failed_commit line.reply)) laws
    (λ log event reply w f right. by_event start log (λ (e : WorldEvent) (r : Result Reply Denied). IfFailedIsReal start log (failed_commit r))
    (λ e r none. subst (IfFailedIsReal start log) (sym none.no_failure) tt) (λ task. tt)
    (λ id task r runs step. reply_is_real start log id task r runs step) event reply right)
    events [] (opened start) (opened_follows start) tt)

-- ---- aborts and faults ----

-- the end that a run comes to on answers of one state: where nothing was read it is the current one
alone_at : (h : History) (task : Task) (reads : List ReadAnswer) (run : Run) → HaveOneBase reads → AreTrue h reads → run_on task.program reads ≡ EndedRun run →
    (revision_read h (base_of reads) ≤ now h) × (run_over (state_as_of h (revision_read h (base_of reads))) task.program.statements ≡ EndedRun run)
alone_at h task [] run one truth is = (
  omega arith,
  subst (λ (a : Answered). IsContinuedBy a (run_over (state_as_of h (now h)) task.program.statements)) is
      (answers_of_one_revision h (now h) [] task.program.statements tt (All-from_recursion (λ (a : ReadAnswer). a.of_rev ≡ now h) [] tt)),
)
alone_at h task (a ∷ reads) run one truth is =
    let base : revision_read h a.of_rev ≡ a.of_rev =
    ap (λ b. cond b (now h) a.of_rev) (other_number a.of_rev 0 (λ zero. let some : 1 ≤ a.of_rev = one.0 in omega (arith, zero))) in
    let state : AreOfOneState h task (a ∷ reads) = are_of_one_state h task (a ∷ reads) one truth in
    let alone : run_over (state_as_of h a.of_rev) task.program.statements ≡ EndedRun run =
    subst (λ (x : Answered). IsContinuedBy x (run_over (state_as_of h a.of_rev) task.program.statements)) is state.continued in (
      subst (λ n. n ≤ now h) (sym base) truth.0.reached,
      subst (λ n. run_over (state_as_of h n) task.program.statements ≡ EndedRun run) (sym base) alone,
    )

of_its_state : (start : Setup) (log : List Line) (id : ℕ) (task : Task) (end : End) (w : World) → Follows start log w → 1 ≤ start.revision →
    running id log ≡ Some task → is_serializable task.level ≡ true → EndsWith (situation start log id task) end →
    IsEndOnOneState (store start log).history task (known_after_log start id task log).reads end
of_its_state start log id task end w f some runs serializable ends =
    let h : History = (store start log).history in
    let reads : List ReadAnswer = (known_after_log start id task log).reads in
    let r : Runner = runner_for start log id task in
    let found : runner_at id w.runners ≡ Some r = f.at.slots id ∙ ap (option_map (runner_for start log id)) runs in
    let one : HaveOneBase reads = ((f.at.well_run id r found).based some serializable).0 in
    let truth : AreTrue h reads = (f.at.truth id r found).0 in
    let at = alone_at h task reads ends.run one truth ends.is_run in
    record {
      has_list = ends.has_list;
      state = are_of_one_state h task reads one truth;
      reached = at.0;
      run = ends.run;
      is_run = ends.is_run;
      alone = at.1;
      ends = ends.ended;
    }

-- an abort or a fault of a runner, at its number
of_one_state : (start : Setup) (log : List Line) (id runner : ℕ) (task : Task) (end : End) (w : World) → Follows start log w → 1 ≤ start.revision →
    running id log ≡ Some task → runner ≡ id → EndsWith (situation start log id task) end →
    IfStoppedIsReal start log (Some (record { runner = runner; end = end }))
of_one_state start log id runner task end w f some runs same ends =
    subst (λ n. IfStoppedIsReal start log (Some (record { runner = n; end = end }))) (sym same)
    (record {
      task = task;
      runs = runs;
      of_one_state = λ serializable. of_its_state start log id task end w f some runs serializable ends;
    })

reply_is_of_one_state : (start : Setup) (log : List Line) (id : ℕ) (task : Task) (reply : Result Reply Denied) (w : World) → Follows start log w → 1 ≤ start.revision →
    running id log ≡ Some task → StepIsRight (situation start log id task) reply → IfStoppedIsReal start log (stopped reply)
reply_is_of_one_state start log id task (Ok (Aborted runner text)) w f some runs right =
    of_one_state start log id runner task (AbortedEnd text) w f some runs right.0 right.1
reply_is_of_one_state start log id task (Ok (Faulted runner fault)) w f some runs right =
    of_one_state start log id runner task (FaultedEnd fault) w f some runs right.0 right.1
reply_is_of_one_state start log id task (Ok (Started runner)) w f some runs right = tt
reply_is_of_one_state start log id task _ w f some runs right = tt

pub stops_are_of_one_state : CommitLaws → StopsAreOfOneState
stops_are_of_one_state laws =
    of_each_log (λ (start : Setup) (log : List Line). 1 ≤ start.revision → EachLine (λ older line. IfStoppedIsReal start older (stopped line.reply)) log)
    (λ start events some. each_line start (λ older line. IfStoppedIsReal start older (stopped line.reply)) laws
    (λ log event reply w f right. by_event start log (λ (e : WorldEvent) (r : Result Reply Denied). IfStoppedIsReal start log (stopped r))
    (λ e r none. subst (IfStoppedIsReal start log) (sym none.no_stop) tt) (λ task. tt)
    (λ id task r runs step. reply_is_of_one_state start log id task r w f some runs step) event reply right)
    events [] (opened start) (opened_follows start) tt)
