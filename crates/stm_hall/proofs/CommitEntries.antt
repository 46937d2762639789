-- The entry of a commit that the store took leads to what the commit left.
use Rattle.std.proofs.Common.{◌≡◌, List, [], ◌∷◌, None, Ok, Bool, true, false, cond, refl, sym, ◌∙◌, ap, subst}
use Rattle.stm_history.specs.declared.key_state.ReadAnswer.{ReadAnswer}
use Rattle.stm_history.specs.History.{History, now}
use Rattle.stm_program.specs.Syntax.{Block}
use Rattle.stm_program.specs.declared.level.Level.{Level}
use Rattle.stm_history.specs.declared.change.Change.{Change}
use Rattle.stm_program.specs.Writes.{latest_writes}
use Rattle.stm_program.proofs.LatestLemmas.{latest_writes-distinct}
use Rattle.stm_steps.specs.declared.run.End.{End}
use Rattle.stm_steps.specs.declared.run.End.TheVariants.{Done as DoneEnd}
use Rattle.stm_steps.specs.declared.run.Run.{Run}
use Rattle.stm_steps.specs.declared.run.Answered.TheVariants.{Ended}
use Rattle.stm_meaning.specs.Meaning.{run_over}
use Rattle.stm_outcome.specs.Checks.{fault_of}
use Rattle.stm_outcome.specs.Outcome.{Done, outcome}
use Rattle.stm_outcome.specs.Commits.{applied}
use Rattle.stm_txn.specs.Standing.{Standing, with_history, terms_of}
use Rattle.stm_outcome.specs.Terms.{Terms}
use Rattle.stm_outcome.proofs.Applying.{writes_apply}
use Rattle.stm_program.specs.Levels.{is_comparing}
use Rattle.stm_compile.specs.Answers.{look_up, state_now}
use Rattle.stm_compile.specs.CommitTxn.{commit_of}
use Rattle.stm_compile.specs.Committed.{conflict_now}
use Rattle.stm_compile.proofs.OutcomeLemmas.{changes_are_distinct}
use Rattle.stm_attempt.specs.ReadyRun.{ReadyRun, IsRunOnItsAnswers}
use Rattle.stm_entries.specs.Entered.{answers_kept}
use Rattle.stm_entries.specs.Replayed.{Replayed, without_moment, replay_terms}
use Rattle.stm_entries.specs.Alone.{seen_at, history_left, left_by, left_by_run}
use Rattle.stm_journal.specs.Verdicts.{txn_of, entry_of, first_unvouched}
use Rattle.stm_hall.proofs.Opening.{Follows}
use Rattle.stm_hall.proofs.VouchLemmas.{vouched_run}

-- ---- its writes

-- the store's transaction applies the writes
applied_by : (terms : Terms) (level : Level) (reads : List ReadAnswer) (run : Run) (done : Done) →
    fault_of terms.limit (commit_of level reads (latest_writes run.writes)) ≡ None →
    conflict_now terms.history level reads (latest_writes run.writes) ≡ None →
    outcome terms (commit_of level reads (latest_writes run.writes)) ≡ Ok done →
    applied terms (latest_writes run.writes) ≡ Ok done
applied_by terms level reads run done right none is =
    let ws : List Change = latest_writes run.writes in
    sym (writes_apply terms (commit_of level reads ws) ws refl
    (changes_are_distinct ws (latest_writes-distinct run.writes)) right none)
    ∙ is

-- ---- its run

same_seen : (b : Bool) (h : History) (reads : List ReadAnswer) → cond b (state_now h) (look_up (cond b [] reads)) ≡ cond b (state_now h) (look_up reads)
same_seen true h reads = refl
same_seen false h reads = refl

alone_by : (h : History) (program : Block) (reads : List ReadAnswer) (run : Run) (b : Bool) → (b ≡ true → run_over (state_now h) program ≡ Ended run) →
    run_over (look_up reads) program ≡ Ended run → run_over (cond b (state_now h) (look_up reads)) program ≡ Ended run
alone_by h program reads run true now_is read_is = now_is refl
alone_by h program reads run false now_is read_is = read_is

seen_run : (h : History) (level : Level) (program : Block) (reads : List ReadAnswer) (writes : List Change) (run : Run) →
    conflict_now h level reads writes ≡ None → first_unvouched h level reads ≡ None → run_over (look_up reads) program ≡ Ended run →
    run_over (seen_at level (answers_kept level reads) h) program ≡ Ended run
seen_run h level program reads writes run none vouched ended =
    ap (λ look. run_over look program) (same_seen (is_comparing level) h reads)
    ∙ alone_by h program reads run (is_comparing level) (λ comparing. vouched_run h level reads writes program run comparing none vouched ended) ended

-- ---- its entry

left_by_done : (run : Run) (end : End) (r : Replayed) (done : Done) → end ≡ DoneEnd →
    applied (replay_terms r) (latest_writes run.writes) ≡ Ok done →
    left_by run end r ≡ record { history = done.history; live = r.live }
left_by_done run end r done is applies =
    ap (λ (e : End). left_by run e r) is ∙ ap (λ o. record { history = history_left r.history o; live = r.live }) applies

-- the store took the transaction of a ready attempt, of which no compare failed, and each value was the store's
pub record IsTakenBy (s : Standing) (ready : ReadyRun) (done : Done) : Type 0 where
  pub right : fault_of (terms_of s).limit (txn_of ready) ≡ None
  pub no_conflict : conflict_now s.history ready.level ready.answers ready.writes ≡ None
  pub vouched : first_unvouched s.history ready.level ready.answers ≡ None
  pub took : outcome (terms_of s) (txn_of ready) ≡ Ok done

pub commit_follows : (s : Standing) (ready : ReadyRun) (done : Done) → IsRunOnItsAnswers ready → IsTakenBy s ready done →
    Follows s (with_history s done.history) (entry_of ready (now done.history) ∷ [])
commit_follows s ready done kept t =
    let h : History = s.history in
    let run : Run = kept.run in
    let seen : run_over (seen_at ready.level (answers_kept ready.level ready.answers) h) ready.program.statements ≡ Ended run =
    seen_run h ready.level ready.program.statements ready.answers ready.writes run t.no_conflict t.vouched kept.is_run in
    let applies : applied (terms_of s) (latest_writes run.writes) ≡ Ok done =
    applied_by (terms_of s) ready.level ready.answers run done
    (subst (λ (ws : List Change). fault_of (terms_of s).limit (commit_of ready.level ready.answers ws) ≡ None) kept.writes t.right)
    (subst (λ (ws : List Change). conflict_now h ready.level ready.answers ws ≡ None) kept.writes t.no_conflict)
    (subst (λ (ws : List Change). outcome (terms_of s) (commit_of ready.level ready.answers ws) ≡ Ok done) kept.writes t.took) in
    record {
      replays = ap (λ a. left_by_run a (without_moment s)) seen ∙ left_by_done run run.end (without_moment s) done kept.is_done applies;
      there = (
        record {
          kept = λ comparing. ap (λ (b : Bool). cond b [] ready.answers) comparing;
          run = run;
          is_run = seen;
          is_done = kept.is_done;
          emits = sym kept.emits;
          sees = sym kept.sees;
          done = done;
          applies = applies;
          reached = refl;
        },
        tt,
      );
    }
