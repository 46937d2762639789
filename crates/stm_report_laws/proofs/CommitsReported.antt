-- The line of a commit: a check finds its program's run on what the line reports, and the store that it leads to.
use Rattle.std.proofs.Common.{◌≡◌, ℕ, ◌+◌, ◌≤◌, Bool, cond, List, [], ◌∷◌, map, Option, Some, option_map, refl, sym, ◌∙◌, ap, arith}
use Rattle.std.specs.Prelude.{MatchBool}
use Rattle.std.proofs.lemmas.Bool.Decides.{nat_tests}
use Rattle.stm_history.specs.declared.key_state.ReadAnswer.{ReadAnswer}
use Rattle.stm_history.specs.History.{History, key_at}
use Rattle.stm_program.specs.Syntax.{ProgramTree}
use Rattle.stm_steps.specs.declared.value.Value.{Value}
use Rattle.stm_steps.specs.declared.trace_item.TraceItem.{TraceItem}
use Rattle.stm_steps.specs.declared.run.Run.{Run}
use Rattle.stm_steps.specs.declared.run.Answered.{Answered}
use Rattle.stm_txn.specs.Standing.{Standing}
use Rattle.stm_compile.specs.Answers.{AreTrue, look_up, said}
use Rattle.stm_entries.specs.Replayed.{Replayed}
use Rattle.stm_entries.specs.Alone.{left_by_run}
use Rattle.stm_entries.specs.declared.entry.Entry.TheVariants.{Program}
use Rattle.stm_events.specs.declared.reply.CommittedRead.{CommittedRead}
use Rattle.stm_events.specs.Replies.{committed_read, reads_in}
use Rattle.stm_events.specs.FirstReads.{keys_first_read}
use Rattle.stm_world.specs.Asked.{keys_read}
use Rattle.stm_world.specs.Log.{with_commit}
use Rattle.stm_world.specs.Right.{Situation, IsCommitted}
use Rattle.stm_world.specs.Task.{Task}
use Rattle.stm_check.specs.Point.{led_by}
use Rattle.stm_check.specs.Replays.{AreTrulyReported, keys_reported, IsRightCommit}
use Rattle.stm_check.specs.Runs.{IsRunReported, revision_reached}
use Rattle.stm_check.proofs.CommitLemmas.{right_commit}
use Rattle.stm_report_laws.proofs.RunsReported.{run_with}
use Rattle.stm_report_laws.proofs.CallsReported.{unwatched}

-- ---- answers that are true are reported so, and looked up alike

found_alike : (b : Bool) (h : History) (a : ReadAnswer) (reported rest : Option ReadAnswer) → key_at h a.key a.of_rev ≡ a.kv →
    option_map said reported ≡ option_map said rest →
    option_map said (cond b (Some record { key = a.key; kv = key_at h a.key a.of_rev; of_rev = a.of_rev; revision = a.of_rev }) reported)
    ≡ option_map said (cond b (Some a) rest)
found_alike b h a reported rest shown same = grind (arith, nat_tests)

looked_up : (h : History) (answers : List ReadAnswer) → AreTrue h answers → (key : List ℕ) →
    look_up (reads_in h (map committed_read answers)) key ≡ look_up answers key
looked_up h [] truth key = refl
looked_up h (a ∷ answers) truth key = grind (arith, nat_tests, found_alike, looked_up h answers truth.1 key)

truly_reported : (h : History) (answers : List ReadAnswer) → AreTrue h answers → AreTrulyReported h (map committed_read answers)
truly_reported h [] truth = tt
truly_reported h (a ∷ answers) truth = grind (arith, nat_tests, truly_reported h answers truth.1)

keys_are : (answers : List ReadAnswer) → keys_reported (map committed_read answers) ≡ keys_read answers
keys_are [] = refl
keys_are (a ∷ answers) = ap (λ (keys : List (List ℕ)). a.key ∷ keys) (keys_are answers)

-- ---- by whether the level compares

-- and what is reported are the reads of its run
fit_by : (b : Bool) (h : History) (program : ProgramTree) (reads : List ReadAnswer) (run : Run) → AreTrue h reads →
    keys_first_read program.prefetch run.reads ≡ keys_read reads →
    MatchBool b (map committed_read (cond b [] reads) ≡ [])
    ((keys_reported (map committed_read (cond b [] reads)) ≡ keys_first_read program.prefetch run.reads)
    × AreTrulyReported h (map committed_read (cond b [] reads)))
fit_by b h program reads run truth in_order = grind (arith, nat_tests, keys_are, truly_reported)

-- ---- a commit that is right in a log, of a runner whose reads are true

pub record IsCommitLine (at : Situation) (revision attempts conflicts : ℕ) (output : List Value) (trace : List TraceItem) (answers : List CommittedRead)
    : Type 0 where
  pub right : IsCommitted at revision output trace answers
  pub truth : AreTrue at.store.history at.reads
  pub attempt : attempts ≡ conflicts + 1
  pub may_be_sent : attempts ≤ at.task.limit

run_is_reported : (at : Situation) (revision attempts conflicts : ℕ) (output : List Value) (trace : List TraceItem) (answers : List CommittedRead) →
    (e : IsCommitLine at revision attempts conflicts output trace answers) →
    IsRunReported at.task.level at.store.history at.task.program answers e.right.commits.run
run_is_reported at revision attempts conflicts output trace answers e = grind (arith, nat_tests, fit_by, looked_up)

pub commit_right : (at : Situation) (revision attempts conflicts : ℕ) (output : List Value) (trace : List TraceItem) (answers : List CommittedRead) →
    IsCommitLine at revision attempts conflicts output trace answers →
    IsRightCommit (unwatched at.store) (run_with conflicts at.task) revision attempts output trace answers
commit_right at revision attempts conflicts output trace answers e =
    right_commit (unwatched at.store) (run_with conflicts at.task) e.right.commits.run revision attempts output trace answers
    (run_is_reported at revision attempts conflicts output trace answers e)
    (record {
      is_done = e.right.commits.is_done;
      emits = sym e.right.emits;
      sees = sym e.right.sees;
      reached = ap revision_reached e.right.changes ∙ ap Some (sym e.right.reached);
      attempt = e.attempt;
      may_be_sent = e.may_be_sent;
    })

-- ---- the store after it

run_live : (a : Answered) (r : Replayed) → (left_by_run a r).live ≡ r.live
run_live a r = grind (arith, nat_tests)

-- the entry of the line leads to what the program's run leaves
pub commit_store : (s : Standing) (task : Task) (revision : ℕ) (output : List Value) (trace : List TraceItem) (answers : List CommittedRead) →
    led_by (Program task.program task.level (reads_in s.history answers) output trace revision ∷ []) (unwatched s)
    ≡ unwatched (with_commit s answers (Some task))
commit_store s task revision output trace answers = grind (arith, nat_tests, unwatched, run_live)
