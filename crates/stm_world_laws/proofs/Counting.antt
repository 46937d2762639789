-- The replies tell the store's revision after each event.
use Rattle.std.proofs.Common.{◌≡◌, ℕ, List, [], ◌∷◌, Option, Bool, cond, refl, ap, ◌∙◌, arith}
use Rattle.std.specs.Prelude.{Result}
use Rattle.std.proofs.lemmas.Bool.Decides.{nat_tests}
use Rattle.stm_history.specs.declared.key_state.ReadAnswer.{ReadAnswer}
use Rattle.stm_history.specs.History.{now}
use Rattle.stm_steps.specs.declared.run.End.{End}
use Rattle.stm_steps.specs.declared.run.Run.{Run}
use Rattle.stm_steps.specs.declared.run.Answered.{Answered}
use Rattle.stm_outcome.specs.declared.refusal.Refusal.{Refusal as StoreRefusal}
use Rattle.stm_outcome.specs.Outcome.{Done}
use Rattle.stm_outcome.proofs.Applying.{is_done}
use Rattle.stm_txn.specs.Standing.{Standing}
use Rattle.stm_entries.specs.declared.entry.Entry.{Entry}
use Rattle.stm_events.specs.Called.{Call, Called, Asked, asked}
use Rattle.stm_events.proofs.CallMeans.{CallMeans, call_means}
use Rattle.stm_world.specs.World.{World, Stepped, Runner, start_runner, fetch, fetch_at, commit_reported}
use Rattle.stm_world.specs.World.{commit, finish, step_on, step_live, step_runner, make_call, step_asked, step, replies_to}
use Rattle.stm_reasons.specs.Counters.{counter_after, counters}
use Rattle.stm_world_laws.specs.Reasons.{RepliesTellRevisions}

-- the reply tells the revision that the next world's store is at
abbrev Tells : World → Stepped → Type 0
Tells w s = counter_after (now w.standing.history) s.reply ≡ now s.next.standing.history

either : (b : Bool) (w : World) (s t : Stepped) → Tells w s → Tells w t → Tells w (cond b s t)
either b w s t first second = grind (arith, nat_tests)

-- ---- runners

at_tells : (id : ℕ) (r : Runner) (key : List ℕ) (base : ℕ) (w : World) → Tells w (fetch_at id r key base w)
unfolding fetch
at_tells id r key base w = grind (arith, nat_tests, either)

reported_tells : (id : ℕ) (r : Runner) (reads : List ReadAnswer) (run : Run) (o : Result Done StoreRefusal) (w : World)
    → Tells w (commit_reported id r reads run o w)
reported_tells id r reads run o w = grind (arith, nat_tests, either)

finish_tells : (id : ℕ) (r : Runner) (reads : List ReadAnswer) (run : Run) (end : End) (w : World) → Tells w (finish id r reads run end w)
unfolding commit
finish_tells id r reads run end w = grind (arith, nat_tests, reported_tells)

on_tells : (id : ℕ) (r : Runner) (reads : List ReadAnswer) (answered : Answered) (w : World) → Tells w (step_on id r reads answered w)
on_tells id r reads answered w = grind (arith, nat_tests, at_tells, finish_tells)

live_tells : (id : ℕ) (r : Runner) (w : World) → Tells w (step_live id r w)
unfolding step_live
live_tells id r w = grind (arith, nat_tests, either, on_tells)

runner_tells : (id : ℕ) (o : Option Runner) (w : World) → Tells w (step_runner id o w)
runner_tells id o w = grind (arith, nat_tests, live_tells)

-- ---- calls of the store

-- the reply tells the revision that a call leaves
abbrev TellsCall : Standing → Call → Called → List Entry → Type 0
TellsCall s c done more = counter_after (now s.history) done.reply ≡ now done.next.history

calls_tell : CallMeans (λ c. Unit {0}) TellsCall
calls_tell = grind (arith, nat_tests, is_done)

call_tells : (c : Call) (w : World) → Tells w (make_call c w)
call_tells c w = grind (arith, nat_tests, call_means, calls_tell, either)

-- ---- each event

step_tells : (a : Asked) (w : World) → Tells w (step_asked a w)
unfolding start_runner
step_tells a w = grind (arith, nat_tests, runner_tells, call_tells, either)

pub replies_tell_revisions : RepliesTellRevisions
replies_tell_revisions [] w = refl
replies_tell_revisions (event ∷ events) w =
    let next : World = (step event w).next in
    ap (λ (counter : ℕ). now w.standing.history ∷ counters counter (replies_to events next)) (step_tells (asked event) w)
    ∙ ap (λ (rest : List ℕ). now w.standing.history ∷ rest) (replies_tell_revisions events next)
