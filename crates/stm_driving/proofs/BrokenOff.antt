-- A program that is not run to its end, since a step of it was refused.
use Rattle.std.proofs.Common.{◌≡◌, ◌≢◌, ◌⊎◌, ◌∙◌, ◌+◌, inl, inr, ℕ, true, false, ◌++◌, ◌∷◌, [], length, Option, Some, None, Ok, Err}
use Rattle.std.proofs.Common.{refl, sym, ap, subst, arith}
use Rattle.std.specs.Prelude.{is_some, is_ok}
use Rattle.stm_events.specs.declared.event.WorldEvent.TheVariants.{Step}
use Rattle.stm_events.specs.declared.reply.Reply.TheVariants.{Started}
use Rattle.stm_events.specs.declared.refusal.Denied.{Denied}
use Rattle.stm_events.specs.declared.refusal.EventRefusal.{EventRefusal}
use Rattle.stm_events.specs.declared.refusal.EventRefusal.TheVariants.{OutOfMemory}
use Rattle.stm_world.specs.Task.{Task}
use Rattle.stm_world.specs.World.{World, Stepped, Runner, Live, begin, runner_at, start_runner, step_runner, step}
use Rattle.stm_world.proofs.Slots.{runner_new}
use Rattle.stm_retry.specs.Returns.{IsStep, OutOfMemoryReturns, Returns, is_out_of_memory}
use Rattle.stm_retry.proofs.StepLemmas.{live_is_taken, start_takes}
use Rattle.stm_retry.proofs.WorldLemmas.{refusal_cases}
use Rattle.stm_driving.specs.Driving.{after_steps, IsBrokenOff}

-- a program that was started runs
pub runs : (task : Task) (w next : World) (id : ℕ) → task.limit ≢ 0 → (start_runner task w).reply ≡ Ok (Started id) → next ≡ (start_runner task w).next
    → is_some (runner_at id next.runners) ≡ true
runs task w next id some started come =
    let takes = start_takes task w some in
    let same : length w.runners + 1 ≡ id = cc (ap (λ (s : Stepped). s.reply) takes, started) in
    let left : next ≡ record { standing = w.standing; runners = w.runners ++ Live (begin task) ∷ []; entries = w.entries } =
    come ∙ ap (λ (s : Stepped). s.next) takes
    in
    subst (λ (x : World). is_some (runner_at id x.runners) ≡ true) (sym left)
    (subst (λ (n : ℕ). is_some (runner_at n (w.runners ++ Live (begin task) ∷ [])) ≡ true) same (ap is_some (runner_new w.runners (Live (begin task)))))

want_of_memory : (cause : EventRefusal) → is_out_of_memory cause ≡ true → cause ≡ OutOfMemory
want_of_memory cause is = grind (arith)

broken_by : (task : Task) (w before after : World) (id count : ℕ) (d : Denied) (found : Option Runner) → (start_runner task w).reply ≡ Ok (Started id)
    → before ≡ after_steps id count (start_runner task w).next → runner_at id before.runners ≡ found → is_some found ≡ true
    → ((is_out_of_memory d.cause ≡ true) × OutOfMemoryReturns (Step id) d.expired before after)
    ⊎ ((is_out_of_memory d.cause ≡ false) × IsStep (step (Step id) before) (Err d) after)
    → IsBrokenOff task w d.cause after
broken_by task w before after id count d None started come found is either = absurd (cc (is))
broken_by task w before after id count d (Some r) started come found is (inl want) =
    inr (want_of_memory d.cause want.0, inr (record { runner = id; started = started; steps = count; left = want.1.0.1 ∙ come }))
broken_by task w before after id count d (Some r) started come found is (inr other) =
    let taken : is_ok (step_runner id (runner_at id before.runners) before).reply ≡ true =
    subst (λ (o : Option Runner). is_ok (step_runner id o before).reply ≡ true) (sym found) (live_is_taken id r before)
    in
    let refused : is_ok (step_runner id (runner_at id before.runners) before).reply ≡ false = ap is_ok other.1.reply_is in
    absurd (cc (taken, refused))

-- Its step is refused only where memory runs out.
pub broken_off : (task : Task) (w before after : World) (id count : ℕ) (d : Denied) → (start_runner task w).reply ≡ Ok (Started id)
    → before ≡ after_steps id count (start_runner task w).next → is_some (runner_at id before.runners) ≡ true → Returns (Step id) (Err d) before after
    → IsBrokenOff task w d.cause after
broken_off task w before after id count d started come is returned =
    broken_by task w before after id count d (runner_at id before.runners) started come refl is (refusal_cases d.cause (Step id) d before after returned)
