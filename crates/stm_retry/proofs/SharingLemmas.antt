-- A world with other runners over what is kept of it.
use Rattle.std.proofs.Common.{◌≡◌, ◌∙◌, false, ℕ, List, Option, Some, None, Result, Ok, Err, sym, ap, subst, arith}
use Rattle.std.specs.Prelude.{IfOk, IfSome}
use Rattle.std.specs.declared.alloc.AllocError.{AllocError}
use Rattle.std.proofs.lemmas.Bool.Decides.{nat_tests}
use Rattle.stm_events.specs.declared.event.WorldEvent.TheVariants.{Step}
use Rattle.stm_events.specs.declared.reply.Reply.{Reply}
use Rattle.stm_events.specs.declared.refusal.Denied.{Denied}
use Rattle.stm_journal.specs.JournalState.{JournalState}
use Rattle.stm_world.specs.Sound.{IsSound}
use Rattle.stm_world.specs.World.{World, Runner, Slot, Over, runner_at, with_slot, step_live, step}
use Rattle.stm_world.proofs.Sound.{step_is_sound}
use Rattle.stm_events.specs.declared.event.WorldEvent.{WorldEvent}
use Rattle.stm_retry.specs.Returns.{IsStep}
use Rattle.stm_retry.specs.Quiet.{is_commit}
use Rattle.stm_history.specs.Opening.{Opening}
use Rattle.stm_retry.specs.Kept.{whole_world, IsKeptBy, BasesAreReached}
use Rattle.stm_retry.specs.WorldOf.{world_of, with_places}
use Rattle.stm_retry.specs.declared.step_outcome.StepOutcome.{StepOutcome}
use Rattle.stm_retry.specs.RunnerReturns.{workplace, Leaves, reply_in, slot_after}
use Rattle.stm_retry.proofs.StepDoes.{quiet_keeps}
use Rattle.stm_retry.proofs.StepLemmas.{outcome_reports}
use Rattle.stm_retry.proofs.KeptWorlds.{step_leaves, bases_are_reached}

-- the runners are no part of what is kept
pub kept_with : (opened : Opening) (m w : World) (places : List Slot) → whole_world opened m ≡ w → IsKeptBy m.standing (whole_world opened m) →
    IsSound (with_places places w) → IsKeptBy m.standing (whole_world opened (with_places places m))
kept_with opened m w places is x sound = grind (arith, nat_tests)

pub bases_with : (opened : Opening) (m w : World) (places : List Slot) → whole_world opened m ≡ w → IsKeptBy m.standing (whole_world opened m) →
    IsSound (with_places places w) → BasesAreReached (with_places places m)
bases_with opened m w places is x sound = bases_are_reached opened (with_places places m) (kept_with opened m w places is x sound)

-- a step of a runner over what is kept is that of the world
step_with : (id : ℕ) (reply : Reply) (opened : Opening) (m w : World) (old new : List Slot) → whole_world opened m ≡ w → IsKeptBy m.standing (whole_world opened m) →
    IsSound (with_places old w) → IsStep (step (Step id) (with_places old m)) (Ok reply) (with_places new m) →
    IsStep (step (Step id) (with_places old w)) (Ok reply) (with_places new w)
step_with id reply opened m w old new is x sound made =
    subst (λ (v : World). IsStep (step (Step id) (with_places old v)) (Ok reply) (with_places new v)) is
    (step_leaves (Step id) (Ok reply) opened (with_places old m) (with_places new m) (kept_with opened m w old is x sound) made).reports

-- what a quiet step returns of what is kept, it returns of the world
abbrev pub IsQuiet : ℕ → World → List Slot → List Slot → Result (Option Reply) AllocError → Type 0
IsQuiet id w old new result = IfOk result (λ o. IfSome o (λ reply. IsStep (step (Step id) (with_places old w)) (Ok reply) (with_places new w)))

pub quiet_with : (id : ℕ) (result : Result (Option Reply) AllocError) (opened : Opening) (m w : World) (old new : List Slot) → whole_world opened m ≡ w →
    IsKeptBy m.standing (whole_world opened m) → IsSound (with_places old w) → IsQuiet id m old new result → IsQuiet id w old new result
quiet_with id (Ok (Some reply)) opened m w old new is x sound made = step_with id reply opened m w old new is x sound made
quiet_with id (Ok None) opened m w old new is x sound made = tt
quiet_with id (Err e) opened m w old new is x sound made = tt

-- the world after is sound
stepped_is_sound : (id : ℕ) (reply : Reply) (w next : World) → IsSound w → IsStep (step (Step id) w) (Ok reply) next → IsSound next
stepped_is_sound id reply w next sound made = subst IsSound made.next_is (step_is_sound (Step id) w sound)

-- the step of a runner that was taken from its place and put back
pub quiet_reports : (id : ℕ) (j : JournalState) (places slots : List Slot) (r q : Runner) (outcome : StepOutcome) (reply : Reply) → runner_at id places ≡ Some r →
    (o : Option StepOutcome) → o ≡ Some outcome → IfSome o (λ outcome. Leaves id (Ok outcome) (workplace j r) (workplace j q) (step_live id r)) → slots ≡ with_slot id (slot_after outcome q) (with_slot id Over places) →
    reply ≡ reply_in outcome → IsStep (step (Step id) (world_of j places)) (Ok reply) (world_of j slots)
quiet_reports id j places slots r q outcome reply there o is made put replied =
    let leaves : Leaves id (Ok outcome) (workplace j r) (workplace j q) (step_live id r) =
    subst (λ (x : Option StepOutcome). IfSome x (λ outcome. Leaves id (Ok outcome) (workplace j r) (workplace j q) (step_live id r))) is made in
    let reports = outcome_reports id j j places slots r q (Ok outcome) (runner_at id places) there there leaves put in
    record { reply_is = reports.0 ∙ ap (λ (x : Reply). let y : Result Reply Denied = Ok x in y) (sym replied); next_is = reports.1 }

-- ---- worlds that share

-- the world after a quiet step is sound
pub quiet_is_sound : (id : ℕ) (w : World) (o : Option Reply) (reply : Reply) (old new : List Slot) → o ≡ Some reply → IsSound (with_places old w) →
    IfSome o (λ reply. IsStep (step (Step id) (with_places old w)) (Ok reply) (with_places new w)) → IsSound (with_places new w)
quiet_is_sound id w o reply old new is sound made =
    stepped_is_sound id reply (with_places old w) (with_places new w) sound
    (subst (λ (p : Option Reply). IfSome p (λ reply. IsStep (step (Step id) (with_places old w)) (Ok reply) (with_places new w))) is made)

-- ---- after a step that does not commit

-- the world after it shares the store
pub shares : (id : ℕ) (event : WorldEvent) (w next : World) (reply : Result Reply Denied) → event ≡ Step id → IsStep (step event w) reply next → is_commit reply ≡ false →
    next ≡ with_places next.runners w
shares id event w next reply is made quiet = grind (arith, nat_tests, quiet_keeps)

pub shared_is_sound : (id : ℕ) (event : WorldEvent) (w next : World) (reply : Result Reply Denied) → event ≡ Step id → IsSound w → IsStep (step event w) reply next →
    is_commit reply ≡ false → IsSound (with_places next.runners w)
shared_is_sound id event w next reply is sound made quiet =
    subst IsSound (made.next_is ∙ shares id event w next reply is made quiet) (step_is_sound event w sound)

pub shared_step : (id : ℕ) (event : WorldEvent) (w next shared : World) (reply : Result Reply Denied) → event ≡ Step id → IsStep (step event w) reply next →
    is_commit reply ≡ false → shared ≡ with_places next.runners w → IsStep (step event w) reply shared
shared_step id event w next shared reply is made quiet with_runners =
    record { reply_is = made.reply_is; next_is = made.next_is ∙ shares id event w next reply is made quiet ∙ sym with_runners }
