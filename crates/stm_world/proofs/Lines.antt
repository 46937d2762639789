-- Line by line over a log that a world follows, and by what a line reports.
use Rattle.std.proofs.Common.{◌≡◌, ℕ, ◌+◌, List, [], ◌∷◌, Option, Some, Ok, refl, sym, subst, arith}
use Rattle.std.specs.Prelude.{Result}
use Rattle.std.proofs.lemmas.Bool.Decides.{nat_tests}
use Rattle.stm_txn.specs.Standing.{Setup}
use Rattle.stm_events.specs.declared.event.WorldEvent.{WorldEvent}
use Rattle.stm_events.specs.declared.event.WorldEvent.TheVariants.{Start, Step}
use Rattle.stm_events.specs.declared.reply.Reply.{Reply}
use Rattle.stm_events.specs.declared.reply.Reply.TheVariants.{Started}
use Rattle.stm_events.specs.declared.refusal.Denied.{Denied}
use Rattle.stm_events.specs.Called.{Asked, called}
use Rattle.stm_events.proofs.Asking.{by_asked}
use Rattle.stm_world.specs.Task.{Task}
use Rattle.stm_world.specs.Log.{Line, running, started, store}
use Rattle.stm_world.specs.Right.{IsRightAsked, IsRight, StepIsRight, RunnerIsRight, StartIsRight, situation}
use Rattle.stm_world.specs.World.{World, replies_to, step}
use Rattle.stm_world.specs.Doomed.{EachLine}
use Rattle.stm_world.proofs.Untouched.{SaysNothing, nothing_by_refusal, call_says_nothing}
use Rattle.stm_world.proofs.Following.{FollowsStep, with_line}
use Rattle.stm_world.proofs.RunnerSteps.{CommitLaws}
use Rattle.stm_world.proofs.Logs.{logged}
use Rattle.stm_world.proofs.Headlines.{Follows, step_follows}

-- what holds of a line that a world's step adds to a log which the world follows holds of each line
pub each_line : (start : Setup) (P : List Line → Line → Type 0) → CommitLaws →
    ((log : List Line) (event : WorldEvent) (reply : Result Reply Denied) (w : World) → Follows start log w → IsRight start log event reply →
    P log (record { event = event; reply = reply })) →
    (events : List WorldEvent) (log : List Line) (w : World) → Follows start log w → EachLine P log → EachLine P (logged events (replies_to events w) log)
each_line start P laws holds [] log w f before = before
each_line start P laws holds (e ∷ es) log w f before =
    let s : FollowsStep start log e (step e w) = step_follows start log e w laws f in
    each_line start P laws holds es (with_line e (step e w).reply log) (step e w).next (record { standing = s.standing; at = s.follows })
    (holds log e (step e w).reply w f s.follows.right.0, before)

-- ---- by the event ----

-- a line with this event
abbrev pub Judged : Type 1
Judged = WorldEvent → Result Reply Denied → Type 0

start_judged : (count : ℕ) (P : Judged) (task : Task) → ((reply : Result Reply Denied) → SaysNothing reply → P (Start task.program task.level task.limit) reply) →
    P (Start task.program task.level task.limit) (Ok (Started (count + 1))) → (reply : Result Reply Denied) → StartIsRight count task.limit reply →
    P (Start task.program task.level task.limit) reply
start_judged count P task nothing begins reply right = grind (arith, nat_tests, nothing_by_refusal)

runner_judged : (start : Setup) (log : List Line) (id : ℕ) (P : Result Reply Denied → Type 0) (o : Option Task) → running id log ≡ o →
    ((reply : Result Reply Denied) → SaysNothing reply → P reply) →
    ((task : Task) (reply : Result Reply Denied) → running id log ≡ Some task → StepIsRight (situation start log id task) reply → P reply) →
    (reply : Result Reply Denied) → RunnerIsRight start log id o reply → P reply
runner_judged start log id P o runs nothing stepped reply right = grind (arith, nat_tests, nothing_by_refusal)

-- What holds of a reply that says nothing of runners, of a start that was taken, and of the step of a runner that runs, holds of each
-- right reply.
pub by_event : (start : Setup) (log : List Line) (P : Judged) → ((event : WorldEvent) (reply : Result Reply Denied) → SaysNothing reply → P event reply) →
    ((task : Task) → P (Start task.program task.level task.limit) (Ok (Started (started log + 1)))) →
    ((id : ℕ) (task : Task) (reply : Result Reply Denied) → running id log ≡ Some task → StepIsRight (situation start log id task) reply → P (Step id) reply) →
    (event : WorldEvent) (reply : Result Reply Denied) → IsRight start log event reply → P event reply
by_event start log P nothing begins stepped event reply right =
    by_asked (λ e. (r : Result Reply Denied) → IsRight start log e r → P e r)
    (λ program level limit. start_judged (started log) P (record { program = program; level = level; limit = limit }) (nothing (Start program level limit))
    (begins (record { program = program; level = level; limit = limit })))
    (λ id. runner_judged start log id (P (Step id)) (running id log) refl (nothing (Step id)) (stepped id))
    (λ e c is r told. let same : r ≡ (called (store start log) c).reply = subst (λ (a : Asked). IsRightAsked start log a r) is told in
    subst (P e) (sym same) (nothing e (called (store start log) c).reply (call_says_nothing (store start log) c))) event reply right
