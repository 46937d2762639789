-- Worlds are sound.
use Rattle.std.proofs.Common.{◌≡◌, ◌≤◌, ℕ, List, [], ◌∷◌, Option, Some, subst, arith}
use Rattle.std.proofs.Math.Nat.{min-le_right}
use Rattle.std.proofs.lemmas.Bool.Decides.{nat_tests}
use Rattle.stm_history.specs.History.{now}
use Rattle.stm_outcome.specs.declared.advance.Expired.{Expired}
use Rattle.stm_outcome.specs.declared.refusal.Refusal.{Refusal as StoreRefusal}
use Rattle.stm_txn.specs.Standing.{Standing, Advance, at_moment, expire_up_to, Setup}
use Rattle.stm_compile.proofs.AgreeLemmas.{commit_is_the_run_now}
use Rattle.stm_attempt.specs.Fetches.{at_of}
use Rattle.stm_events.specs.declared.event.WorldEvent.{WorldEvent}
use Rattle.stm_world.specs.World.{World, Runner, runner_at, opened, step, world_after}
use Rattle.stm_entries.specs.Entered.{expiries}
use Rattle.stm_world.specs.Sound.{IsSound, after_expiries, WorldsAreSound}
use Rattle.stm_world.proofs.Truth as truths
use Rattle.stm_world.proofs.Entered.{EntriesFollow}
use Rattle.stm_world.proofs.Calls.{at_moment_follows}
use Rattle.stm_world.proofs.Slots.{no_runner}
use Rattle.stm_world.proofs.SoundSteps.{call_sound, event_sound}

-- a world opens sound
pub opened_is_sound : (start : Setup) → IsSound (opened start)
opened_is_sound start = grind (arith, nat_tests, no_runner, min-le_right)

-- a step keeps it so
pub step_is_sound : (event : WorldEvent) (w : World) → IsSound w → IsSound (step event w).next
step_is_sound event w sound = event_sound event w commit_is_the_run_now sound

-- and so does an advance that was cut short after some expiries
pub expiries_are_sound : (w : World) (moment many : ℕ) (expired : List Expired) (left : Standing) (cause : Option StoreRefusal) → IsSound w →
    expire_up_to many (at_moment w.standing moment) ≡ record { expired = expired; leaves = left; cause = cause } → IsSound (after_expiries w left expired)
expiries_are_sound w moment many expired left cause sound is =
    call_sound w left (expiries expired) sound
    (subst (λ (a : Advance). EntriesFollow w.standing a.leaves (expiries a.expired)) is (at_moment_follows many w.standing moment))

pub world_after_is_sound : (events : List WorldEvent) (w : World) → IsSound w → IsSound (world_after events w)
world_after_is_sound [] w sound = sound
world_after_is_sound (e ∷ es) w sound = world_after_is_sound es (step e w).next (step_is_sound e w sound)

-- the revision that the next fetch of a runner names is reached
pub base_is_reached : (w : World) (id : ℕ) (r : Runner) → IsSound w → runner_at id w.runners ≡ Some r →
    at_of r.task.level r.known.reads ≤ now w.standing.history
base_is_reached w id r sound found = truths.base_is_reached w.standing.history r.task.level r.known.reads (sound.truth id r found).0

pub worlds_are_sound : WorldsAreSound
worlds_are_sound = record {
  opens = opened_is_sound;
  steps = step_is_sound;
  expires = expiries_are_sound;
  goes_on = world_after_is_sound;
  base_is_reached = base_is_reached;
}
