-- The numbers of the replies to a scenario's events, and of the world that they leave, are within 64 bits where those of the events are.
use Rattle.std.proofs.Common.{◌≡◌, ℕ, suc, ◌+◌, ◌≤◌, List, [], ◌∷◌, length, Some, None, refl, sym, ◌∙◌, subst, arith}
use Rattle.std.specs.Prelude.{Result}
use Rattle.std.specs.FinMap as finmap
use Rattle.stm_leases.specs.Live.{Live}
use Rattle.stm_txn.specs.Standing.{Standing, Setup, HasKept}
use Rattle.stm_events.specs.declared.event.WorldEvent.{WorldEvent}
use Rattle.stm_events.specs.declared.reply.Reply.{Reply}
use Rattle.stm_events.specs.declared.refusal.Denied.{Denied}
use Rattle.std.specs.Ordering.{nat_cmp}
use Rattle.std.proofs.lemmas.Bool.Decides.{nat_tests}
use Rattle.stm_history.specs.declared.revisions.TheConstants.{HIGHEST_REVISION}
use Rattle.stm_leases.specs.LeaseLog.{Term}
use Rattle.stm_events.specs.Called.{Call, Asked, Starts, Steps, Calls, asked, called, entered}
use Rattle.stm_world.specs.World.{opened, World, Stepped, runner_at, step_asked, step, world_after, replies_to}
use Rattle.stm_world.specs.Sound.{IsSound}
use Rattle.stm_world.proofs.Sound.{opened_is_sound, step_is_sound}
use Rattle.stm_world.proofs.Slots.{no_runner}
use Rattle.stm_world.proofs.Calls.{call_adds}
use Rattle.stm_report_laws.proofs.Plain.{Few}
use Rattle.stm_report_laws.proofs.SmallReplies.{RepliesFit, AsksFew, EventAsksFew, EventsAskFew, WorldFits, StepFits}
use Rattle.stm_report_laws.proofs.SmallSteps.{runner_step, start_fits}
use Rattle.stm_report_laws.proofs.SmallCalls.{Reaches, called_fits, call_fits}

-- ---- every event

reaches : (s : Standing) (c : Call) → HasKept s → Reaches s c
reaches s c kept = grind (arith, nat_tests)

asked_fits : (n : ℕ) (a : Asked) (w : World) → WorldFits n w → Few (suc n) → AsksFew a → IsSound (step_asked a w).next → StepFits n (step_asked a w)
asked_fits n (Starts program level limit) w fits room asks sound =
    start_fits n w (record { program = program; level = level; limit = limit }) fits room asks.0 asks.1 sound
asked_fits n (Steps id) w fits room asks sound = runner_step n w id (runner_at id w.runners) fits asks refl sound
asked_fits n (Calls c) w fits room asks sound =
    let s : Standing = w.standing in
    let call = call_fits n room s c asks fits.small fits.watchers fits.watching (reaches s c fits.sound.kept) in
    subst (StepFits n) (sym (call_adds c w)) (called_fits n w (called s c).reply (called s c).next (entered s c) fits call.0 call.1
    (subst (λ (x : Stepped). IsSound x.next) (call_adds c w) sound))

step_fits : (n : ℕ) (event : WorldEvent) (w : World) → WorldFits n w → Few (suc n) → EventAsksFew event → StepFits n (step event w)
step_fits n event w fits room asks = asked_fits n (asked event) w fits room asks (step_is_sound event w fits.sound)

-- ---- whole runs

-- the replies of a run, and the world after it
pub record RunFits (n : ℕ) (answers : List (Result Reply Denied)) (w : World) : Type 0 where
  pub replies : RepliesFit answers
  pub world : WorldFits n w

pub run_fits_from : (n : ℕ) (events : List WorldEvent) (w : World) → WorldFits n w → Few (n + length events) → EventsAskFew events →
    RunFits (n + length events) (replies_to events w) (world_after events w)
run_fits_from n [] w fits room asks = record { replies = tt; world = subst (λ m. WorldFits m w) (nothing n) fits }
  where
    nothing : (n : ℕ) → n ≡ n + 0
    nothing n = omega arith
run_fits_from n (e ∷ es) w fits room asks =
    let one : StepFits n (step e w) = step_fits n e w fits (omega (arith, room)) asks.0 in
    let next : suc n + length es ≡ n + length (e ∷ es) = omega arith in
    let rest : RunFits (suc n + length es) (replies_to es (step e w).next) (world_after es (step e w).next) =
    run_fits_from (suc n) es (step e w).next one.next (omega (arith, room)) asks.1 in
    record { replies = (one.reply, rest.replies); world = subst (λ m. WorldFits m (world_after es (step e w).next)) next rest.world }

-- ---- a world that opens

nothing_renewed : (id : ℕ) (term : Term) → finmap.get (let live : Live = finmap.empty in live) id ≡ Some term → ⊥
nothing_renewed id term found = let none = finmap.get-empty {X = Term} nat_cmp id in let both : None ≡ Some term = sym none ∙ found in absurd (cc both)

pub opened_fits : (start : Setup) → start.revision ≤ HIGHEST_REVISION → WorldFits 0 (opened start)
opened_fits start few =
    let none = finmap.len-empty nat_cmp Term in
    record {
      sound = opened_is_sound start;
      small = record {
        history = (((λ key. tt), tt), omega (arith, few));
        live = λ id term found. absurd (nothing_renewed id term found);
        renewed = λ id term found. absurd (nothing_renewed id term found);
        moment = omega arith;
      };
      watchers = tt;
      watching = omega arith;
      started = omega arith;
      runners = λ id r found. let both : None ≡ Some r = sym (no_runner id) ∙ found in absurd (cc both);
      entries = omega (arith, none);
    }
