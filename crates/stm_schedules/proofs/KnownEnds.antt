-- The ends of exactly those runners are known that have ended.
use Rattle.std.proofs.Common.{◌≡◌, ℕ, zero, suc, ◌+◌, ◌-◌, List, [], ◌∷◌, ◌++◌, length, Option, Some, None, Result, Ok, inl, inr, refl, sym, ap, subst, arith}
use Rattle.std.specs.Prelude.{slice_get, slice_set}
use Rattle.std.proofs.lemmas.Bool.Decides.{nat_tests}
use Rattle.stm_txn.specs.Standing.{Standing}
use Rattle.stm_events.specs.declared.event.WorldEvent.{WorldEvent}
use Rattle.stm_events.specs.declared.reply.Reply.{Reply}
use Rattle.stm_events.specs.declared.reply.Reply.TheVariants.{Started}
use Rattle.stm_events.specs.declared.refusal.Denied.{Denied}
use Rattle.stm_events.specs.Called.{Call, called}
use Rattle.stm_world.specs.World.{World, Runner, Slot, Over, Live, Stepped, live_in, runner_at, with_slot, begin, start_runner, step_runner, step, world_after, replies_to}
use Rattle.stm_world.specs.Task.{Task}
use Rattle.stm_world.proofs.Slots.{other_number}
use Rattle.stm_events.proofs.CallReplies.{call_replies}
use Rattle.stm_world.proofs.Calls.{call_adds}
use Rattle.stm_schedules.specs.declared.moves.Move.{Move}
use Rattle.stm_schedules.specs.declared.moves.Move.TheVariants.{Step as StepOf}
use Rattle.stm_schedules.specs.declared.outcome.RunnerEnd.{RunnerEnd}
use Rattle.stm_schedules.specs.Places.{Place, moves}
use Rattle.stm_schedules.specs.Outcomes.{Ends, after_reported, after_replies, known_ends, IsKnown, AreKnown, EndsAreKnown}
use Rattle.stm_schedules.proofs.Members.{IsAmong}
use Rattle.stm_schedules.proofs.MoveLemmas.{step_is_move}
use Rattle.stm_schedules.proofs.Runs.{world_along}
use Rattle.stm_schedules.proofs.StepReplies.{put, put_end, IsKnownChange, Touches, Enters, runner_does}

-- ---- places that are written

known_set : (slots : List Slot) (ends : Ends) (i : ℕ) (slot : Slot) (end : Option RunnerEnd) → IsKnown slot end → AreKnown slots ends →
    AreKnown (slice_set slots i slot) (slice_set ends i end)
known_set [] [] zero slot end one known = tt
known_set [] [] (suc i) slot end one known = tt
known_set [] (e ∷ es) i slot end one known = absurd known
known_set (s ∷ ss) [] i slot end one known = absurd known
known_set (s ∷ ss) (e ∷ es) zero slot end one known = (one, known.1)
known_set (s ∷ ss) (e ∷ es) (suc i) slot end one known = (known.0, known_set ss es i slot end one known.1)

known_more : (slots : List Slot) (ends : Ends) (slot : Slot) (end : Option RunnerEnd) → IsKnown slot end → AreKnown slots ends →
    AreKnown (slots ++ slot ∷ []) (ends ++ end ∷ [])
known_more [] [] slot end one known = (one, tt)
known_more [] (e ∷ es) slot end one known = absurd known
known_more (s ∷ ss) [] slot end one known = absurd known
known_more (s ∷ ss) (e ∷ es) slot end one known = (known.0, known_more ss es slot end one known.1)

-- a run that goes on
still_live : (slots : List Slot) (ends : Ends) (i : ℕ) (was now : Runner) → live_in (slice_get slots i) ≡ Some was → AreKnown slots ends →
    AreKnown (slice_set slots i (Live now)) ends
still_live [] ends i was now is known = absurd (cc)
still_live (s ∷ ss) [] i was now is known = absurd known
still_live (Over ∷ ss) (e ∷ es) zero was now is known = absurd (cc)
still_live (Live r ∷ ss) (None ∷ es) zero was now is known = (tt, known.1)
still_live (Live r ∷ ss) (Some end ∷ es) zero was now is known = absurd known.0
still_live (s ∷ ss) (e ∷ es) (suc i) was now is known = (known.0, still_live ss es i was now is known.1)

known_put : (id : ℕ) (slots : List Slot) (ends : Ends) (r : Runner) (slot : Option Slot) (end : Option RunnerEnd) → runner_at id slots ≡ Some r →
    IsKnownChange slot end → AreKnown slots ends → AreKnown (put id slot slots) (put_end id end ends)
known_put id slots ends r slot end runs fits known = grind (arith, nat_tests, known_set, still_live)

-- ---- events

-- after a step that came to this, what is known of the ends is known of the runners
abbrev StaysKnown : Ends → Stepped → Type 0
StaysKnown ends x = AreKnown x.next.runners (after_reported x.reply ends)

touched : (id : ℕ) (r : Runner) (w : World) (ends : Ends) → runner_at id w.runners ≡ Some r → AreKnown w.runners ends →
    Touches id w.standing (step_runner id (Some r)) → StaysKnown ends (step_runner id (Some r) w)
touched id r w ends runs known t =
    subst (StaysKnown ends) (sym (t.is w.runners w.entries))
    (subst (λ (es : Ends). AreKnown (put id t.slot w.runners) es) (sym (t.known ends)) (known_put id w.runners ends r t.slot t.end runs t.fits known))

entered : (id : ℕ) (r : Runner) (w : World) (ends : Ends) → AreKnown w.runners ends → Enters id w.standing (step_runner id (Some r)) →
    StaysKnown ends (step_runner id (Some r) w)
entered id r w ends known e =
    subst (λ (slots : List Slot). AreKnown slots (after_reported (step_runner id (Some r) w).reply ends)) (sym (e.over w.runners w.entries))
    (subst (λ (reported : Result Reply Denied). AreKnown (with_slot id Over w.runners) (after_reported reported ends)) (sym (e.reports w.runners w.entries))
    (subst (λ (es : Ends). AreKnown (with_slot id Over w.runners) es) (sym (e.known ends)) (known_set w.runners ends (id - 1) Over (Some e.end) tt known)))

known_step : (id : ℕ) (o : Option Runner) (w : World) (ends : Ends) → runner_at id w.runners ≡ o → AreKnown w.runners ends → StaysKnown ends (step_runner id o w)
known_step id None w ends is known = known
known_step id (Some r) w ends is known = elim (runner_does id (Some r) w.standing) [
  | inl t ↦ touched id r w ends is known t
  | inr e ↦ entered id r w ends known e
]

abbrev started : Task → World → Stepped
started task w = record {
  reply = Ok (Started (length w.runners + 1));
  next = record { standing = w.standing; runners = w.runners ++ Live (begin task) ∷ []; entries = w.entries };
}

known_start : (task : Task) (w : World) (ends : Ends) → AreKnown w.runners ends → StaysKnown ends (start_runner task w)
unfolding start_runner
known_start task w ends known = grind (arith, nat_tests, known_more)

call_ends_none : (ends : Ends) (s : Standing) (c : Call) → after_reported (called s c).reply ends ≡ ends
call_ends_none ends = grind (arith, nat_tests, call_replies)

known_event : (e : WorldEvent) (w : World) (ends : Ends) → AreKnown w.runners ends → StaysKnown ends (step e w)
known_event e w ends known = grind (arith, nat_tests, known_start, known_step, call_adds, call_ends_none)

known_run : (events : List WorldEvent) (w : World) (ends : Ends) → AreKnown w.runners ends →
    AreKnown (world_after events w).runners (after_replies (replies_to events w) ends)
known_run [] w ends known = known
known_run (e ∷ es) w ends known = known_run es (step e w).next (after_reported (step e w).reply ends) (known_event e w ends known)

-- ---- whole schedules

none_runs : (p : Place) (id : ℕ) (r : Runner) → moves p ≡ [] → runner_at id p.world.runners ≡ Some r → ⊥
none_runs p id r none runs = subst (λ (ms : List Move). IsAmong (StepOf id) ms) none (step_is_move p id r runs)

runs_at : (slots : List Slot) (i : ℕ) (r : Runner) → live_in (slice_get slots i) ≡ Some r → runner_at (suc i) slots ≡ Some r
runs_at slots i r is = grind (arith, nat_tests, other_number)

all_over : (slots : List Slot) (ends : Ends) → ((i : ℕ) (r : Runner) → live_in (slice_get slots i) ≡ Some r → ⊥) → AreKnown slots ends →
    length (known_ends ends) ≡ length slots
all_over [] [] none known = refl
all_over [] (e ∷ es) none known = absurd known
all_over (s ∷ ss) [] none known = absurd known
all_over (Live r ∷ ss) (e ∷ es) none known = absurd (none zero r refl)
all_over (Over ∷ ss) (None ∷ es) none known = absurd known.0
all_over (Over ∷ ss) (Some end ∷ es) none known = ap suc (all_over ss es (λ i r is. none (suc i) r is) known.1)

pub ends_are_known : EndsAreKnown
ends_are_known = grind (arith, nat_tests, all_over, none_runs, runs_at, world_along, known_run)
