-- One step of a machine keeps what finishing comes to; where none is made, the machine stands.
use Rattle.std.proofs.Common.{◌≡◌, refl, sym, ◌∙◌, ap, ℕ, List, [], ◌∷◌, arith}
use Rattle.std.specs.Prelude.{Option, None, Some}
use Rattle.std.proofs.lemmas.Bool.Decides.{nat_tests}
use Rattle.stm_history.specs.declared.change.Change.{Change}
use Rattle.stm_steps.specs.declared.value.Value.{Value}
use Rattle.stm_steps.specs.declared.stop.Stop.TheVariants.{Wants}
use Rattle.stm_steps.specs.declared.run.Run.{Run}
use Rattle.stm_steps.specs.declared.run.Answered.TheVariants.{Ended as EndedRun}
use Rattle.stm_steps.specs.Answer.{Lookup, AgreesWith}
use Rattle.stm_steps.specs.Session.{Session, fresh}
use Rattle.stm_steps.specs.Outcome.{Outcome, Gives, Stops}
use Rattle.stm_steps.specs.Steps.{get_of, get_key, rev_key}
use Rattle.stm_program.specs.Writes.{last_write}
use Rattle.stm_steps.specs.Meaning.{answered, run_block, run_over}
use Rattle.stm_machine.specs.declared.focus.Item.{Item}
use Rattle.stm_machine.specs.declared.focus.Focus.{Focus}
use Rattle.stm_machine.specs.declared.focus.Focus.TheVariants.{Evaluate, Test, Get, Rev, Give, Ended}
use Rattle.stm_machine.specs.declared.frame.Frame.{Frame}
use Rattle.stm_machine.specs.State.{MachineState, key_asked, run_from}
use Rattle.stm_machine.specs.Finish.{on_value, onward_of, finish_from, finish}
use Rattle.stm_machine.specs.Moves.{begin_expression, begin_condition}
use Rattle.stm_machine.specs.Steps.{state_after, read_step, give_step, step_from, StandsAt, Stands}
use Rattle.stm_machine.specs.Laws.{StartsAtTheProgram, StepsFinishAlike, NoStepStands, StandingAtAKeyWantsIt, StandingAtNoKeyHasRun, EndedMachinesHaveRun}
use Rattle.stm_machine.proofs.OutcomeLemmas.{and_then_nothing}
use Rattle.stm_machine.proofs.BeginLemmas.{expression_begins, condition_begins}
use Rattle.stm_machine.proofs.TakeLemmas.{item_taken}

-- ---- the start

pub starts : StartsAtTheProgram
unfolding run_over
starts look program = ap (λ o. answered o) (and_then_nothing (run_block look program fresh))

-- ---- a read that found something finds it over each look-up that knows more

get_of-agrees : (look whole : Lookup) → AgreesWith look whole → (key : List ℕ) (w : Option Change) (s t : Session) (x : Value) →
    get_of look key w s ≡ Gives x t → get_of whole key w s ≡ Gives x t
get_of-agrees look whole agree key w s t x found = grind (arith, nat_tests)

get_agrees : (look whole : Lookup) → AgreesWith look whole → (key : List ℕ) (s t : Session) (x : Value) →
    get_key look key s ≡ Gives x t → get_key whole key s ≡ Gives x t
unfolding get_key
get_agrees look whole agree key s t x found = get_of-agrees look whole agree key (last_write key s.writes) s t x found

rev_agrees : (look whole : Lookup) → AgreesWith look whole → (key : List ℕ) (s t : Session) (x : Value) →
    rev_key look key s ≡ Gives x t → rev_key whole key s ≡ Gives x t
unfolding rev_key
rev_agrees look whole agree key s t x found = grind (arith, nat_tests)

-- ---- one step

-- the state of a step that was made
abbrev the : MachineState → Option MachineState → MachineState
the m None = m
the m (Some n) = n

same_state : (m n : MachineState) → Some m ≡ Some n → n ≡ m
same_state m n e = sym (ap (the m) e)

read_keeps : (whole : Lookup) (frames : List Frame) (n : MachineState) (o p : Outcome Value) →
    ((x : Value) (t : Session) → o ≡ Gives x t → p ≡ Gives x t) → read_step frames o ≡ Some n → finish whole n ≡ on_value (onward_of whole frames) p
read_keeps whole frames n o p agree e = grind (arith, nat_tests, same_state)

give_keeps :
    (whole : Lookup) (frames : List Frame) (item : Item) (s : Session) →
    finish whole (give_step frames item s) ≡ finish_from whole (Give item) frames s
give_keeps whole [] item s = refl
give_keeps whole (f ∷ frames) item s = sym (item_taken whole frames f item s)

step_keeps : (look whole : Lookup) → AgreesWith look whole → (focus : Focus) (frames : List Frame) (s : Session) (n : MachineState) →
    step_from look focus frames s ≡ Some n → finish whole n ≡ finish_from whole focus frames s
step_keeps look whole agree (Evaluate e) frames s n is =
    ap (finish whole) (same_state (state_after (begin_expression e s) frames s) n is) ∙ sym (expression_begins whole frames e s)
step_keeps look whole agree (Test c) frames s n is =
    ap (finish whole) (same_state (state_after (begin_condition c) frames s) n is) ∙ sym (condition_begins whole frames c s)
step_keeps look whole agree (Get key) frames s n is =
    read_keeps whole frames n (get_key look key s) (get_key whole key s) (λ x t. get_agrees look whole agree key s t x) is
step_keeps look whole agree (Rev key) frames s n is =
    read_keeps whole frames n (rev_key look key s) (rev_key whole key s) (λ x t. rev_agrees look whole agree key s t x) is
step_keeps look whole agree (Give item) frames s n is =
    ap (finish whole) (same_state (give_step frames item s) n is) ∙ give_keeps whole frames item s
step_keeps look whole agree (Ended end) frames s n is = absurd (cc)

pub steps_finish_alike : StepsFinishAlike
steps_finish_alike look m n is whole agree = step_keeps look whole agree m.focus m.frames m.session n is

-- ---- no step

get_of-stands : (look : Lookup) (frames : List Frame) (key : List ℕ) (w : Option Change) (s : Session) → read_step frames (get_of look key w s) ≡ None →
    get_of look key w s ≡ Stops (Wants key) s
get_of-stands look frames key w s none = grind (arith, nat_tests)

rev_stands : (look : Lookup) (frames : List Frame) (key : List ℕ) (s : Session) → read_step frames (rev_key look key s) ≡ None →
    rev_key look key s ≡ Stops (Wants key) s
unfolding rev_key
rev_stands look frames key s none = grind (arith, nat_tests)

none_stands : (look : Lookup) (focus : Focus) (frames : List Frame) (s : Session) → step_from look focus frames s ≡ None → StandsAt look focus s
unfolding get_key
none_stands look focus frames s none = grind (arith, nat_tests, rev_stands, get_of-stands)

pub no_step_stands : NoStepStands
no_step_stands look m none = none_stands look m.focus m.frames m.session none

-- ---- a machine that stands

pub standing_at_a_key_wants_it : StandingAtAKeyWantsIt
standing_at_a_key_wants_it look m key stands asked = grind (arith, nat_tests)

pub standing_at_no_key_has_run : StandingAtNoKeyHasRun
standing_at_no_key_has_run look m stands none = grind (arith, nat_tests)

run_is : (look : Lookup) (focus : Focus) (frames : List Frame) (s : Session) (run : Run) → run_from focus s ≡ Some run →
    answered (finish_from look focus frames s) ≡ EndedRun run
run_is look focus frames s run is = grind (arith, nat_tests)

pub ended_machines_have_run : EndedMachinesHaveRun
ended_machines_have_run look m run is = run_is look m.focus m.frames m.session run is

-- ---- a machine that stands at a key knows nothing of it

get_of-unknown : (look : Lookup) (key : List ℕ) (w : Option Change) (s : Session) → get_of look key w s ≡ Stops (Wants key) s → look key ≡ None
get_of-unknown look key w s stands = grind (arith, nat_tests)

rev_unknown : (look : Lookup) (key : List ℕ) (s : Session) → rev_key look key s ≡ Stops (Wants key) s → look key ≡ None
unfolding rev_key
rev_unknown look key s stands = grind (arith, nat_tests)

unknown_at : (look : Lookup) (focus : Focus) (s : Session) (key : List ℕ) → StandsAt look focus s → key_asked focus ≡ Some key → look key ≡ None
unfolding get_key
unknown_at look focus s key stands asked = grind (arith, nat_tests, rev_unknown, get_of-unknown)

pub wanted_key_is_unknown : (look : Lookup) (m : MachineState) (key : List ℕ) → Stands look m → key_asked m.focus ≡ Some key → look key ≡ None
wanted_key_is_unknown look m key stands asked = unknown_at look m.focus m.session key stands asked
