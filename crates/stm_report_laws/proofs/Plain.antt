-- What is written of values, states and events whose numbers fit holds whole numbers of 64 bits alone.
use Rattle.std.proofs.Common.{ℕ, ◌^◌, ◌≤◌, List, [], ◌∷◌, map, refl, arith, Option, Some, None, IfSome, pos, lt-ltb}
use Rattle.std.proofs.lemmas.Bool.Decides.{nat_tests}
use Rattle.serde_json.specs.View.{items_of}
use Rattle.stm_history.specs.declared.key_state.KeyState.{KeyState}
use Rattle.stm_history.specs.declared.revisions.TheConstants.{HIGHEST_NUMBER}
use Rattle.stm_steps.specs.declared.value.Value.{Value}
use Rattle.stm_steps.specs.declared.trace_item.TraceItem.{TraceItem}
use Rattle.stm_steps.specs.declared.trace_item.TraceItem.TheVariants as trace
use Rattle.stm_keys.specs.declared.event.Event.{Event}
use Rattle.stm_keys.specs.declared.event.Event.TheVariants as event
use Rattle.stm_outcome.specs.declared.advance.Expired.{Expired}
use Rattle.stm_outcome.specs.Numbers.{StateFits, EventsFit, AllExpiredFit}
use Rattle.stm_report_lines.specs.LineData.{whole, value_data, trace_data, text_or_null, state_data, state_or_null, expired_data, event_data}
use Rattle.stm_report_lines.specs.ReadBack.{IsPlain, ArePlain}
use Rattle.stm_report_laws.proofs.SmallRuns.{ValueFits, ValuesFit, ItemsFit}

abbrev pub Few : ℕ → Type 0
Few n = n ≤ HIGHEST_NUMBER

pub plain : (n : ℕ) → Few n → IsPlain (whole n)
plain n few = (pos n, refl, lt-ltb n (2 ^ 63) (omega (arith, few)))

value_plain : (x : Value) → ValueFits x → IsPlain (value_data x)
value_plain x fits = grind (arith, nat_tests)

pub values_plain : (xs : List Value) → ValuesFit xs → ArePlain (items_of (map value_data xs))
values_plain [] fits = tt
values_plain (x ∷ xs) fits = (value_plain x fits.0, values_plain xs fits.1)

pub traces_plain : (xs : List TraceItem) → ItemsFit xs → ArePlain (items_of (map trace_data xs))
traces_plain [] fits = tt
traces_plain (trace.Get key value ∷ xs) fits = ((tt, (tt, (tt, tt))), traces_plain xs fits.1)
traces_plain (trace.Rev key mod_rev ∷ xs) fits = ((tt, (tt, (plain mod_rev fits.0, tt))), traces_plain xs fits.1)

pub text_plain : (o : Option (List ℕ)) → IsPlain (text_or_null o)
text_plain o = grind (arith, nat_tests)

-- the numbers of a key, which its data end with
pub numbers_plain : (s : KeyState) → StateFits s →
    IsPlain (whole s.create_rev) × (IsPlain (whole s.mod_rev) × (IsPlain (whole s.version) × (IsPlain (whole s.lease) × Unit {0})))
numbers_plain s fits = grind (arith, nat_tests, plain)

state_plain : (s : KeyState) → StateFits s → IsPlain (state_data s)
state_plain s fits = (tt, numbers_plain s fits)

pub state_or_null_plain : (o : Option KeyState) → IfSome o StateFits → IsPlain (state_or_null o)
state_or_null_plain None fits = tt
state_or_null_plain (Some s) fits = state_plain s fits

pub expireds_plain : (xs : List Expired) → AllExpiredFit xs → ArePlain (items_of (map expired_data xs))
expireds_plain [] fits = tt
expireds_plain (e ∷ xs) fits = ((plain e.id fits.0.0, (plain e.revision fits.0.1, tt)), expireds_plain xs fits.1)

pub events_plain : (xs : List Event) → EventsFit xs → ArePlain (items_of (map event_data xs))
events_plain [] fits = tt
events_plain (event.Put key s ∷ xs) fits = ((tt, (tt, (tt, numbers_plain s fits.0))), events_plain xs fits.1)
events_plain (event.Delete key revision ∷ xs) fits = ((tt, (tt, (plain revision fits.0, tt))), events_plain xs fits.1)

-- ---- the line of a reply: a number, here 0, a word, and what it reports

pub zero_plain : IsPlain (whole 0)
zero_plain = plain 0 (omega arith)

pub line_of : {Parts : Type 0} → Parts → (IsPlain (whole 0) × (Unit {0} × Parts)) × Unit {0}
line_of parts = ((zero_plain, (tt, parts)), tt)

pub and_number : {Rest : Type 0} (n : ℕ) → Few n → Rest → IsPlain (whole n) × Rest
and_number n few rest = (plain n few, rest)

pub and_text : {Rest : Type 0} → Rest → Unit {0} × Rest
and_text rest = (tt, rest)
