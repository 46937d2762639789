-- Sorting the events of a scenario one after the other, as a loop does.
use Rattle.std.proofs.Common.{◌≡◌, inl, inr, ℕ, suc, ◌+◌, List, [], ◌∷◌, Result, Ok, Err, sym, ap, ◌∙◌, arith}
use Rattle.stm_json.specs.declared.read_error.BadInput.{BadInput}
use Rattle.stm_json.specs.declared.read_error.ReadError.{ReadError}
use Rattle.stm_json.specs.declared.read_error.ReadError.TheVariants.{OutOfMemory, Bad}
use Rattle.stm_json.specs.Outcome.{Outcome, ◌>>=◌, inside, within}
use Rattle.stm_json.specs.Returns.{Returns, ReturnsFault, Wraps}
use Rattle.stm_events.specs.declared.event.WorldEvent.{WorldEvent}
use Rattle.stm_job_texts.specs.Accepting.{Sorted, add_event, add_events}

-- ---- an outcome within an array

module _ {X A : Type 0} where
  -- a value there is a value here
  pub within_ok : (view : X → A) (index : ℕ) (outcome result : Result X ReadError) (reading : Outcome A) (x : X)
      → Wraps index outcome result → Returns view outcome reading → result ≡ Ok x → reading ≡ Ok (view x)
  within_ok view index (Ok y) result reading x wraps reported is = cc
  within_ok view index (Err OutOfMemory) result reading x wraps reported is = absurd (cc)
  within_ok view index (Err (Bad fault)) result reading x (inl out) reported is = absurd (cc)
  within_ok view index (Err (Bad fault)) result reading x (inr bad) reported is = absurd (cc)

  -- an error there is the fault here, at its place in the array
  pub within_err : (view : X → A) (index : ℕ) (outcome result : Result X ReadError) (reading : Outcome A) (e : ReadError)
      → Wraps index outcome result → Returns view outcome reading → result ≡ Err e → ReturnsFault e (within index reading)
  within_err view index (Ok y) result reading e wraps reported is = absurd (cc)
  within_err view index (Err outcome) result reading OutOfMemory wraps reported is = tt
  within_err view index (Err OutOfMemory) result reading (Bad placed) wraps reported is = absurd (cc)
  within_err view index (Err (Bad fault)) result reading (Bad placed) (inl out) reported is = absurd (cc)
  within_err view index (Err (Bad fault)) result reading (Bad placed) (inr bad) reported is =
      let same : inside index fault ≡ placed = cc in
      ap (λ (o : Outcome A). within index o) reported ∙ ap (λ (b : BadInput). Err b) same

-- ---- one event

step_of : (first before : ℕ) (events rest : List WorldEvent) (event : WorldEvent) (old : Sorted) (total : Outcome Sorted) → events ≡ event ∷ rest
    → add_events first before events old ≡ total
    → within (first + before) (add_event old event) >>= (λ (next : Sorted). add_events first (suc before) rest next) ≡ total
step_of first before events rest event old total is so_far = ap (λ (es : List WorldEvent). add_events first before es old) (sym is) ∙ so_far

-- it was added, so what is accepted goes on after it
pub next_event : (first before : ℕ) (events rest : List WorldEvent) (event : WorldEvent) (old new : Sorted) (total : Outcome Sorted)
    → events ≡ event ∷ rest → add_event old event ≡ Ok new → add_events first before events old ≡ total
    → add_events first (before + 1) rest new ≡ total
next_event first before events rest event old new total is added so_far =
    let k : before + 1 ≡ suc before = omega arith in
    ap (λ (n : ℕ). add_events first n rest new) k
    ∙ sym (ap (λ (o : Outcome Sorted). within (first + before) o >>= (λ (next : Sorted). add_events first (suc before) rest next)) added)
    ∙ step_of first before events rest event old total is so_far

-- it was not, so nothing is accepted
pub stops_at : (first before : ℕ) (events rest : List WorldEvent) (event : WorldEvent) (old : Sorted) (total : Outcome Sorted) (e : ReadError)
    → events ≡ event ∷ rest → ReturnsFault e (within (first + before) (add_event old event)) → add_events first before events old ≡ total
    → ReturnsFault e total
stops_at first before events rest event old total OutOfMemory is reported so_far = tt
stops_at first before events rest event old total (Bad fault) is reported so_far =
    sym (step_of first before events rest event old total is so_far)
    ∙ ap (λ (o : Outcome Sorted). o >>= (λ (next : Sorted). add_events first (suc before) rest next)) reported

-- ---- the end

-- no event is left, so what was sorted is what is accepted
pub all_sorted : (first before : ℕ) (events : List WorldEvent) (sorted : Sorted) (total : Outcome Sorted)
    → events ≡ [] → add_events first before events sorted ≡ total → total ≡ Ok sorted
all_sorted first before events sorted total none so_far =
    sym so_far ∙ ap (λ (es : List WorldEvent). add_events first before es sorted) none
