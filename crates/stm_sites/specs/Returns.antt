-- When the result of an evaluation in the code is the outcome of the definition, and the place that it reports is where the run stops.
use Rattle.std.specs.Prelude.{◌≡◌, ◌⊎◌, ℕ, List, Result, Ok, Err, ⊤}
use Rattle.stm_steps.specs.declared.value.Value.{Value}
use Rattle.stm_steps.specs.declared.fault.Fault.{Fault}
use Rattle.stm_steps.specs.declared.stop.Stop.{Stop}
use Rattle.stm_steps.specs.declared.stop.Stop.TheVariants.{Faulted}
use Rattle.stm_steps.specs.Session.{Session}
use Rattle.stm_steps.specs.Outcome.{Outcome, Gives, Stops}
use Rattle.stm_sites.specs.declared.site.Site.{Site}
use Rattle.stm_sites.specs.declared.site.Node.{Node}
use Rattle.stm_sites.specs.declared.halt.StopAt.{StopAt}
use Rattle.stm_sites.specs.declared.halt.Halt.{Halt}
use Rattle.stm_sites.specs.declared.halt.Halt.TheVariants.{OutOfMemory, Stopped}
use Rattle.stm_sites.specs.Sites.{here, inside}

-- the result and what the run has come to are the outcome, unless an allocation failed
abbrev pub Returns : {X : Type 0} → Result X Halt → Session → Outcome X → Type 0
Returns (Ok x) s outcome = outcome ≡ Gives x s
Returns (Err OutOfMemory) s outcome = ⊤
Returns (Err (Stopped at)) s outcome = outcome ≡ Stops at.stop s

-- where it stops, it stops there
abbrev pub StopsAt : {X : Type 0} → Result X Halt → Site → Type 0
StopsAt (Ok x) site = ⊤
StopsAt (Err OutOfMemory) site = ⊤
StopsAt (Err (Stopped at)) site = at.site ≡ site

-- a stop in the part at an index
abbrev pub stop_inside : ℕ → StopAt → StopAt
stop_inside index at = record { stop = at.stop; site = inside index at.site }

-- the result of a part, as that of its node
abbrev pub Wraps : {X : Type 0} → ℕ → Result X Halt → Result X Halt → Type 0
Wraps index (Ok x) result = result ≡ Ok x
Wraps index (Err OutOfMemory) result = result ≡ Err OutOfMemory
Wraps index (Err (Stopped at)) result = (result ≡ Err OutOfMemory) ⊎ (result ≡ Err (Stopped (stop_inside index at)))

-- the result of a node is what was computed of its values, unless an allocation failed: a fault stops the run at the node
abbrev pub Computes : {X : Type 0} → Node → List Value → Result X Fault → Result X Halt → Type 0
Computes node values computed (Ok x) = computed ≡ Ok x
Computes node values computed (Err OutOfMemory) = ⊤
Computes node values computed (Err (Stopped at)) =
    (fault : Fault) × (computed ≡ Err fault) × (at.stop ≡ Faulted fault) × (at.site ≡ here node values)

-- the result is this stop of the node, unless an allocation failed
abbrev pub StopsBy : {X : Type 0} → Node → List Value → Stop → Result X Halt → Type 0
StopsBy node values stop (Ok x) = ⊥
StopsBy node values stop (Err OutOfMemory) = ⊤
StopsBy node values stop (Err (Stopped at)) = (at.stop ≡ stop) × (at.site ≡ here node values)

-- the result is this value, unless an allocation failed
abbrev pub CopiesValue : Value → Result Value Halt → Type 0
CopiesValue value (Ok copy) = copy ≡ value
CopiesValue value (Err OutOfMemory) = ⊤
CopiesValue value (Err (Stopped at)) = ⊥
