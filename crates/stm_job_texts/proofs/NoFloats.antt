-- An outcome has no float.
use Rattle.std.proofs.Common.{◌≡◌, false, List, [], ◌∷◌, map, ℤ, pos, negsuc, refl}
use Rattle.serde_json.specs.Data.{Data}
use Rattle.serde_json.specs.Find.{is_float, of_integer}
use Rattle.serde_json.specs.View.{items_of}
use Rattle.serde_json.specs.Written.{has_float, items_have_float}
use Rattle.stm_steps.specs.declared.state.StateEntry.{StateEntry}
use Rattle.stm_steps.specs.declared.value.Value.{Value}
use Rattle.stm_steps.specs.declared.value.Value.TheVariants.{Text, Number}
use Rattle.stm_entries.specs.declared.entry.Entry.{Entry}
use Rattle.stm_report_lines.specs.LineData.{list, value_data}
use Rattle.stm_job.specs.declared.job_end.JobEnd.{JobEnd}
use Rattle.stm_job.specs.declared.job_end.JobEnd.TheVariants.{Committed}
use Rattle.std.specs.Prelude.{slice_get}
use Rattle.stm_job_texts.specs.Outcomes.{end_data, output_in, pair_data, pairs}

each-no_float : {A : Type 0} (write : A → Data) → ((x : A) → has_float (write x) ≡ false) → (xs : List A) → items_have_float (items_of (map write xs)) ≡ false
each-no_float write one [] = refl
each-no_float write one (x ∷ xs) = rw (one x) (each-no_float write one xs)

of_integer-no_float : (z : ℤ) → is_float (of_integer z) ≡ false
of_integer-no_float (pos n) = refl
of_integer-no_float (negsuc n) = refl

value_data-no_float : (v : Value) → has_float (value_data v) ≡ false
value_data-no_float (Text text) = refl
value_data-no_float (Number z) = of_integer-no_float z

end_data-no_float : (entries : List Entry) (end : JobEnd) → has_float (end_data entries end) ≡ false
end_data-no_float entries (Committed index revision) = rw (each-no_float value_data value_data-no_float (output_in (slice_get entries index))) refl
end_data-no_float entries _ = refl

pub ends-no_float : (entries : List Entry) (ends : List JobEnd) → has_float (list (map (end_data entries) ends)) ≡ false
ends-no_float entries ends = each-no_float (end_data entries) (end_data-no_float entries) ends

pub pairs-no_float : (state : List StateEntry) → has_float (list (pairs state)) ≡ false
pairs-no_float state = each-no_float (λ (e : StateEntry). pair_data e.key e.value) (λ e. refl) state
