-- What a key had: its faults are those that reading answers, what was read is spelled, and what is spelled is read.
use Rattle.std.proofs.Common.{◌≡◌, ℕ, List, Option, refl}
use Rattle.serde_json.specs.Data.{null, string}
use Rattle.stm_history.specs.declared.key_state.KeyState.{KeyState}
use Rattle.stm_json.specs.declared.cause.Cause.TheVariants.{Shape}
use Rattle.stm_json.specs.Outcome.{bad}
use Rattle.stm_json.specs.Faults.{AnyText, By, any_number}
use Rattle.stm_json.specs.Parts.{text_of}
use Rattle.stm_json.proofs.FaultLemmas.{text_faulted, number_reported}
use Rattle.stm_json.proofs.PartLemmas.{text_of-is, text_reads}
use Rattle.stm_report_lines.specs.FirstFault.{or_null, plain_faults, state_sorts}
use Rattle.stm_report_lines.specs.LineData.{whole, state_data, state_or_null}
use Rattle.stm_report_lines.specs.Parts.{number_of, state_with, state_parts, state_of, keyed_of, or_null_of}
use Rattle.stm_report_lines.proofs.ReadLaws.{Laws, AnyFits, or_null_laws}
use Rattle.stm_report_lines.proofs.PartLaws.{number_means, number_reads}
use Rattle.stm_report_lines.proofs.Rows.{Part, part, part_by, nothing, ◌&◌, second, third, fourth, fifth}
use Rattle.stm_report_lines.proofs.Forms.{Form, form, array_laws}

abbrev pub whole_part : Part ℕ
whole_part = part number_of whole any_number number_reported number_means number_reads

abbrev pub text_part : Part (List ℕ)
text_part = part text_of string AnyText text_faulted text_of-is text_reads

-- ---- what a key had

-- a value, a creation revision, a modification revision, a version and a lease
abbrev pub State : Type 0
State = List ℕ × (ℕ × (ℕ × (ℕ × (ℕ × Unit {0}))))

abbrev pub state_form : Form State KeyState 0
state_form =
    form 0 (text_part & whole_part & whole_part & whole_part & whole_part & nothing) (λ x. state_with x.0 (second x) (third x) (fourth x) (fifth x))
    state_parts (λ d. refl)

abbrev pub parts_of_state : KeyState → State
parts_of_state s = (s.value, (s.create_rev, (s.mod_rev, (s.version, (s.lease, tt)))))

pub state_laws : Laws KeyState state_of state_data AnyFits (plain_faults state_sorts)
unfolding state_of
state_laws = array_laws state_form state_data parts_of_state (λ x. refl) (λ s. refl) (λ s. (tt, (tt, (tt, (tt, (tt, tt))))))

pub no_null : state_of null ≡ bad Shape
unfolding state_of
no_null = refl

abbrev pub state_or_null_part : Part (Option KeyState)
state_or_null_part =
    part_by (λ d. or_null_of state_of d) state_or_null AnyFits (By (or_null (plain_faults state_sorts)))
    (or_null_laws state_of state_data (plain_faults state_sorts) state_laws state_or_null refl (λ s. refl) no_null)

-- ---- a key and what it had

abbrev pub keyed_form : Form (List ℕ × State) (List ℕ × KeyState) 1
keyed_form =
    form 1 (text_part & state_form.row) (λ x. (x.0, state_form.make x.1)) keyed_of
    (λ d. refl)

abbrev pub parts_of_keyed : List ℕ → KeyState → List ℕ × State
parts_of_keyed key s = (key, parts_of_state s)
