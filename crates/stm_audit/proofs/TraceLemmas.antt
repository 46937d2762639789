-- Bytes that are JSON, and bytes that are not.
use Rattle.std.proofs.Common.{◌≡◌, ℕ, ◌≤◌, List, length, Bool, true, false, Some, None, refl, ◌∙◌, IsUtf8, arith}
use Rattle.std.specs.Str.{is_utf8}
use Rattle.std.proofs.lemmas.Str.{IsUtf8-from_is_utf8, is_utf8-from_IsUtf8}
use Rattle.std.proofs.lemmas.Bool.Decides.{nat_tests}
use Rattle.serde_json.specs.Data.{Data}
use Rattle.serde_json.specs.Read.{read}
use Rattle.stm_json.specs.declared.cause.Cause.TheVariants.{NotJson}
use Rattle.stm_json.specs.Outcome.{bad}
use Rattle.stm_json.specs.declared.limits.TheConstants.{MOST_BYTES}
use Rattle.stm_json.specs.Bytes.{data_of}
use Rattle.stm_audit.specs.Reading.{trace_of, trace_read, trace_in}

pub trace_in-short : (bytes : List ℕ) → length bytes ≤ MOST_BYTES → trace_in bytes ≡ trace_read (data_of bytes)
unfolding trace_in
trace_in-short bytes short = grind (arith, nat_tests)

-- text that is the JSON of data
pub trace_in-json : (bytes : List ℕ) (d : Data) → length bytes ≤ MOST_BYTES → IsUtf8 bytes → read bytes ≡ Some d → trace_in bytes ≡ trace_of d
trace_in-json bytes d short utf8 is = trace_in-short bytes short ∙ rw (is_utf8-from_IsUtf8 bytes utf8, is) refl

refused : (bytes : List ℕ) (utf8 : Bool) → is_utf8 bytes ≡ utf8 → (IsUtf8 bytes → read bytes ≡ None) → trace_read (data_of bytes) ≡ bad NotJson
refused bytes true is none = rw (is, none (IsUtf8-from_is_utf8 bytes is)) refl
refused bytes false is none = rw is refl

-- anything else
pub trace_in-other : (bytes : List ℕ) → length bytes ≤ MOST_BYTES → (IsUtf8 bytes → read bytes ≡ None) → trace_in bytes ≡ bad NotJson
trace_in-other bytes short none = trace_in-short bytes short ∙ refused bytes (is_utf8 bytes) refl none
