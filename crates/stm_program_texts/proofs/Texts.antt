-- Bytes that are the JSON of a program, and bytes that are not JSON.
use Rattle.std.proofs.Common.{◌≡◌, ℕ, ◌≤◌, ◌<◌, List, length, Bool, true, false, Some, None, refl, ◌∙◌, arith, IsUtf8}
use Rattle.std.specs.Str.{is_utf8}
use Rattle.std.proofs.lemmas.Str.{IsUtf8-from_is_utf8, is_utf8-from_IsUtf8}
use Rattle.std.proofs.lemmas.Bool.Decides.{nat_tests}
use Rattle.serde_json.specs.Data.{Data}
use Rattle.serde_json.specs.Read.{read}
use Rattle.stm_json.specs.Bytes.{data_of}
use Rattle.stm_json.specs.declared.cause.Cause.TheVariants.{NotJson, TooLong}
use Rattle.stm_json.specs.declared.limits.TheConstants.{MOST_BYTES}
use Rattle.stm_json.specs.Outcome.{bad}
use Rattle.stm_program_json.specs.Reading.{program_of}
use Rattle.stm_program_texts.specs.Reading.{program_in, program_read}

-- bytes that are too many, however they go on
pub program_in-long : (bytes : List ℕ) → MOST_BYTES < length bytes → program_in bytes ≡ bad TooLong
unfolding program_in
program_in-long bytes long = grind (arith, nat_tests)

program_in-short : (bytes : List ℕ) → length bytes ≤ MOST_BYTES → program_in bytes ≡ program_read (data_of bytes)
unfolding program_in
program_in-short bytes short = grind (arith, nat_tests)

-- text that is the JSON of data
pub program_in-json : (bytes : List ℕ) (d : Data) → length bytes ≤ MOST_BYTES → IsUtf8 bytes → read bytes ≡ Some d → program_in bytes ≡ program_of d
program_in-json bytes d short utf8 is = program_in-short bytes short ∙ rw (is_utf8-from_IsUtf8 bytes utf8, is) refl

refused : (bytes : List ℕ) (utf8 : Bool) → is_utf8 bytes ≡ utf8 → (IsUtf8 bytes → read bytes ≡ None) → program_read (data_of bytes) ≡ bad NotJson
refused bytes true is none = rw (is, none (IsUtf8-from_is_utf8 bytes is)) refl
refused bytes false is none = rw is refl

-- anything else
pub program_in-other : (bytes : List ℕ) → length bytes ≤ MOST_BYTES → (IsUtf8 bytes → read bytes ≡ None) → program_in bytes ≡ bad NotJson
program_in-other bytes short none = program_in-short bytes short ∙ refused bytes (is_utf8 bytes) refl none
