-- Bytes of a line that are JSON, and bytes that are not.
use Rattle.std.proofs.Common.{◌≡◌, ℕ, List, Some, None, refl, IsUtf8, arith}
use Rattle.std.proofs.lemmas.Str.{IsUtf8-from_is_utf8, is_utf8-from_IsUtf8}
use Rattle.std.proofs.lemmas.Bool.Decides.{nat_tests}
use Rattle.serde_json.specs.Data.{Data}
use Rattle.serde_json.specs.Read.{read}
use Rattle.stm_json.specs.declared.cause.Cause.TheVariants.{NotJson}
use Rattle.stm_json.specs.Outcome.{bad}
use Rattle.stm_report_lines.specs.Reading.{line_of, line_in}

-- text that is the JSON of data
pub line_in-json : (bytes : List ℕ) (d : Data) → IsUtf8 bytes → read bytes ≡ Some d → line_in bytes ≡ line_of d
unfolding line_in
line_in-json bytes d utf8 is = rw (is_utf8-from_IsUtf8 bytes utf8, is) refl

-- anything else
pub line_in-other : (bytes : List ℕ) → (IsUtf8 bytes → read bytes ≡ None) → line_in bytes ≡ bad NotJson
unfolding line_in
line_in-other bytes none = grind (arith, nat_tests, IsUtf8-from_is_utf8)
