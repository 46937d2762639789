-- Texts in quotes: bytes that are a JSON string, and other bytes.
use Rattle.std.proofs.Common.{◌≡◌, ℕ, List, Bool, Some, None, refl, option_and_then, IsUtf8, arith}
use Rattle.std.specs.Str.{is_utf8}
use Rattle.std.proofs.lemmas.Str.{IsUtf8-from_is_utf8, is_utf8-from_IsUtf8}
use Rattle.serde_json.specs.Data.{Data}
use Rattle.serde_json.specs.Find.{as_str}
use Rattle.serde_json.specs.Read.{read}
use Rattle.stm_json.specs.Bytes.{data_of}
use Rattle.stm_tokens.specs.Quoted.{text_in}
use Rattle.std.proofs.lemmas.Bool.Decides.{nat_tests}

pub text_in-json : (bytes : List ℕ) (d : Data) → IsUtf8 bytes → read bytes ≡ Some d → text_in bytes ≡ as_str d
unfolding text_in
text_in-json bytes d utf8 is = rw (is_utf8-from_IsUtf8 bytes utf8, is) refl

refused : (bytes : List ℕ) (utf8 : Bool) → is_utf8 bytes ≡ utf8 → (IsUtf8 bytes → read bytes ≡ None) → option_and_then as_str (data_of bytes) ≡ None
refused bytes utf8 is none = grind (arith, nat_tests, IsUtf8-from_is_utf8)

pub text_in-other : (bytes : List ℕ) → (IsUtf8 bytes → read bytes ≡ None) → text_in bytes ≡ None
unfolding text_in
text_in-other bytes none = refused bytes (is_utf8 bytes) refl none
