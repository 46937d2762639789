-- What bytes spell that are short enough.
use Rattle.std.proofs.Common.{◌≡◌, ◌≤◌, ℕ, Bool, true, false, List, length, IsUtf8, refl}
use Rattle.std.specs.Str.{is_utf8}
use Rattle.std.specs.Str.Lossy.{utf8_valid_len}
use Rattle.std.proofs.lemmas.Bool.{le-ltb}
use Rattle.std.proofs.lemmas.Str.{IsUtf8-from_is_utf8, is_utf8-from_IsUtf8}
use Rattle.stm_json.specs.declared.limits.TheConstants.{MOST_BYTES}
use Rattle.stm_tokens.specs.declared.token.Token.{Token}
use Rattle.stm_tokens.specs.Tokens.{tokens_in}
use Rattle.stm_terms.specs.declared.faults.SourceCause.TheVariants.{NotUtf8}
use Rattle.stm_terms.specs.Outcome.{bad}
use Rattle.stm_source.specs.Sources.{source_at, source_in}

pub of_text : (bytes : List ℕ) (tokens : List Token) → length bytes ≤ MOST_BYTES → IsUtf8 bytes → tokens ≡ tokens_in bytes
    → source_in bytes ≡ source_at tokens
unfolding source_in
of_text bytes tokens short text is = rw (le-ltb MOST_BYTES (length bytes) short, is_utf8-from_IsUtf8 bytes text, is) refl

no_text : (bytes : List ℕ) (b : Bool) → is_utf8 bytes ≡ b → ¬ (IsUtf8 bytes) → is_utf8 bytes ≡ false
no_text bytes true e none = absurd (none (IsUtf8-from_is_utf8 bytes e))
no_text bytes false e none = e

pub of_other_bytes : (bytes : List ℕ) → length bytes ≤ MOST_BYTES → ¬ (IsUtf8 bytes) → source_in bytes ≡ bad (utf8_valid_len bytes) NotUtf8
unfolding source_in
of_other_bytes bytes short none = rw (le-ltb MOST_BYTES (length bytes) short, no_text bytes (is_utf8 bytes) refl none) refl
