-- Texts in quotes: JSON strings.
use Rattle.std.specs.Prelude.{ℕ, suc, List, [], ◌∷◌, Bool, not, ◌&&◌, nat_eq, if◌then◌else◌, Option, Some, None, option_and_then}
use Rattle.serde_json.specs.Find.{as_str}
use Rattle.stm_json.specs.Bytes.{data_of}

-- how many bytes there are up to the quote that closes a text, and with it, so many before these; a byte behind an escaping one closes nothing
abbrev pub closing : ℕ → Bool → List ℕ → Option ℕ
closing before escaped [] = None
closing before escaped (b ∷ bs) =
    if not escaped && nat_eq b 34 then Some (suc before) else closing (suc before) (not escaped && nat_eq b 92) bs

-- the text that bytes are a JSON string of
unfoldable pub text_in : List ℕ → Option (List ℕ)
text_in bytes = option_and_then as_str (data_of bytes)
