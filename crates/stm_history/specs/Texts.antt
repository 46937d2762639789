-- Where the bytes of a text are stored.
use Rattle.std.specs.Prelude.{ℕ, List, string_bytes}
use Rattle.stm_history.specs.declared.text.Bytes.{Bytes}
use Rattle.stm_history.specs.declared.text.Bytes.TheVariants.{Short, Own, Shared}

abbrev pub bytes_held : Bytes → List ℕ
bytes_held (Short text) = text.bytes
bytes_held (Own string) = string_bytes string
bytes_held (Shared string) = string_bytes string.value
