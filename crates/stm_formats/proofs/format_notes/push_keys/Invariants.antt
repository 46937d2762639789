use Rattle.std.proofs.Common.{◌≡◌, ◌++◌, map, drop, string_bytes}
use Rattle.stm_formats.specs.FormatNotes.{key_notes}
use Rattle.stm_formats.proofs.format_notes.push_keys.Given as goal

-- the notes so far, and those of the keys that are left
abbrev pub invariant-loop-key : goal.invariant-loop-key
invariant-loop-key l =
    l.notes.items ++ key_notes l.most l.above l.store.standing.history (map string_bytes (drop l.key-index l.keys))
    ≡ l.fn.notes.items ++ key_notes l.most l.above l.store.standing.history (map string_bytes l.keys)
