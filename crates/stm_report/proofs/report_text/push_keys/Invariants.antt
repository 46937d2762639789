use Rattle.std.proofs.Common.{◌≡◌, ◌++◌, map, drop, string_bytes}
use Rattle.stm_check.specs.StoreLines.{key_lines}
use Rattle.stm_report.specs.Forms.{formed_text}
use Rattle.stm_report.proofs.report_text.push_keys.Given as goal

-- the text so far, and the lines of the keys that are left
abbrev pub invariant-loop-key : goal.invariant-loop-key
invariant-loop-key l =
    string_bytes l.text ++ formed_text l.form (key_lines l.store.standing.history (map string_bytes (drop l.key-index l.keys)))
    ≡ string_bytes l.fn.text ++ formed_text l.form (key_lines l.store.standing.history (map string_bytes l.keys))
