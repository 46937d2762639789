use Rattle.std.proofs.Common.{◌≡◌, ◌++◌, take}
use Rattle.stm_job_texts.proofs.conflicts.push_keys.Given as goal

-- those so far were added
abbrev pub invariant-loop-key : goal.invariant-loop-key
invariant-loop-key l = l.all.items ≡ l.fn.all.items ++ take l.key-index l.keys
