use Rattle.std.proofs.Common.{◌≡◌, ◌++◌, map, take}
use Rattle.std.specs.Prelude.{filter, string_bytes}
use Rattle.stm_events.specs.FirstReads.{is_other}
use Rattle.stm_check.proofs.commits.add_others.Given as goal

-- the others of the keys so far are added
abbrev pub invariant-loop-read : goal.invariant-loop-read
invariant-loop-read l = l.keys ≡ l.fn.keys ++ filter (is_other (map string_bytes l.listed)) (take l.read-index l.reads)
