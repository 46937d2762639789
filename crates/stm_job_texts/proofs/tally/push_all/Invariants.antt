use Rattle.std.proofs.Common.{◌≡◌, ◌++◌, map, string_bytes}
use Rattle.std.specs.List.{concat}
use Rattle.stm_job_texts.specs.Outcomes.{times_line}
use Rattle.stm_job_texts.proofs.tally.push_all.Given as goal

-- the text so far, and the lines that are left
abbrev pub invariant-loop-counted : goal.invariant-loop-counted
invariant-loop-counted l =
    string_bytes l.text ++ concat (map times_line l.counted-iterator) ≡ string_bytes l.fn.text ++ concat (map times_line l.tally.entries)
