use Rattle.std.proofs.Common.{◌≡◌, ◌+◌, ◌-◌, ◌^◌, ◌≤◌, min, sum, drop}
use Rattle.stm_job_texts.proofs.printing.attempts_in_all.Given as goal

-- the attempts so far, and those that are left
abbrev pub invariant-loop-made : goal.invariant-loop-made
invariant-loop-made l =
    (min (l.all + sum (drop l.made-index l.attempts)) (2 ^ 64 - 1) ≡ min (sum l.attempts) (2 ^ 64 - 1)) × (l.all ≤ 2 ^ 64 - 1)
