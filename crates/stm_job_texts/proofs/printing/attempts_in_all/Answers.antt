use Rattle.std.proofs.Common.{◌≡◌, ◌+◌, ◌-◌, ◌^◌, arith, drop, min, sum, sym, ◌∙◌, ap}
use Rattle.std.proofs.Math.Nat.{min-eq_left}
use Rattle.std.proofs.lemmas.List.{drop_all}
use Rattle.stm_job_texts.proofs.printing.attempts_in_all.Goals as goal

-- none is left
pub returns : goal.returns
returns c =
    let none : sum (drop c.loop-made.made-index c.args.attempts.now) ≡ 0 = ap sum (drop_all c.loop-made.made-index c.args.attempts.now c.loop-made-test.false) in
    let whole : c.loop-made.all + sum (drop c.loop-made.made-index c.args.attempts.now) ≡ c.loop-made.all = omega (arith, none) in
    sym (ap (λ n. min n (2 ^ 64 - 1)) whole ∙ min-eq_left c.loop-made.invariant.1) ∙ c.loop-made.invariant.0
