use Rattle.std.proofs.Common.{◌≡◌, ◌∙◌, ◌+◌, ℕ, List, subst, arith}
use Rattle.stm_events.specs.declared.line.ReportLine.{ReportLine}
use Rattle.stm_check.specs.Wrong.{IsOff}
use Rattle.stm_check.proofs.checking.first_wrong_final.Goals as goal

pub returns : goal.returns
returns c =
    let n = c.args.before + 1 in
    let line : n + c.in-Some.index ≡ c.in_ok-line-in-Some.line = omega (arith, c.in_ok-line-in-Some.ensures, c.in_ok-front-in-Some.ensures) in
    subst (λ (finals : List ReportLine). IsOff n finals c.args.lines.now c.in_ok-line-in-Some.line c.in-Some.cause)
    (c.as_slice.ensures.value ∙ c.in_ok-wanted.ensures)
    (subst (λ (wrong : ℕ). IsOff n c.as_slice.result.now c.args.lines.now wrong c.in-Some.cause) line (c.in-Some.ensures.off n))
