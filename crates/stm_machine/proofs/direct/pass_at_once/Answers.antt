use Rattle.std.proofs.Common.{sym, refl}
use Rattle.stm_machine.proofs.DirectLemmas.{has_run, has_stayed}
use Rattle.stm_machine.proofs.direct.pass_at_once.Goals as goal

pub returns-clause-passed : goal.returns-clause-passed
returns-clause-passed c = record {
  first = c.in-Some.first.now;
  is_first = sym c.in-Some.ensures;
  behind = c.pass_first.ensures;
  runs = has_run c.in_ok-ran.ran _ _ _ c.if-not-ran.false c.in_ok-ran.ensures.ran;
}

pub returns-then-not-ran-clause-passed : goal.returns-then-not-ran-clause-passed
returns-then-not-ran-clause-passed c = (refl, has_stayed c.in_ok-ran.ran _ _ _ c.if-not-ran.true c.in_ok-ran.ensures.ran)
