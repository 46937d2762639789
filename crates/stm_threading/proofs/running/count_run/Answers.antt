use Rattle.std.proofs.Common.{List, ℕ, sym, subst}
use Rattle.stm_threading.specs.Running.{IsOutcome}
use Rattle.stm_threading.proofs.running.count_run.Goals as goal

pub returns-clause-counted : goal.returns-clause-counted
returns-clause-counted g c = (
  c.new.result,
  subst (λ (t : List ℕ). IsOutcome c.args.opening c.args.calls.now c.args.jobs.now t) (sym c.new.ensures) (c.in_ok-printed.printed.ends, c.in_ok-printed.ensures.shows),
  c.in_ok-count_one.ensures,
)
