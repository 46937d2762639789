use Rattle.std.proofs.Common.{◌≤◌, ◌-◌, sym, subst, arith}
use Rattle.stm_history.specs.History.{now}
use Rattle.stm_keys.specs.Keys.{Contents}
use Rattle.stm_keys.proofs.keys.Keys.compact.Goals as goal

pub forget_up_to-requires : goal.forget_up_to-requires
forget_up_to-requires c =
    subst (λ (v : Contents). c.args.revision - 1 ≤ now v.history) (sym c.in_ok-raise_floor.ensures.ok) (omega (arith, c.in_ok-raise_floor.ensures.reached))
