use Rattle.std.proofs.Common.{◌+◌, length, sym, ap, subst}
use Rattle.stm_serial_search.specs.Search.{AreNone}
use Rattle.stm_serial_search.proofs.Found.{none_is_bad, some_is_bad}
use Rattle.stm_serial_search.proofs.finding.find_bad_order.Goals as goal

pub returns-clause-none : goal.returns-clause-none
returns-clause-none g c =
    none_is_bad c.args.rules.now c.args.world.now c.as_slice.result.now c.args.others.now (c.runner_count-count.result + length c.args.others.now)
    c.in_ok-found.found (subst AreNone (sym c.as_slice.ensures.value) c.in_ok-taken.ensures.none)
    (ap (λ k. k + length c.args.others.now) c.runner_count-count.ensures) c.in_ok-found.ensures

pub returns-clause-some : goal.returns-clause-some
returns-clause-some g c =
    some_is_bad c.args.rules.now c.args.world.now c.as_slice.result.now c.args.others.now (c.runner_count-count.result + length c.args.others.now)
    c.in_ok-found.found (subst AreNone (sym c.as_slice.ensures.value) c.in_ok-taken.ensures.none) c.in_ok-found.ensures
