use Rattle.std.proofs.Common.{subst}
use Rattle.stm_txn.specs.Standing.{Standing}
use Rattle.stm_exploring.specs.Narrowing.{ShowTheSame}
use Rattle.stm_exploring.proofs.SmallWorlds.{whole_shows}
use Rattle.stm_exploring.proofs.narrowing.with_runners.Goals as goal

pub returns-then-show_the_same : goal.returns-then-show_the_same
returns-then-show_the_same c = record {
  world = c.in_ok-start_each.ensures;
  shows = whole_shows c.args.touched.now c.start_each.new.world.standing c.args.store.now.standing c.store.ensures.reached
      (subst (λ (s : Standing). ShowTheSame c.args.touched.now s c.args.store.now.standing) c.store.ensures.standing
      (c.show_the_same.ensures c.if-show_the_same.true));
}
