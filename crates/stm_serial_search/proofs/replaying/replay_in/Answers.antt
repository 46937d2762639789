use Rattle.stm_serial_search.proofs.Replays.{found_break}
use Rattle.stm_serial_search.proofs.replaying.replay_in.Goals as goal

pub returns : goal.returns
returns g c =
    found_break c.args.rule.now c.args.world.now c.make_order.new.world c.args.others.now c.new-made.result.items c.make_order.new.made.items c.of.result
    c.in_ok-end.end c.found_by.result c.new-made.ensures.items c.in_ok-make_order.ensures c.in_ok-end.ensures c.of.ensures c.found_by.ensures
