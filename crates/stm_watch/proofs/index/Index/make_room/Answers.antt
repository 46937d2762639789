use Rattle.std.proofs.Common.{refl}
use Rattle.stm_watch.proofs.Indexed.{covered_same}
use Rattle.stm_watch.proofs.index.Index.make_room.Goals as goal

pub returns-in_err-reserve-clause-kept : goal.returns-in_err-reserve-clause-kept
returns-in_err-reserve-clause-kept c ws covers =
    covered_same c.args.self.now.idle c.args.self.now.ready c.args.self.now.lists c.reserve.new.self c.args.self.now.nodes.items
    c.args.self.now.nodes.items ws c.reserve.ensures.lists refl covers

pub returns-in_err-reserve-2-clause-kept : goal.returns-in_err-reserve-2-clause-kept
returns-in_err-reserve-2-clause-kept c ws covers =
    covered_same c.args.self.now.idle c.args.self.now.ready c.args.self.now.lists c.reserve.new.self c.args.self.now.nodes.items
    c.reserve-2.new.self.items ws c.reserve.ensures.lists c.reserve-2.ensures.items covers

pub returns-clause-kept : goal.returns-clause-kept
returns-clause-kept c ws covers =
    covered_same c.args.self.now.idle c.args.self.now.ready c.args.self.now.lists c.reserve.new.self c.args.self.now.nodes.items
    c.reserve-2.new.self.items ws c.reserve.ensures.lists c.reserve-2.ensures.items covers
