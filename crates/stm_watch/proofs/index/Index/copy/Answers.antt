use Rattle.stm_watch.proofs.Indexed.{covered_same}
use Rattle.stm_watch.proofs.index.Index.copy.Goals as goal

pub returns : goal.returns
returns c ws covers =
    covered_same c.args.self.now.idle c.args.self.now.ready c.args.self.now.lists c.in_ok-lists.lists
    c.args.self.now.nodes.items c.in_ok-nodes.nodes.items ws c.in_ok-lists.ensures
    c.in_ok-nodes.ensures covers
