use Rattle.stm_watch.proofs.Linked.{node_on}
use Rattle.stm_watch.proofs.At.{within}
use Rattle.stm_watch.proofs.Indexed.{covered_node, covered_less}
use Rattle.stm_watch.proofs.index.Index.remove.Goals as goal

pub unlink-requires : goal.unlink-requires
unlink-requires c =
    let found = covered_node c.args.self.now.idle c.args.self.now.ready c.args.self.now.lists
    c.args.self.now.nodes.items c.requires.0 c.args.index c.in-Some.node c.index.result.now c.requires.1 c.requires.2 c.index.ensures c.in-Some.is in
    node_on c.args.self.now.lists found.0 c.in-Some.node c.args.index found.2

pub returns : goal.returns
returns c ws covers some =
    let found = covered_node c.args.self.now.idle c.args.self.now.ready c.args.self.now.lists
    c.args.self.now.nodes.items ws c.args.index c.in-Some.node c.index.result.now covers some c.index.ensures c.in-Some.is in
    covered_less c.args.self.now.idle c.args.self.now.ready c.args.self.now.lists c.unlink.new.self
    c.args.self.now.nodes.items ws c.args.index c.in-Some.node found.0 covers found.1 found.2 c.unlink.ensures.unlinked c.unlink.ensures.gone
    (within ws c.args.index some)
