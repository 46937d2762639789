use Rattle.std.proofs.Common.{◌∙◌, sym, arith}
use Rattle.stm_watch.proofs.Indexed.{ready_there, none_next, first_node_of, first_next, first_below}
use Rattle.stm_watch.proofs.index.Index.next_ready.Goals as goal

pub front-requires : goal.front-requires
front-requires c =
    ready_there c.args.self.now.idle c.args.self.now.ready c.args.self.now.lists c.args.self.now.nodes.items
    c.requires.0 c.requires.1

pub returns-in-None : goal.returns-in-None
returns-in-None c ws covers =
    none_next c.args.self.now.idle c.args.self.now.ready c.args.self.now.lists c.args.self.now.nodes.items ws covers
    (sym c.front.ensures ∙ c.in-None.is)

pub get-requires : goal.get-requires
get-requires c =
    first_node_of c.args.self.now.idle c.args.self.now.ready c.args.self.now.lists c.args.self.now.nodes.items
    c.requires.0 c.requires.1 c.in-Some.node (sym c.front.ensures ∙ c.in-Some.is)

pub returns-in-Some : goal.returns-in-Some
returns-in-Some c ws covers =
    first_next c.args.self.now.idle c.args.self.now.ready c.args.self.now.lists c.args.self.now.nodes.items ws covers
    c.in-Some.node c.get.result.now (sym c.front.ensures ∙ c.in-Some.is) c.get.ensures

pub overflow_add-result : goal.overflow_add-result
overflow_add-result c =
    let below = first_below c.args.self.now.idle c.args.self.now.ready c.args.self.now.lists
    c.args.self.now.nodes.items c.requires.0 c.requires.1 c.in-Some.node c.get.result.now (sym c.front.ensures ∙ c.in-Some.is) c.get.ensures in
    let small = c.args.self.now.nodes.small in
    omega (arith, below, c.args.self.now.nodes.ok.0, c.args.self.now.nodes.ok.1, small)
