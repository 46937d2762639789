use Rattle.std.proofs.Common.{ℕ, List, Option, IsSome, refl, sym, subst}
use Rattle.stm_watch.proofs.Linked.{node_on, place_on, less_there}
use Rattle.stm_watch.proofs.At.{within}
use Rattle.stm_watch.proofs.Indexed.{covered_node, covered_less, covered_again}
use Rattle.stm_watch.proofs.index.Index.move_to.Goals as goal

pub unlink-requires : goal.unlink-requires
unlink-requires c =
    let found = covered_node c.args.self.now.idle c.args.self.now.ready c.args.self.now.lists
    c.args.self.now.nodes.items c.requires.there.0 c.args.index c.in-Some.node c.index.result.now c.requires.there.1 c.requires.there.2
    c.index.ensures c.in-Some.is in
    node_on c.args.self.now.lists found.0 c.in-Some.node c.args.index found.2

pub push_back-requires : goal.push_back-requires
push_back-requires c =
    let found = covered_node c.args.self.now.idle c.args.self.now.ready c.args.self.now.lists
    c.args.self.now.nodes.items c.requires.there.0 c.args.index c.in-Some.node c.index.result.now c.requires.there.1 c.requires.there.2
    c.index.ensures c.in-Some.is in
    let on = place_on c.args.self.now.lists found.0 c.in-Some.node c.args.index found.2 in
    less_there c.args.self.now.lists c.unlink.new.self c.in-Some.node on.place on.stands (c.unlink.ensures.unlinked on.place on.stands) c.unlink.ensures.gone
    c.args.list c.requires.list

pub returns : goal.returns
returns c ws w covers some is =
    let nodes : List (Option ℕ) = c.args.self.now.nodes.items in
    let found = covered_node c.args.self.now.idle c.args.self.now.ready c.args.self.now.lists nodes ws c.args.index c.in-Some.node
    c.index.result.now covers some c.index.ensures c.in-Some.is in
    let less = covered_less c.args.self.now.idle c.args.self.now.ready c.args.self.now.lists c.unlink.new.self nodes ws c.args.index c.in-Some.node
    found.0 covers found.1 found.2 c.unlink.ensures.unlinked c.unlink.ensures.gone (within ws c.args.index some) in
    covered_again c.args.self.now.idle c.args.self.now.ready c.unlink.new.self c.push_back.new.self nodes ws c.args.list c.in-Ok.moved c.args.index w
    less (within nodes c.args.index (subst IsSome (sym found.1) refl)) is c.in-Ok.ensures.ok
