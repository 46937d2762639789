use Rattle.stm_watch.proofs.Indexed.{ready_there}
use Rattle.stm_watch.proofs.index.Index.ready_count.Goals as goal

pub len-requires : goal.len-requires
len-requires c =
    ready_there c.args.self.now.idle c.args.self.now.ready c.args.self.now.lists c.args.self.now.nodes.items
    c.requires.0 c.requires.1
