use Rattle.stm_explore.proofs.AlikeStores.{worlds_alike}
use Rattle.stm_explore.proofs.alike.is_alike.Goals as goal

pub returns : goal.returns
returns c = λ is.
    worlds_alike c.args.one.now c.args.other.now (c.has_alike_runners.ensures c.if-not-has_alike_runners.false) (c.have_same_store.ensures is)
