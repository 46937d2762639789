use Rattle.stm_explore.proofs.SameStores.{same_standing, same_base}
use Rattle.stm_explore.proofs.sharing.have_same_base.Goals as goal

pub returns : goal.returns
returns c = λ is.
    let v = c.args.one.now in
    let w = c.args.other.now in
    same_base v w
    (same_standing v.standing w.standing (c.have_same_entries.ensures.stores is) (c.has_never_watched.ensures c.if-not-has_never_watched.false)
    (c.has_never_watched-2.ensures c.if-not-has_never_watched-2.false))
    (c.have_same_entries.ensures.entries is)
