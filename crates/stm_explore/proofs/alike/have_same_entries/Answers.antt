use Rattle.std.proofs.Common.{◌∙◌, sym}
use Rattle.stm_explore.proofs.AlikeStores.{same_terms, alike_by_entries}
use Rattle.stm_explore.proofs.alike.have_same_entries.Goals as goal

pub returns-clause-stores : goal.returns-clause-stores
returns-clause-stores c = λ is.
    let e = c.if-not-have_same_terms.false in
    alike_by_entries c.args.one.now c.args.other.now (record { replays = c.history.ensures.replays }) (record { replays = c.history-2.ensures.replays })
    c.requires
    (same_terms c.args.one.now.standing c.args.other.now.standing c.store.result.now.standing c.store-2.result.now.standing c.store.ensures.standing
    c.store-2.ensures.standing (c.have_same_terms.ensures.floor e) (c.have_same_terms.ensures.limit e) (c.have_same_terms.ensures.moment e))
    (sym c.history.ensures.entries ∙ c.are_same_entries.ensures is ∙ c.history-2.ensures.entries)

pub returns-clause-entries : goal.returns-clause-entries
returns-clause-entries c = λ is. sym c.history.ensures.entries ∙ c.are_same_entries.ensures is ∙ c.history-2.ensures.entries
