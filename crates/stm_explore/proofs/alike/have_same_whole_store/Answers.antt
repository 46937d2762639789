use Rattle.std.proofs.Common.{◌≡◌, sym, ap, ◌∙◌}
use Rattle.stm_entries.specs.Replay.{replay}
use Rattle.stm_explore.proofs.AlikeStores.{same_terms, whole_compared, alike_by_revisions}
use Rattle.stm_explore.proofs.alike.have_same_whole_store.Goals as goal

pub returns : goal.returns
returns c = λ is.
    let e = c.if-not-have_same_terms.false in
    let s = c.args.one.now.standing in
    let t = c.args.other.now.standing in
    let kept_one = c.store-store.ensures.standing in
    let kept_other = c.store-another.ensures.standing in
    let none : c.store-store.result.now.standing.floor ≡ 0 = sym c.floor-floor.ensures.floor ∙ c.if-floor-ne0.false in
    let nothing : c.store-another.result.now.standing.floor ≡ 0 = sym (c.have_same_terms.ensures.floor e) ∙ none in
    alike_by_revisions c.args.one.now c.args.other.now (record { replays = c.history.ensures.replays }) (record { replays = c.history-2.ensures.replays })
    c.requires
    (same_terms s t c.store-store.result.now.standing c.store-another.result.now.standing kept_one kept_other (c.have_same_terms.ensures.floor e)
    (c.have_same_terms.ensures.limit e) (c.have_same_terms.ensures.moment e))
    (whole_compared s t c.store-store.result.now.standing c.store-another.result.now.standing c.keys-keys.result.now.history c.keys-keys_there.result.now.history kept_one kept_other
    c.keys-keys.ensures.history c.keys-keys_there.ensures.history none nothing (c.have_same_revisions.ensures.revisions c.if-not-have_same_revisions.false))
    (λ r. sym (ap (λ es. (replay es r).live) c.history.ensures.entries) ∙ c.leave_same_leases.ensures is r ∙ ap (λ es. (replay es r).live) c.history-2.ensures.entries)
