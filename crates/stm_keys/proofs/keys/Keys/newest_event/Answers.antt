use Rattle.std.proofs.Common.{◌≡◌, ◌≤◌, ◌∙◌, List, Option, IfSome, reverse, sym, ap, subst}
use Rattle.indexmap.specs.IndexMap.{get_by_text}
use Rattle.stm_history.specs.declared.revisions.TheConstants.{HIGHEST_REVISION}
use Rattle.stm_history.specs.Opening.{Opening, opened_state}
use Rattle.stm_history.specs.History.{now, key_now}
use Rattle.stm_keys.specs.declared.event.Event.{Event}
use Rattle.stm_keys.specs.Keys.{Contents}
use Rattle.stm_keys.specs.Events.{key_of_event, after_event}
use Rattle.stm_keys.specs.Chains.{Versions, versions_in, newest_event, opening_of}
use Rattle.stm_keys.proofs.Newest.{newest_about}
use Rattle.stm_keys.proofs.Walked.{found_all, before_opened, searchable}
use Rattle.stm_keys.proofs.Numbers.{now_fits, now_small}
use Rattle.stm_keys.proofs.keys.Keys.newest_event.Goals as goal

pub find_newest-requires : goal.find_newest-requires
find_newest-requires c =
    searchable (opening_of c.self.inside.below c.self.inside.chains) c.self.inside.revisions.items (get_by_text c.self.inside.chains) c.self.invariant.0

pub returns-clause-value : goal.returns-clause-value
returns-clause-value c =
    let xs : List (List Event) = c.self.inside.revisions.items in
    let chains = get_by_text c.self.inside.chains in
    let key = c.args.key.now in
    let opening : Opening = opening_of c.self.inside.below c.self.inside.chains in
    let newest : Option Event = newest_event c.self.inside.below xs key (versions_in (chains key)) in
    ap (λ (o : Option Event). after_event o (opened_state c.args.self.now.history.opening key)) c.find_newest.ensures
    ∙ sym (ap (λ (v : Contents). after_event newest (opened_state v.history.opening key)) c.self.view_is)
    ∙ ap (after_event newest)
    (sym (before_opened opening key (reverse xs)) ∙ ap (λ (v : Versions). v.before) (sym (c.self.invariant.0.versions key)))
    ∙ found_all opening xs chains key c.self.invariant.0
    ∙ ap (λ (v : Contents). key_now v.history key) c.self.view_is

pub returns-clause-about : goal.returns-clause-about
returns-clause-about c =
    subst (λ (o : Option Event). IfSome o (λ event. key_of_event event ≡ c.args.key.now)) (sym c.find_newest.ensures)
    (newest_about c.self.inside.below c.self.inside.revisions.items c.args.key.now (versions_in (get_by_text c.self.inside.chains c.args.key.now)))

pub returns-clause-fits : goal.returns-clause-fits
returns-clause-fits c =
    now_small c.args.self.now.history c.args.key.now
    (subst (λ (v : Contents). now v.history ≤ HIGHEST_REVISION) c.self.view_is
    (now_fits (opening_of c.self.inside.below c.self.inside.chains) (reverse c.self.inside.revisions.items) (get_by_text c.self.inside.chains)
    c.self.invariant.0))
