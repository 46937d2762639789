use Rattle.std.proofs.Common.{◌<◌, ◌∙◌, sym, ap, arith, List, is_some, reverse, slice_get}
use Rattle.indexmap.specs.IndexMap.{get_by_text}
use Rattle.stm_history.specs.Opening.{Opening}
use Rattle.stm_history.specs.History.{key_after}
use Rattle.stm_keys.specs.declared.event.Event.{Event}
use Rattle.stm_keys.specs.Keys.{Contents, changes_of}
use Rattle.stm_keys.specs.Chains.{names_of, opening_of}
use Rattle.stm_keys.proofs.Order.{names_long, present_at, below_present}
use Rattle.stm_keys.proofs.Walked.{searchable, found_all, below_count}
use Rattle.stm_keys.proofs.keys.Keys.at.Goals as goal

pub find_present-requires-clause-searchable : goal.find_present-requires-clause-searchable
find_present-requires-clause-searchable c =
    searchable (opening_of c.self.inside.below c.self.inside.chains) c.self.inside.revisions.items (get_by_text c.self.inside.chains) c.self.invariant.0

pub find_present-requires-clause-within : goal.find_present-requires-clause-within
find_present-requires-clause-within c =
    let opening : Opening = opening_of c.self.inside.below c.self.inside.chains in
    let below : c.args.index < c.self.inside.present =
    below_count opening c.self.inside.opened c.self.inside.floor c.self.inside.revisions.items c.self.inside.present c.args.index
    (names_of c.self.inside.chains) c.args.self.now c.self.view_is c.self.invariant.1 c.requires in
    omega (arith, below, c.self.invariant.1.within, names_long c.self.inside.chains)

pub find_present-requires-clause-present : goal.find_present-requires-clause-present
find_present-requires-clause-present c = λ key at.
    let opening : Opening = opening_of c.self.inside.below c.self.inside.chains in
    let xs : List (List Event) = c.self.inside.revisions.items in
    let below : c.args.index < c.self.inside.present =
    below_count opening c.self.inside.opened c.self.inside.floor xs c.self.inside.present c.args.index (names_of c.self.inside.chains) c.args.self.now
    c.self.view_is c.self.invariant.1 c.requires in
    ap is_some (found_all opening xs (get_by_text c.self.inside.chains) key c.self.invariant.0)
    ∙ below_present (λ k. is_some (key_after opening k (changes_of (reverse xs)))) c.self.inside.present (names_of c.self.inside.chains)
    c.args.index key c.self.invariant.1 below at

pub returns : goal.returns
returns c =
    let opening : Opening = opening_of c.self.inside.below c.self.inside.chains in
    let xs : List (List Event) = c.self.inside.revisions.items in
    let below : c.args.index < c.self.inside.present =
    below_count opening c.self.inside.opened c.self.inside.floor xs c.self.inside.present c.args.index (names_of c.self.inside.chains) c.args.self.now
    c.self.view_is c.self.invariant.1 c.requires in
    sym (ap (λ (v : Contents). slice_get v.present c.args.index) c.self.view_is)
    ∙ present_at (λ k. key_after opening k (changes_of (reverse xs))) c.self.inside.present (names_of c.self.inside.chains) c.args.index
    c.find_present.result.0.now c.find_present.result.1.now c.self.invariant.1 below c.find_present.ensures.key
    (sym (found_all opening xs (get_by_text c.self.inside.chains) c.find_present.result.0.now c.self.invariant.0) ∙ c.find_present.ensures.state)
