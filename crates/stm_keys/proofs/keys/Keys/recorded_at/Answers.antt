use Rattle.std.proofs.Common.{◌≡◌, ◌+◌, ◌-◌, ◌≤◌, ◌∙◌, sym, ap, subst, arith, map, reverse, length, List}
use Rattle.std.proofs.lemmas.List.{length-map, length-reverse}
use Rattle.indexmap.specs.IndexMap.{get_by_text}
use Rattle.stm_history.specs.Opening.{Opening}
use Rattle.stm_history.specs.History.{now}
use Rattle.stm_keys.specs.declared.event.Event.{Event}
use Rattle.stm_keys.specs.Events.{events_of, change_of_event}
use Rattle.stm_keys.specs.Keys.{Contents, changes_of}
use Rattle.stm_keys.specs.Chains.{opening_of}
use Rattle.stm_keys.proofs.Recorded.{none_numbered}
use Rattle.stm_keys.proofs.Fields.{events_at}
use Rattle.stm_keys.proofs.keys.Keys.recorded_at.Goals as goal

pub returns-then-revision-self : goal.returns-then-revision-self
returns-then-revision-self c =
    sym (none_numbered (opening_of c.self.inside.below c.self.inside.chains) c.args.revision (changes_of (reverse c.self.inside.revisions.items))
    c.if-revision-self.true)
    ∙ ap (λ (v : Contents). events_of v.history c.args.revision) c.self.view_is

pub returns : goal.returns
returns c =
    let opening : Opening = opening_of c.self.inside.below c.self.inside.chains in
    let xs : List (List Event) = c.self.inside.revisions.items in
    let reached : c.args.revision ≤ c.self.inside.below + length (changes_of (reverse xs)) =
    subst (λ (v : Contents). c.args.revision ≤ now v.history) (sym c.self.view_is) c.requires in
    let count : length (changes_of (reverse xs)) ≡ length xs = length-map (reverse xs) (map change_of_event) ∙ length-reverse xs in
    let numbered : events_of c.args.self.now.history c.args.revision ≡ c.index.result.now =
    sym (ap (λ (v : Contents). events_of v.history c.args.revision) c.self.view_is)
    ∙ events_at opening c.args.revision xs (get_by_text c.self.inside.chains) (c.args.revision - c.self.inside.below - 1) c.self.invariant.0
    (omega (arith, c.if-revision-self.false, reached, count)) (omega (arith, c.if-revision-self.false)) c.index.result.now c.index.ensures in
    sym numbered
