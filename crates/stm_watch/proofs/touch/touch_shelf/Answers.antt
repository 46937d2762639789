use Rattle.std.proofs.Common.{◌∙◌, List, subst, sym}
use Rattle.stm_watch.specs.declared.page.Page.{Page}
use Rattle.stm_watch.specs.Pages.{IsAny, ReachesOn, ReachesOver}
use Rattle.stm_watch.proofs.Ordered.{is_concerned}
use Rattle.stm_watch.proofs.Touching.{touched_none, touched_as}
use Rattle.stm_watch.proofs.touch.touch_shelf.Goals as goal

pub returns-then-may_concern-clause-slots : goal.returns-then-may_concern-clause-slots
returns-then-may_concern-clause-slots c =
    touched_as c.args.revision c.args.key.now (λ i. IsAny (ReachesOn c.args.revision c.args.key.now i) c.as_slice.result.now)
    (λ i. ReachesOver c.args.revision c.args.key.now i c.args.shelf.now) c.args.slots.now c.touch_pages.new.slots
    (λ i reached. subst (λ (l : List Page). IsAny (ReachesOn c.args.revision c.args.key.now i) l) (sym c.as_slice.ensures.value) reached.pages)
    c.touch_pages.ensures.slots

pub returns-else-may_concern-clause-slots : goal.returns-else-may_concern-clause-slots
returns-else-may_concern-clause-slots c =
    touched_none c.args.revision c.args.key.now (λ i. ReachesOver c.args.revision c.args.key.now i c.args.shelf.now) c.args.slots.now
    (λ i reached.
    let has = is_concerned reached.entry c.args.shelf.now.reach c.args.revision c.args.key.now reached.its.1 reached.looked in
    let never = sym c.if-may_concern.false ∙ c.may_concern.ensures ∙ has in
    absurd (cc))
