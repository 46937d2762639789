use Rattle.std.proofs.Common.{◌≡◌, ◌∙◌, List, subst, sym}
use Rattle.stm_watch.specs.declared.page.RangeEntry.{RangeEntry}
use Rattle.stm_watch.specs.Pages.{IsAny, Reaches, ReachesOn}
use Rattle.stm_watch.proofs.Entered.{any-map}
use Rattle.stm_watch.proofs.Ordered.{is_concerned}
use Rattle.stm_watch.proofs.Touching.{touched_none, touched_as}
use Rattle.stm_watch.proofs.touch.touch_page.Goals as goal

pub returns-then-may_concern-clause-slots : goal.returns-then-may_concern-clause-slots
returns-then-may_concern-clause-slots c =
    let entries : List RangeEntry = c.as_slice.result.now in
    touched_as c.args.revision c.args.key.now (λ i. IsAny (Reaches c.args.key.now i) entries)
    (λ i. ReachesOn c.args.revision c.args.key.now i c.args.page.now) c.args.slots.now c.touch_entries.new.slots
    (λ i reached. subst (IsAny (Reaches c.args.key.now i)) (sym c.as_slice.ensures.value)
    (any-map (λ e. e ≡ reached.0) (Reaches c.args.key.now i) (λ e same. subst (Reaches c.args.key.now i) (sym same) reached.2)
    c.args.page.now.entries.items reached.1))
    c.touch_entries.ensures.slots

pub returns-else-may_concern-clause-slots : goal.returns-else-may_concern-clause-slots
returns-else-may_concern-clause-slots c =
    touched_none c.args.revision c.args.key.now (λ i. ReachesOn c.args.revision c.args.key.now i c.args.page.now) c.args.slots.now
    (λ i reached.
    let has = is_concerned reached.0 c.args.page.now.reach c.args.revision c.args.key.now reached.2.1 reached.3 in
    let never = sym c.if-may_concern.false ∙ c.may_concern.ensures ∙ has in
    absurd (cc))
