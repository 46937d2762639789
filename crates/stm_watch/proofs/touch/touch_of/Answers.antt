use Rattle.std.proofs.Common.{◌∙◌, ap, subst, sym}
use Rattle.indexmap.specs.IndexMap.{get_by_text}
use Rattle.stm_watch.specs.declared.groups.Groups.{Groups}
use Rattle.stm_watch.specs.Pages.{AreEntered, IsTouched, ReachesAt}
use Rattle.stm_watch.proofs.Entered.{entered_same, entered_kept, entered_touched}
use Rattle.stm_watch.proofs.Touching.{all_touched}
use Rattle.stm_watch.proofs.touch.touch_of.Goals as goal

pub returns-clause-slots : goal.returns-clause-slots
returns-clause-slots c =
    let settled : Groups = c.settle-2.new.self in
    let entered : AreEntered settled c.args.slots.now = entered_same c.settle.new.self settled c.args.slots.now
    (λ key g is. ap (λ m. get_by_text m key) c.settle-2.ensures.keys ∙ is) c.settle-2.ensures.kept
    (entered_same c.args.groups.now c.settle.new.self c.args.slots.now (λ key g is. ap (λ m. get_by_text m key) c.settle.ensures.keys ∙ is)
    c.settle.ensures.kept c.requires.entered) in
    let own = c.of_key-its_own.ensures ∙ sym (ap (λ m. get_by_text m c.args.key.now) (c.settle-2.ensures.keys ∙ c.settle.ensures.keys)) in
    all_touched c.args.revision c.args.key.now settled c.touch_group.new.groups.groups.items c.args.slots.now c.touch_group.new.slots
    c.touch_group-2.new.slots entered
    (subst (λ o. IsTouched c.args.revision c.args.key.now (λ i. ReachesAt c.args.revision c.args.key.now i settled.groups.items o)
    c.args.slots.now c.touch_group.new.slots) own c.touch_group.ensures.slots)
    (c.touch_group.ensures.kept.entries c.args.slots.now 0) c.touch_group-2.ensures.slots

pub returns-clause-found : goal.returns-clause-found
returns-clause-found c =
    let settled : Groups = c.settle-2.new.self in
    let entered : AreEntered settled c.args.slots.now = entered_same c.settle.new.self settled c.args.slots.now
    (λ key g is. ap (λ m. get_by_text m key) c.settle-2.ensures.keys ∙ is) c.settle-2.ensures.kept
    (entered_same c.args.groups.now c.settle.new.self c.args.slots.now (λ key g is. ap (λ m. get_by_text m key) c.settle.ensures.keys ∙ is)
    c.settle.ensures.kept c.requires.entered) in
    let last : Groups = c.touch_group-2.new.groups in
    record {
      covers = c.touch_group-2.ensures.covers;
      entered = subst (AreEntered last) (sym (returns-clause-slots c))
          (entered_touched c.args.revision c.args.key.now last c.args.slots.now
          (entered_kept c.touch_group.new.groups last c.args.slots.now c.touch_group-2.ensures.kept
          (entered_kept settled c.touch_group.new.groups c.args.slots.now c.touch_group.ensures.kept entered)));
    }
