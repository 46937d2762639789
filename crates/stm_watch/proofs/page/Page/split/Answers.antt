use Rattle.std.proofs.Common.{◌≡◌, inl, inr, refl, subst, sym}
use Rattle.stm_watch.specs.Pages.{IsOneOf}
use Rattle.stm_watch.proofs.Entered.{any-left, any-parts, unsettled}
use Rattle.stm_watch.proofs.page.Page.split.Goals as goal

pub returns-clause-ok : goal.returns-clause-ok
returns-clause-ok c ws e stands =
    let all = subst (IsOneOf e) (sym c.move_half.ensures)
    (any-left (λ y. y ≡ e) c.args.self.now.entries.items c.in_ok-entries.entries.items stands.there) in
    elim (any-parts (λ y. y ≡ e) c.move_half.new.entries.items c.move_half.new.upper.items all) [
      | inl left ↦ inl (unsettled ws e _ refl left)
      | inr right ↦ inr (unsettled ws e _ c.unsettled.ensures.until (subst (IsOneOf e) (sym c.unsettled.ensures.entries) right))
    ]
