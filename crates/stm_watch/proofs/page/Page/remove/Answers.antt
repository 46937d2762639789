use Rattle.std.proofs.Common.{◌≡◌, ◌∙◌, ◌-◌, ap, refl, subst, sym}
use Rattle.stm_watch.specs.declared.page.RangeEntry.{RangeEntry}
use Rattle.stm_watch.specs.Pages.{IsOneOf}
use Rattle.stm_watch.proofs.Entered.{any-without, unsettled}
use Rattle.stm_watch.proofs.page.Page.remove.Goals as goal

pub returns-then-index-place : goal.returns-then-index-place
returns-then-index-place c ws e differs stands =
    unsettled ws e _ refl (subst (IsOneOf e) (sym c.remove.ensures.items)
    (any-without (λ y. y ≡ e) c.args.self.now.entries.items (c.count_up_to-count.result - 1) c.index.result.now
    (λ same. differs (ap (λ (x : RangeEntry). x.place) (sym (c.index.ensures ∙ same)) ∙ c.if-index-place.true)) stands.there))
