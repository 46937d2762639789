use Rattle.std.proofs.Common.{◌≡◌, refl, subst, sym}
use Rattle.stm_watch.specs.Pages.{IsOneOf}
use Rattle.stm_watch.proofs.Entered.{any-with, any-new, unsettled}
use Rattle.stm_watch.proofs.page.Page.add.Goals as goal

pub returns-clause-kept : goal.returns-clause-kept
returns-clause-kept c ws e stands =
    unsettled ws e _ refl (subst (IsOneOf e) (sym c.in_ok-insert.ensures.items)
    (any-with (λ y. y ≡ e) c.args.self.now.entries.items c.count_up_to-at.result c.args.entry stands.there))

pub returns-clause-ok : goal.returns-clause-ok
returns-clause-ok c ws =
    unsettled ws c.args.entry _ refl (subst (IsOneOf c.args.entry) (sym c.in_ok-insert.ensures.items)
    (any-new (λ y. y ≡ c.args.entry) c.args.self.now.entries.items c.count_up_to-at.result c.args.entry refl))
