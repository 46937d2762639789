use Rattle.std.proofs.Common.{◌∙◌, None, IsSome, ap, slice_index_or, slice_set, subst, sym}
use Rattle.stm_watch.specs.Pages.{AreFound}
use Rattle.stm_watch.proofs.Entered.{entered_less}
use Rattle.stm_watch.proofs.table.Table.remove.Goals as goal

pub remove-requires-2 : goal.remove-requires-2
remove-requires-2 c = (
  c.self.inside.slots,
  c.self.invariant.covers,
  subst (λ ws. IsSome (slice_index_or ws c.args.place None)) (sym c.self.view_is) c.requires,
)

pub invariant_of-self : goal.invariant_of-self
invariant_of-self c =
    let some = subst (λ ws. IsSome (slice_index_or ws c.args.place None)) (sym c.self.view_is) c.requires in
    subst (AreFound c.remove-2.new.self c.remove.new.self) (sym c.remove-3.ensures)
    (record {
      covers = c.remove-2.ensures c.self.inside.slots c.self.invariant.covers some;
      entered = entered_less c.self.inside.groups c.remove.new.self c.self.inside.slots c.args.place c.remove.ensures.keys c.remove.ensures.kept some
          c.self.invariant.entered;
    })

pub returns : goal.returns
returns c = c.remove-3.ensures ∙ ap (λ ws. slice_set ws c.args.place None) c.self.view_is
