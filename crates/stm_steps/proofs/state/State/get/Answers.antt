use Rattle.std.proofs.Common.{subst, sym, ap, ◌∙◌, Some}
use Rattle.stm_steps.specs.Places.{IsAt}
use Rattle.stm_steps.proofs.Entries.{find_entry-at, find_entry-gap, in_range_at}
use Rattle.stm_steps.proofs.state.State.get.Goals as goal

pub returns-in-Ok-clause-entry : goal.returns-in-Ok-clause-entry
returns-in-Ok-clause-entry c =
    let place = subst (λ l. IsAt l c.args.key.now c.in-Ok.at) (sym c.self.view_is) c.in-Ok.ensures.found in
    rw (← c.self.view_is)
    (ap (λ e. Some e) c.index.ensures
    ∙ sym (find_entry-at c.args.key.now c.self.inside.entries.items c.in-Ok.at c.index.result.now c.self.invariant.0 place.in_range
    (place.has_key c.index.result.now)))

pub returns-in-Ok-clause-in_range : goal.returns-in-Ok-clause-in_range
returns-in-Ok-clause-in_range c =
    let place = subst (λ l. IsAt l c.args.key.now c.in-Ok.at) (sym c.self.view_is) c.in-Ok.ensures.found in
    rw c.index.ensures (in_range_at c.self.inside.entries.items c.in-Ok.at c.index.result.now c.self.invariant.1 place.in_range)

pub returns-in-Err-clause-entry : goal.returns-in-Err-clause-entry
returns-in-Err-clause-entry c =
    let gap = c.in-Err.ensures.absent in
    sym (find_entry-gap c.args.key.now c.args.self.now c.in-Err.field-0 gap.smaller_before gap.greater_after)
