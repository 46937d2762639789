use Rattle.std.proofs.Common.{◌≡◌, subst, sym, ap, ◌∙◌, set}
use Rattle.stm_steps.specs.States.{find_entry, with_entry, IsAscending, AreInRange}
use Rattle.stm_steps.specs.Places.{IsAt, IsGapFor}
use Rattle.stm_steps.specs.declared.state.StateEntry.{StateEntry}
use Rattle.stm_steps.proofs.Entries.{entry_of, with_entry-at, with_entry-gap, with_entry-ascending, with_entry-in_range, find_entry-with_entry}
use Rattle.stm_steps.proofs.state.State.insert.Goals as goal

-- the entry in place of the one that has its key
replaced : (c : goal.After-drop-index_mut-in-Ok) → let entry : StateEntry = entry_of c.args.key c.args.value c.args.mod_rev in
    set c.self.inside.entries.items c.in-Ok.at entry ≡ with_entry entry c.self.inside.entries.items
replaced c =
    let entry : StateEntry = entry_of c.args.key c.args.value c.args.mod_rev in
    let here = subst (λ l. IsAt l c.as_str.result.now c.in-Ok.at) (sym c.self.view_is) c.in-Ok.ensures.found in
    let place = subst (λ k. IsAt c.self.inside.entries.items k c.in-Ok.at) c.as_str.ensures here in
    sym (with_entry-at entry c.self.inside.entries.items c.in-Ok.at entry c.self.invariant.0 place.in_range (place.has_key entry))

pub invariant_of-self : goal.invariant_of-self
invariant_of-self c =
    let entry : StateEntry = entry_of c.args.key c.args.value c.args.mod_rev in
    subst (λ l. IsAscending l × AreInRange l) (sym (replaced c)) (
      with_entry-ascending entry c.self.inside.entries.items c.self.invariant.0,
      with_entry-in_range entry c.self.inside.entries.items c.requires c.self.invariant.1,
    )

pub returns-in-Ok-clause-ok : goal.returns-in-Ok-clause-ok
returns-in-Ok-clause-ok c =
    let entry : StateEntry = entry_of c.args.key c.args.value c.args.mod_rev in
    replaced c ∙ ap (λ l. with_entry entry l) c.self.view_is

pub returns-in-Ok-clause-entry : goal.returns-in-Ok-clause-entry
returns-in-Ok-clause-entry c = λ other.
    let entry : StateEntry = entry_of c.args.key c.args.value c.args.mod_rev in
    ap (λ l. find_entry other l) (returns-in-Ok-clause-ok c) ∙ find_entry-with_entry other entry c.args.self.now

-- the entry in the gap where its key goes
inserted : (c : goal.In_ok-insert-in-Err) →
    c.insert.new.self.items ≡ with_entry (entry_of c.args.key c.args.value c.args.mod_rev) c.self.inside.entries.items
inserted c =
    let entry : StateEntry = entry_of c.args.key c.args.value c.args.mod_rev in
    let here = subst (λ l. IsGapFor l c.as_str.result.now c.in-Err.at) (sym c.self.view_is) c.in-Err.ensures.absent in
    let gap = subst (λ k. IsGapFor c.self.inside.entries.items k c.in-Err.at) c.as_str.ensures here in
    c.in_ok-insert-in-Err.ensures.items ∙ sym (with_entry-gap entry c.self.inside.entries.items c.in-Err.at gap.in_range gap.smaller_before gap.greater_after)

pub invariant_of-self-in-Err : goal.invariant_of-self-in-Err
invariant_of-self-in-Err c =
    let entry : StateEntry = entry_of c.args.key c.args.value c.args.mod_rev in
    subst (λ l. IsAscending l × AreInRange l) (sym (inserted c)) (
      with_entry-ascending entry c.self.inside.entries.items c.self.invariant.0,
      with_entry-in_range entry c.self.inside.entries.items c.requires c.self.invariant.1,
    )

pub returns-in_ok-insert-in-Err-clause-ok : goal.returns-in_ok-insert-in-Err-clause-ok
returns-in_ok-insert-in-Err-clause-ok c =
    let entry : StateEntry = entry_of c.args.key c.args.value c.args.mod_rev in
    inserted c ∙ ap (λ l. with_entry entry l) c.self.view_is

pub returns-in_ok-insert-in-Err-clause-entry : goal.returns-in_ok-insert-in-Err-clause-entry
returns-in_ok-insert-in-Err-clause-entry c = λ other.
    let entry : StateEntry = entry_of c.args.key c.args.value c.args.mod_rev in
    ap (λ l. find_entry other l) (returns-in_ok-insert-in-Err-clause-ok c) ∙ find_entry-with_entry other entry c.args.self.now
