use Rattle.std.proofs.Common.{◌≡◌, ◌∙◌, ◌∷◌, List, Some, None, sym, subst}
use Rattle.serde_json.specs.View.{view, items_view}
use Rattle.serde_json.specs.declared.value.Value.{Value}
use Rattle.stm_json.specs.Returns.{Returns}
use Rattle.stm_program_json.specs.Reading.{program_after}
use Rattle.stm_program_json.proofs.ProgramLemmas.{program_reported}
use Rattle.stm_program_json.proofs.read.program.Goals as goal

pub returns-in-Some-list_parts : goal.returns-in-Some-list_parts
returns-in-Some-list_parts c =
    let vs = c.in-Some.values.now.items in
    let split : vs ≡ c.in-Some-split_first.first.now ∷ c.in-Some-split_first.rest.now = sym c.deref.ensures.value ∙ c.in-Some-split_first.ensures.cases.0 in
    program_reported c.program_after_list.result (view c.args.value.now) vs c.in-Some-split_first.rest.now c.in-Some-split_first.first.now
    (Some (items_view c.in-Some-list_parts.parts.now)) (sym c.in-Some.ensures) split (sym c.in-Some-list_parts.ensures) (c.program_after_list.ensures (items_view vs))

pub returns-in-None : goal.returns-in-None
returns-in-None c =
    let vs = c.in-Some.values.now.items in
    let split : vs ≡ c.in-Some-split_first.first.now ∷ c.in-Some-split_first.rest.now = sym c.deref.ensures.value ∙ c.in-Some-split_first.ensures.cases.0 in
    program_reported c.program_alone.result (view c.args.value.now) vs c.in-Some-split_first.rest.now c.in-Some-split_first.first.now
    None (sym c.in-Some.ensures) split (sym c.in-None.ensures)
    (subst (λ (ws : List Value). Returns (λ p. p) c.program_alone.result (program_after None (items_view ws) (items_view c.in-Some-split_first.rest.now)))
    c.as_slice.ensures.value (c.program_alone.ensures (items_view c.in-Some-split_first.rest.now)))
