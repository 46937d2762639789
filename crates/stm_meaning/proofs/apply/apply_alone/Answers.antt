use Rattle.std.proofs.Common.{rules, ap, ◌∙◌}
use Rattle.std.specs.Prelude.{filter}
use Rattle.std.proofs.lemmas.Fn.{filter_same}
use Rattle.stm_meaning.specs.Writes.{changes, effect}
use Rattle.stm_steps.specs.States.{is_present}
use Rattle.stm_meaning.proofs.apply.apply_alone.Goals as goal

-- the closure keeps the writes that change something
pub returns : goal.returns
unfolding effect
returns c =
    let test = changes (is_present c.args.state.now) in
    filter_same _ test _ (λ x b f called. search rules) _ _ c.retain.ensures.filtered
    ∙ ap (λ l. filter test l) (c.into_vec-effects.ensures ∙ c.in_ok-latest_writes.ensures)
