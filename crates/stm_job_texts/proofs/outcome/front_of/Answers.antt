use Rattle.std.proofs.Common.{ap₂, ◌∙◌}
use Rattle.stm_job_texts.specs.Outcomes.{front_text}
use Rattle.stm_job_texts.proofs.outcome.front_of.Goals as goal

pub returns : goal.returns
returns c =
    let state = c.in_ok-state.state in (
      state,
      c.in_ok-state.ensures,
      c.in_ok-text.ensures.ascending,
      c.in_ok-text.ensures.text ∙ ap₂ (λ es js. front_text state es js) c.entries.ensures.entries c.as_slice-ends.ensures.value,
    )
