use Rattle.std.proofs.Common.{◌≡◌, refl, sym, ◌∙◌}
use Rattle.stm_steps.specs.declared.run.Answered.TheVariants.{Ended, Wants}
use Rattle.stm_steps.specs.States.{state_answers}
use Rattle.stm_meaning.proofs.RunLaws.{whole_lookups_end}
use Rattle.stm_meaning.proofs.alone.run_alone.Goals as goal

-- a state knows every key
pub unreachable-requires : goal.unreachable-requires
unreachable-requires c =
    let end = whole_lookups_end (state_answers c.args.state.now) c.args.program.now.statements (λ key. refl) in
    let clash : Wants c.in-Wants.key c.in-Wants.trace ≡ Ended end.0 = sym c.in-Wants.is ∙ c.in_ok-run.ensures ∙ end.1 in
    cc
