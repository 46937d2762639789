use Rattle.std.proofs.Common.{◌≡◌, refl, sym, ◌∙◌}
use Rattle.stm_steps.specs.declared.run.Answered.TheVariants.{Ended, Wants}
use Rattle.stm_meaning.proofs.RunLaws.{whole_lookups_end}
use Rattle.stm_compile.specs.Answers.{state_now}
use Rattle.stm_retry.proofs.alone.run_now.Goals as goal

-- a store's keys are all known
pub unreachable-requires : goal.unreachable-requires
unreachable-requires c =
    let end = whole_lookups_end (state_now c.args.keys.now.history) c.args.program.now.statements (λ key. refl) in
    let clash : Wants c.in-Wants.key c.in-Wants.trace ≡ Ended end.0 = sym c.in-Wants.is ∙ c.in_ok-run.ensures ∙ end.1 in
    cc
