use Rattle.std.proofs.Common.{sym, subst, arith}
use Rattle.std.proofs.lemmas.List.Elements.{All-get_or, All-same}
use Rattle.stm_history.specs.declared.key_state.ReadAnswer.{ReadAnswer}
use Rattle.stm_outcome.specs.Numbers.{ReadFits}
use Rattle.stm_compile.proofs.read_set.ReadSet.first_carried.Goals as goal

pub returns-in-len1-up-clause-in_range : goal.returns-in-len1-up-clause-in_range
returns-in-len1-up-clause-in_range c =
    let fits : ReadFits c.first-item.result =
    subst (λ (a : ReadAnswer). ReadFits a) (sym c.first-item.is)
    (All-get_or ReadFits c.as_slice.result.now 0 c.first-item.result (omega (arith, c.in-len1-up.len_at_least))
    (All-same ReadFits c.as_slice.result.now c.self.inside.answers.items c.as_slice.ensures.value c.self.invariant.0)) in
    omega (arith, c.least_carried.ensures.below, fits.revision)
