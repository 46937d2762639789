use Rattle.std.proofs.Common.{◌≤◌, ◌∙◌, Option, IfSome, sym, subst, arith}
use Rattle.stm_history.specs.declared.key_state.KeyState.{KeyState}
use Rattle.stm_history.specs.declared.revisions.TheConstants.{HIGHEST_NUMBER}
use Rattle.stm_outcome.specs.Numbers.{StateFits}
use Rattle.stm_check.proofs.lookups.read_reported.Goals as goal

pub returns-clause-in_range : goal.returns-clause-in_range
returns-clause-in_range c =
    let r = c.args.answer.now.of_rev in
    let small : r ≤ HIGHEST_NUMBER = omega (arith, c.requires.reached, c.revision-counter.ensures.bounded, c.revision-counter.ensures.value) in
    record {
      of_rev = small;
      revision = small;
      state = subst (λ (o : Option KeyState). IfSome o StateFits) (sym (c.in_ok-kv.ensures ∙ c.look_back.ensures))
          (c.requires.numbers c.as_str.result.now r);
    }
