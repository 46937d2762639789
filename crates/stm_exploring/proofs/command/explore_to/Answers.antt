use Rattle.std.proofs.Common.{Ok}
use Rattle.std.specs.Prelude.{string_bytes}
use Rattle.stm_faulted_runs.proofs.SaidLemmas.{said}
use Rattle.stm_exploring.specs.Explaining.{KeptInput, Explained, ExplainsSearched}
use Rattle.stm_exploring.proofs.command.explore_to.Goals as goal

-- an answer was written, and the rule explained where it is broken
pub returns-in-Ok-clause-ends : goal.returns-in-Ok-clause-ends
returns-in-Ok-clause-ends g c =
    let kept = c.explore_sources-searched.new.keeps in
    let keeps : KeptInput = record { name = kept.name.now; text = kept.bytes.items } in (
      c.explore_sources-searched.result,
      c.explore_sources-searched.ensures.searched,
      (
        Ok c.in-Ok.verdict,
        c.in-Ok.ensures,
        (
          c.report_verdict.ensures.status,
          c.said_of.result.now,
          said (Explained c.args.explain (ExplainsSearched keeps c.explore_sources-searched.result)) string_bytes c.searched_explanation-explained.result c.said_of.result.now
              c.searched_explanation-explained.ensures c.said_of.ensures.ok c.said_of.ensures.err,
          c.report_verdict.ensures.says,
        ),
      ),
    )
