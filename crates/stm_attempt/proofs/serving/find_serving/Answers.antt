use Rattle.std.proofs.Common.{rules, ◌≡◌, ◌∙◌, sym, true, false}
use Rattle.std.specs.Prelude.{option_copied, None}
use Rattle.stm_attempt.proofs.DistinctLemmas.{serves_none, serves_some}
use Rattle.stm_attempt.proofs.serving.find_serving.Goals as goal

pub returns-in_err-answer-clause-answer : goal.returns-in_err-answer-clause-answer
returns-in_err-answer-clause-answer c =
    let none : option_copied c.from_residual.result ≡ None = search rules in
    serves_none c.args.reads.now c.args.prefetched.now c.args.key.now c.as_str.result.now (option_copied c.from_residual.result) c.as_str.ensures
    c.requires c.in_err-answer.ensures.answer none

pub returns-then-is_of_base-clause-answer : goal.returns-then-is_of_base-clause-answer
returns-then-is_of_base-clause-answer c =
    serves_some c.args.reads.now c.args.prefetched.now c.args.key.now c.as_str.result.now c.in_ok-answer.answer.now true c.as_str.ensures c.requires
    c.in_ok-answer.ensures.answer (sym c.is_of_base.ensures ∙ c.if-is_of_base.true)

pub returns-else-is_of_base-clause-answer : goal.returns-else-is_of_base-clause-answer
returns-else-is_of_base-clause-answer c =
    serves_some c.args.reads.now c.args.prefetched.now c.args.key.now c.as_str.result.now c.in_ok-answer.answer.now false c.as_str.ensures c.requires
    c.in_ok-answer.ensures.answer (sym c.is_of_base.ensures ∙ c.if-is_of_base.false)
