use Rattle.std.proofs.Common.{length, ap, ◌∙◌}
use Rattle.stm_exploring.specs.Beginnings.{place_at}
use Rattle.stm_exploring.specs.Judging.{IsAnswer}
use Rattle.stm_serial_search.proofs.Judges.{as_many}
use Rattle.stm_exploring.proofs.judging.judge_further.Goals as goal

pub judge_orders-requires-clause-asked : goal.judge_orders-requires-clause-asked
judge_orders-requires-clause-asked g c =
    ap length c.as_slice-2.ensures.value ∙ c.in_ok-asked.ensures ∙ ap length c.as_slice.ensures.value
    ∙ as_many (λ rule. IsAnswer rule (place_at c.args.at.now)) c.args.rules.now c.args.answers.now.items c.requires.answers

pub search_each-requires : goal.search_each-requires
search_each-requires g c =
    c.improve_each.ensures c.args.rules.now (place_at c.args.at.now) c.requires.answers c.in_ok-judged.ensures
