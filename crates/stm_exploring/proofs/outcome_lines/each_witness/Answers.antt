use Rattle.std.proofs.Common.{List, arith, ap, ◌∙◌}
use Rattle.stm_schedules.specs.declared.moves.Move.{Move}
use Rattle.stm_exploring.specs.Questions.{witness_text}
use Rattle.stm_exploring.proofs.OutcomeLineLemmas.{pair_more}
use Rattle.stm_exploring.proofs.outcome_lines.each_witness.Goals as goal

pub loop-i-preserved : goal.loop-i-preserved
loop-i-preserved c =
    pair_more (witness_text c.args.scenario.now) c.args.outcomes.now c.args.schedules.now c.loop-i.i c.index-outcomes-i.result c.index-schedules-i.result
    c.in_ok-text.text c.loop-i.lines.keys c.insert.new.self.keys (omega (arith, c.loop-i-test.true, c.pair_count-i-end.ensures.pairs)) c.index-outcomes-i.is
    c.index-schedules-i.is
    (c.in_ok-text.ensures ∙ ap (λ (m : List Move). witness_text c.args.scenario.now (c.index-outcomes-i.result, m)) c.as_slice.ensures)
    c.loop-i.invariant c.in_ok-insert.ensures.keys
