use Rattle.std.proofs.Common.{◌≡◌, length, arith}
use Rattle.stm_serial_search.specs.Replaying.{IsJudged}
use Rattle.stm_serial_search.proofs.Judges.{as_many, zip_put}
use Rattle.stm_serial_search.proofs.judging.decide_each.Goals as goal

pub index_mut-requires : goal.index_mut-requires
index_mut-requires g c =
    let many : length c.loop-index.judged.items ≡ length c.args.rules.now =
    as_many (λ rule. IsJudged rule (record { world = c.args.world.now; others = c.args.others.now })) c.args.rules.now c.loop-index.judged.items c.loop-index.invariant in
    omega (arith, many, c.loop-index-test.true, c.loop-index.judged.ok.0)

pub loop-index-preserved : goal.loop-index-preserved
loop-index-preserved g c =
    zip_put (λ rule. IsJudged rule (record { world = c.args.world.now; others = c.args.others.now })) c.args.rules.now c.loop-index.judged.items c.loop-index.index
    c.index-rules-index.result c.index_mut.result.now c.decide_by.new.judged (omega (arith, c.loop-index-test.true)) c.index-rules-index.is
    c.index_mut.ensures.value c.decide_by.ensures c.loop-index.invariant

pub returns-in_err-decided : goal.returns-in_err-decided
returns-in_err-decided g c =
    zip_put (λ rule. IsJudged rule (record { world = c.args.world.now; others = c.args.others.now })) c.args.rules.now c.loop-index.judged.items c.loop-index.index
    c.index-rules-index.result c.index_mut.result.now c.decide_by.new.judged (omega (arith, c.loop-index-test.true)) c.index-rules-index.is
    c.index_mut.ensures.value c.decide_by.ensures c.loop-index.invariant
