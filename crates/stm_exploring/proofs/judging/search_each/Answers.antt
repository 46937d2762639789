use Rattle.std.proofs.Common.{◌≡◌, length, arith}
use Rattle.stm_exploring.specs.Beginnings.{place_at}
use Rattle.stm_exploring.specs.Judging.{IsAnswer}
use Rattle.stm_serial_search.proofs.Judges.{as_many, zip_put}
use Rattle.stm_exploring.proofs.judging.search_each.Goals as goal

pub index_mut-requires : goal.index_mut-requires
index_mut-requires g c =
    let many : length c.loop-index.answers.items ≡ length c.args.rules.now =
    as_many (λ rule. IsAnswer rule (place_at c.args.at.now)) c.args.rules.now c.loop-index.answers.items c.loop-index.invariant in
    omega (arith, many, c.loop-index-test.true, c.loop-index.answers.ok.0)

pub loop-index-preserved : goal.loop-index-preserved
loop-index-preserved g c =
    zip_put (λ rule. IsAnswer rule (place_at c.args.at.now)) c.args.rules.now c.loop-index.answers.items c.loop-index.index
    c.index-rules-index.result c.index_mut.result.now c.search_again.new.answer (omega (arith, c.loop-index-test.true)) c.index-rules-index.is
    c.index_mut.ensures.value c.in_ok-search_again.ensures c.loop-index.invariant
