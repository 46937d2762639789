use Rattle.std.proofs.Common.{◌≡◌, ◌∙◌, ◌<◌, length, true, sym, arith}
use Rattle.stm_check.proofs.CommitLemmas.{leaves_fewer_keys, same_key_at}
use Rattle.stm_check.proofs.commits.are_of_keys.Goals as goal

pub returns-then-not-is_of_key : goal.returns-then-not-is_of_key
returns-then-not-is_of_key c = (
  (λ t. absurd (cc)),
  (λ all.
      let i = c.loop-i.i in
      let within : i < length c.args.answers.now = omega (arith, c.loop-i-test.true, c.loop-i.invariant.0) in
      let yes : c.is_of_key.result ≡ true =
      c.is_of_key.ensures.1 (same_key_at c.args.answers.now c.args.keys.now i c.index-answers-i.result c.index-keys-i.result within c.index-answers-i.is
      c.loop-i-test.true c.index-keys-i.is c.loop-i.invariant.1 all) in
      sym c.if-not-is_of_key.true ∙ yes),
)

pub loop-i-preserved : goal.loop-i-preserved
loop-i-preserved c =
    let i = c.loop-i.i in
    let within : i < length c.args.answers.now = omega (arith, c.loop-i-test.true, c.loop-i.invariant.0) in (
      c.loop-i.invariant.0,
      leaves_fewer_keys c.args.answers.now c.args.keys.now i c.index-answers-i.result c.index-keys-i.result within c.index-answers-i.is
          c.loop-i-test.true c.index-keys-i.is c.loop-i.invariant.1 (c.is_of_key.ensures.0 c.if-not-is_of_key.false),
    )
