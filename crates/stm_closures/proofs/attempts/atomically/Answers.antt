use Rattle.std.proofs.Common.{rules, ◌≡◌, ◌∙◌, ap, arith}
use Rattle.stm_program.specs.Levels.{is_serializable}
use Rattle.stm_closures.proofs.attempts.atomically.Goals as goal

-- the closure returned its error at this attempt
pub returns-in-Err-clause-closure : goal.returns-in-Err-clause-closure
returns-in-Err-clause-closure g c = record { tx = c.body.new.arg2; run = record { again = c.loop-sent.again; ran = search rules } }

-- the commit of this attempt was made
pub returns-in-Ok-Committed-clause-done : goal.returns-in-Ok-Committed-clause-done
returns-in-Ok-Committed-clause-done g c =
    let made = g.met.D.Commit.holds_from_before c.args.store.now c.loop-sent.store c.commit.new.self c.args.level c.into_parts-left_at.result.1
    c.into_parts-left_at.result.2 c.loop-sent.invariant.0 (search rules)
    in
    let same : c.body.new.arg2.level ≡ c.args.level = search rules in
    record {
      tx = c.body.new.arg2;
      run = record { again = c.loop-sent.again; ran = search rules };
      one_revision = λ serializable. c.into_parts-left_at.ensures.one_revision (ap is_serializable same ∙ serializable);
      committed = search rules;
    }

-- it was not, and nothing was before
pub returns-in-Ok-Exchanged-clause-nothing : goal.returns-in-Ok-Exchanged-clause-nothing
returns-in-Ok-Exchanged-clause-nothing g c =
    g.met.D.Commit.left_again c.args.store.now c.loop-sent.store c.commit.new.self c.loop-sent.invariant.0 (search rules)

pub returns-in-Err-commit-clause-nothing : goal.returns-in-Err-commit-clause-nothing
returns-in-Err-commit-clause-nothing g c =
    g.met.D.Commit.left_again c.args.store.now c.loop-sent.store c.commit.new.self c.loop-sent.invariant.0 c.in-Err-commit.ensures.outcome

-- the next attempt
pub loop-sent-preserved : goal.loop-sent-preserved
loop-sent-preserved g c =
    let one = c.commit.ensures.sent in
    let before = c.loop-sent.invariant.1 in (
      g.met.D.Commit.left_again c.args.store.now c.loop-sent.store c.commit.new.self c.loop-sent.invariant.0 (search rules),
      omega (arith, one, before),
    )
