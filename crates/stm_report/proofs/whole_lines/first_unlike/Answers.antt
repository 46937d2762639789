use Rattle.std.proofs.Common.{◌≡◌, ◌∙◌, ◌<◌, length, sym, arith}
use Rattle.std.proofs.lemmas.Bool.Decides.{nat_tests}
use Rattle.stm_report.specs.WholeLines.{lines_in, first_unlike}
use Rattle.stm_report.proofs.WholeLineLemmas.{stopped, went_on, one_ended, line_counts}
use Rattle.stm_report.proofs.whole_lines.first_unlike.Goals as goal

pub returns-then-ne : goal.returns-then-ne
returns-then-ne c =
    let some : 0 < length c.loop-left.left.now = grind (arith, nat_tests, c.is_empty.ensures, c.loop-left-test.true) in
    stopped c.loop-left.number c.loop-left.left.now c.loop-left.reported.now c.split_at.result.0.now c.split_at-in-loop-left.result.0.now
    c.line_end.result c.line_end-in-loop-left.result c.ne.result (first_unlike 1 (lines_in c.args.expected.now) (lines_in c.args.given.now)) some
    c.line_end.ensures.length c.line_end-in-loop-left.ensures.length c.split_at.ensures.front c.split_at-in-loop-left.ensures.front c.ne.ensures
    c.loop-left.invariant.alike c.if-ne.true

pub loop-left-smaller : goal.loop-left-smaller
loop-left-smaller c =
    let some : 0 < length c.loop-left.left.now = grind (arith, nat_tests, c.is_empty.ensures, c.loop-left-test.true) in
    let smaller : length c.split_at.result.1.now < length c.loop-left.left.now =
    omega (arith, c.split_at.ensures.back_len, c.line_end.ensures.length, line_counts c.loop-left.left.now some) in
    smaller

pub loop-left-preserved : goal.loop-left-preserved
loop-left-preserved c =
    let some : 0 < length c.loop-left.left.now = grind (arith, nat_tests, c.is_empty.ensures, c.loop-left-test.true) in
    record {
      alike =
          went_on c.loop-left.number c.loop-left.left.now c.loop-left.reported.now c.split_at.result.0.now c.split_at-in-loop-left.result.0.now
          c.line_end.result c.line_end-in-loop-left.result c.ne.result (first_unlike 1 (lines_in c.args.expected.now) (lines_in c.args.given.now)) some
          c.line_end.ensures.length c.line_end-in-loop-left.ensures.length c.split_at.ensures.front c.split_at-in-loop-left.ensures.front c.ne.ensures
          c.loop-left.invariant.alike c.split_at.result.1.now c.split_at-in-loop-left.result.1.now c.split_at.ensures.back
          c.split_at-in-loop-left.ensures.back c.if-ne.false;
      counted =
          omega (arith, c.split_at.ensures.back_len, c.line_end.ensures.length, line_counts c.loop-left.left.now some, c.loop-left.invariant.counted);
    }

pub returns-else-is_empty : goal.returns-else-is_empty
returns-else-is_empty c =
    let none : length c.loop-left.left.now ≡ 0 = grind (arith, nat_tests, c.is_empty.ensures, c.loop-left-test.false) in
    let more : 0 < length c.loop-left.reported.now = grind (arith, nat_tests, c.is_empty-2.ensures, c.if-is_empty.false) in
    sym (one_ended c.loop-left.number c.loop-left.left.now c.loop-left.reported.now none more) ∙ c.loop-left.invariant.alike
