use Rattle.std.proofs.Common.{◌++◌}
use Rattle.stm_formats.specs.FormatWrap.{wrapped}
use Rattle.stm_formats.proofs.FormatWraps.{next_wrapped}
use Rattle.stm_formats.proofs.format_wrap.push_wrapped.Goals as goal

-- one more byte was added
pub loop-index-preserved : goal.loop-index-preserved
loop-index-preserved c =
    let words = c.args.words.now in
    let room = c.args.room in
    let indent = c.args.indent in
    let l = c.loop-index in
    next_wrapped room indent l.left l.index 0 c.in_ok-left.left l.out.items c.push_byte.new.out.items
    (c.args.out.now.items ++ wrapped room indent room words) c.split_at.result.1.now words c.loop-index-test.true c.split_at.ensures.back
    c.in_ok-left.ensures.text c.in_ok-left.ensures.left l.invariant
