use Rattle.std.proofs.Common.{◌++◌}
use Rattle.stm_formats.specs.FormatShown.{shown_after}
use Rattle.stm_formats.proofs.FormatPlain.{next_shown}
use Rattle.stm_formats.proofs.format_pieces.push_shown.Goals as goal

-- one more byte is shown
pub loop-index-preserved : goal.loop-index-preserved
loop-index-preserved c =
    let bytes = c.args.bytes.now in
    let l = c.loop-index in
    rw c.saturating_sub-left.ensures
    (next_shown c.args.exact l.left c.hidden_from-hidden.result l.index 0 l.out.items c.push_byte.new.out.items
    (c.args.out.now.items ++ shown_after c.args.exact 0 bytes) bytes c.loop-index-test.true c.hidden_from-hidden.ensures c.in_ok-push_byte.ensures l.invariant)
