use Rattle.stm_formats.specs.FormatRows.{rows_of}
use Rattle.stm_formats.proofs.FormatRowLemmas.{next_row}
use Rattle.stm_formats.proofs.format_rows.rows_of.Goals as goal

pub loop-before-preserved : goal.loop-before-preserved
loop-before-preserved c =
    let h = c.args.keys.now.history in
    let events = c.args.events.now in
    let replies = c.args.replies.now in
    let l = c.loop-before in
    rw (c.in_ok-push.ensures.items, c.counter_after-counter.ensures, c.in_ok-row.ensures)
    (next_row c.args.cuts.now c.args.labels.now h l.counter l.rows.items (rows_of c.args.cuts.now c.args.labels.now h c.args.opened 1 events replies) events replies l.before c.index-events-before.result c.index-replies-before.result
    c.loop-before-test.true c.requires c.index-events-before.is c.index-replies-before.is l.invariant)
