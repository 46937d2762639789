use Rattle.std.proofs.Common.{◌-◌, arith, subst}
use Rattle.stm_watch.specs.Pages.{IsEntryOf}
use Rattle.stm_watch.proofs.Entered.{any-read}
use Rattle.stm_watch.proofs.page.Page.has.Goals as goal

pub returns : goal.returns
returns c said =
    any-read (IsEntryOf c.args.watched.now c.args.place) c.args.self.now.entries.items (c.count_up_to-count.result - 1) c.index.result.now
    (omega (arith, c.if-count-eq0.false, c.count_up_to-count.ensures, c.args.self.now.entries.ok.0))
    (subst (IsEntryOf c.args.watched.now c.args.place) c.index.ensures (c.is_of.ensures said))
