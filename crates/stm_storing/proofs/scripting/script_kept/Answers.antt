use Rattle.stm_storing.specs.Storing.{LeavesAround}
use Rattle.stm_storing.proofs.Around.{then, run_replies, gone_on}
use Rattle.stm_storing.proofs.scripting.script_kept.Goals as goal

pub returns-in_err-gone-clause-any_moment : goal.returns-in_err-gone-clause-any_moment
returns-in_err-gone-clause-any_moment g c =
    then {Q = λ m f. LeavesAround m c.args.text.now c.args.scenario.now f} c.in_ok-kept.ensures.opens c.opened.ensures.any_moment c.go_on_with.ensures.any_moment

pub write_report-requires-clause-replies : goal.write_report-requires-clause-replies
write_report-requires-clause-replies g c =
    run_replies (g.D.Disk.seen c.opened.new.records.disk) c.args.scenario.now c.in_ok-gone.gone.since c.in_ok-gone.gone.world c.in_ok-gone.gone.replies.items c.in_ok-gone.ensures.run

pub returns-in_err-write_report-clause-any_moment : goal.returns-in_err-write_report-clause-any_moment
returns-in_err-write_report-clause-any_moment g c =
    then {Q = λ m f. LeavesAround m c.args.text.now c.args.scenario.now f} c.in_ok-kept.ensures.opens c.opened.ensures.any_moment c.go_on_with.ensures.any_moment

pub returns-clause-lasts : goal.returns-clause-lasts
returns-clause-lasts g c = (
  c.in_ok-gone.ensures.settled,
  gone_on (g.D.Disk.seen c.opened.new.records.disk) c.args.scenario.now c.in_ok-gone.gone.since c.in_ok-gone.gone.world c.in_ok-gone.gone.replies.items c.in_ok-gone.ensures.run
      c.args.format _ _ c.in_ok-kept.kept.world _ _ c.in_ok-kept.ensures.opens c.in_ok-gone.ensures.kept c.in_ok-write_report.ensures.printed,
)

pub returns-clause-any_moment : goal.returns-clause-any_moment
returns-clause-any_moment g c =
    then {Q = λ m f. LeavesAround m c.args.text.now c.args.scenario.now f} c.in_ok-kept.ensures.opens c.opened.ensures.any_moment c.go_on_with.ensures.any_moment
