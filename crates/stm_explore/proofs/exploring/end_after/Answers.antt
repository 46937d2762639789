use Rattle.std.proofs.Common.{sym, ap, ◌∙◌, arith}
use Rattle.stm_schedules.specs.Places.{Place}
use Rattle.stm_schedules.specs.Schedules.{place_after}
use Rattle.stm_schedules.specs.Keeping.{end_alone}
use Rattle.stm_explore.proofs.Walking.{none_made, made_next, all_made}
use Rattle.stm_explore.proofs.exploring.end_after.Goals as goal

pub loop-chosen-init : goal.loop-chosen-init
loop-chosen-init c = none_made c.args.judged.now.others.now c.in_ok-share.field-0 c.args.start.now c.args.moves.now c.in_ok-share.ensures

pub loop-chosen-preserved : goal.loop-chosen-preserved
loop-chosen-preserved c =
    made_next c.args.judged.now.others.now c.args.moves.now c.loop-chosen.chosen-index _ c.loop-chosen.place c.in_ok-next.next _ (omega arith)
    (c.in_ok-next.ensures 0) c.loop-chosen.invariant

pub returns : goal.returns
returns c =
    let start : Place = record { world = c.args.start.now; others = c.args.judged.now.others.now } in
    ap (end_alone c.args.rule.now)
    (sym (all_made c.args.judged.now.others.now c.args.moves.now c.loop-chosen.chosen-index c.loop-chosen.place (place_after c.args.moves.now start) (omega arith) c.loop-chosen.invariant))
    ∙ c.in_ok-end.ensures
