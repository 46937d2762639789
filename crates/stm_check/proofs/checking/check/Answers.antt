use Rattle.std.proofs.Common.{◌≡◌, ◌∙◌, ap}
use Rattle.std.proofs.lemmas.Result.{IfOk-weaker}
use Rattle.stm_check.specs.Point.{beginning}
use Rattle.stm_check.specs.Points.{point_of}
use Rattle.stm_check.specs.Wrong.{opens_at}
use Rattle.stm_check.proofs.Walking.{judged_from}
use Rattle.stm_check.proofs.checking.check.Goals as goal

pub returns : goal.returns
returns c =
    let s = c.args.scenario.now in
    let here : point_of c.in_ok-point.point ≡ opens_at s = c.in_ok-point.ensures.point ∙ ap beginning c.opens_with.ensures.setup in
    IfOk-weaker c.judge-checked.result _ _
    (λ checked judged. judged_from (point_of c.in_ok-point.point) (opens_at s) c.as_slice.result.now s.events c.as_slice-2.result.now c.args.report.now.lines checked
    here c.as_slice.ensures c.as_slice-2.ensures judged) c.judge-checked.ensures
