use Rattle.std.proofs.Common.{◌≤◌, ◌-◌, ℕ, ap, ◌∙◌, arith}
use Rattle.stm_history.specs.History.{History, now}
use Rattle.stm_history.proofs.CutLaws.{cut_keeps_now}
use Rattle.stm_txn.specs.Standing.{Standing}
use Rattle.stm_report.proofs.format_script.revision_of.Goals as goal

pub returns : goal.returns
returns c =
    let w = c.args.world.now in
    let h : History = w.standing.history in
    let number : ℕ = w.standing.floor - 1 in
    let reached : number ≤ now h = omega (arith, c.store.ensures.reached) in
    c.revision.ensures.value ∙ ap now (c.keys.ensures.history ∙ ap (λ (s : Standing). s.history) c.store.ensures.standing) ∙ cut_keeps_now h number reached
