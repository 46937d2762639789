use Rattle.std.proofs.Common.{IfOk, sym, subst, ◌∙◌}
use Rattle.std.proofs.lemmas.Result.{IfOk-weaker}
use Rattle.stm_history.specs.History.{History, now}
use Rattle.stm_world.specs.World.{World, world_after, replies_to}
use Rattle.stm_report.specs.declared.format.Format.{Format}
use Rattle.stm_report.specs.FormatScript.{IsTextOver, IsTextFrom, IsWholeTextFrom}
use Rattle.stm_report.proofs.RunHistories.{all_kept, floors}
use Rattle.stm_report.proofs.format_script.report_from.Goals as goal

pub returns-in-Lines : goal.returns-in-Lines
returns-in-Lines c =
    let a = c.args in
    IfOk-weaker c.kept_from.result _ _
    (λ text. subst (λ (f : Format). IsTextFrom f a.labels.now a.world.now a.events.now text.items → IsWholeTextFrom f a.labels.now a.world.now a.events.now text.items)
    (sym c.in-Lines.is) (λ is. is)) c.kept_from.ensures

pub returns-in-Json : goal.returns-in-Json
returns-in-Json c =
    let a = c.args in
    IfOk-weaker c.kept_from-in-Json.result _ _
    (λ text. subst (λ (f : Format). IsTextFrom f a.labels.now a.world.now a.events.now text.items → IsWholeTextFrom f a.labels.now a.world.now a.events.now text.items)
    (sym c.in-Json.is) (λ is. is)) c.kept_from-in-Json.ensures

pub returns-else-has_compaction : goal.returns-else-has_compaction
returns-else-has_compaction c =
    let a = c.args in
    let ended : World = world_after a.events.now a.world.now in
    let none = sym c.has_compaction.ensures ∙ c.if-has_compaction.false in
    subst (λ (h : History). IfOk c.kept_from-else-has_compaction.result
    (λ text. IsTextOver h (now a.world.now.standing.history) a.format a.labels.now ended a.events.now (replies_to a.events.now a.world.now) text.items))
    (all_kept ended.standing (floors a.events.now a.world.now none ∙ c.requires.floor)) c.kept_from-else-has_compaction.ensures
