use Rattle.std.proofs.Common.{◌≡◌, List, IfOk, refl, sym, ap, subst, ◌∙◌}
use Rattle.stm_events.specs.declared.event.WorldEvent.{WorldEvent}
use Rattle.stm_world.specs.World.{World, opened}
use Rattle.stm_world.proofs.Sound.{opened_is_sound}
use Rattle.stm_report.specs.RunHistory.{IsNew}
use Rattle.stm_report.specs.FormatScript.{IsWholeTextFrom, IsRunText}
use Rattle.stm_report.proofs.format_script.run_report.Goals as goal
use Rattle.stm_texts.specs.Opens.{setup_at, setup_of}

pub report_from-text-requires : goal.report_from-text-requires
report_from-text-requires c =
    let begun : World = opened (setup_of c.args.scenario.now.opening) in
    let opens : c.in_ok-world.world ≡ begun = c.in_ok-world.ensures
    ∙ ap opened (ap (λ r. setup_at r c.operations.result) c.revision.ensures.same ∙ c.operations.ensures.whole ∙ c.opens_with-opening.ensures.setup) in
    subst (λ (w : World). IsNew w) (sym opens) (record { sound = opened_is_sound (setup_of c.args.scenario.now.opening); floor = refl })

pub returns : goal.returns
unfolding IsRunText
returns c =
    let s = c.args.scenario.now in
    let format = c.args.format in
    let labels = c.args.labels.now in
    let begun : World = opened (setup_of s.opening) in
    let opens : c.in_ok-world.world ≡ begun = c.in_ok-world.ensures
    ∙ ap opened (ap (λ r. setup_at r c.operations.result) c.revision.ensures.same ∙ c.operations.ensures.whole ∙ c.opens_with-opening.ensures.setup) in
    subst (λ (w : World). IfOk c.report_from-text.result (λ text. IsWholeTextFrom format labels w s.events text.items)) opens
    (subst (λ (events : List WorldEvent). IfOk c.report_from-text.result (λ text. IsWholeTextFrom format labels c.in_ok-world.world events text.items))
    c.as_slice.ensures c.report_from-text.ensures)
