use Rattle.std.proofs.Common.{◌∙◌, List, ap, sym, subst}
use Rattle.stm_events.specs.declared.event.WorldEvent.{WorldEvent}
use Rattle.stm_world.specs.World.{World, world_after}
use Rattle.stm_lasting.specs.Kept.{LeadsTo}
use Rattle.stm_lasting.proofs.Leading.{ready_leads}
use Rattle.stm_lasting.proofs.keeping.run.Goals as goal

pub returns-clause-leads : goal.returns-clause-leads
returns-clause-leads g c =
    let file = g.D.Disk.seen c.args.records.now.disk in
    let text = c.args._text.now in
    subst (λ (w : World). LeadsTo file text w) (sym (c.in_ok-replies.ensures.ok ∙ ap (λ (es : List WorldEvent). world_after es c.args.world.now) c.as_slice.ensures))
    (ready_leads file text c.args.world.now c.args.scenario.now c.requires.spelled c.requires.ready)
