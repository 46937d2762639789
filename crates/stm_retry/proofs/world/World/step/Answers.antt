use Rattle.std.proofs.Common.{sym, subst}
use Rattle.stm_world.specs.World.{World}
use Rattle.stm_world.specs.Headline.{Holds}
use Rattle.stm_world.specs.ReadsNow.{ReadsAreNow}
use Rattle.stm_world.proofs.ReadsNow.{reads_are_now}
use Rattle.stm_retry.specs.Kept.{whole_world}
use Rattle.stm_retry.proofs.WorldLemmas.{step_holds}
use Rattle.stm_retry.proofs.KeptWorlds.{step_leaves, bases_are_reached}
use Rattle.stm_retry.proofs.world.World.step.Goals as goal

pub step-requires : goal.step-requires
step-requires c = bases_are_reached c.self.inside.opened c.self.inside.kept c.self.invariant

pub invariant_of-self : goal.invariant_of-self
invariant_of-self c =
    (step_leaves c.args.event.now c.step.result c.self.inside.opened c.self.inside.kept c.step.new.self c.self.invariant c.step.ensures).is_kept

pub returns-clause-reported : goal.returns-clause-reported
returns-clause-reported c =
    let reported =
    (step_leaves c.args.event.now c.step.result c.self.inside.opened c.self.inside.kept c.step.new.self c.self.invariant c.step.ensures).reports in
    rw c.self.view_is at reported

-- what a commit has read is so before the step, since the world is sound
pub returns-clause-reads : goal.returns-clause-reads
returns-clause-reads c =
    let old : World = whole_world c.self.inside.opened c.self.inside.kept in
    let now : ReadsAreNow c.args.event.now old = reads_are_now c.args.event.now old c.self.invariant.sound in
    rw c.self.view_is at now

-- the headline goes on over an event that memory sufficed for
pub returns-clause-headline : goal.returns-clause-headline
returns-clause-headline c = λ had start before earlier holds.
    let old : World = whole_world c.self.inside.opened c.self.inside.kept in
    let new : World = whole_world c.self.inside.opened c.step.new.self in
    let reported =
    (step_leaves c.args.event.now c.step.result c.self.inside.opened c.self.inside.kept c.step.new.self c.self.invariant c.step.ensures).reports in
    let before_step : Holds start before earlier old = subst (λ (w : World). Holds start before earlier w) (sym c.self.view_is) holds in
    step_holds start before earlier c.args.event.now c.step.result old new had reported before_step
