use Rattle.std.proofs.Common.{◌∙◌, sym}
use Rattle.stm_retry.proofs.SharingLemmas.{shared_is_sound, shared_step}
use Rattle.stm_retry.proofs.shared_world.SharedWorld.after_loud_step.Goals as goal

pub with_runners_of-requires : goal.with_runners_of-requires
with_runners_of-requires c =
    shared_is_sound c.args.id c.args.event.now c.args.self.now c.in_ok-after.after c.in_ok-after.reply c.requires c.know_sound.ensures
    c.in_ok-after.ensures (sym c.has_committed.ensures ∙ c.if-has_committed.false)

pub returns : goal.returns
returns c =
    shared_step c.args.id c.args.event.now c.args.self.now c.in_ok-after.after c.in_ok-shared.shared c.in_ok-after.reply c.requires
    c.in_ok-after.ensures (sym c.has_committed.ensures ∙ c.if-has_committed.false) c.in_ok-shared.ensures
