use Rattle.std.proofs.Common.{sym, subst}
use Rattle.std.proofs.lemmas.Result.{err_from_is_err_and}
use Rattle.stm_world.specs.World.{World}
use Rattle.stm_world.specs.Appended.{HasAppended}
use Rattle.stm_world.proofs.Appending.{events_append}
use Rattle.stm_retry.proofs.WorldLemmas.{run_holds}
use Rattle.stm_retry.proofs.Stops.{answer_goes_on}
use Rattle.stm_retry.proofs.world.World.run.Goals as goal

pub returns-clause-headline : goal.returns-clause-headline
returns-clause-headline c = λ start before earlier holds.
    run_holds start before c.args.events.now earlier c.args.self.now c.take_all.new.self c.in_ok-replies.replies.items c.in_ok-replies.ensures.replies
    c.in_ok-replies.ensures.ok holds

pub returns-clause-appended : goal.returns-clause-appended
returns-clause-appended c =
    subst (λ (w : World). HasAppended c.args.self.now w) (sym c.in_ok-replies.ensures.ok)
    (events_append c.args.events.now c.args.self.now c.know_sound.ensures)

pub returns-in_err-replies-clause-goes_on : goal.returns-in_err-replies-clause-goes_on
returns-in_err-replies-clause-goes_on c =
    let exit = err_from_is_err_and c.from_residual.result c.from_residual.ensures.1 in
    answer_goes_on c.from_residual.result exit.0 c.in_err-replies.field-0.0 c.args.events.now c.args.self.now c.take_all.new.self exit.1 exit.2
    c.in_err-replies.ensures.stopped
