use Rattle.std.proofs.Common.{length, List, None, Some, sym, ap, ◌∙◌, arith, take}
use Rattle.stm_history.specs.declared.change.Change.{Change}
use Rattle.stm_program.specs.Writes.{last_write}
use Rattle.stm_steps.specs.declared.searched.TheConstants.{MOST_SEARCHED}
use Rattle.stm_steps.proofs.PlaceLemmas.{last_of_both}
use Rattle.stm_steps.proofs.write_log.WriteLog.last_of_many.Goals as goal

pub returns-in-Some : goal.returns-in-Some
returns-in-Some c = sym (last_of_both c.args.key.now MOST_SEARCHED c.args.self.now (Some c.in-Some.write.now) (sym c.in-Some.ensures))

pub split_at-requires : goal.split_at-requires
split_at-requires c =
    omega (arith, c.requires, ap (λ (l : List Change). length l) c.self.view_is, ap (λ (l : List Change). length l) c.as_slice.ensures.value)

pub returns-in-None : goal.returns-in-None
returns-in-None c =
    c.last_write.ensures
    ∙ ap (last_write c.args.key.now)
    (c.split_at.ensures.front ∙ ap (λ (ws : List Change). take MOST_SEARCHED ws) (c.as_slice.ensures.value ∙ c.self.view_is))
    ∙ sym (last_of_both c.args.key.now MOST_SEARCHED c.args.self.now None (sym c.in-None.ensures))
