use Rattle.std.proofs.Common.{◌∙◌, ap}
use Rattle.stm_txn.specs.Standing.{Standing}
use Rattle.stm_retry.proofs.AloneLemmas.{run_reported}
use Rattle.stm_retry.proofs.world.World.run_alone.Goals as goal

pub returns : goal.returns
returns c =
    run_reported c.args.program.now c.args.self.now.standing c.keys.result.now.history c.run_now.result
    (c.keys.ensures.history ∙ ap (λ (s : Standing). s.history) c.store.ensures.standing) c.store.ensures.reached c.run_now.ensures
