use Rattle.std.proofs.Common.{rules}
use Rattle.std.proofs.lemmas.Fn.{filter_same}
use Rattle.stm_history.specs.History.{key_now}
use Rattle.stm_outcome.specs.Effect.{changes_something}
use Rattle.stm_txn.proofs.writes.only_effective.Goals as goal

-- the closure keeps the writes that change something
pub returns : goal.returns
returns c = filter_same _ (changes_something (key_now c.args.keys.now.history)) _ (λ x b f called. search rules) _ _ c.retain.ensures.filtered
