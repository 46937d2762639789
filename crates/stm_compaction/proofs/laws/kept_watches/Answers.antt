use Rattle.std.proofs.Common.{refl}
use Rattle.stm_compaction.proofs.Watching.{watched_kept, polled_kept, cancelled_kept}
use Rattle.stm_compaction.proofs.laws.kept_watches.Goals as goal

pub returns-clause-watched : goal.returns-clause-watched
returns-clause-watched c = λ s keys from reached. watched_kept s reached keys from

pub returns-clause-polled : goal.returns-clause-polled
returns-clause-polled c = λ s id most has. polled_kept s has id most

pub returns-clause-refused : goal.returns-clause-refused
returns-clause-refused c = λ s id. refl

pub returns-clause-cancelled : goal.returns-clause-cancelled
returns-clause-cancelled c = cancelled_kept
