-- The names of the refusals of a watch and of a poll, as a report spells them.
use Rattle.std.specs.Prelude.{ℕ, List, codes}
use Rattle.stm_watch.specs.declared.refusal.WatchRefusal.{WatchRefusal}
use Rattle.stm_watch.specs.declared.refusal.WatchRefusal.TheVariants.{EmptyKey, OutOfMemory}
use Rattle.stm_watch.specs.declared.refusal.PollRefusal.{PollRefusal}
use Rattle.stm_watch.specs.declared.refusal.PollRefusal.TheVariants.{NoWatcher, Compacted, OutOfMemory as PollOutOfMemory}

abbrev pub watch_refusal_name : WatchRefusal → List ℕ
watch_refusal_name EmptyKey = codes "EmptyKey"
watch_refusal_name OutOfMemory = codes "OutOfMemory"

abbrev pub poll_refusal_name : PollRefusal → List ℕ
poll_refusal_name NoWatcher = codes "NoWatcher"
poll_refusal_name Compacted = codes "Compacted"
poll_refusal_name PollOutOfMemory = codes "OutOfMemory"
