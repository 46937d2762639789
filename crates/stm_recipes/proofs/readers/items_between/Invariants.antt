use Rattle.std.proofs.Common.{◌≡◌, ◌-◌, map}
use Rattle.std.specs.Prelude.{string_bytes}
use Rattle.stm_recipes.specs.Queues.{items_from}
use Rattle.stm_recipes.proofs.ReaderLemmas.{before}
use Rattle.stm_recipes.proofs.readers.items_between.Given as goal

-- the items so far and those that are left are all
abbrev pub invariant-loop-number : goal.invariant-loop-number
invariant-loop-number l =
    before (map string_bytes l.items.items) (items_from l.state l.queue l.number (l.tail - l.number))
    ≡ items_from l.state l.queue l.head (l.tail - l.head)
