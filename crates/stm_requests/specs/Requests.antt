-- What is built of a transaction.
use Rattle.std.specs.Prelude.{ℕ, List, []}
use Rattle.stm_outcome.specs.declared.txn.Txn.{Txn}
use Rattle.stm_outcome.specs.declared.txn.Compare.{Compare}
use Rattle.stm_outcome.specs.declared.txn.Order.{Order}
use Rattle.stm_outcome.specs.declared.txn.Target.{Target}
use Rattle.stm_outcome.specs.declared.txn.Target.TheVariants.{Version as VersionTarget, Create as CreateTarget, Mod as ModTarget, Lease as LeaseTarget}
use Rattle.stm_requests.specs.declared.compares.Number.{Number}
use Rattle.stm_requests.specs.declared.compares.Number.TheVariants.{Version, Create, Mod, Lease}
use Rattle.stm_requests.specs.declared.compares.KeyNumber.{KeyNumber}

-- a transaction that compares nothing and does nothing
abbrev pub empty_txn : Txn
empty_txn = record { compares = []; success = []; failure = [] }

abbrev pub number_of : List ℕ → Number → KeyNumber
number_of key number = record { key = key; number = number }

-- what a compare looks at that names a number of a key
abbrev pub target_of : Number → ℕ → Target
target_of Version other = VersionTarget other
target_of Create other = CreateTarget other
target_of Mod other = ModTarget other
target_of Lease other = LeaseTarget other

-- the compare of a number of a key with another one: the key's stands on the left of the order
abbrev pub compare_of : List ℕ → Number → ℕ → Order → Compare
compare_of key number other order = record { key = key; target = target_of number other; order = order }
