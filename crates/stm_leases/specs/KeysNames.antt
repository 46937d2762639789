-- The names of the causes for which a lease's keys are not returned, as a report spells them.
use Rattle.std.specs.Prelude.{ℕ, List, codes}
use Rattle.stm_leases.specs.declared.errors.KeysError.{KeysError}
use Rattle.stm_leases.specs.declared.errors.KeysError.TheVariants.{LeaseNotFound, OutOfMemory}

abbrev pub keys_error_name : KeysError → List ℕ
keys_error_name LeaseNotFound = codes "LeaseNotFound"
keys_error_name OutOfMemory = codes "OutOfMemory"
