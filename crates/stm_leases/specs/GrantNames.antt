-- The names of the refusals of a grant, as a report spells them.
use Rattle.std.specs.Prelude.{ℕ, List, codes}
use Rattle.stm_leases.specs.declared.errors.GrantError.{GrantError}
use Rattle.stm_leases.specs.declared.errors.GrantError.TheVariants.{LeaseIdOutOfRange, TtlOutOfRange, LeaseExists, OutOfMemory}

abbrev pub grant_error_name : GrantError → List ℕ
grant_error_name LeaseIdOutOfRange = codes "LeaseIdOutOfRange"
grant_error_name TtlOutOfRange = codes "TtlOutOfRange"
grant_error_name LeaseExists = codes "LeaseExists"
grant_error_name OutOfMemory = codes "OutOfMemory"
