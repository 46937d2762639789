-- The refusals of a grant, as the store reports them. No public clause cites this module.
use Rattle.std.specs.Prelude.{Result, Ok, Err}
use Rattle.stm_leases.specs.declared.errors.GrantError.{GrantError}
use Rattle.stm_leases.specs.declared.errors.GrantError.TheVariants.{LeaseIdOutOfRange, TtlOutOfRange, LeaseExists, OutOfMemory}
use Rattle.stm_outcome.specs.declared.refusal.Refusal.{Refusal}
use Rattle.stm_outcome.specs.declared.refusal.Refusal.TheVariants.{LeaseIdOutOfRange as IdRefusal, TtlOutOfRange as TtlRefusal, LeaseExists as ExistsRefusal}
use Rattle.stm_outcome.specs.declared.refusal.Refusal.TheVariants.{OutOfMemory as MemoryRefusal}

abbrev pub grant_refusal_of : GrantError → Refusal
grant_refusal_of LeaseIdOutOfRange = IdRefusal
grant_refusal_of TtlOutOfRange = TtlRefusal
grant_refusal_of LeaseExists = ExistsRefusal
grant_refusal_of OutOfMemory = MemoryRefusal

abbrev pub grant_reported : Result (Unit {0}) GrantError → Result (Unit {0}) Refusal
grant_reported (Ok done) = Ok done
grant_reported (Err cause) = Err (grant_refusal_of cause)
