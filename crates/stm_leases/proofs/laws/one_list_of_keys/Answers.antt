use Rattle.stm_leases.proofs.KeyLaws.{one_list_of_keys}
use Rattle.stm_leases.proofs.laws.one_list_of_keys.Goals as goal

pub returns : goal.returns
returns c = one_list_of_keys
