use Rattle.stm_sites.proofs.SiteLemmas.{sites_are_first}
use Rattle.stm_sites.proofs.laws.sites_are_first.Goals as goal

pub returns : goal.returns
returns c = sites_are_first
