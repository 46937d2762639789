use Rattle.std.proofs.Common.{refl}
use Rattle.stm_watch.proofs.Entered.{unsettled}
use Rattle.stm_watch.proofs.page.Page.unsettle.Goals as goal

pub returns-then-may_have : goal.returns-then-may_have
returns-then-may_have c ws e stands = unsettled ws e _ refl stands.there
