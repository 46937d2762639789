use Rattle.stm_narrow.proofs.Showing.{schedules_show_alike}
use Rattle.stm_narrow.proofs.laws.schedules_show_alike.Goals as goal

pub returns : goal.returns
returns c = schedules_show_alike
