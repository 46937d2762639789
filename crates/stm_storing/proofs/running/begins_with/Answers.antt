use Rattle.std.proofs.Common.{sym, ap, ◌∙◌}
use Rattle.std.specs.Prelude.{Some}
use Rattle.std.specs.Option.{option_copied}
use Rattle.stm_storing.proofs.running.begins_with.Goals as goal

pub returns-in-Some : goal.returns-in-Some
returns-in-Some c = λ is. sym c.first.ensures.value ∙ ap option_copied c.in-Some.is ∙ ap Some (c.names.ensures is)
