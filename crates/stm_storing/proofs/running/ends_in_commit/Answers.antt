use Rattle.std.proofs.Common.{sym, ap, ◌∙◌}
use Rattle.std.specs.Option.{option_copied}
use Rattle.stm_storing.proofs.running.ends_in_commit.Goals as goal

pub returns-in-Some : goal.returns-in-Some
returns-in-Some c = λ is. (c.in-Some.reply.now, sym c.last.ensures.value ∙ ap option_copied c.in-Some.is, c.is_committed.ensures is)
