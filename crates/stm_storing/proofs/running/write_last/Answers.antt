use Rattle.std.proofs.Common.{sym, ap, ◌∙◌}
use Rattle.std.specs.Option.{option_copied}
use Rattle.stm_storing.proofs.running.write_last.Goals as goal

pub returns-in_ok-write_line-in-Some-clause-printed : goal.returns-in_ok-write_line-in-Some-clause-printed
returns-in_ok-write_line-in-Some-clause-printed g c =
    (c.in-Some.reply.now, sym c.last.ensures.value ∙ ap option_copied c.in-Some.is, c.in_ok-write_line-in-Some.ensures.printed)
