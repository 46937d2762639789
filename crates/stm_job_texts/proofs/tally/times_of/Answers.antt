use Rattle.std.proofs.Common.{ap, sym, ◌∙◌}
use Rattle.std.specs.Option.{option_copied}
use Rattle.stm_job_texts.proofs.TallyLemmas.{found_within}
use Rattle.stm_job_texts.proofs.tally.times_of.Goals as goal

pub returns-in-Some-clause-within : goal.returns-in-Some-clause-within
returns-in-Some-clause-within c =
    found_within c.args.tally.now.entries c.args.text.now c.in-Some.times.now (sym (ap option_copied c.in-Some.is) ∙ c.get.ensures.value)
