use Rattle.std.proofs.Common.{◌+◌, ap}
use Rattle.stm_job_texts.proofs.TallyLemmas.{one_more}
use Rattle.stm_job_texts.proofs.tally.count_one.Goals as goal

pub returns : goal.returns
returns c = λ texts counts.
    one_more c.args.tally.now.entries c.insert.new.self.entries texts c.args.text (c.times_of-times.result + 1) (ap (λ n. n + 1) c.times_of-times.ensures.times)
    c.in_ok-insert.ensures.entries c.in_ok-insert.ensures.updates.0 c.in_ok-insert.ensures.ordered counts
