use Rattle.std.proofs.Common.{◌∙◌, Ok, Err, inr, refl}
use Rattle.stm_journal.specs.Fetched.{one_read}
use Rattle.stm_workers.proofs.AskLemmas.{read_shows, in_some_hall}
use Rattle.stm_workers.proofs.access.HallAccess.ask.Goals as goal

-- the answer is of the key
pub returns-in-Ok-clause-key : goal.returns-in-Ok-clause-key
returns-in-Ok-clause-key g c =
    (read_shows g.R.RunOfJobs.before c.args.seen.now c.as_str.result.now c.args.at c.in-Ok.answer c.in-Ok.ensures.answer).0 ∙ c.as_str.ensures

-- at the revision that was asked for
pub returns-in-Ok-clause-shown : goal.returns-in-Ok-clause-shown
returns-in-Ok-clause-shown g c = (read_shows g.R.RunOfJobs.before c.args.seen.now c.as_str.result.now c.args.at c.in-Ok.answer c.in-Ok.ensures.answer).1

pub returns-in-Ok-clause-answered : goal.returns-in-Ok-clause-answered
returns-in-Ok-clause-answered g c = record {
  reported = one_read c.in-Ok.answer;
  by_hall = in_some_hall g.R.RunOfJobs.before c.args.seen.now c.as_str.result.now c.args.key.now c.args.at (Ok (one_read c.in-Ok.answer)) c.as_str.ensures c.in-Ok.ensures.answer;
  is_read = refl;
}

-- the hall's refusal is returned
pub returns-in-Err-clause-refused : goal.returns-in-Err-clause-refused
returns-in-Err-clause-refused g c = inr (record {
  cause = c.in-Err.refusal;
  by_hall = in_some_hall g.R.RunOfJobs.before c.args.seen.now c.as_str.result.now c.args.key.now c.args.at (Err c.in-Err.refusal) c.as_str.ensures c.in-Err.ensures.answer;
  reported = c.of_fetch.ensures;
})
