use Rattle.std.proofs.Common.{inl, inr, refl}
use Rattle.std.proofs.lemmas.Result.{err_from_is_err_and}
use Rattle.stm_workers.specs.declared.stop.Stop.TheVariants.{OutOfMemory}
use Rattle.stm_workers.proofs.AttemptLemmas.{reported_out}
use Rattle.stm_workers.proofs.ListAskLemmas.{list_only_reads, shows_keys, taken_keys, taken_show_one, all_taken_fit, list_in_some_hall}
use Rattle.stm_workers.proofs.access.HallAccess.ask_all.Goals as goal

pub fetch_all-reported-requires : goal.fetch_all-reported-requires
fetch_all-reported-requires g c = list_only_reads _ _ c.in_ok-reading.ensures

pub returns-in_ok-answers-in-Ok-clause-keys : goal.returns-in_ok-answers-in-Ok-clause-keys
returns-in_ok-answers-in-Ok-clause-keys g c =
    taken_keys _ _ _ (shows_keys g.R.RunOfJobs.before _ _ _ _ c.in-Ok.reported c.in_ok-reading.ensures c.requires c.fetch_all-reported.ensures.answer c.in-Ok.is)
    c.in_ok-answers-in-Ok.ensures

pub returns-in_ok-answers-in-Ok-clause-in_range : goal.returns-in_ok-answers-in-Ok-clause-in_range
returns-in_ok-answers-in-Ok-clause-in_range g c = all_taken_fit _ _ c.in-Ok.ensures.numbers c.in_ok-answers-in-Ok.ensures

pub returns-in_ok-answers-in-Ok-clause-one_revision : goal.returns-in_ok-answers-in-Ok-clause-one_revision
returns-in_ok-answers-in-Ok-clause-one_revision g c =
    taken_show_one _ _ _ (shows_keys g.R.RunOfJobs.before _ _ _ _ c.in-Ok.reported c.in_ok-reading.ensures c.requires c.fetch_all-reported.ensures.answer c.in-Ok.is)
    c.in_ok-answers-in-Ok.ensures

pub returns-in_ok-answers-in-Ok-clause-never_falls : goal.returns-in_ok-answers-in-Ok-clause-never_falls
returns-in_ok-answers-in-Ok-clause-never_falls g c = c.in-Ok.ensures.seen

pub returns-in_ok-answers-in-Ok-clause-answered : goal.returns-in_ok-answers-in-Ok-clause-answered
returns-in_ok-answers-in-Ok-clause-answered g c = record {
  reported = c.in-Ok.reported;
  by_hall = list_in_some_hall g.R.RunOfJobs.before _ _ _ _ _ c.in_ok-reading.ensures c.fetch_all-reported.ensures.answer c.in-Ok.is;
  are_read = c.in_ok-answers-in-Ok.ensures;
  carries = refl;
}

-- the hall's refusal is returned
pub returns-in-Err-clause-refused : goal.returns-in-Err-clause-refused
returns-in-Err-clause-refused g c = inr (record {
  cause = c.in-Err.refusal;
  by_hall = list_in_some_hall g.R.RunOfJobs.before _ _ _ _ _ c.in_ok-reading.ensures c.fetch_all-reported.ensures.answer c.in-Err.is;
  reported = c.of_fetch.ensures;
})

-- memory was wanted
pub returns-in_err-reading-clause-refused : goal.returns-in_err-reading-clause-refused
returns-in_err-reading-clause-refused g c =
    let exit = err_from_is_err_and c.from_residual.result c.from_residual.ensures.1 in
    reported_out c.from_residual.result _ exit.0 OutOfMemory exit.1 exit.2 (inl refl)

pub returns-in_err-answers-in-Ok-clause-refused : goal.returns-in_err-answers-in-Ok-clause-refused
returns-in_err-answers-in-Ok-clause-refused g c =
    let exit = err_from_is_err_and c.from_residual-in_err-answers-in-Ok.result c.from_residual-in_err-answers-in-Ok.ensures.1 in
    reported_out c.from_residual-in_err-answers-in-Ok.result _ exit.0 OutOfMemory exit.1 exit.2 (inl refl)
