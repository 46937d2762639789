use Rattle.stm_history.proofs.CutLaws as cut
use Rattle.stm_history.proofs.laws.cut_shows_the_same.Goals as goal

pub returns-clause-keys : goal.returns-clause-keys
returns-clause-keys c = cut.cut_shows_the_same

pub returns-clause-keys_now : goal.returns-clause-keys_now
returns-clause-keys_now c = cut.cut_keeps_keys_now

pub returns-clause-now : goal.returns-clause-now
returns-clause-now c = cut.cut_keeps_now

pub returns-clause-revisions : goal.returns-clause-revisions
returns-clause-revisions c = cut.cut_keeps_revisions

pub returns-clause-goes_on : goal.returns-clause-goes_on
returns-clause-goes_on c = cut.cut_goes_on
