use Rattle.stm_arguments.proofs.arguments.asked_of.Goals as goal

pub returns-in-Ok-asked_by-clause-asked : goal.returns-in-Ok-asked_by-clause-asked
returns-in-Ok-asked_by-clause-asked g c = (c.in-Ok-try_get_matches_from.matches, c.in-Ok-asked_by.ensures)
