use Rattle.stm_job.specs.Seats.{table_id, table_size}
use Rattle.stm_workers.proofs.run.run_workers.Given as goal

-- the run is of the table, the hall and the ledger that it is called with
abbrev pub ghosts-run_on-R-RunOfJobs : goal.ghosts-run_on-R-RunOfJobs
ghosts-run_on-R-RunOfJobs g a = record { table = table_id a.table.now; size = table_size a.table.now; jobs = a.jobs.now; before = a.hall }

abbrev pub ghosts-run_on-R-Ledger : goal.ghosts-run_on-R-Ledger
ghosts-run_on-R-Ledger g a = record { name = a.blank.name; parts = a.blank.parts }
