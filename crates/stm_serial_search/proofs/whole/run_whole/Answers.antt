use Rattle.stm_serial_search.proofs.whole.run_whole.Goals as goal

pub returns-clause-store : goal.returns-clause-store
returns-clause-store g c = c.in_ok-leave.ensures.store c.args.program.now c.in_ok-run.ensures
