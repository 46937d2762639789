use Rattle.stm_threading.proofs.running.run_often.Goals as goal

pub returns-clause-printed : goal.returns-clause-printed
returns-clause-printed g c = (c.new.ensures, c.in_ok-tally.tally.entries, c.in_ok-tally.ensures.counted, c.in_ok-text.ensures)
