use Rattle.stm_workers.proofs.locked.Locked.fetch.Goals as goal

pub returns-clause-answer : goal.returns-clause-answer
returns-clause-answer g c = (c.args.self.now.hall, c.args.self.now.kept, c.fetch_one.ensures.answer)
