use Rattle.stm_compiling.proofs.fault.wrong_line.Goals as goal

pub returns : goal.returns
returns c = rw (← c.position_in.ensures.line, ← c.position_in.ensures.column, ← c.name.ensures) c.wrong_at.ensures
