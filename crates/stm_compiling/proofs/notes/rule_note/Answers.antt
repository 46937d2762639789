use Rattle.stm_compiling.proofs.notes.rule_note.Goals as goal

pub returns : goal.returns
returns c = rw (← c.word_of.ensures, ← c.as_str.ensures) c.unasked.ensures
