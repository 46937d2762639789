use Rattle.std.proofs.Common.{◌∙◌, ap}
use Rattle.clap.specs.Words.{found_of}
use Rattle.stm_arguments.specs.Asking.{range_in}
use Rattle.stm_arguments.proofs.WordLemmas.{all_words}
use Rattle.stm_arguments.proofs.storing.range_of.Goals as goal

pub returns-in-Some : goal.returns-in-Some
returns-in-Some c = c.range_in.ensures ∙ ap range_in (all_words (found_of c.args.found.now) _ _ c.in-Some.ensures)

pub returns-in-None : goal.returns-in-None
returns-in-None c = ap range_in (all_words (found_of c.args.found.now) _ _ c.in-None.ensures)
