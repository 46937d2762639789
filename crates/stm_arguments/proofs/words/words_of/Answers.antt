use Rattle.std.proofs.Common.{◌∙◌, ap, map}
use Rattle.std.proofs.lemmas.Result.{IfOk-weaker}
use Rattle.clap.specs.Words.{found_of}
use Rattle.stm_arguments.proofs.WordLemmas.{all_words}
use Rattle.stm_arguments.proofs.words.words_of.Goals as goal

pub returns-in-Some : goal.returns-in-Some
returns-in-Some c =
    IfOk-weaker c.from_slice.result _ _ (λ words e. ap (map (λ word. word.now)) e ∙ all_words (found_of c.args.found.now) c.args.name.now _ c.in-Some.ensures)
    c.from_slice.ensures.items

pub returns-in-None : goal.returns-in-None
returns-in-None c = ap (map (λ word. word.now)) c.new.ensures.items ∙ all_words (found_of c.args.found.now) c.args.name.now _ c.in-None.ensures
