use Rattle.std.proofs.Common.{◌∙◌, ap, map, string_bytes}
use Rattle.stm_arguments.specs.Cutting.{before_arguments}
use Rattle.stm_arguments.proofs.CuttingLemmas.{halves}
use Rattle.stm_arguments.proofs.cutting.cut_words.Goals as goal

pub returns : goal.returns
returns c =
    let count_is = c.before_arguments-count.ensures.is ∙ ap (λ ws. before_arguments (map string_bytes ws)) c.as_slice.ensures.value in
    halves string_bytes c.args.words.items c.before_arguments-count.result count_is c.split_off.new.self.items c.in_ok-arguments.arguments.items
    c.in_ok-arguments.ensures.items c.in_ok-arguments.ensures.tail
