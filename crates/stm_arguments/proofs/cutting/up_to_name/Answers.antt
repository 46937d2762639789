use Rattle.std.proofs.Common.{◌+◌, ◌∙◌, ap, map, string_bytes}
use Rattle.std.proofs.lemmas.List.{take_rest}
use Rattle.stm_arguments.specs.Cutting.{up_to_place}
use Rattle.stm_arguments.proofs.CuttingLemmas.{named}
use Rattle.stm_arguments.proofs.cutting.up_to_name.Goals as goal

pub returns-clause-is : goal.returns-clause-is
returns-clause-is c =
    let file = c.up_to_place-file.result in
    let words = c.args.words.now in
    let rest_is = c.up_to_place.ensures.is ∙ ap (λ ws. up_to_place (map string_bytes ws)) (take_rest words file) in
    ap (λ n. file + n) rest_is ∙ named string_bytes words file c.up_to_place-file.ensures.is
