use Rattle.std.proofs.Common.{◌∙◌, ap}
use Rattle.std.proofs.lemmas.Result.{IfOk-weaker}
use Rattle.serde_json.specs.Written.{has_float}
use Rattle.stm_recipe_lines.specs.Lines.{line_text}
use Rattle.stm_program_json.proofs.NoFloats.{program-no_float}
use Rattle.stm_recipe_lines.proofs.line.program_line.Goals as goal

pub json_line-line-requires : goal.json_line-line-requires
json_line-line-requires c = ap has_float c.in_ok-value.ensures.exact ∙ program-no_float c.args.program.now

pub returns : goal.returns
returns c = IfOk-weaker c.json_line-line.result _ _ (λ line is. is ∙ ap line_text c.in_ok-value.ensures.exact) c.json_line-line.ensures
