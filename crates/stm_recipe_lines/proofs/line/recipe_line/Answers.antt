use Rattle.std.proofs.Common.{◌∙◌, ap}
use Rattle.std.proofs.lemmas.Result.{IfOk-weaker}
use Rattle.stm_program.specs.Syntax.{ProgramTree}
use Rattle.stm_program_json.specs.Writing.{written_program}
use Rattle.stm_recipe_lines.specs.Lines.{line_of, line_text}
use Rattle.stm_recipe_lines.proofs.line.recipe_line.Goals as goal

pub returns : goal.returns
unfolding line_of
returns c =
    IfOk-weaker c.program_line-line.result _ _ (λ line is. is ∙ ap (λ (p : ProgramTree). line_text (written_program p)) c.in_ok-program.ensures)
    c.program_line-line.ensures
