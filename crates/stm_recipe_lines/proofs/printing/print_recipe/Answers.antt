use Rattle.std.proofs.Common.{subst, Result}
use Rattle.stm_recipe_lines.specs.declared.recipe.Recipe.{Recipe}
use Rattle.stm_recipe_lines.specs.declared.words.WordsFault.{WordsFault}
use Rattle.stm_recipe_lines.specs.Printing.{Prints}
use Rattle.stm_recipe_lines.proofs.printing.print_recipe.Goals as goal

pub returns-in-Ok : goal.returns-in-Ok
returns-in-Ok g c =
    subst (λ (reading : Result Recipe WordsFault). Prints reading (g.W.Sink.held c.args.sink.now) (g.W.Sink.held c.write_line.new.sink) (g.W.Sink.failed c.write_line.new.sink) c.write_line.result)
    c.in-Ok.ensures.exact c.write_line.ensures
