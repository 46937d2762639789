use Rattle.std.proofs.Common.{◌∙◌, ap, Option}
use Rattle.stm_recipe_lines.specs.declared.words.RecipeKind.{RecipeKind}
use Rattle.stm_recipe_lines.specs.Reading.{recipe_of}
use Rattle.stm_recipe_lines.proofs.reading.read_recipe.Goals as goal

pub returns-in-Some-clause-exact : goal.returns-in-Some-clause-exact
returns-in-Some-clause-exact c = c.recipe_of.ensures.exact ∙ ap (λ (kind : Option RecipeKind). recipe_of kind c.args.words.now) c.in-Some.ensures

pub returns-in-None-clause-exact : goal.returns-in-None-clause-exact
unfolding recipe_of
returns-in-None-clause-exact c = ap (λ (kind : Option RecipeKind). recipe_of kind c.args.words.now) c.in-None.ensures
