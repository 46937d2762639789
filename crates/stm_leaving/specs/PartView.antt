-- The tree of a statement of a source, whose parts are seen as their trees already.
use Rattle.stm_leaving.specs.Source as tree
use Rattle.stm_leaving.specs.Source.{Source}
use Rattle.stm_leaving.specs.declared.part.PartNode.{PartNode}
use Rattle.stm_leaving.specs.declared.part.PartNode.TheVariants.{Plain, Choice, Items, Count, Return, Break, Continue}

abbrev pub source_of : PartNode → Source
source_of (Plain s) = tree.Plain s
source_of (Choice c a b) = tree.Choice c.value a b
source_of (Items cs) = tree.Items cs
source_of (Count v e n b) = tree.Count v e.value n b
source_of Return = tree.Return
source_of Break = tree.Break
source_of Continue = tree.Continue
