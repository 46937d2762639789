-- A measure that falls from a statement of a source to its blocks, from a block to its statements, and from copies to each copy.
use Rattle.std.specs.Prelude.{ℕ, ◌+◌, ◌≤◌, List, [], ◌∷◌}
use Rattle.std.proofs.Common.{arith}
use denote.Param.Weighed.{most}
use Rattle.stm_leaving.specs.Source.{Source, Sources, Copies, Plain, Choice, Items, Count, Return, Break, Continue, Nil, Next, NoCopy, Copy}
use Rattle.stm_leaving.specs.PartsView.{sources_of}
use Rattle.stm_leaving.specs.CopiesView.{copies_of}

abbrev mutual
  pub source_weight : Source → ℕ
  source_weight (Plain p) = 1
  source_weight (Choice c a b) = 1 + sources_weight a + sources_weight b
  source_weight (Items cs) = 1 + copies_weight cs
  source_weight (Count v e n b) = 1 + sources_weight b
  source_weight Return = 1
  source_weight Break = 1
  source_weight Continue = 1

  pub sources_weight : Sources → ℕ
  sources_weight Nil = 1
  sources_weight (Next s ss) = source_weight s + sources_weight ss

  pub copies_weight : Copies → ℕ
  copies_weight NoCopy = 1
  copies_weight (Copy c cs) = sources_weight c + copies_weight cs

pub sources_weight-positive : (ss : List Source) → 1 ≤ sources_weight (sources_of ss)
sources_weight-positive [] = omega arith
sources_weight-positive (s ∷ ss) = omega (arith, sources_weight-positive ss)

-- no statement weighs as much as the block that it stands in
pub most_le-sources_weight : (ss : List Source) → most (λ s. source_weight s + 1) ss ≤ sources_weight (sources_of ss)
most_le-sources_weight [] = omega arith
most_le-sources_weight (s ∷ ss) = omega (arith, most_le-sources_weight ss, sources_weight-positive ss)

pub copies_weight-positive : (cs : List Sources) → 1 ≤ copies_weight (copies_of cs)
copies_weight-positive [] = omega arith
copies_weight-positive (c ∷ cs) = omega (arith, copies_weight-positive cs)

-- no copy weighs as much as all of them
pub most_le-copies_weight : (cs : List Sources) → most (λ c. sources_weight c + 1) cs ≤ copies_weight (copies_of cs)
most_le-copies_weight [] = omega arith
most_le-copies_weight (c ∷ cs) = omega (arith, most_le-copies_weight cs, copies_weight-positive cs)
