-- The tree of statements, one after another.
use Rattle.std.specs.Prelude.{List, [], ◌∷◌}
use Rattle.stm_leaving.specs.Source.{Source, Sources, Nil, Next}

abbrev pub sources_of : List Source → Sources
sources_of [] = Nil
sources_of (s ∷ ss) = Next s (sources_of ss)
