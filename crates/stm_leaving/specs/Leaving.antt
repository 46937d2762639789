-- Which ways out of a part its statements use.
use Rattle.std.specs.Prelude.{Bool, true, false, ◌&&◌}
use Rattle.stm_leaving.specs.Source.{Source, Sources, Copies, Plain, Choice, Items, Count, Return, Break, Continue, Nil, Next, NoCopy, Copy, in_copies}
use Rattle.stm_leaving.specs.declared.ways.Ways.{Ways}

abbrev pub goes_on : Ways
goes_on = record { returns = false; breaks = false; continues = false }

abbrev pub returns_only : Ways
returns_only = record { returns = true; breaks = false; continues = false }

abbrev pub continues_only : Ways
continues_only = record { returns = false; breaks = false; continues = true }

-- each statement leaves the part in one of these ways or not at all, and a counted loop is left by no return and no break in it
unfoldable mutual
  pub keeps_to : Ways → Sources → Bool
  keeps_to ways Nil = true
  keeps_to ways (Next first rest) = keeps_to_one ways first && keeps_to ways rest

  pub keeps_to_one : Ways → Source → Bool
  keeps_to_one ways (Plain p) = true
  keeps_to_one ways (Choice c a b) = keeps_to ways a && keeps_to ways b
  keeps_to_one ways (Items cs) = keep_to (in_copies ways) cs
  keeps_to_one ways (Count v e limit body) = keeps_to continues_only body
  keeps_to_one ways Return = ways.returns
  keeps_to_one ways Break = ways.breaks
  keeps_to_one ways Continue = ways.continues

  pub keep_to : Ways → Copies → Bool
  keep_to ways NoCopy = true
  keep_to ways (Copy c cs) = keeps_to ways c && keep_to ways cs

-- a source that is allowed: `break` and `continue` stand inside of loops, and in a counted loop no `return` and no `break` of it
abbrev pub is_allowed : Sources → Bool
is_allowed statements = keeps_to returns_only statements
