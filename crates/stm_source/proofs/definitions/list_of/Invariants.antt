use Rattle.std.proofs.Common.{◌≡◌, [], drop}
use Rattle.stm_source.specs.Definitions.{list_of}
use Rattle.stm_source.proofs.definitions.list_of.Given as goal

-- the arguments that are left lead to all
abbrev pub invariant-loop-argument : goal.invariant-loop-argument
invariant-loop-argument l = list_of l.items (drop l.argument-index l.given) ≡ list_of [] l.given
