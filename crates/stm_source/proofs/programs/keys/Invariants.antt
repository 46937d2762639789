use Rattle.std.proofs.Common.{◌≡◌, ◌-◌, [], length, map}
use Rattle.std.specs.Prelude.{string_bytes}
use Rattle.stm_source.specs.Programs.{keys_from}
use Rattle.stm_source.proofs.programs.keys.Given as goal

-- what is left leads to all
abbrev pub invariant-loop-turn : goal.invariant-loop-turn
invariant-loop-turn l =
    keys_from l.fn.scope (length l.fn.tokens - l._turn) (map string_bytes l.keys.items) l.rest ≡ keys_from l.fn.scope (length l.fn.tokens) [] l.fn.tokens
