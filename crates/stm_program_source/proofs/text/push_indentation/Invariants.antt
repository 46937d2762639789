use Rattle.std.proofs.Common.{◌≡◌, ◌++◌}
use Rattle.std.specs.Prelude.{string_bytes}
use Rattle.stm_program_source.specs.Texts.{indentation}
use Rattle.stm_program_source.proofs.text.push_indentation.Given as goal

-- the indentation of so many blocks was added
abbrev pub invariant-loop : goal.invariant-loop
invariant-loop l = string_bytes l.out ≡ string_bytes l.fn.out ++ indentation l.counter
