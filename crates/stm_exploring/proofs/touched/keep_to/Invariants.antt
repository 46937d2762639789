use Rattle.std.proofs.Common.{◌≡◌, drop}
use Rattle.std.specs.List.{list_all}
use Rattle.stm_exploring.specs.Narrowing.{keeps_to}
use Rattle.stm_exploring.proofs.touched.keep_to.Given as goal

-- whether all do is left to those that are left
abbrev pub invariant-loop-program : goal.invariant-loop-program
invariant-loop-program l = list_all (keeps_to l.touched) (drop l.program-index l.programs) ≡ list_all (keeps_to l.touched) l.programs
