-- Rules that a store keeps, as a loop comes to them.
use Rattle.std.proofs.Common.{◌≡◌, ℕ, List, drop}
use Rattle.stm_program.specs.Syntax.{ProgramTree}
use Rattle.stm_txn.specs.Standing.{Standing}
use Rattle.stm_serial_search.specs.Search.{keeps_all}

-- all are kept where those from here on are
pub record KeptSoFar (rules : List ProgramTree) (i : ℕ) (s : Standing) : Type 0 where
  pub same : keeps_all rules s ≡ keeps_all (drop i rules) s
