use Rattle.std.proofs.Common.{◌≡◌, vec_len}
use Rattle.stm_watch.specs.Pages.{KeepsAll}
use Rattle.stm_watch.proofs.ranges.Ranges.unsettle.Given as goal

-- no entry is lost
abbrev pub invariant-loop-at : goal.invariant-loop-at
invariant-loop-at l = record { kept : KeepsAll l.fn.self l.self; len : vec_len l.self.shelves ≡ vec_len l.fn.self.shelves }
