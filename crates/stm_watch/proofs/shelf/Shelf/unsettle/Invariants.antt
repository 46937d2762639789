use Rattle.std.proofs.Common.{◌≡◌, vec_len}
use Rattle.stm_watch.specs.Pages.{Keeps}
use Rattle.stm_watch.proofs.shelf.Shelf.unsettle.Given as goal

-- no entry is lost
abbrev pub invariant-loop-at : goal.invariant-loop-at
invariant-loop-at l = record { kept : Keeps l.fn.self.pages.items l.self.pages.items; len : vec_len l.self.pages ≡ vec_len l.fn.self.pages }
