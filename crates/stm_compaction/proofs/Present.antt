-- The keys that are present are the same once revisions are dropped.
use Rattle.std.proofs.Common.{◌≡◌, ℕ, ◌≤◌, arith}
use Rattle.std.proofs.lemmas.Bool.Decides.{nat_tests}
use Rattle.stm_history.specs.History.{History, now}
use Rattle.stm_history.specs.Cut.{cut}
use Rattle.stm_history.proofs.CutLaws.{cut_keeps_keys_now}
use Rattle.stm_txn.specs.PresentKeys.{keys_present}
use Rattle.stm_txn.proofs.Naming.{present_ascend, present_each, present_listed}

pub present_in_cut : (h : History) (number : ℕ) → number ≤ now h → keys_present (cut number h) ≡ keys_present h
present_in_cut h number reached = grind (arith, nat_tests, present_listed, present_ascend, cut_keeps_keys_now, present_each)
