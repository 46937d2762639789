-- What a store without its revisions below the floor shows.
use Rattle.std.proofs.Common.{arith}
use Rattle.std.proofs.lemmas.Bool.Decides.{nat_tests}
use Rattle.stm_history.proofs.CutLaws.{cut_keeps_keys_now}
use Rattle.stm_txn.specs.Standing.{Standing, kept}
use Rattle.stm_compaction.specs.Shows.{ShowsTheSame}
use Rattle.stm_compaction.proofs.Alike.{IsAlike, cut_is_alike}
use Rattle.stm_compaction.proofs.Present.{present_in_cut}
use Rattle.stm_compaction.proofs.Calls.{HasReached, lease_kept}

pub kept_shows : (s : Standing) → HasReached s → ShowsTheSame s.floor (kept s).history s.history
kept_shows s reached = grind (arith, nat_tests, IsAlike, cut_is_alike, cut_keeps_keys_now, present_in_cut, lease_kept)
