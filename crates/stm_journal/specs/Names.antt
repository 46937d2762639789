-- The names of refusals, as they print.
use Rattle.std.specs.Prelude.{ℕ, List, codes}
use Rattle.stm_outcome.specs.Names.{refusal_name}
use Rattle.stm_journal.specs.declared.refusal.FetchRefusal.{FetchRefusal}
use Rattle.stm_journal.specs.declared.refusal.FetchRefusal.TheVariants.{Behind, Store as StoreRefuses}
use Rattle.stm_journal.specs.declared.refusal.CommitRefusal.{CommitRefusal}
use Rattle.stm_journal.specs.declared.refusal.CommitRefusal.TheVariants.{Unvouched, Store}

abbrev pub fetch_refusal_name : FetchRefusal → List ℕ
fetch_refusal_name (Behind seen counter) = codes "Behind"
fetch_refusal_name (StoreRefuses cause) = refusal_name cause

abbrev pub commit_refusal_name : CommitRefusal → List ℕ
commit_refusal_name (Unvouched key) = codes "Unvouched"
commit_refusal_name (Store cause) = refusal_name cause
