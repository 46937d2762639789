-- Runs that are counted, one after the other.
use Rattle.std.proofs.Common.{◌≡◌, ℕ, ◌+◌, List, [], ◌∷◌, ◌++◌, length, refl, sym, ◌∙◌, subst, arith, length-append}
use Rattle.std.specs.Prelude.{sum}
use Rattle.std.specs.Map.{values_of}
use Rattle.std.proofs.lemmas.List.Elements.{All-nil, All-push}
use Rattle.stm_job_texts.specs.declared.store_call.StoreCall.{StoreCall}
use Rattle.stm_job.specs.declared.job.Job.{Job}
use Rattle.stm_job_texts.specs.Tallies.{Tally, Counts}
use Rattle.stm_job_texts.proofs.TallyLemmas.{no_text}
use Rattle.stm_threading.specs.Running.{AreCounted, HasCounted, IsOutcome}
use Rattle.stm_txn.specs.Standing.{Setup}

-- none was made
pub none_made : (start : Setup) (calls : List StoreCall) (jobs : List Job) (tally : Tally) → tally ≡ [] → AreCounted 0 start calls jobs tally
none_made start calls jobs tally none = record {
  texts = [];
  many = refl;
  each = All-nil (IsOutcome start calls jobs);
  counted = subst (λ (t : Tally). Counts [] t) (sym none) no_text;
}

-- the numbers in the tally add up to how many were made
pub all_made : (runs : ℕ) (start : Setup) (calls : List StoreCall) (jobs : List Job) (tally : Tally) → AreCounted runs start calls jobs tally
    → sum (values_of tally) ≡ runs
all_made runs start calls jobs tally made = made.counted.total ∙ made.many

-- one more was made
pub one_made : (runs : ℕ) (start : Setup) (calls : List StoreCall) (jobs : List Job) (before after : Tally) → AreCounted runs start calls jobs before
    → HasCounted start calls jobs before after → AreCounted (runs + 1) start calls jobs after
one_made runs start calls jobs before after made more = record {
  texts = made.texts ++ more.0 ∷ [];
  many = let long : length (made.texts ++ more.0 ∷ []) ≡ length made.texts + 1 = length-append made.texts (more.0 ∷ []) in
      let so_far = made.many in omega (arith, long, so_far);
  each = All-push (IsOutcome start calls jobs) made.texts more.0 made.each more.1;
  counted = more.2 made.texts made.counted;
}
