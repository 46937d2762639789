-- The law of the ends of jobs.
use Rattle.std.proofs.Common.{◌≡◌, ℕ, zero, suc, ◌<◌, List, [], ◌∷◌, length, Option, None, Some, option_and_then, slice_get, refl, subst, ⊎_elim, arith}
use Rattle.std.proofs.lemmas.Bool.{cases_order}
use Rattle.stm_journal.specs.JournalState.{JournalState}
use Rattle.stm_workers.specs.declared.start_point.StartPoint.{StartPoint}
use Rattle.stm_job.specs.declared.job.Job.{Job}
use Rattle.stm_job.specs.declared.job_end.JobEnd.{JobEnd}
use Rattle.stm_workers.specs.Ends.{entry_named, IsNew, Stands, AllStand, CommitsAreApart}

-- an end that names an entry is an end
pub record Named (o : Option JobEnd) (index : ℕ) : Type 0 where
  pub end : JobEnd
  pub is : o ≡ Some end
  pub names : entry_named end ≡ Some index

pub named : (o : Option JobEnd) (index : ℕ) → option_and_then entry_named o ≡ Some index → Named o index
named None index e = absurd (cc)
named (Some end) index e = record { end = end; is = refl; names = e }

-- what stands in a list stands within its length, and another list of that length has something there too
pub within : {A : Type 0} (xs : List A) (k : ℕ) (x : A) → slice_get xs k ≡ Some x → k < length xs
within [] k x e = absurd (cc)
within (y ∷ ys) zero x e = omega arith
within (y ∷ ys) (suc k) x e = let r = within ys k x e in omega arith

pub record There {A : Type 0} (xs : List A) (k : ℕ) : Type 0 where
  pub item : A
  pub is : slice_get xs k ≡ Some item

pub there : {A : Type 0} (xs : List A) (k : ℕ) → k < length xs → There xs k
there [] k short = absurd (omega arith)
there (x ∷ xs) zero short = record { item = x; is = refl }
there (x ∷ xs) (suc k) short = let r = there xs k (omega arith) in record { item = r.item; is = r.is }

-- an end that stands names an entry that none before it has named
later_is_new : (begun : StartPoint) (hall : JournalState) (jobs : List Job) (ends : List JobEnd) → length ends ≡ length jobs → AllStand begun hall jobs ends
    → (k index : ℕ) → option_and_then entry_named (slice_get ends k) ≡ Some index → IsNew ends k index
later_is_new begun hall jobs ends same stand k index names =
    let n = named (slice_get ends k) index names in
    let j = there jobs k (subst (λ (m : ℕ). k < m) same (within ends k n.end n.is)) in
    let s : Stands begun hall ends k j.item n.end = stand k j.item n.end j.is n.is in
    s.is_new index n.names

pub apart : CommitsAreApart
apart begun hall jobs ends same stand j k index first second = ⊎_elim
    (λ (equal : j ≡ k). equal)
    (λ other. ⊎_elim
    (λ (before : j < k). absurd (later_is_new begun hall jobs ends same stand k index second j before first))
    (λ (after : k < j). absurd (later_is_new begun hall jobs ends same stand j index first k after second))
    other)
    (cases_order j k)
