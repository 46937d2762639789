-- What an advance of a store that has dropped its revisions below the floor says of that of the whole one.
use Rattle.std.specs.Prelude.{◌≡◌, ℕ, ◌≤◌, List, None}
use Rattle.stm_outcome.specs.declared.advance.Expired.{Expired}
use Rattle.stm_outcome.specs.declared.refusal.Refusal.{Refusal}
use Rattle.stm_txn.specs.Standing.{Standing, kept, at_moment, advanced, HasCome, IsCutShort}

-- The advance of a whole store comes to this store once its revisions below the floor are dropped, with these expiries.
pub record ComesToo (s : Standing) (moment : ℕ) (expired : List Expired) (left : Standing) : Type 0 where
  pub whole : Standing
  pub leaves : kept whole ≡ left
  pub come : HasCome (at_moment s moment) expired whole
  pub is : advanced s moment ≡ record { expired = expired; leaves = whole; cause = None }

-- So it does where it is cut short for a cause.
pub record IsCutShortToo (s : Standing) (moment : ℕ) (expired : List Expired) (cause : Refusal) (left : Standing) : Type 0 where
  pub whole : Standing
  pub leaves : kept whole ≡ left
  pub come : s.moment ≤ moment → HasCome (at_moment s moment) expired whole
  pub cut_short : IsCutShort (advanced s moment) expired cause whole
