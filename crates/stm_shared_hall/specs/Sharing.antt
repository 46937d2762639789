-- A commit to a hall that others use too. No clause can name the store at that moment, since the lock is held for the commit alone.
use Rattle.std.specs.Prelude.{◌≡◌, ℕ, ◌+◌, ◌-◌, ◌^◌, ◌<◌, min, List, slice_index_or}
use denote.Ref.{Bor, MutBor}
use denote.Param.Members.{Shared}
use Rattle.stm_history.specs.declared.key_state.ReadAnswer.{ReadAnswer}
use Rattle.stm_program.specs.declared.level.Level.{Level}
use Rattle.stm_history.specs.declared.change.Change.{Change}
use Rattle.stm_journal.specs.JournalState.{JournalState}
use Rattle.stm_hall.specs.Locked.{IsLocked}
use Rattle.stm_closures.specs.Committing.{IsCommittedInHall}

-- A commit that was made in a hall as the lock gave it. Which one it was, is not said.
pub record IsCommittedThere (level : Level) (reads : List ReadAnswer) (writes : List Change) : Type 0 where
  pub before : JournalState
  pub left : JournalState
  pub locked : IsLocked before
  pub committed : IsCommittedInHall before level reads writes left

-- and that is counted
pub record IsCommittedInSomeHall (made : ℕ) (level : Level) (reads : List ReadAnswer) (writes : List Change) (after : ℕ) : Type 0 where
  pub there : IsCommittedThere level reads writes
  pub counted : after ≡ min (made + 1) (2 ^ 64 - 1)

-- ---- calls of a closure

module _ {F T X : Type 0} (g : Shared F (ℕ × (MutBor T × Unit {0})) (X × (MutBor T × Unit {0}))) (f : F) (is_new : T → Type 0) where
  -- a call of an `Fn` at a number and a `&mut` to what is new may return this
  pub record MayReturn (number : ℕ) (x : X) : Type 0 where
    pub handed : MutBor T
    pub begins : is_new handed.now
    pub left : MutBor T
    pub met : g.post f (number, (handed, tt)) (x, (left, tt))

  -- so may one at each number below n, in their order. (The equation shows `grind` where to use the rest.)
  abbrev pub MayReturnEach : ℕ → List X → Type 0
  MayReturnEach n xs = (i : ℕ) (d : X) → i < n → (slice_index_or xs i d ≡ slice_index_or xs i d) × MayReturn i (slice_index_or xs i d)

-- the same of one at a number and a reference
module _ {F S X : Type 0} (g : Shared F (ℕ × (Bor S × Unit {0})) X) (f : F) where
  pub record MayGive (number : ℕ) (x : X) : Type 0 where
    pub shared : Bor S
    pub met : g.post f (number, (shared, tt)) x

  abbrev pub MayGiveEach : ℕ → List X → Type 0
  MayGiveEach n xs = (i : ℕ) (d : X) → i < n → (slice_index_or xs i d ≡ slice_index_or xs i d) × MayGive i (slice_index_or xs i d)
