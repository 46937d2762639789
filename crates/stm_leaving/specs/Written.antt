-- How many statements are written, whatever comes to them.
use Rattle.std.specs.Prelude.{ℕ, ◌-◌, Bool, true, false, ◌||◌, ◌&&◌, Option, Some, None, is_none, nat_eq, if◌then◌else◌}
use Rattle.stm_leaving.specs.Source.{Source, Sources, Copies, Plain, Choice, Items, Count, Return, Break, Continue, Nil, Next, NoCopy, Copy}

-- a statement leaves a block anywhere in these
unfoldable mutual
  pub leaves : Sources → Bool
  leaves Nil = false
  leaves (Next first rest) = one_leaves first || leaves rest

  pub one_leaves : Source → Bool
  one_leaves (Plain p) = false
  one_leaves (Choice c a b) = leaves a || leaves b
  one_leaves (Items cs) = copies_leave cs
  one_leaves (Count v e limit body) = leaves body
  one_leaves Return = true
  one_leaves Break = true
  one_leaves Continue = true

  pub copies_leave : Copies → Bool
  copies_leave NoCopy = false
  copies_leave (Copy c cs) = leaves c || copies_leave cs

infixl 10 ◌>>=◌
abbrev pub ◌>>=◌ : Option ℕ → (ℕ → Option ℕ) → Option ℕ
None >>= f = None
(Some left) >>= f = f left

abbrev pub one_less : ℕ → Option ℕ
one_less room = if nat_eq room 0 then None else Some (room - 1)

-- how many of so many statements are left behind these; none where these are more
unfoldable mutual
  pub written_left : ℕ → Sources → Option ℕ
  written_left room Nil = Some room
  written_left room (Next first rest) = one_left room first >>= λ left. written_left left rest

  pub one_left : ℕ → Source → Option ℕ
  one_left room (Plain p) = one_less room
  one_left room (Choice c a b) = one_less room >>= λ left. written_left left a >>= λ less. written_left less b
  one_left room (Items cs) = copies_left room cs
  one_left room (Count v e limit body) = one_less room >>= λ left. written_left left body
  one_left room Return = Some room
  one_left room Break = Some room
  one_left room Continue = Some room

  pub copies_left : ℕ → Copies → Option ℕ
  copies_left room NoCopy = Some room
  copies_left room (Copy c cs) = written_left room c >>= λ left. copies_left left cs

-- where one leaves, and more than so many are written: what follows would be copied into too many branches to be made at all
abbrev pub is_too_long : ℕ → Sources → Bool
is_too_long most parts = leaves parts && is_none (written_left most parts)
