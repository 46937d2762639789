-- A source as a block of a program: what follows a statement goes into the branches that come to it.
use Rattle.std.specs.Prelude.{ℕ, suc, List, [], ◌∷◌, Bool, true, false, ◌&&◌, nat_lt, if◌then◌else◌}
use Rattle.stm_program.specs.Syntax.{Statement, Block, Set, Put, Del, If, For, Emit, Abort, End, Then}
use Rattle.stm_leaving.specs.Source.{Source, Sources, Copies, Plain, Choice, Items, Count, Return, Break, Continue, Nil, Next, NoCopy, Copy, in_copies}
use Rattle.stm_leaving.specs.declared.follow.Follow.{Follow}
use Rattle.stm_leaving.specs.Leaving.{goes_on, keeps_to, keep_to}

abbrev pub nothing : Follow
nothing = record { next = End; broken = End; continued = End }

-- what follows a statement: next, these; by the other ways the same
abbrev pub with_next : Follow → Block → Follow
with_next k b = record { next = b; broken = k.broken; continued = k.continued }

-- one copy of a loop: the copies behind it, and what comes behind them all
abbrev pub copy_follow : Block → Block → Follow
copy_follow more after = record { next = more; broken = after; continued = more }

abbrev pub one_behind : Block → Block → Block
one_behind End after = after
one_behind (Then first rest) after = Then first (one_behind rest after)

abbrev pub ends_run : Statement → Bool
ends_run (Set v e) = false
ends_run (Put e f lease) = false
ends_run (Del e) = false
ends_run (If c a b) = false
ends_run (For v e limit body) = false
ends_run (Emit e) = false
ends_run (Abort e) = true

abbrev pub is_abort : Source → Bool
is_abort (Plain p) = ends_run p
is_abort (Choice c a b) = false
is_abort (Items cs) = false
is_abort (Count v e limit body) = false
is_abort Return = false
is_abort Break = false
is_abort Continue = false

-- nothing comes behind the list of an `abort`
abbrev pub behind : Source → Follow → Follow
behind first k = if is_abort first then nothing else k

unfoldable mutual
  pub closed : Sources → Follow → Block
  closed Nil k = k.next
  closed (Next first rest) k = closed_one first (with_next k (closed rest (behind first k)))

  pub closed_one : Source → Follow → Block
  closed_one (Plain p) k = Then p k.next
  closed_one (Choice c a b) k =
      if keeps_to goes_on a && keeps_to goes_on b then Then (If c (closed a nothing) (closed b nothing)) k.next else Then (If c (closed a k) (closed b k)) End
  closed_one (Items cs) k = if keep_to (in_copies goes_on) cs then one_behind (closed_copies cs End) k.next else closed_copies cs k.next
  closed_one (Count v e limit body) k = Then (For v e limit (closed body nothing)) k.next
  closed_one Return k = End
  closed_one Break k = k.broken
  closed_one Continue k = k.continued

  pub closed_copies : Copies → Block → Block
  closed_copies NoCopy after = after
  closed_copies (Copy c cs) after = closed c (copy_follow (closed_copies cs after) after)

-- the copies of a loop's block, and what comes behind them
abbrev pub items_behind : Copies → Block → Block
items_behind cs next = if keep_to (in_copies goes_on) cs then one_behind (closed_copies cs End) next else closed_copies cs next

-- ---- the same from the end of a list on

-- the place of the first `abort` of a list; its length, if it has none
abbrev pub first_abort : List Source → ℕ
first_abort [] = 0
first_abort (s ∷ ss) = if is_abort s then 0 else suc (first_abort ss)

-- what follows a statement at a place of a list whose first `abort` stands at the place `ends`
abbrev pub around : ℕ → ℕ → Follow → Follow
around ends place k = if nat_lt ends place then nothing else k

-- what comes behind the last statement of a list
abbrev pub behind_last : Bool → Block → Block
behind_last has_abort next = if has_abort then End else next
