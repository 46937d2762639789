-- Marks, which say where in a source the statements behind them begin, and which of them says it of a node.
use Rattle.std.specs.Prelude.{ℕ, ◌+◌, ◌-◌, List, [], ◌∷◌, Option, Some, None, nat_eq, nat_le, nat_lt, if◌then◌else◌}
use Rattle.stm_program.specs.Syntax.{Expression, Text, Statement, Set, Put, Del, If, For, Emit, Abort, Block, End, Then}
use Rattle.stm_marks.specs.declared.marks.TheConstants.{FIRST_MARK}

-- ---- a mark is a put with a lease that no program has: that many more than the first as its byte is

abbrev pub mark_lease : ℕ → ℕ
mark_lease at = if nat_lt at FIRST_MARK then FIRST_MARK + at else FIRST_MARK

abbrev pub empty_text : Expression
empty_text = Text []

abbrev pub mark : ℕ → Statement
mark at = Put empty_text empty_text (mark_lease at)

-- the byte of a mark
abbrev pub marked : Statement → Option ℕ
marked (Put k e lease) = if nat_le FIRST_MARK lease then Some (lease - FIRST_MARK) else None
marked _ = None

-- ---- the place of a node: what the last mark before it says

abbrev pub of_mark : Option ℕ → (Option ℕ → Option ℕ) → Option ℕ → Option ℕ
of_mark None behind here = here
of_mark (Some at) behind here = behind (Some at)

-- in a branch of a choice, which are its second and its third part
abbrev pub in_branch : Option ℕ → List ℕ → (List ℕ → Option ℕ) → (List ℕ → Option ℕ) → Option ℕ
in_branch known [] t e = known
in_branch known (part ∷ inner) t e = if nat_eq part 2 then t inner else (if nat_eq part 3 then e inner else known)

-- in the block of a loop, which is its fourth part
abbrev pub in_body : Option ℕ → List ℕ → (List ℕ → Option ℕ) → Option ℕ
in_body known [] body = known
in_body known (part ∷ inner) body = if nat_eq part 4 then body inner else known

-- in one of the statements of a block, the first of these indices
abbrev pub in_one : Option ℕ → List ℕ → (ℕ → List ℕ → Option ℕ) → Option ℕ
in_one known [] place = known
in_one known (index ∷ inner) place = place index inner

abbrev mutual
  pub place_in_statement : Option ℕ → List ℕ → Statement → Option ℕ
  place_in_statement known path (Set v e) = known
  place_in_statement known path (Put k e lease) = known
  place_in_statement known path (Del e) = known
  place_in_statement known path (Emit e) = known
  place_in_statement known path (Abort e) = known
  place_in_statement known path (If c t e) =
      in_branch known path (λ inner. in_one known inner (λ i p. place_in known i p t)) (λ inner. in_one known inner (λ i p. place_in known i p e))
  place_in_statement known path (For v e n body) = in_body known path (λ inner. in_one known inner (λ i p. place_in known i p body))

  -- in the statement with an index, which does not count marks
  pub place_in : Option ℕ → ℕ → List ℕ → Block → Option ℕ
  place_in known index inner End = known
  place_in known index inner (Then s b) =
      of_mark (marked s) (λ at. place_in at index inner b)
      (if nat_eq index 0 then place_in_statement known inner s else place_in known (index - 1) inner b)

-- by the indices that lead to it
abbrev pub place_at : Block → Option ℕ → List ℕ → Option ℕ
place_at b known path = in_one known path (λ i p. place_in known i p b)
