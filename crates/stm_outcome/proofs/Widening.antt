-- What a store with a floor and a limit takes is taken without a floor, and at a higher limit.
use Rattle.std.proofs.Common.{◌≡◌, ℕ, ◌≤◌, Bool, false, cond, List, [], ◌∷◌, Option, Some, None, refl, ◌∙◌, ap, arith}
use Rattle.std.specs.Option.{option_or}
use Rattle.std.specs.Prelude.{nat_lt, ◌||◌, Result, Ok}
use Rattle.std.proofs.Math.Bool.{and-false}
use Rattle.std.proofs.lemmas.Bool.{le-ltb, ltb-false, Decides.nat_tests}
use Rattle.stm_outcome.specs.declared.txn.Op.{Op}
use Rattle.stm_outcome.specs.declared.txn.Txn.{Txn}
use Rattle.stm_outcome.specs.declared.refusal.Refusal.{Refusal}
use Rattle.stm_outcome.specs.declared.refusal.Refusal.TheVariants.{FutureRevision, TooManyOps, EmptyKey, DuplicateKey}
use Rattle.stm_outcome.specs.Terms.{Terms}
use Rattle.stm_outcome.specs.Branches.{op_refusal, branch_refusal}
use Rattle.stm_outcome.specs.Checks.{has_too_many, fault_of}
use Rattle.stm_outcome.specs.Laws.{WiderTermsTake}
use Rattle.stm_outcome.specs.Outcome.{Done, unless}

-- where no refusal comes first, neither part has one
pub both_none : (a b : Option Refusal) → option_or a b ≡ None → (a ≡ None) × (b ≡ None)
both_none a b none = grind (arith, nat_tests)

pub reached_case : (b : Bool) (o : Option Refusal) → cond b (Some FutureRevision) o ≡ None → b ≡ false
reached_case b o none = grind (arith, nat_tests)

-- terms with no floor and another limit
abbrev widened : ℕ → Terms → Terms
widened limit terms = record terms { floor = 0; limit = limit }

one_taken : (limit : ℕ) (terms : Terms) (op : Op) → op_refusal terms op ≡ None → op_refusal (widened limit terms) op ≡ None
one_taken limit terms op none = grind (arith, nat_tests, reached_case, le-ltb, and-false)

all_taken : (limit : ℕ) (terms : Terms) (ops : List Op) → branch_refusal terms ops ≡ None → branch_refusal (widened limit terms) ops ≡ None
all_taken limit terms [] none = refl
all_taken limit terms (op ∷ ops) none =
    let parts : (op_refusal terms op ≡ None) × (branch_refusal terms ops ≡ None) = both_none (op_refusal terms op) (branch_refusal terms ops) none in
    ap (λ o. option_or o (branch_refusal (widened limit terms) ops)) (one_taken limit terms op parts.0) ∙ all_taken limit terms ops parts.1

-- ---- a list that is within a limit is within a higher one

none_of_three : (a b c : Bool) → a ≡ false → b ≡ false → c ≡ false → (a || b || c) ≡ false
none_of_three a b c first second third = ap (λ x. x || b || c) first ∙ ap (λ x. x || c) second ∙ third

still_within : (limit higher n : ℕ) → limit ≤ higher → nat_lt limit n ≡ false → nat_lt higher n ≡ false
still_within limit higher n wide within = grind (arith, nat_tests, ltb-false, le-ltb)

not_too_many : (limit higher : ℕ) (txn : Txn) → limit ≤ higher → has_too_many limit txn ≡ false → has_too_many higher txn ≡ false
not_too_many limit higher txn wide few = grind (arith, nat_tests, none_of_three, still_within)

fewer_fault : (many fewer empty clash : Bool) → fewer ≡ false → cond many (Some TooManyOps) (cond empty (Some EmptyKey) (cond clash (Some DuplicateKey) None)) ≡ None
    → cond fewer (Some TooManyOps) (cond empty (Some EmptyKey) (cond clash (Some DuplicateKey) None)) ≡ None
fewer_fault many fewer empty clash few none = grind (arith, nat_tests)

pub no_fault_wider : (limit higher : ℕ) (txn : Txn) → limit ≤ higher → fault_of limit txn ≡ None → fault_of higher txn ≡ None
no_fault_wider limit higher txn wide none = grind (arith, nat_tests, fewer_fault, not_too_many)

whole_taken : (fault wider : Option Refusal) (before after : Result Done Refusal) (done : Done) → (fault ≡ None → wider ≡ None)
    → (before ≡ Ok done → after ≡ Ok done) → unless fault before ≡ Ok done → unless wider after ≡ Ok done
whole_taken fault wider before after done none then is = grind (arith, nat_tests)

pub wider_terms_take : WiderTermsTake
wider_terms_take terms limit txn done wide is = grind (arith, nat_tests, whole_taken, no_fault_wider, all_taken)
