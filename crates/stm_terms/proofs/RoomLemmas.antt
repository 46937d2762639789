-- A node at a level that is too deep, and one that is too many.
use Rattle.std.proofs.Common.{◌≡◌, ◌<◌, ℕ, false, nat_eq, Err, refl, arith}
use Rattle.std.proofs.lemmas.Bool.Decides.{nat_tests}
use Rattle.stm_program.specs.Syntax.{Expression, Text, Condition, Equal}
use Rattle.stm_program.specs.Syntax.{Statement, Set, If}
use Rattle.stm_terms.specs.declared.faults.SourceCause.TheVariants.{TooDeep, TooManyNodes}
use Rattle.stm_terms.specs.Room.{expression_room, condition_room, statement_room}

pub expression_deep : (levels room : ℕ) (x : Expression) → levels ≡ 0 → expression_room levels room x ≡ Err TooDeep
expression_deep levels room (Text s) none = rw none refl
expression_deep levels room _ none = rw none refl

pub expression_full : (levels room : ℕ) (x : Expression) → 0 < levels → room ≡ 0 → expression_room levels room x ≡ Err TooManyNodes
expression_full levels room (Text s) some none = let t : nat_eq levels 0 ≡ false = grind (arith, nat_tests) in rw (t, none) refl
expression_full levels room _ some none = let t : nat_eq levels 0 ≡ false = grind (arith, nat_tests) in rw (t, none) refl

pub condition_deep : (levels room : ℕ) (x : Condition) → levels ≡ 0 → condition_room levels room x ≡ Err TooDeep
condition_deep levels room (Equal a b) none = rw none refl
condition_deep levels room _ none = rw none refl

pub condition_full : (levels room : ℕ) (x : Condition) → 0 < levels → room ≡ 0 → condition_room levels room x ≡ Err TooManyNodes
condition_full levels room (Equal a b) some none = let t : nat_eq levels 0 ≡ false = grind (arith, nat_tests) in rw (t, none) refl
condition_full levels room _ some none = let t : nat_eq levels 0 ≡ false = grind (arith, nat_tests) in rw (t, none) refl

pub statement_deep : (levels room : ℕ) (x : Statement) → levels ≡ 0 → statement_room levels room x ≡ Err TooDeep
statement_deep levels room (Set v e) none = rw none refl
statement_deep levels room _ none = rw none refl

pub statement_full : (levels room : ℕ) (x : Statement) → 0 < levels → room ≡ 0 → statement_room levels room x ≡ Err TooManyNodes
statement_full levels room (If c t e) some none = let t : nat_eq levels 0 ≡ false = grind (arith, nat_tests) in rw (t, none) refl
statement_full levels room _ some none = let t : nat_eq levels 0 ≡ false = grind (arith, nat_tests) in rw (t, none) refl
