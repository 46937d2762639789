-- What stands escaped has none of the bytes that open or close an element or end an attribute.
use Rattle.std.proofs.Common.{◌≡◌, ◌||◌, ℕ, Bool, true, false, cond, List, [], ◌∷◌, ◌++◌, nat_eq, codes, refl, arith}
use Rattle.std.proofs.lemmas.Bool.{or_from, Decides.nat_tests}
use Rattle.stm_formats.specs.FormatEscaped.{entity, escaped}
use Rattle.stm_report_laws.specs.FormatLaws.{has, NothingUnescaped}

pub has_both : (b : ℕ) (xs ys : List ℕ) → has b (xs ++ ys) ≡ (has b xs || has b ys)
has_both b [] ys = refl
has_both b (x ∷ xs) ys = grind (arith, has_both b xs ys)

by_tests : (b x : ℕ) (amp less greater double single : Bool) (same : Bool)
    → has b (codes "&amp;") ≡ false → has b (codes "&lt;") ≡ false → has b (codes "&gt;") ≡ false → has b (codes "&quot;") ≡ false → has b (codes "&apos;") ≡ false
    → (cond amp true (cond less true (cond greater true (cond double true (cond single true (cond same false true))))) ≡ true) → nat_eq x b ≡ same
    → has b (cond amp (codes "&amp;") (cond less (codes "&lt;") (cond greater (codes "&gt;") (cond double (codes "&quot;") (cond single (codes "&apos;") (x ∷ [])))))) ≡ false
by_tests b x amp less greater double single same a l g d s other is = grind (arith, nat_tests, or_from)

-- where no entity has the byte, and the byte itself has an entity
escaped_without : (b : ℕ) → ((x : ℕ) → has b (entity x) ≡ false) → (text : List ℕ) → has b (escaped text) ≡ false
unfolding escaped
escaped_without b each [] = refl
escaped_without b each (x ∷ xs) = grind (arith, has_both, each, escaped_without b each xs)

greater_test : (greater amp less double single : Bool) → cond amp true (cond less true (cond greater true (cond double true (cond single true (cond greater false true))))) ≡ true
greater_test greater amp less double single = grind arith

double_test : (double amp less greater single : Bool) → cond amp true (cond less true (cond greater true (cond double true (cond single true (cond double false true))))) ≡ true
double_test double amp less greater single = grind arith

single_test : (single amp less greater double : Bool) → cond amp true (cond less true (cond greater true (cond double true (cond single true (cond single false true))))) ≡ true
single_test single amp less greater double = grind arith

entity_without : (b x : ℕ) → has b (codes "&amp;") ≡ false → has b (codes "&lt;") ≡ false → has b (codes "&gt;") ≡ false → has b (codes "&quot;") ≡ false
    → has b (codes "&apos;") ≡ false
    → (cond (nat_eq x 38) true (cond (nat_eq x 60) true (cond (nat_eq x 62) true (cond (nat_eq x 34) true (cond (nat_eq x 39) true (cond (nat_eq x b) false true))))) ≡ true)
    → has b (entity x) ≡ false
entity_without b x a l g d s other = grind (arith, nat_tests, by_tests)

pub nothing_unescaped : NothingUnescaped
nothing_unescaped = grind (arith, nat_tests, escaped_without, entity_without, greater_test, double_test, single_test)
