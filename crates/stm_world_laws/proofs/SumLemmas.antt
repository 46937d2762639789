-- Sums over accounts, of which some change.
use Rattle.std.proofs.Common.{◌≡◌, ℕ, List, [], ◌∷◌, Option, Some, false, refl, sym, ◌∙◌, ap, subst, arith, inl, inr}
use Rattle.std.specs.Prelude.{ℤ, ◌+ℤ◌, ◌-ℤ◌, bytes_eq}
use Rattle.std.specs.List.{AllByRecursion}
use Rattle.std.proofs.lemmas.Int.{ints}
use Rattle.std.proofs.lemmas.Bool.Decides.{nat_tests}
use Rattle.stm_program.proofs.WriteLemmas.{bytes_eq-flip}
use Rattle.stm_recipes.specs.Accounts.{sum_of}
use Rattle.stm_world_laws.specs.Accounts.{sum_over, AreAccounts, IsAmong}

-- a sum that is there is of a number and a sum
pub record HasParts (first rest : Option ℤ) (total : ℤ) : Type 0 where
  pub here : ℤ
  pub others : ℤ
  pub first_is : first ≡ Some here
  pub rest_is : rest ≡ Some others
  pub adds : here +ℤ others ≡ total

pub parts_of : (first rest : Option ℤ) (total : ℤ) → sum_of first rest ≡ Some total → HasParts first rest total
parts_of first rest total is = grind (arith, nat_tests)

-- an account of a sum has a number
pub has_balance : (f : List ℕ → Option ℤ) (accounts : List (List ℕ)) (account : List ℕ) (total : ℤ) → sum_over f accounts ≡ Some total →
    IsAmong account accounts → (z : ℤ) × (f account ≡ Some z)
has_balance f [] account total is among = absurd among
has_balance f (a ∷ accounts) account total is (inl same) =
    let p : HasParts (f a) (sum_over f accounts) total = parts_of (f a) (sum_over f accounts) total is in
    (p.here, ap f (sym same) ∙ p.first_is)
has_balance f (a ∷ accounts) account total is (inr later) =
    let p : HasParts (f a) (sum_over f accounts) total = parts_of (f a) (sum_over f accounts) total is in
    has_balance f accounts account p.others p.rest_is later

-- a name that differs from all of these is none of them
apart_from : (account other : List ℕ) (accounts : List (List ℕ)) → AllByRecursion (λ x. bytes_eq account x ≡ false) accounts → IsAmong other accounts →
    bytes_eq account other ≡ false
apart_from account other [] all among = absurd among
apart_from account other (x ∷ accounts) all (inl same) = subst (λ q. bytes_eq account q ≡ false) same all.0
apart_from account other (x ∷ accounts) all (inr later) = apart_from account other accounts all.1 later

-- balances that agree on these accounts have one sum
pub sums_agree : (f g : List ℕ → Option ℤ) (accounts : List (List ℕ)) → AllByRecursion (λ a. g a ≡ f a) accounts → sum_over g accounts ≡ sum_over f accounts
sums_agree f g [] all = refl
sums_agree f g (a ∷ accounts) all = grind (arith, nat_tests, sums_agree f g accounts all.1)

agree_apart : (f g : List ℕ → Option ℤ) (account : List ℕ) (accounts : List (List ℕ)) → AllByRecursion (λ x. bytes_eq account x ≡ false) accounts →
    ((a : List ℕ) → bytes_eq account a ≡ false → g a ≡ f a) → AllByRecursion (λ a. g a ≡ f a) accounts
agree_apart f g account [] apart agree = tt
agree_apart f g account (a ∷ accounts) apart agree = (agree a apart.0, agree_apart f g account accounts apart.1 agree)

-- where one account has another number, the sum moves by the difference
pub sum_moves : (f g : List ℕ → Option ℤ) (accounts : List (List ℕ)) (account : List ℕ) (was is total : ℤ) → AreAccounts accounts →
    IsAmong account accounts → f account ≡ Some was → g account ≡ Some is → ((a : List ℕ) → bytes_eq account a ≡ false → g a ≡ f a) →
    sum_over f accounts ≡ Some total → sum_over g accounts ≡ Some (total +ℤ (is -ℤ was))
sum_moves f g [] account was is total are among before after agree sums = absurd among
sum_moves f g (a ∷ accounts) account was is total are (inl same) before after agree sums =
    let p : HasParts (f a) (sum_over f accounts) total = parts_of (f a) (sum_over f accounts) total sums in
    let rest : sum_over g accounts ≡ sum_over f accounts =
    sums_agree f g accounts (agree_apart f g account accounts (subst (λ q. AllByRecursion (λ x. bytes_eq q x ≡ false) accounts) same are.1) agree) in
    let here : Some p.here ≡ Some was = sym p.first_is ∙ ap f same ∙ before in
    let adds : p.here +ℤ p.others ≡ total = p.adds in
    let equal : p.here ≡ was = cc in
    let moved : is +ℤ p.others ≡ total +ℤ (is -ℤ was) = omega (arith, ints, adds, equal) in
    ap (λ o. sum_of o (sum_over g accounts)) (ap g same ∙ after)
    ∙ ap (λ o. sum_of (Some is) o) (rest ∙ p.rest_is) ∙ ap (λ z. Some z) moved
sum_moves f g (a ∷ accounts) account was is total are (inr later) before after agree sums =
    let p : HasParts (f a) (sum_over f accounts) total = parts_of (f a) (sum_over f accounts) total sums in
    let other : bytes_eq a account ≡ false = apart_from a account accounts are.1 later in
    let stays : g a ≡ f a = agree a (bytes_eq-flip account a ∙ other) in
    let rest : sum_over g accounts ≡ Some (p.others +ℤ (is -ℤ was)) = sum_moves f g accounts account was is p.others are.2 later before after agree p.rest_is in
    let adds : p.here +ℤ p.others ≡ total = p.adds in
    let moved : p.here +ℤ (p.others +ℤ (is -ℤ was)) ≡ total +ℤ (is -ℤ was) = omega (arith, ints, adds) in
    ap (λ o. sum_of o (sum_over g accounts)) (stays ∙ p.first_is) ∙ ap (λ o. sum_of (Some p.here) o) rest ∙ ap (λ z. Some z) moved
