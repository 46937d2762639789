-- Worlds that have the same store and the same entries.
use Rattle.std.proofs.Common.{◌≡◌, ◌∙◌, ℕ, true, List, [], ◌∷◌, length, refl, sym, arith}
use Rattle.std.specs.Prelude.{◌==◌}
use Rattle.std.specs.Cmp.{unsigned_Decides}
use Rattle.stm_txn.specs.Standing.{Standing, with_watchers}
use Rattle.stm_world.specs.World.{World}
use Rattle.stm_retry.specs.WorldOf.{with_places}

pub none_counted : {A : Type 0} (xs : List A) (n : ℕ) → n ≡ length xs → (n == 0) ≡ true → xs ≡ []
none_counted [] n is none = refl
none_counted (x ∷ xs) n is none = absurd (let zero : n ≡ 0 = (unsigned_Decides n 0).0 none in let one : n ≡ length (x ∷ xs) = is in omega (arith, one, zero))

-- stores are the same that are so but for their watchers, and have none
pub same_standing : (s t : Standing) → with_watchers s [] ≡ with_watchers t [] → s.watchers ≡ [] → t.watchers ≡ [] → s ≡ t
same_standing s t same none nothing = λ i. with_watchers (same i) ((none ∙ sym nothing) i)

-- and then worlds are the same but for their runners
pub same_base : (v w : World) → v.standing ≡ w.standing → v.entries ≡ w.entries → with_places v.runners w ≡ v
same_base v w standings entries = λ i. record { standing = sym standings i; runners = v.runners; entries = sym entries i }
