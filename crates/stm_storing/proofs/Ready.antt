-- Which world a scenario is ready to go on with.
use Rattle.std.proofs.Common.{◌≡◌, inl, inr, ℕ, zero, suc, List, length, refl, sym, ap, subst, arith}
use Rattle.stm_texts.specs.declared.scenario.Scenario.{Scenario}
use Rattle.stm_texts.specs.Opens.{setup_of}
use Rattle.stm_world.specs.World.{World, opened}
use Rattle.stm_lasting.specs.Kept.{IsKept, IsReady}
use Rattle.stm_lasting.proofs.Moments.{nothing}

-- the file's own world, or the empty store of the scenario where the file has nothing
pub is_ready : (end : ℕ) (file : List ℕ) (kept world : World) (scenario : Scenario) → end ≡ length file → IsKept file kept
    → (end ≡ 0 → world ≡ opened (setup_of scenario.opening)) → ((end ≡ 0 → ⊥) → world ≡ kept) → IsReady file world scenario
is_ready zero file kept world scenario is is_kept new old = inl (nothing file (sym is), new refl)
is_ready (suc n) file kept world scenario is is_kept new old =
    inr ((λ none. absurd (omega (arith, is, ap length none))), subst (λ (w : World). IsKept file w) (sym (old (λ zero_is. omega (arith, zero_is)))) is_kept)
