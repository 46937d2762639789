-- One turn of a loop.
use Rattle.std.proofs.Common.{◌≡◌, ℕ, suc, ◌+◌, ◌-◌, ◌<◌, ap, ◌∙◌, arith}
use Rattle.stm_steps.specs.Session.{Session}
use Rattle.stm_steps.specs.Outcome.{Outcome, Gives, and_then, begin_turn}
use Rattle.stm_steps.specs.Meaning.{repeat}
use Rattle.stm_sites.specs.declared.site.Site.{Site}
use Rattle.stm_sites.specs.Sites.{part_or, turn_site, turns_site}

repeat-suc : (v : ℕ) (body : Session → Outcome (Unit {0})) (left i : ℕ) (s t u : Session) → begin_turn v i s ≡ Gives tt t → body t ≡ Gives tt u →
    repeat v body (suc left) i s ≡ repeat v body left (suc i) u
unfolding repeat
repeat-suc v body left i s t u begun ran =
    ap (λ o. and_then o (λ _ t. and_then (body t) (λ _. repeat v body left (suc i)))) begun
    ∙ ap (λ o. and_then o (λ _. repeat v body left (suc i))) ran

-- a turn that begins and whose body goes through leaves the turns after it
pub repeat-step : (v : ℕ) (body : Session → Outcome (Unit {0})) (count i : ℕ) (s t u : Session) → i < count → begin_turn v i s ≡ Gives tt t →
    body t ≡ Gives tt u → repeat v body (count - i) i s ≡ repeat v body (count - (i + 1)) (i + 1) u
repeat-step v body count i s t u below begun ran =
    let left : count - i ≡ suc (count - (i + 1)) = omega arith in
    let next : suc i ≡ i + 1 = omega arith in
    ap (λ n. repeat v body n i s) left ∙ repeat-suc v body (count - (i + 1)) i s t u begun ran ∙ ap (λ n. repeat v body (count - (i + 1)) n u) next

site-suc : (v : ℕ) (body : Session → Outcome (Unit {0})) (site : Session → Site) (left i : ℕ) (s t u : Session) → begin_turn v i s ≡ Gives tt t →
    body t ≡ Gives tt u → turns_site v body site (suc left) i s ≡ turns_site v body site left (suc i) u
unfolding turns_site
site-suc v body site left i s t u begun ran =
    ap (λ o. turn_site (λ t. part_or 4 (site t) (λ _ u. turns_site v body site left (suc i) u) (body t)) o) begun
    ∙ ap (λ o. part_or 4 (site t) (λ _ u. turns_site v body site left (suc i) u) o) ran

pub site-step : (v : ℕ) (body : Session → Outcome (Unit {0})) (site : Session → Site) (count i : ℕ) (s t u : Session) → i < count →
    begin_turn v i s ≡ Gives tt t → body t ≡ Gives tt u → turns_site v body site (count - i) i s ≡ turns_site v body site (count - (i + 1)) (i + 1) u
site-step v body site count i s t u below begun ran =
    let left : count - i ≡ suc (count - (i + 1)) = omega arith in
    let next : suc i ≡ i + 1 = omega arith in
    ap (λ n. turns_site v body site n i s) left ∙ site-suc v body site (count - (i + 1)) i s t u begun ran
    ∙ ap (λ n. turns_site v body site (count - (i + 1)) n u) next
