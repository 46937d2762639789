-- What a search through places finds, by the paths that lead to them.
use Rattle.std.proofs.Common.{◌≡◌, ◌≢◌, ℕ, zero, suc, ◌≤◌, Bool, true, false, cond, nat_eq, List, [], ◌∷◌, length, Option, Some, None, option_map, refl, ◌∙◌, ap, subst, arith}
use Rattle.std.specs.Option.{option_or}
use Rattle.stm_world.proofs.Slots.{equal_numbers, differ}
use Rattle.stm_schedules.proofs.Members.{or_none, map_none, map_some}
use Rattle.stm_visited.specs.Search.{Steps, Leads, bad_at, first_bad, goes_on}
use Rattle.stm_visited.proofs.Founds.{none_found, none_passes}
use Rattle.stm_explore.proofs.PatientSchedules.{found_at}

-- these moves lead to a place that does not keep the rule
abbrev pub LeadsToBad : {P M O : Type 0} → Steps P M O → P → List M → Type 0
LeadsToBad {P} {M} {O} s p ms = (q : P) × Leads s ms p q × (s.keeps q ≡ false)

abbrev bad_after : {P M O : Type 0} → Steps P M O → ℕ → P → M → Option (List M)
bad_after {P} {M} {O} s n p m = option_map (λ (ms : List M). m ∷ ms) (bad_at s n (s.after m p))

bad_here : {P M O : Type 0} (s : Steps P M O) (p : P) (ms : List M) (b : Bool) → s.keeps p ≡ b → cond b None (Some []) ≡ Some ms → LeadsToBad s p ms
bad_here s p ms true is found = absurd (cc)
bad_here {P} {M} {O} s p ms false is found =
    let nothing : [] ≡ ms = cc in
    subst (λ (path : List M). LeadsToBad s p path) nothing (p, refl, is)

bad_leads : {P M O : Type 0} (s : Steps P M O) (n : ℕ) (p : P) (ms : List M) → bad_at s n p ≡ Some ms → LeadsToBad s p ms
bad_leads s zero p ms found = bad_here s p ms (s.keeps p) refl found
bad_leads {P} {M} {O} s (suc n) p ms found =
    let first = found_at M (List M) (bad_after s n p) (s.moves p) ms found in
    let rest = map_some (λ (path : List M). first.it ∷ path) (bad_at s n (s.after first.it p)) ms first.gives in
    let bad = bad_leads s n (s.after first.it p) rest.0 rest.1 in
    subst (λ (path : List M). LeadsToBad s p path) rest.2 (bad.0, (first.there, bad.1), bad.2)

found_by : {P M O : Type 0} (s : Steps P M O) (n : ℕ) (p : P) (ms : List M) (o : Option (List M)) → first_bad s n p ≡ o →
    ((path : List M) → first_bad s n p ≡ Some path → LeadsToBad s p path) → option_or o (bad_at s (suc n) p) ≡ Some ms → LeadsToBad s p ms
found_by s n p ms None is shorter found = bad_leads s (suc n) p ms found
found_by s n p ms (Some path) is shorter found = shorter ms (is ∙ found)

-- what is found is such a path
pub found_leads : {P M O : Type 0} (s : Steps P M O) (n : ℕ) (p : P) (ms : List M) → first_bad s n p ≡ Some ms → LeadsToBad s p ms
found_leads s zero p ms found = bad_leads s zero p ms found
found_leads {P} {M} {O} s (suc n) p ms found = found_by s n p ms (first_bad s n p) refl (λ (path : List M) is. found_leads s n p path is) found

here_kept : {M : Type 0} (b : Bool) → cond b None (let none : Option (List M) = Some [] in none) ≡ None → b ≡ true
here_kept true none = refl
here_kept false none = absurd (cc)

none_bad : {P M O : Type 0} (s : Steps P M O) (n : ℕ) (p q : P) (ms : List M) → bad_at s n p ≡ None → Leads s ms p q → length ms ≡ n → s.keeps q ≡ true
none_bad s zero p q [] none led long = ap s.keeps led ∙ here_kept (s.keeps p) none
none_bad s zero p q (m ∷ ms) none led long = absurd (omega arith)
none_bad s (suc n) p q [] none led long = absurd (omega arith)
none_bad {P} {M} {O} s (suc n) p q (m ∷ ms) none led long =
    none_bad s n (s.after m p) q ms
    (map_none (λ (rest : List M). m ∷ rest) (bad_at s n (s.after m p)) (none_found (bad_after s n p) (s.moves p) m led.0 none)) led.1 (omega arith)

-- where none is found, each place that so many moves lead to keeps the rule
pub none_leads : {P M O : Type 0} (s : Steps P M O) (n : ℕ) (p q : P) (ms : List M) → first_bad s n p ≡ None → Leads s ms p q → length ms ≤ n → s.keeps q ≡ true
none_leads s zero p q ms none led within = none_bad s zero p q ms none led (omega arith)
none_leads s (suc n) p q ms none led within =
    let both = or_none (first_bad s n p) (bad_at s (suc n) p) none in
    elim (nat_eq (length ms) (suc n)) as (λ b. nat_eq (length ms) (suc n) ≡ b → s.keeps q ≡ true) [
      | true ↦ λ e. none_bad s (suc n) p q ms both.1 led (equal_numbers (length ms) (suc n) e)
      | false ↦ λ e. let other : length ms ≢ suc n = differ (length ms) (suc n) e in none_leads s n p q ms both.0 led (omega arith)
    ] refl

-- no path is longer than the moves go on
pub none_longer : {P M O : Type 0} (s : Steps P M O) (n : ℕ) (p q : P) (ms : List M) → goes_on s (suc n) p ≡ false → Leads s ms p q → length ms ≤ n
none_longer s n p q [] ends led = omega arith
none_longer {P} {M} {O} s zero p q (m ∷ ms) ends led =
    let none : true ≡ false = none_passes (λ (o : M). goes_on s zero (s.after o p)) (s.moves p) m led.0 ends in absurd (cc)
none_longer {P} {M} {O} s (suc n) p q (m ∷ ms) ends led =
    let rest : length ms ≤ n = none_longer s n (s.after m p) q ms (none_passes (λ (o : M). goes_on s (suc n) (s.after o p)) (s.moves p) m led.0 ends) led.1 in
    omega arith
