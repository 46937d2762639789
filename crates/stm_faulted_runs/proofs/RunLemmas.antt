-- The runs that events begin, one after another.
use Rattle.std.proofs.Common.{◌≡◌, ◌∙◌, ℕ, suc, ◌+◌, ◌<◌, ◌≤◌, List, ◌∷◌, ◌++◌, length, drop, get_or, sym, ap, append_assoc, append-nil, arith}
use Rattle.std.proofs.lemmas.List.{drop_more, drop_all}
use Rattle.stm_events.specs.declared.event.WorldEvent.{WorldEvent}
use Rattle.stm_faulted_runs.specs.Places.{Started, started_by, started_in}

-- the next event: its run stands after those so far
pub one_event : (all so_far new : List Started) (first i : ℕ) (events : List WorldEvent) (e : WorldEvent) → i < length events → e ≡ get_or events i e →
    so_far ++ started_in (first + i) (drop i events) ≡ all → new ≡ so_far ++ started_by (first + i) e →
    new ++ started_in (first + (i + 1)) (drop (i + 1) events) ≡ all
one_event all so_far new first i events e within is left added =
    let rest : List WorldEvent = drop (i + 1) events in
    let here : ℕ = first + i in
    let next : first + (i + 1) ≡ suc (first + i) = omega arith in
    ap (λ (rs : List Started). rs ++ started_in (first + (i + 1)) rest) added
    ∙ append_assoc so_far (started_by here e) (started_in (first + (i + 1)) rest)
    ∙ ap (λ (n : ℕ). so_far ++ (started_by here e ++ started_in n rest)) next
    ∙ ap (λ (es : List WorldEvent). so_far ++ started_in here es) (sym (drop_more events i e within ∙ ap (λ (x : WorldEvent). x ∷ rest) (sym is)))
    ∙ left

-- no event is left
pub no_event : (all so_far : List Started) (first i : ℕ) (events : List WorldEvent) → length events ≤ i →
    so_far ++ started_in (first + i) (drop i events) ≡ all → so_far ≡ all
no_event all so_far first i events past left =
    sym (append-nil so_far) ∙ ap (λ (es : List WorldEvent). so_far ++ started_in (first + i) es) (sym (drop_all i events past)) ∙ left
