-- One more event, and the events behind it.
use Rattle.std.proofs.Common.{◌≡◌, ◌++◌, ◌∷◌, ◌∙◌, ℕ, List, Bool, true, false, cond, sym, ap, append_assoc, codes}
use Rattle.stm_events.specs.declared.event.WorldEvent.{WorldEvent}
use Rattle.stm_show.specs.Events.{shown_event, steps_after, goes_on, shown_events}

-- what follows an event, by whether the next one stands in its line
abbrev following : ℕ → WorldEvent → List WorldEvent → Bool → List ℕ
following steps e es same = cond same (shown_events (steps_after steps e) es) (codes "\n" ++ shown_events 0 es)

pub same_line : (old new : List ℕ) (steps after : ℕ) (e : WorldEvent) (es : List WorldEvent) → new ≡ old ++ shown_event steps e
    → after ≡ steps_after steps e → goes_on after es ≡ true → new ++ shown_events after es ≡ old ++ shown_events steps (e ∷ es)
same_line old new steps after e es added is same =
    let here : true ≡ goes_on (steps_after steps e) es = sym (ap (λ n. goes_on n es) (sym is) ∙ same) in
    ap (λ t. t ++ shown_events after es) added
    ∙ append_assoc old (shown_event steps e) (shown_events after es)
    ∙ ap (λ n. old ++ (shown_event steps e ++ shown_events n es)) is
    ∙ ap (λ b. old ++ (shown_event steps e ++ following steps e es b)) here

pub next_line : (old between new : List ℕ) (steps after : ℕ) (e : WorldEvent) (es : List WorldEvent) → between ≡ old ++ shown_event steps e
    → new ≡ between ++ codes "\n" → after ≡ steps_after steps e → goes_on after es ≡ false → new ++ shown_events 0 es ≡ old ++ shown_events steps (e ∷ es)
next_line old between new steps after e es added ended is same =
    let here : false ≡ goes_on (steps_after steps e) es = sym (ap (λ n. goes_on n es) (sym is) ∙ same) in
    ap (λ t. t ++ shown_events 0 es) (ended ∙ ap (λ t. t ++ codes "\n") added)
    ∙ append_assoc (old ++ shown_event steps e) (codes "\n") (shown_events 0 es)
    ∙ append_assoc old (shown_event steps e) (codes "\n" ++ shown_events 0 es)
    ∙ ap (λ b. old ++ (shown_event steps e ++ following steps e es b)) here
