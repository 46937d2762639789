use Rattle.std.proofs.Common.{◌≡◌, ◌+◌, ◌-◌, ◌<◌, ◌∙◌, ◌++◌, [], List, ℕ, length, map, get_or, sym, ap, subst, arith, ⊎_elim}
use Rattle.std.proofs.lemmas.Bool.{cases_lt}
use Rattle.std.proofs.lemmas.List.{get_or_default}
use Rattle.stm_keys.specs.declared.event.Event.{Event}
use Rattle.stm_keys.specs.Events.{key_of_event}
use Rattle.stm_keys.specs.Chains.{events_with}
use Rattle.stm_keys.specs.Runs.{HasKeysOf}
use Rattle.stm_keys.proofs.Ranges.{more_keys, own_keys}
use Rattle.stm_keys.proofs.run.sum_of.Goals as goal

pub revisions-preserved : goal.revisions-preserved
revisions-preserved c =
    let xs : List (List Event) = c.args.revisions.now.items in
    let keys : List (List ℕ) = c.revisions.keys.items in
    let events : List Event = c.as_slice.result.now in
    let place : ℕ = c.revisions.number - c.args.below in
    let within : place < length xs = omega (arith, c.revisions-test.true, c.requires, c.revisions.invariant.opened) in
    let there : (n : ℕ) → n ≡ c.revisions.number + 1 → events ≡ events_with c.args.below xs n = λ n is.
    let same : place ≡ n - c.args.below - 1 = omega arith in
    c.as_slice.ensures ∙ c.index.ensures ∙ get_or_default xs place c.index.result.now [] within ∙ ap (λ i. get_or xs i []) same in
    record {
      opened = omega (arith, c.revisions.invariant.opened);
      begun = omega (arith, c.revisions.invariant.begun);
      reported = λ number above from upto.
          subst (λ l. HasKeysOf l (events_with c.args.below xs number)) (sym c.in_ok-push_keys.ensures)
          (⊎_elim
          (λ less. more_keys keys (map key_of_event events) (events_with c.args.below xs number) (c.revisions.invariant.reported number above from (omega arith)))
          (λ last. subst (HasKeysOf (keys ++ map key_of_event events)) (there number (omega arith)) (own_keys keys events))
          (cases_lt number (c.revisions.number + 1)));
    }

pub returns : goal.returns
returns c =
    let xs : List (List Event) = c.args.revisions.now.items in
    let at : ℕ → List Event = events_with c.args.below xs in
    record {
      reached = omega (arith, c.in_ok-made.ensures.upto, c.requires);
      each = λ number above from upto passes none.
          c.revisions.invariant.reported number above (omega (arith, c.in_ok-made.ensures.from)) (omega (arith, c.in_ok-made.ensures.upto, c.revisions-test.false)) passes
          (sym (c.in_ok-made.ensures.keys passes) ∙ none);
    }
