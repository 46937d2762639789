use Rattle.std.proofs.Common.{◌≡◌, ◌≤◌, ◌<◌, ◌+◌, ◌∷◌, [], suc, ℕ, List, length, take, drop, drop-cons, arith, inl, inr, subst, sym}
use Rattle.std.proofs.Math.ListN.{drop_of_length-le}
use Rattle.std.proofs.lemmas.List.{take_all, take_more_set, drop-set-lt}
use Rattle.stm_watch.specs.declared.shelf.Shelf.{Shelf}
use Rattle.stm_watch.specs.Pages.{IsAny, IsShelved}
use Rattle.stm_watch.proofs.Entered.{any-left, any-right}
use Rattle.stm_watch.proofs.ranges.Ranges.wake_each.Goals as goal

pub loop-index-preserved : goal.loop-index-preserved
loop-index-preserved c =
    let i : ℕ = c.loop-index.index in
    let shelves : List Shelf = c.loop-index.self.shelves.items in
    let shelf : Shelf = c.wake_each.new.self in
    let below : i < length shelves = omega (arith, c.loop-index-test.true, c.len-index-end.ensures, c.loop-index.invariant.len, c.loop-index.self.shelves.ok.0) in
    let step : suc i ≡ i + 1 = omega arith in
    record {
      woken = λ old new e had.
          elim (c.loop-index.invariant.woken old new e had) [
            | inl done ↦ inl (subst (λ (l : List Shelf). IsAny (IsShelved new e) l) (sym (take_more_set shelves i shelf below))
                (any-left (IsShelved new e) (take i shelves) (shelf ∷ []) done))
            | inr left ↦ elim (subst (λ (l : List Shelf). IsAny (IsShelved old e) l) (drop-cons shelves i c.index_mut.result.now below) left) [
              | inl here ↦ inl (subst (λ (l : List Shelf). IsAny (IsShelved new e) l) (sym (take_more_set shelves i shelf below))
                  (any-right (IsShelved new e) (take i shelves) (shelf ∷ [])
                  (inl (c.wake_each.ensures old new e (subst (IsShelved old e) (sym c.index_mut.ensures.value) here)))))
              | inr there ↦ inr (subst (λ (l : List Shelf). IsAny (IsShelved old e) l) (sym (drop-set-lt (i + 1) shelves i shelf (omega arith)))
                  (subst (λ (n : ℕ). IsAny (IsShelved old e) (drop n shelves)) step there))
            ]
          ];
      len = c.loop-index.invariant.len;
    }

pub returns : goal.returns
returns c old new e had =
    let shelves : List Shelf = c.loop-index.self.shelves.items in
    let past : length shelves ≤ c.loop-index.index = omega
    (arith, c.loop-index-test.false, c.len-index-end.ensures, c.loop-index.invariant.len, c.loop-index.self.shelves.ok.0) in
    elim (c.loop-index.invariant.woken old new e had) [
      | inl done ↦ subst (λ (l : List Shelf). IsAny (IsShelved new e) l) (take_all c.loop-index.index shelves past) done
      | inr left ↦ absurd (subst (λ (l : List Shelf). IsAny (IsShelved old e) l) (drop_of_length-le shelves past) left)
    ]
