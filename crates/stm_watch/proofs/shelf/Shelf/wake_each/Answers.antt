use Rattle.std.proofs.Common.{◌≡◌, ◌≤◌, ◌<◌, ◌+◌, ◌∷◌, [], suc, ℕ, List, length, take, drop, drop-cons, arith, inl, inr, refl, subst, sym}
use Rattle.std.proofs.Math.ListN.{drop_of_length-le}
use Rattle.std.proofs.lemmas.List.{take_all, take_more_set, drop-set-lt}
use Rattle.stm_watch.specs.declared.page.Page.{Page}
use Rattle.stm_watch.specs.Pages.{StandsOn, HasEntry}
use Rattle.stm_watch.proofs.Entered.{any-left, any-right, unsettled_shelf, unsettled}
use Rattle.stm_watch.proofs.shelf.Shelf.wake_each.Goals as goal

pub loop-index-preserved : goal.loop-index-preserved
loop-index-preserved c =
    let i : ℕ = c.loop-index.index in
    let pages : List Page = c.loop-index.self.pages.items in
    let was : Page = c.index_mut.result.now in
    let page : Page = record { reach = record { bounds = was.reach.bounds; until = 0 }; entries = was.entries } in
    let below : i < length pages = omega (arith, c.loop-index-test.true, c.len-index-end.ensures, c.loop-index.invariant.len, c.loop-index.self.pages.ok.0) in
    let step : suc i ≡ i + 1 = omega arith in
    record {
      woken = λ old new e has.
          elim (c.loop-index.invariant.woken old new e has) [
            | inl done ↦ inl (subst (λ (l : List Page). HasEntry new l e) (sym (take_more_set pages i page below))
                (any-left (StandsOn new e) (take i pages) (page ∷ []) done))
            | inr left ↦ elim (subst (λ (l : List Page). HasEntry old l e) (drop-cons pages i was below) left) [
              | inl here ↦ inl (subst (λ (l : List Page). HasEntry new l e) (sym (take_more_set pages i page below))
                  (any-right (StandsOn new e) (take i pages) (page ∷ [])
                  (inl (unsettled new e page refl (subst (StandsOn old e) (sym c.index_mut.ensures.value) here).there))))
              | inr there ↦ inr (subst (λ (l : List Page). HasEntry old l e) (sym (drop-set-lt (i + 1) pages i page (omega arith)))
                  (subst (λ (n : ℕ). HasEntry old (drop n pages) e) step there))
            ]
          ];
      len = c.loop-index.invariant.len;
    }

pub returns : goal.returns
returns c old new e had =
    let pages : List Page = c.loop-index.self.pages.items in
    let past : length pages ≤ c.loop-index.index = omega
    (arith, c.loop-index-test.false, c.len-index-end.ensures, c.loop-index.invariant.len, c.loop-index.self.pages.ok.0) in
    unsettled_shelf new e _ refl (elim (c.loop-index.invariant.woken old new e had.there) [
      | inl done ↦ subst (λ (l : List Page). HasEntry new l e) (take_all c.loop-index.index pages past) done
      | inr left ↦ absurd (subst (λ (l : List Page). HasEntry old l e) (drop_of_length-le pages past) left)
    ])
