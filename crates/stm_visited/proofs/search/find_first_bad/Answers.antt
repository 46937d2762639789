use Rattle.std.proofs.Common.{◌≡◌, ◌⊎◌, ◌+◌, ◌≤◌, ℕ, suc, sym, ap, ◌∙◌, subst, List, Option, None, length, get_or, map, is_some, true, false, refl, inl, inr, arith}
use Rattle.std.specs.List.{list_all}
use Rattle.std.specs.Option.{option_or}
use Rattle.stm_visited.specs.declared.breaks.Ending.TheVariants as ending
use Rattle.stm_visited.specs.declared.visited.Visited.{Visited}
use Rattle.stm_visited.specs.Answers.{EachIs, IsVisited, OpenIsSpent, OpenIsFar, answer_of}
use Rattle.stm_visited.specs.Layers.{Reached, StandFor, bad_among, on_among, moved_from_each}
use Rattle.stm_visited.specs.Search.{count_up_to}
use Rattle.stm_visited.proofs.SearchLemmas.{known_at_start, known_next, come_to_start, went_on, always_kept, open_at, over_at_start, over_next, longest_next, nothing_there}
use Rattle.stm_visited.proofs.SearchLemmas.{always_spent, always_far, open_far, far_on, far_open, far_without}
use Rattle.stm_visited.proofs.search.find_first_bad.Goals as goal

-- ---- no move is made

pub returns-then-over-clause-visited : goal.returns-then-over-clause-visited
returns-then-over-clause-visited g c =
    let s = g.S.System.steps c.args.system.now in
    let known = known_at_start s c.args.start c.in_ok-layer.layer.items c.in_ok-founds.founds.items c.in_ok-layer.ensures
    (subst (λ (rs : List (Reached g.row.S-Place.Denot g.row.S-Move.Denot)). EachIs (λ n found. found ≡ bad_among (s n) 0 rs) c.in_ok-founds.founds.items)
    c.as_slice.ensures.value c.in_ok-founds.ensures.found) in
    let over = over_at_start s c.args.start c.in_ok-layer.layer.items c.in_ok-founds.founds.items c.in_ok-layer.ensures
    (subst (λ (rs : List (Reached g.row.S-Place.Denot g.row.S-Move.Denot)). (list_all is_some c.in_ok-founds.founds.items ≡ true) ⊎ ((n : ℕ) → on_among (s n) 1 rs ≡ false))
    c.as_slice-3.ensures.value
    (subst (λ (fs : List (Option (List g.row.S-Move.Denot))). (list_all is_some fs ≡ true) ⊎ ((n : ℕ) → on_among (s n) 1 c.as_slice-3.result.now ≡ false))
    c.as_slice-2.ensures.value (c.in_ok-over.ensures.over c.if-over.true))) in
    subst (λ (all : List (Visited g.row.S-Move.Denot)). EachIs (λ n. IsVisited (s n) c.args.start) all)
    (sym (c.in_ok-answers.ensures ∙ ap (map (answer_of (ending.Always 0))) c.as_slice-then-over.ensures.value))
    (always_kept s c.args.start 0 c.in_ok-founds.founds.items known (λ n. refl) over)

pub returns-then-over-clause-spent : goal.returns-then-over-clause-spent
returns-then-over-clause-spent g c =
    subst (λ (all : List (Visited g.row.S-Move.Denot)). EachIs (λ n. OpenIsSpent c.args.budget.now.left) all) (sym c.in_ok-answers.ensures)
    (always_spent c.args.budget.now.left 0 c.as_slice-then-over.result.now)

pub returns-then-over-clause-far : goal.returns-then-over-clause-far
returns-then-over-clause-far g c =
    let s = g.S.System.steps c.args.system.now in
    subst (λ (all : List (Visited g.row.S-Move.Denot)). EachIs (λ n. OpenIsFar (s n) c.args.start c.args.budget.now.left) all) (sym c.in_ok-answers.ensures)
    (always_far s c.args.start c.args.budget.now.left 0 c.as_slice-then-over.result.now)

pub loop-kept-init : goal.loop-kept-init
loop-kept-init g c =
    let s = g.S.System.steps c.args.system.now in
    record {
      come = come_to_start s c.args.start c.in_ok-layer.layer.items c.in_ok-layer.ensures
          (λ n. subst (λ (rs : List (Reached g.row.S-Place.Denot g.row.S-Move.Denot)). on_among (s n) 1 rs ≡ true) c.as_slice-3.ensures.value
          (c.in_ok-over.ensures.on c.if-over.false n));
      known = known_at_start s c.args.start c.in_ok-layer.layer.items c.in_ok-founds.founds.items c.in_ok-layer.ensures
          (subst (λ (rs : List (Reached g.row.S-Place.Denot g.row.S-Move.Denot)). EachIs (λ n found. found ≡ bad_among (s n) 0 rs) c.in_ok-founds.founds.items)
          c.as_slice.ensures.value c.in_ok-founds.ensures.found);
      each = c.in_ok-founds.ensures.each;
      within = omega arith;
      made = λ n. omega arith;
    }

-- ---- one layer more

pub returns-then-over-2-clause-visited : goal.returns-then-over-2-clause-visited
returns-then-over-2-clause-visited g c =
    let s = g.S.System.steps c.args.system.now in
    let come = c.loop-kept.invariant.come in
    let stand : ((n : ℕ) → StandFor g.row.S-Place.Denot g.row.S-Move.Denot g.row.S-Shown.Denot (s n) c.in-Ok.next.items (moved_from_each (s n) c.loop-kept.layer.items)) =
    c.in-Ok.ensures.stand in
    let known = known_next s c.args.start c.loop-kept.kept c.loop-kept.layer.items c.in-Ok.next.items c.loop-kept.founds.items c.in_ok-founds-in-Ok.founds.items
    (c.in_ok-founds-in-Ok.ensures.each ∙ ap length c.as_slice-in-Ok.ensures.value) come stand c.loop-kept.invariant.known
    (subst (λ (rs : List (Reached g.row.S-Place.Denot g.row.S-Move.Denot)). EachIs (λ n found. found ≡ option_or (get_or c.loop-kept.founds.items n None) (bad_among (s n) 0 rs)) c.in_ok-founds-in-Ok.founds.items)
    c.as_slice-in-Ok-2.ensures.value
    (subst (λ (fs : List (Option (List g.row.S-Move.Denot))). EachIs (λ n found. found ≡ option_or (get_or fs n None) (bad_among (s n) 0 c.as_slice-in-Ok-2.result.now)) c.in_ok-founds-in-Ok.founds.items)
    c.as_slice-in-Ok.ensures.value c.in_ok-founds-in-Ok.ensures.found)) in
    let over = over_next s c.args.start c.loop-kept.kept c.loop-kept.layer.items c.in-Ok.next.items c.in_ok-founds-in-Ok.founds.items come stand
    (subst (λ (rs : List (Reached g.row.S-Place.Denot g.row.S-Move.Denot)). (list_all is_some c.in_ok-founds-in-Ok.founds.items ≡ true) ⊎ ((n : ℕ) → on_among (s n) 1 rs ≡ false))
    c.as_slice-in-Ok-4.ensures.value
    (subst (λ (fs : List (Option (List g.row.S-Move.Denot))). (list_all is_some fs ≡ true) ⊎ ((n : ℕ) → on_among (s n) 1 c.as_slice-in-Ok-4.result.now ≡ false))
    c.as_slice-in-Ok-3.ensures.value (c.in_ok-over-in-Ok.ensures.over c.if-over-2.true))) in
    subst (λ (all : List (Visited g.row.S-Move.Denot)). EachIs (λ n. IsVisited (s n) c.args.start) all)
    (sym (c.in_ok-answers-in-Ok.ensures ∙ ap (map (answer_of (ending.Always (c.loop-kept.kept + 1)))) c.as_slice-then-over-2.ensures.value))
    (always_kept s c.args.start (c.loop-kept.kept + 1) c.in_ok-founds-in-Ok.founds.items known (longest_next s c.args.start c.loop-kept.kept c.loop-kept.layer.items come) over)

pub returns-then-over-2-clause-spent : goal.returns-then-over-2-clause-spent
returns-then-over-2-clause-spent g c =
    subst (λ (all : List (Visited g.row.S-Move.Denot)). EachIs (λ n. OpenIsSpent c.next_layer.new.budget.left) all) (sym c.in_ok-answers-in-Ok.ensures)
    (always_spent c.next_layer.new.budget.left (c.loop-kept.kept + 1) c.as_slice-then-over-2.result.now)

pub returns-then-over-2-clause-far : goal.returns-then-over-2-clause-far
returns-then-over-2-clause-far g c =
    let s = g.S.System.steps c.args.system.now in
    subst (λ (all : List (Visited g.row.S-Move.Denot)). EachIs (λ n. OpenIsFar (s n) c.args.start c.args.budget.now.left) all) (sym c.in_ok-answers-in-Ok.ensures)
    (always_far s c.args.start c.args.budget.now.left (c.loop-kept.kept + 1) c.as_slice-then-over-2.result.now)

pub loop-kept-preserved : goal.loop-kept-preserved
loop-kept-preserved g c =
    let s = g.S.System.steps c.args.system.now in
    let come = c.loop-kept.invariant.come in
    let stand : ((n : ℕ) → StandFor g.row.S-Place.Denot g.row.S-Move.Denot g.row.S-Shown.Denot (s n) c.in-Ok.next.items (moved_from_each (s n) c.loop-kept.layer.items)) =
    c.in-Ok.ensures.stand in
    let on : ((n : ℕ) → on_among (s n) 1 c.in-Ok.next.items ≡ true) =
    (λ n. subst (λ (rs : List (Reached g.row.S-Place.Denot g.row.S-Move.Denot)). on_among (s n) 1 rs ≡ true) c.as_slice-in-Ok-4.ensures.value
    (c.in_ok-over-in-Ok.ensures.on c.if-over-2.false n)) in
    record {
      come = went_on s c.args.start c.loop-kept.kept c.loop-kept.layer.items c.in-Ok.next.items come stand on;
      known = known_next s c.args.start c.loop-kept.kept c.loop-kept.layer.items c.in-Ok.next.items c.loop-kept.founds.items c.in_ok-founds-in-Ok.founds.items
          (c.in_ok-founds-in-Ok.ensures.each ∙ ap length c.as_slice-in-Ok.ensures.value) come stand c.loop-kept.invariant.known
          (subst (λ (rs : List (Reached g.row.S-Place.Denot g.row.S-Move.Denot)). EachIs (λ n found. found ≡ option_or (get_or c.loop-kept.founds.items n None) (bad_among (s n) 0 rs)) c.in_ok-founds-in-Ok.founds.items)
          c.as_slice-in-Ok-2.ensures.value
          (subst (λ (fs : List (Option (List g.row.S-Move.Denot))). EachIs (λ n found. found ≡ option_or (get_or fs n None) (bad_among (s n) 0 c.as_slice-in-Ok-2.result.now)) c.in_ok-founds-in-Ok.founds.items)
          c.as_slice-in-Ok.ensures.value c.in_ok-founds-in-Ok.ensures.found));
      each = c.in_ok-founds-in-Ok.ensures.each ∙ ap length c.as_slice-in-Ok.ensures.value ∙ c.loop-kept.invariant.each;
      within = elim c.in-Ok.ensures.taken [
        | inl nothing ↦ absurd (let none = nothing_there (s 0) c.in-Ok.next.items nothing in let some = on 0 in cc)
        | inr less ↦ omega (arith, c.loop-kept.invariant.within)
      ];
      made = λ n. far_on (s n) c.args.start c.loop-kept.kept c.loop-kept.layer.items _ _ _ (come n) (c.loop-kept.invariant.made n)
          (c.next_layer.ensures.made n);
    }

-- ---- the budget is used up

pub returns-in-Err-Spent-clause-visited : goal.returns-in-Err-Spent-clause-visited
returns-in-Err-Spent-clause-visited g c =
    let s = g.S.System.steps c.args.system.now in
    subst (λ (all : List (Visited g.row.S-Move.Denot)). EachIs (λ n. IsVisited (s n) c.args.start) all)
    (sym (c.in_ok-answers-in-Err-Spent.ensures ∙ ap (map (answer_of (ending.Open c.loop-kept.kept))) c.as_slice-in-Err-Spent.ensures.value))
    (open_at s c.args.start c.loop-kept.kept c.loop-kept.layer.items c.loop-kept.founds.items c.loop-kept.invariant.known c.loop-kept.invariant.come)

pub returns-in-Err-Spent-clause-far : goal.returns-in-Err-Spent-clause-far
returns-in-Err-Spent-clause-far g c =
    let s = g.S.System.steps c.args.system.now in
    subst (λ (all : List (Visited g.row.S-Move.Denot)). EachIs (λ n. OpenIsFar (s n) c.args.start c.args.budget.now.left) all) (sym c.in_ok-answers-in-Err-Spent.ensures)
    (open_far s c.args.start c.args.budget.now.left c.loop-kept.kept c.as_slice-in-Err-Spent.result.now
    (λ n. far_open (s n) c.args.start c.loop-kept.kept c.loop-kept.layer.items _ _ _ (c.loop-kept.invariant.come n) (c.loop-kept.invariant.made n)
    (c.next_layer.ensures.made n) (c.in-Err-Spent.ensures.spent (cc))))

pub returns-clause-visited : goal.returns-clause-visited
returns-clause-visited g c =
    let s = g.S.System.steps c.args.system.now in
    let all : c.loop-kept.kept ≡ c.args.budget.now.left = omega arith in
    subst (λ (answers : List (Visited g.row.S-Move.Denot)). EachIs (λ n. IsVisited (s n) c.args.start) answers)
    (sym (c.in_ok-answers-2.ensures ∙ ap (map (answer_of (ending.Open c.args.budget.now.left))) c.as_slice-4.ensures.value))
    (subst (λ k. EachIs (λ n. IsVisited (s n) c.args.start) (map (answer_of (ending.Open k)) c.loop-kept.founds.items)) all
    (open_at s c.args.start c.loop-kept.kept c.loop-kept.layer.items c.loop-kept.founds.items c.loop-kept.invariant.known c.loop-kept.invariant.come))

pub returns-clause-far : goal.returns-clause-far
returns-clause-far g c =
    let s = g.S.System.steps c.args.system.now in
    let all : c.loop-kept.kept ≡ c.args.budget.now.left = omega arith in
    let none : c.loop-kept.budget.left ≡ 0 = omega (arith, c.loop-kept.invariant.within) in
    subst (λ (answers : List (Visited g.row.S-Move.Denot)). EachIs (λ n. OpenIsFar (s n) c.args.start c.args.budget.now.left) answers) (sym c.in_ok-answers-2.ensures)
    (open_far s c.args.start c.args.budget.now.left c.args.budget.now.left c.as_slice-4.result.now
    (λ n. subst (λ k. c.args.budget.now.left ≤ count_up_to (s n) (suc k) c.args.start) all (far_without (s n) c.args.start _ _ _ (c.loop-kept.invariant.made n) none)))
