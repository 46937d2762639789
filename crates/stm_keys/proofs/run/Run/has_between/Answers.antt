use Rattle.std.proofs.Common.{◌≡◌, ◌∙◌, List, [], ℕ, ap, sym, subst, arith, rules, get_or, ⊎_elim}
use Rattle.std.specs.Ordering.{nat_cmp, is_lt}
use Rattle.std.specs.List.{list_any}
use Rattle.std.specs.List.Sorted.{IsSorted}
use Rattle.std.specs.Cmp.Lexicographic.{slice_cmp}
use Rattle.std.proofs.lemmas.Bool.{cases_Bool}
use Rattle.std.proofs.lemmas.List.{get_or_default}
use Rattle.std.proofs.lemmas.List.Sorted.{IsPartitionPoint-from_clause}
use Rattle.stm_keys.specs.NextChange.{is_between}
use Rattle.stm_keys.specs.Runs.{Run as Seen}
use Rattle.stm_keys.proofs.Ranges.{parted, none_between, one_between}
use Rattle.stm_keys.proofs.run.Run.has_between.Goals as goal

-- the key at the place is the first that is not before the range
pub returns-then-place-keys : goal.returns-then-place-keys
returns-then-place-keys c =
    let keys : List (List ℕ) = c.as_slice-keys.result.now in
    let place : ℕ = c.partition_point-place.result in
    let first : List ℕ = c.args.first.now in
    let end : List ℕ = c.args.end.now in
    let same : keys ≡ c.self.inside.keys.value.items = c.as_slice-keys.ensures.value ∙ ap (λ v. v.items) c.deref.ensures in
    let sorted : IsSorted (slice_cmp nat_cmp) keys = subst (IsSorted (slice_cmp nat_cmp)) (sym same) c.self.invariant in
    let cut = IsPartitionPoint-from_clause (λ key. is_lt (slice_cmp nat_cmp key first)) keys place c.partition_point-place.ensures.partitioned
    (parted (λ k. k) first keys sorted) (λ a r q k. search rules) in
    let told : (d : List ℕ) → is_lt (slice_cmp nat_cmp (get_or keys place d) end) ≡ c.is_lt.result = λ d.
    ap (λ key. is_lt (slice_cmp nat_cmp key end))
    (get_or_default keys place d c.index-keys-place.result c.if-place-keys.true ∙ sym c.index-keys-place.is ∙ sym c.text.ensures)
    ∙ ap is_lt (sym c.cmp.ensures) ∙ sym c.is_lt.ensures in
    ⊎_elim
    (λ before. before ∙ sym (one_between first end keys place sorted cut c.if-place-keys.true (told [] ∙ before)))
    (λ past. past ∙ sym (none_between first end keys place sorted cut (λ d within. told d ∙ past)))
    (cases_Bool c.is_lt.result)
    ∙ ap (list_any (is_between first end)) (same ∙ ap (λ (s : Seen). s.keys) c.self.view_is)

-- all keys are before the range
pub returns-else-place-keys : goal.returns-else-place-keys
returns-else-place-keys c =
    let keys : List (List ℕ) = c.as_slice-keys.result.now in
    let place : ℕ = c.partition_point-place.result in
    let first : List ℕ = c.args.first.now in
    let end : List ℕ = c.args.end.now in
    let same : keys ≡ c.self.inside.keys.value.items = c.as_slice-keys.ensures.value ∙ ap (λ v. v.items) c.deref.ensures in
    let sorted : IsSorted (slice_cmp nat_cmp) keys = subst (IsSorted (slice_cmp nat_cmp)) (sym same) c.self.invariant in
    sym (none_between first end keys place sorted
    (IsPartitionPoint-from_clause (λ key. is_lt (slice_cmp nat_cmp key first)) keys place c.partition_point-place.ensures.partitioned
    (parted (λ k. k) first keys sorted) (λ a r q k. search rules))
    (λ d within. absurd (omega (arith, within, c.if-place-keys.false))))
    ∙ ap (list_any (is_between first end)) (same ∙ ap (λ (s : Seen). s.keys) c.self.view_is)
