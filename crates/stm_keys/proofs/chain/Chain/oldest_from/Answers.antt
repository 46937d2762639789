use Rattle.std.proofs.Common.{◌≡◌, ◌<◌, ◌≤◌, ◌∙◌, sym, ap, map, subst, arith, rules, ltb, true, false, List, ℕ, length, reverse}
use Rattle.std.specs.List.Sorted.{IsNonDecreasing, IsNonDecreasingBy, IsPartitionPoint}
use Rattle.std.proofs.lemmas.List.{reverse-reverse, length-map, get_or-map}
use Rattle.std.proofs.lemmas.List.Sorted.{IsPartitionPoint-from_clause, IsPartitionedBy-ltb}
use Rattle.stm_keys.specs.declared.chain.Version.{Version}
use Rattle.stm_keys.specs.Chains.{Chain, oldest_from, number_of}
use Rattle.stm_keys.proofs.Versions.{rising_by, cut_by}
use Rattle.stm_keys.proofs.Later.{none_from, one_from}
use Rattle.stm_keys.proofs.chain.Chain.oldest_from.Goals as goal

pub returns-then-older-len : goal.returns-then-older-len
returns-then-older-len c =
    let xs : List Version = c.self.inside.versions.items in
    let bound : ℕ = c.args.bound in
    let found : ℕ = c.partition_point-older.result in
    let long : found ≤ length xs = omega (arith, c.partition_point-older.ensures.bound, c.self.inside.versions.ok.0) in
    let rising : IsNonDecreasingBy number_of xs =
    rising_by number_of xs (subst IsNonDecreasing (reverse-reverse (map number_of xs))
    (subst (λ (v : Chain). IsNonDecreasing (reverse v.versions.numbers)) (sym c.self.view_is) c.requires)) in
    let point : IsPartitionPoint (λ y. ltb (number_of y) bound ≡ true) (λ y. ltb (number_of y) bound ≡ false) xs found =
    IsPartitionPoint-from_clause (λ y. ltb (number_of y) bound) xs found c.partition_point-older.ensures.partitioned
    (IsPartitionedBy-ltb number_of xs bound rising) (λ a r q k. search rules) in
    let cut : IsPartitionPoint (λ y. ltb y bound ≡ true) (λ y. ltb y bound ≡ false) (map number_of xs) found = cut_by number_of xs bound found long point in
    none_from (map number_of xs) bound found
    (omega (arith, length-map xs number_of, c.if-older-len.true, c.len.ensures, c.self.inside.versions.ok.0)) cut
    ∙ ap (λ (v : Chain). oldest_from bound v.versions.numbers) c.self.view_is

pub returns : goal.returns
returns c =
    let xs : List Version = c.self.inside.versions.items in
    let bound : ℕ = c.args.bound in
    let found : ℕ = c.partition_point-older.result in
    let long : found ≤ length xs = omega (arith, c.partition_point-older.ensures.bound, c.self.inside.versions.ok.0) in
    let rising : IsNonDecreasingBy number_of xs =
    rising_by number_of xs (subst IsNonDecreasing (reverse-reverse (map number_of xs))
    (subst (λ (v : Chain). IsNonDecreasing (reverse v.versions.numbers)) (sym c.self.view_is) c.requires)) in
    let point : IsPartitionPoint (λ y. ltb (number_of y) bound ≡ true) (λ y. ltb (number_of y) bound ≡ false) xs found =
    IsPartitionPoint-from_clause (λ y. ltb (number_of y) bound) xs found c.partition_point-older.ensures.partitioned
    (IsPartitionedBy-ltb number_of xs bound rising) (λ a r q k. search rules) in
    let cut : IsPartitionPoint (λ y. ltb y bound ≡ true) (λ y. ltb y bound ≡ false) (map number_of xs) found = cut_by number_of xs bound found long point in
    let within : found < length xs = omega (arith, c.if-older-len.false, c.len.ensures, c.self.inside.versions.ok.0) in
    one_from (map number_of xs) bound found (number_of c.index.result.now) (omega (arith, within, length-map xs number_of))
    (ap number_of c.index.ensures ∙ sym (get_or-map number_of xs found c.index.result.now 0 within)) cut
    ∙ ap (λ (v : Chain). oldest_from bound v.versions.numbers) c.self.view_is
