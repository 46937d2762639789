-- Counting texts, one after the other.
use Rattle.std.proofs.Common.{◌≡◌, ℕ, ◌+◌, ◌≤◌, Bool, true, false, List, [], ◌∷◌, ◌++◌, length, cond, Option, None, Some, unwrap_or, is_eq, nat_cmp}
use Rattle.std.proofs.Common.{refl, sym, ◌∙◌, ap, subst, arith, length-append}
use Rattle.std.specs.Prelude.{All, bytes_eq, option_map, sum}
use Rattle.std.specs.BTreeMap.{insert_entry, is_at}
use Rattle.std.specs.Cmp.Lexicographic.{slice_cmp, bytes_decides}
use Rattle.std.specs.List.Sorted.{IsStrictlySortedBy}
use Rattle.std.specs.Map.{keys_of, lookup, values_of}
use Rattle.std.proofs.lemmas.Cmp.{nat_list_cmp_total, nat_list_eq_equiv}
use Rattle.std.proofs.lemmas.List.Elements.{All-nil}
use Rattle.std.proofs.lemmas.List.Sums.{sum_by_push}
use Rattle.std.proofs.lemmas.Map.Entries.{sum_by-insert_entry}
use Rattle.std.proofs.lemmas.Map.Steps.{lookup-le-sum}
use Rattle.std.proofs.lemmas.Map.Text.{is_eq-slice_cmp}
use Rattle.std.proofs.lemmas.Map.Views.{All-values-insert_entry}
use Rattle.stm_job_texts.specs.Tallies.{Tally, Counts, times_in}

-- ---- texts

-- no text was counted
pub no_text : Counts [] []
unfolding IsStrictlySortedBy
no_text = record { ascending = tt; times = λ text. refl; came = All-nil (λ (n : ℕ). 1 ≤ n); total = refl }

abbrev found_in : Tally → List ℕ → Option ℕ
found_in tally q = lookup (is_at (slice_cmp nat_cmp q)) tally

-- a text did not come more often than there are texts
pub found_within : (tally : Tally) (q : List ℕ) (n : ℕ) → Some n ≡ found_in tally q → n ≤ sum (values_of tally)
found_within tally q n found =
    let low : unwrap_or (found_in tally q) 0 ≤ sum (values_of tally) = lookup-le-sum (is_at (slice_cmp nat_cmp q)) tally in
    subst (λ (o : Option ℕ). unwrap_or o 0 ≤ sum (values_of tally)) (sym found) low

module _ (before after : Tally) (text : List ℕ) (n : ℕ) (is : n ≡ times_in before text + 1) where
  -- how often a text came after one more: once more, if it is that one
  by_text : (q : List ℕ) (same : Bool) → bytes_eq q text ≡ same → unwrap_or (cond same (Some n) (found_in before q)) 0 ≡ times_in before q + cond same 1 0
  by_text q true same = is ∙ sym (ap (λ (t : List ℕ). times_in before t + 1) ((bytes_decides q text).0 same))
  by_text q false other = omega arith

  times_after : ((q : List ℕ) → found_in after q ≡ cond (is_eq (slice_cmp nat_cmp text q)) (Some n) (found_in before q)) → (q : List ℕ)
      → times_in after q ≡ times_in before q + cond (bytes_eq q text) 1 0
  times_after finds q =
      let same : is_eq (slice_cmp nat_cmp text q) ≡ bytes_eq q text = is_eq-slice_cmp text q ∙ nat_list_eq_equiv.symm text q in
      ap (λ (o : Option ℕ). unwrap_or o 0) (finds q)
      ∙ ap (λ (b : Bool). unwrap_or (cond b (Some n) (found_in before q)) 0) same
      ∙ by_text q (bytes_eq q text) refl

-- what an entry weighed that is found or not
weighed : (found : Option ℕ) → unwrap_or (option_map (λ (m : ℕ). m) found) 0 ≡ unwrap_or found 0
weighed None = refl
weighed (Some m) = refl

-- one more text was counted
pub one_more : (before after : Tally) (texts : List (List ℕ)) (text : List ℕ) (n : ℕ) → n ≡ times_in before text + 1
    → after ≡ insert_entry (slice_cmp nat_cmp) before text n
    → ((q : List ℕ) → found_in after q ≡ cond (is_eq (slice_cmp nat_cmp text q)) (Some n) (found_in before q))
    → IsStrictlySortedBy (slice_cmp nat_cmp) (keys_of after) → Counts texts before → Counts (texts ++ text ∷ []) after
one_more before after texts text n is inserted finds ascends counts = record {
  ascending = ascends;
  times = λ q.
      times_after before after text n is finds q ∙ ap (λ (m : ℕ). m + cond (bytes_eq q text) 1 0) (counts.times q)
      ∙ sym (sum_by_push (λ (t : List ℕ). cond (bytes_eq q t) 1 0) texts text);
  came = subst (λ (t : Tally). All (λ (m : ℕ). 1 ≤ m) (values_of t)) (sym inserted)
      (All-values-insert_entry (slice_cmp nat_cmp) text n (λ (m : ℕ). 1 ≤ m) before counts.came (omega (arith, is)));
  total =
      let added : sum (values_of (insert_entry (slice_cmp nat_cmp) before text n)) + unwrap_or (option_map (λ (m : ℕ). m) (found_in before text)) 0
      ≡ sum (values_of before) + n = sum_by-insert_entry (λ (m : ℕ). m) nat_list_cmp_total before text n counts.ascending in
      let all : sum (values_of after) ≡ sum (values_of (insert_entry (slice_cmp nat_cmp) before text n)) = ap (λ (t : Tally). sum (values_of t)) inserted in
      let old : unwrap_or (option_map (λ (m : ℕ). m) (found_in before text)) 0 ≡ times_in before text = weighed (found_in before text) in
      let long : length (texts ++ text ∷ []) ≡ length texts + 1 = length-append texts (text ∷ []) in
      let so_far = counts.total in omega (arith, added, all, old, long, so_far, is);
}
