-- How often each text came.
use Rattle.std.specs.Prelude.{◌≡◌, ◌≤◌, ℕ, List, All, count_by, sum, length, unwrap_or, bytes_eq}
use Rattle.std.specs.BTreeMap.{is_at}
use Rattle.std.specs.Map.{keys_of, lookup, values_of}
use Rattle.std.specs.List.Sorted.{IsStrictlySortedBy}
use Rattle.std.specs.Ordering.{nat_cmp}
use Rattle.std.specs.Cmp.Lexicographic.{slice_cmp}

-- texts, each with how often it came
abbrev pub Tally : Type 0
Tally = List (List ℕ × ℕ)

-- how often a text came, by the tally
abbrev pub times_in : Tally → List ℕ → ℕ
times_in tally text = unwrap_or (lookup (is_at (slice_cmp nat_cmp text)) tally) 0

-- The tally is that of these texts: each of them stands in it once, ascending by bytes, with how often it came, and the numbers add up to how many texts there
-- are.
pub record Counts (texts : List (List ℕ)) (tally : Tally) : Type 0 where
  pub ascending : IsStrictlySortedBy (slice_cmp nat_cmp) (keys_of tally)
  pub times : (text : List ℕ) → times_in tally text ≡ count_by (bytes_eq text) texts
  pub came : All (λ (n : ℕ). 1 ≤ n) (values_of tally)
  pub total : sum (values_of tally) ≡ length texts
