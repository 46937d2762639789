-- The latest writes: what a write more makes of them, the last of each key, and their keys.
use Rattle.std.proofs.Common.{◌≡◌, ℕ, List, [], ◌∷◌, ◌++◌, map, filter, Option, Some, None, Bool, true, false, cond, refl, sym, ◌∙◌, ap, subst, arith}
use Rattle.std.specs.Prelude.{bytes_eq, is_some, not, ◌&&◌}
use Rattle.std.proofs.lemmas.List.{map-append}
use Rattle.std.specs.List.{IsDistinct, AllByRecursion}
use Rattle.std.proofs.lemmas.Bool.Decides.{nat_tests}
use Rattle.stm_history.specs.declared.change.Change.{Change}
use Rattle.stm_history.specs.History.{key_of}
use Rattle.stm_program.specs.Writes.{last_write, is_written, latest_of, latest_after, latest_writes, each_once, LatestWritesAreLast}
use Rattle.stm_program.specs.Writes.{LatestWritesAreInOrder, LatestWritesAreDistinct}
use Rattle.stm_program.proofs.WriteLemmas.{bytes_eq-self, bytes_eq-same, bytes_eq-flip, last_write-is_of, last_write-none, last_write-more, last_write-append}
use Rattle.stm_program.proofs.WriteLemmas.{last_write-one, is_written-more, or_else}

-- ---- what stands for one write

-- the last write of a key among the later ones, or its first
abbrev last_among : Change → Option Change → Change
last_among w None = w
last_among w (Some x) = x

abbrev last_in : Change → List Change → Change
last_in w later = last_among w (last_write (key_of w) later)

last_in-is_of : (w : Change) (later : List Change) → key_of (last_in w later) ≡ key_of w
last_in-is_of w later = grind (arith, nat_tests, last_write-is_of, bytes_eq-same)

-- nothing where the key was written before, else its last write
latest_of-written : (w : Change) (earlier later : List Change) → is_written (key_of w) earlier ≡ true → latest_of earlier w later ≡ []
latest_of-written w earlier later h = rw h refl

latest_of-last : (w : Change) (found : Option Change) (earlier later : List Change) → is_written (key_of w) earlier ≡ false →
    last_write (key_of w) later ≡ found → latest_of earlier w later ≡ last_among w found ∷ []
latest_of-last w found earlier later h found_is = grind (arith, nat_tests)

latest_of-first : (w : Change) (earlier later : List Change) → is_written (key_of w) earlier ≡ false → latest_of earlier w later ≡ last_in w later ∷ []
latest_of-first w earlier later h = latest_of-last w (last_write (key_of w) later) earlier later h refl

latest_of-is : (w : Change) (earlier later : List Change) → latest_of earlier w later ≡ cond (is_written (key_of w) earlier) [] (last_in w later ∷ [])
latest_of-is w earlier later = grind (arith, nat_tests, latest_of-written, latest_of-first)

-- ---- a write more

-- a list of latest writes with one more write: it takes the place of its key's, or goes last
abbrev pub with_write : Change → List Change → List Change
with_write w [] = w ∷ []
with_write w (x ∷ xs) = cond (bytes_eq (key_of w) (key_of x)) (w ∷ xs) (x ∷ with_write w xs)

-- the writes of a list of which the first one is replaced
replaced : (w y : Change) (rest : List Change) → key_of y ≡ key_of w → with_write w (y ∷ rest) ≡ w ∷ rest
replaced w y rest same = grind (arith, nat_tests, bytes_eq-self)

added_to_none : (b : Bool) (w : Change) → cond b [] (w ∷ []) ++ [] ≡ cond b [] (with_write w [])
added_to_none b w = grind (arith, nat_tests)

-- one more write, where the first one of the list is the write x
AddedTo : Change → Change → List Change → List Change → List Change → Type 0
AddedTo w x earlier later rest =
    latest_of earlier x (later ++ w ∷ []) ++ cond (is_written (key_of w) (earlier ++ x ∷ [])) rest (with_write w rest)
    ≡ cond (is_written (key_of w) earlier) (latest_of earlier x later ++ rest) (with_write w (latest_of earlier x later ++ rest))

added_same : (w x : Change) (earlier later rest : List Change) (b : Bool) → key_of x ≡ key_of w → is_written (key_of w) earlier ≡ b
    → AddedTo w x earlier later rest
unfolding AddedTo
added_same w x earlier later rest b same written =
    grind (arith, nat_tests, is_written-more, bytes_eq-self, latest_of-written, last_write-more, latest_of-last, latest_of-first, replaced, last_in-is_of)

added_other : (w x : Change) (earlier later rest : List Change) (b : Bool) → bytes_eq (key_of x) (key_of w) ≡ false → is_written (key_of w) earlier ≡ b
    → AddedTo w x earlier later rest
unfolding AddedTo
added_other w x earlier later rest b other written = grind (arith, nat_tests, bytes_eq-flip, is_written-more, last_write-more, latest_of-is, last_in-is_of)

added_to : (w x : Change) (earlier later rest : List Change) → AddedTo w x earlier later rest
added_to w x earlier later rest = elim (bytes_eq (key_of x) (key_of w)) as (λ b. bytes_eq (key_of x) (key_of w) ≡ b → AddedTo w x earlier later rest) [
  | true ↦ λ e. added_same w x earlier later rest (is_written (key_of w) earlier) (bytes_eq-same (key_of x) (key_of w) e) refl
  | false ↦ λ e. added_other w x earlier later rest (is_written (key_of w) earlier) e refl
] refl

added : (w : Change) (earlier later : List Change) →
    latest_after earlier (later ++ w ∷ []) ≡ cond (is_written (key_of w) earlier) (latest_after earlier later) (with_write w (latest_after earlier later))
unfolding AddedTo
added w earlier [] = grind (arith, nat_tests, latest_of-is, last_write-none, added_to_none)
added w earlier (x ∷ later) = grind (arith, nat_tests, added_to, added w (earlier ++ x ∷ []) later)

pub latest_writes-none : latest_writes [] ≡ []
unfolding latest_writes
latest_writes-none = refl

-- one write more replaces its key's latest write, or is a new one at the end
pub latest_writes-more : (ws : List Change) (w : Change) → latest_writes (ws ++ w ∷ []) ≡ with_write w (latest_writes ws)
unfolding latest_writes
latest_writes-more ws w = grind (arith, nat_tests, added, last_write-none)

-- ---- the last of each key

none_of_none : (b : Bool) (o : Option Change) → o ≡ None → o ≡ cond b None o
none_of_none b o e = grind (arith, nat_tests)

later_or_none : (b : Bool) (found : Option Change) → or_else (cond b None found) None ≡ cond b None (or_else found None)
later_or_none b found = grind (arith, nat_tests)

-- what the latest writes that begin with those of w have of its key
of_key : (w : Change) (earlier later : List Change) (b : Bool) → is_written (key_of w) earlier ≡ b →
    last_write (key_of w) (latest_of earlier w later) ≡ cond b None (or_else (last_write (key_of w) later) (Some w))
of_key w earlier later b written = grind (arith, nat_tests, latest_of-written, last_write-none, latest_of-first, last_write-one, last_in-is_of, bytes_eq-self)

-- the last of the latest writes, where the first one of the list is the write w
IsLast : List ℕ → Change → List Change → List Change → Type 0
IsLast key w earlier later =
    or_else (cond (is_written key (earlier ++ w ∷ [])) None (last_write key later)) (last_write key (latest_of earlier w later))
    ≡ cond (is_written key earlier) None (or_else (last_write key later) (last_write key (w ∷ [])))

last_same : (w : Change) (earlier later : List Change) → IsLast (key_of w) w earlier later
unfolding IsLast
last_same w earlier later = grind (arith, nat_tests, is_written-more, bytes_eq-self, last_write-one, or_else, of_key)

last_other : (key : List ℕ) (w : Change) (earlier later : List Change) → bytes_eq (key_of w) key ≡ false → IsLast key w earlier later
unfolding IsLast
last_other key w earlier later other =
    grind (arith, nat_tests, is_written-more, last_write-one, last_in-is_of, latest_of-is, or_else, later_or_none, last_write-none)

is_last : (key : List ℕ) (w : Change) (earlier later : List Change) → IsLast key w earlier later
is_last key w earlier later = elim (bytes_eq (key_of w) key) as (λ b. bytes_eq (key_of w) key ≡ b → IsLast key w earlier later) [
  | true ↦ λ e. subst (λ k. IsLast k w earlier later) (bytes_eq-same (key_of w) key e) (last_same w earlier later)
  | false ↦ λ e. last_other key w earlier later e
] refl

last_of_latest : (key : List ℕ) (earlier later : List Change)
    → last_write key (latest_after earlier later) ≡ cond (is_written key earlier) None (last_write key later)
unfolding IsLast
last_of_latest key earlier [] = none_of_none (is_written key earlier) (last_write key []) (last_write-none key)
last_of_latest key earlier (w ∷ later) =
    last_write-append key (latest_of earlier w later) (latest_after (earlier ++ w ∷ []) later)
    ∙ ap (λ o. or_else o (last_write key (latest_of earlier w later))) (last_of_latest key (earlier ++ w ∷ []) later)
    ∙ is_last key w earlier later
    ∙ ap (cond (is_written key earlier) None) (sym (last_write-append key (w ∷ []) later))

pub latest_writes-last : LatestWritesAreLast
unfolding latest_writes
latest_writes-last ws key = last_of_latest key [] ws ∙ ap (λ (o : Option Change). cond (is_some o) None (last_write key ws)) (last_write-none key)

-- ---- their keys

filter-both : (p q r : List ℕ → Bool) → ((k : List ℕ) → r k ≡ (q k && p k)) → (ks : List (List ℕ)) → filter r ks ≡ filter p (filter q ks)
filter-both p q r e [] = refl
filter-both p q r e (k ∷ ks) = grind (arith, nat_tests, filter-both p q r e ks)

-- the keys of what stands for a write
key_in_front : (b : Bool) (w y : Change) (rest : List (List ℕ)) → key_of y ≡ key_of w
    → map key_of (cond b [] (y ∷ [])) ++ rest ≡ cond (not b) (key_of w ∷ rest) rest
key_in_front b w y rest same = grind (arith, nat_tests)

is_new : List Change → List ℕ → Bool
is_new earlier key = not (is_written key earlier)

new_after : (earlier : List Change) (w : Change) (key : List ℕ) → is_new (earlier ++ w ∷ []) key ≡ (not (bytes_eq (key_of w) key) && is_new earlier key)
unfolding is_new
new_after earlier w key = grind (arith, nat_tests, is_written-more)

keys_of_latest : (earlier later : List Change) → map key_of (latest_after earlier later) ≡ filter (is_new earlier) (each_once (map key_of later))
unfolding is_new
keys_of_latest earlier [] = refl
keys_of_latest earlier (w ∷ later) =
    grind (arith, nat_tests, is_new, map-append, filter-both, new_after, latest_of-is, key_in_front, last_in-is_of, keys_of_latest (earlier ++ w ∷ []) later)

filter-all : (p : List ℕ → Bool) → ((k : List ℕ) → p k ≡ true) → (ks : List (List ℕ)) → filter p ks ≡ ks
filter-all p all [] = refl
filter-all p all (k ∷ ks) = ap (λ b. cond b (k ∷ filter p ks) (filter p ks)) (all k) ∙ ap (λ rest. k ∷ rest) (filter-all p all ks)

pub latest_writes-in_order : LatestWritesAreInOrder
unfolding latest_writes is_new
latest_writes-in_order ws = grind (arith, nat_tests, keys_of_latest, filter-all, is_new, last_write-none)

-- ---- no key twice

all-filter : (p : List ℕ → Type 0) (q : List ℕ → Bool) (ks : List (List ℕ)) → AllByRecursion p ks → AllByRecursion p (filter q ks)
all-filter p q [] all = tt
all-filter p q (k ∷ ks) all = grind (arith, nat_tests, all-filter p q ks all.1)

others-differ : (p : List ℕ → Bool) (ks : List (List ℕ)) → AllByRecursion (λ k. p k ≡ false) (filter (λ k. not (p k)) ks)
others-differ p [] = tt
others-differ p (k ∷ ks) = grind (arith, nat_tests, others-differ p ks)

distinct-filter : (q : List ℕ → Bool) (ks : List (List ℕ)) → IsDistinct bytes_eq ks → IsDistinct bytes_eq (filter q ks)
unfolding IsDistinct
distinct-filter q [] distinct = tt
distinct-filter q (k ∷ ks) distinct = grind (arith, nat_tests, all-filter, distinct-filter q ks distinct.1)

each_once-distinct : (ks : List (List ℕ)) → IsDistinct bytes_eq (each_once ks)
unfolding IsDistinct
each_once-distinct [] = tt
each_once-distinct (k ∷ ks) =
    (others-differ (bytes_eq k) (each_once ks), distinct-filter (λ other. not (bytes_eq k other)) (each_once ks) (each_once-distinct ks))

pub latest_writes-distinct : LatestWritesAreDistinct
latest_writes-distinct ws = subst (IsDistinct bytes_eq) (sym (latest_writes-in_order ws)) (each_once-distinct (map key_of ws))
