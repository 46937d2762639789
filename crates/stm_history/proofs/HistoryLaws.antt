-- The laws of histories, by induction on the revisions.
use Rattle.std.proofs.Common.{◌≡◌, ℕ, ◌≤◌, ◌<◌, Bool, true, false, List, [], ◌∷◌, Option, Some, None, refl, sym, ◌∙◌, ap, subst, arith}
use Rattle.std.proofs.Common.{cond, IfSome}
use Rattle.std.specs.Prelude.{nat_le}
use Rattle.std.proofs.lemmas.Bool.Decides.{nat_tests}
use Rattle.std.proofs.lemmas.Bool.{le-leb, lt-leb}
use Rattle.stm_history.specs.declared.change.Change.{Change}
use Rattle.stm_history.specs.declared.change.Change.TheVariants.{Put, Del}
use Rattle.stm_history.specs.declared.key_state.KeyState.{KeyState}
use Rattle.std.specs.Ordering.{nat_cmp}
use Rattle.std.specs.Cmp.Lexicographic.{slice_cmp}
use Rattle.std.specs.FinMap.{find}
use Rattle.stm_history.specs.Opening.{Opening, is_reached, if_reached, opened_state}
use Rattle.stm_history.specs.History.{History, Dated, DatedPut, number_of_last, revisions_up_to, changes_of, with_change, puts_since_deletion}
use Rattle.stm_history.specs.History.{state_before_puts, state_after_puts, state_after, key_after}
use Rattle.stm_history.specs.History.{key_at, now, mod_of, change_of, after_change, state_after_put}
use Rattle.stm_history.specs.Laws.{SameModMeansSameState, OlderRevisionsStay, OneMoreRevision, LastRevisionIsNow, NumbersStaySmall, AreSmallIn}

-- a put on top of the puts of a key
put_on_top : (n : ℕ) (value : List ℕ) (lease : ℕ) (before : Option KeyState) (puts : List DatedPut) →
    state_after_puts before (record { number = n; value = value; lease = lease } ∷ puts)
    ≡ Some (state_after_put n value lease (state_after_puts before puts))
put_on_top n value lease before puts = grind (arith, nat_tests)

-- one more change, or none, on top of the changes of a key
change_on_top : (n : ℕ) (c : Option Change) (opened : Option KeyState) (dated : List Dated) →
    state_after opened (with_change n c dated) ≡ after_change n c (state_after opened dated)
change_on_top n c opened dated = grind (arith, nat_tests, put_on_top)

pub one_more : (opening : Opening) (key : List ℕ) (changes : List Change) (older : List (List Change)) →
    key_after opening key (changes ∷ older) ≡ after_change (number_of_last opening (changes ∷ older)) (change_of key changes) (key_after opening key older)
one_more opening key changes older = grind (arith, nat_tests, change_on_top)

pub one_more_revision : OneMoreRevision
one_more_revision h changes key = one_more h.opening key changes h.revisions

-- the revisions up to a number that the last one doesn't pass are all of them
pub all_up_to : (opening : Opening) (r : ℕ) (revisions : List (List Change)) → number_of_last opening revisions ≤ r → revisions_up_to opening r revisions ≡ revisions
all_up_to opening r [] h = refl
all_up_to opening r (changes ∷ older) h = rw (le-leb (number_of_last opening (changes ∷ older)) r h) refl

-- the last revision is not among those up to a smaller number
pub last_is_above : (opening : Opening) (r : ℕ) (changes : List Change) (older : List (List Change)) → r < number_of_last opening (changes ∷ older) →
    revisions_up_to opening r (changes ∷ older) ≡ revisions_up_to opening r older
last_is_above opening r changes older h = rw (lt-leb (number_of_last opening (changes ∷ older)) r h) refl

pub last_revision_is_now : LastRevisionIsNow
last_revision_is_now h key r above = ap (λ l. key_after h.opening key l) (all_up_to h.opening r h.revisions above)

pub older_revisions_stay : OlderRevisionsStay
older_revisions_stay h changes key r below = grind (arith, nat_tests, last_is_above)

-- the numbers of a present key, in a history that has reached a number
pub record AreSmall (last : ℕ) (s : KeyState) : Type 0 where
  pub version : s.version ≤ last
  pub counted : 1 ≤ s.version
  pub modified : s.mod_rev ≤ last
  pub created : s.create_rev ≤ s.mod_rev
  pub above : 1 ≤ s.create_rev

abbrev pub SmallIfPresent : ℕ → Option KeyState → Type 0
SmallIfPresent last s = IfSome s (AreSmall last)

put_keeps_small : (last n : ℕ) (value : List ℕ) (lease : ℕ) (s : Option KeyState) → last < n → SmallIfPresent last s →
    AreSmall n (state_after_put n value lease s)
put_keeps_small last n value lease s less h = grind (arith, nat_tests)

pub stays_small : (last n : ℕ) (s : Option KeyState) → last ≤ n → SmallIfPresent last s → SmallIfPresent n s
stays_small last n s less h = grind (arith, nat_tests)

change_keeps_small : (last n : ℕ) (c : Option Change) (s : Option KeyState) → last < n → SmallIfPresent last s → SmallIfPresent n (after_change n c s)
change_keeps_small last n c s less h = grind (arith, nat_tests, stays_small, put_keeps_small)

-- what a test of a state's numbers says of them, and the other way round
reached_small : (number : ℕ) (s : KeyState) → is_reached number s ≡ true → AreSmall number s
reached_small number s is = grind (arith, nat_tests)

small_reached : (number : ℕ) (s : KeyState) → AreSmall number s → is_reached number s ≡ true
small_reached number s small = grind (arith, nat_tests)

-- what a key is at an opening has small numbers, and a state with small numbers can stand there
opened_small : (number : ℕ) (o : Option KeyState) → SmallIfPresent number (if_reached number o)
opened_small number o = grind (arith, nat_tests, reached_small)

pub small_opened : (number : ℕ) (o : Option KeyState) → SmallIfPresent number o → if_reached number o ≡ o
small_opened number o small = grind (arith, nat_tests, small_reached)

pub are_small : (opening : Opening) (key : List ℕ) (revisions : List (List Change)) →
    SmallIfPresent (number_of_last opening revisions) (key_after opening key revisions)
are_small opening key [] = grind (arith, nat_tests, stays_small, opened_small)
are_small opening key (changes ∷ older) = grind (arith, nat_tests, one_more, change_keeps_small, are_small opening key older)

-- the modification revision of a key is at most the last revision
pub mod_is_reached : (opening : Opening) (key : List ℕ) (revisions : List (List Change)) → mod_of (key_after opening key revisions) ≤ number_of_last opening revisions
mod_is_reached opening key revisions =
    elim (key_after opening key revisions) as (λ s. SmallIfPresent (number_of_last opening revisions) s → mod_of s ≤ number_of_last opening revisions) [
      | None ↦ λ _. omega arith
      | Some s ↦ λ h. h.modified
    ] (are_small opening key revisions)

-- a key whose modification revision is 0 is absent
pub absent_at_zero : (opening : Opening) (key : List ℕ) (revisions : List (List Change)) →
    mod_of (key_after opening key revisions) ≡ 0 → key_after opening key revisions ≡ None
absent_at_zero opening key revisions zero =
    elim (key_after opening key revisions) as (λ s. SmallIfPresent (number_of_last opening revisions) s → mod_of s ≡ 0 → s ≡ None) [
      | None ↦ λ _ _. refl
      | Some s ↦ λ h none. grind arith
    ] (are_small opening key revisions) zero

-- the revisions up to a number don't pass the last
pub up_to_is_reached : (opening : Opening) (r : ℕ) (revisions : List (List Change)) →
    number_of_last opening (revisions_up_to opening r revisions) ≤ number_of_last opening revisions
up_to_is_reached opening r [] = omega arith
up_to_is_reached opening r (changes ∷ older) = grind (arith, nat_tests, up_to_is_reached opening r older)

-- A change of the last revision either leaves the key, or gives it the new number, or deletes it. So a key
-- whose modification revision it leaves as it was somewhere before has the state that it had there.
same_after_change : (n older_last : ℕ) (c : Option Change) (before other : Option KeyState) → older_last < n →
    mod_of other ≤ older_last → (mod_of other ≡ 0 → other ≡ None) → (mod_of before ≡ mod_of other → before ≡ other) →
    mod_of (after_change n c before) ≡ mod_of other → after_change n c before ≡ other
same_after_change n older_last c before other above reached absent same equal = grind (arith, nat_tests)

-- a law about the revisions up to two numbers, in the four cases of whether the last one is among them
by_both : (P : List (List Change) → List (List Change) → Type 0) (all r_part s_part : List (List Change)) (b c : Bool) →
    P all all → P all s_part → P r_part all → P r_part s_part → P (cond b all r_part) (cond c all s_part)
by_both P all r_part s_part b c both left right neither = grind (arith, nat_tests)

-- equal modification revisions after two lists of revisions mean the same state
abbrev SameIfModIs : Opening → List ℕ → List (List Change) → List (List Change) → Type 0
SameIfModIs opening key a b =
    mod_of (key_after opening key a) ≡ mod_of (key_after opening key b) → key_after opening key a ≡ key_after opening key b

-- of the last revision and a part of the older ones
last_and_older : (opening : Opening) (key : List ℕ) (changes : List Change) (older : List (List Change)) (s : ℕ) →
    SameIfModIs opening key older (revisions_up_to opening s older) → SameIfModIs opening key (changes ∷ older) (revisions_up_to opening s older)
last_and_older opening key changes older s same equal = grind (arith, nat_tests, one_more, same_after_change, mod_is_reached, up_to_is_reached, absent_at_zero)

same_if_mod_is : (opening : Opening) (key : List ℕ) (revisions : List (List Change)) (r s : ℕ) →
    SameIfModIs opening key (revisions_up_to opening r revisions) (revisions_up_to opening s revisions)
same_if_mod_is opening key [] r s = λ equal. refl
same_if_mod_is opening key (changes ∷ older) r s =
    grind (arith, nat_tests, all_up_to, last_and_older, by_both, same_if_mod_is opening key older (number_of_last opening older) s, same_if_mod_is opening key older (number_of_last opening older) r, same_if_mod_is opening key older r s)

pub same_mod_means_same_state : SameModMeansSameState
same_mod_means_same_state h key r s = same_if_mod_is h.opening key h.revisions r s

-- fewer revisions make smaller numbers
small_in : (h : History) (last : ℕ) (s : Option KeyState) → last ≤ now h → SmallIfPresent last s → IfSome s (AreSmallIn h)
small_in h last s reached small = grind (arith, nat_tests)

pub numbers_stay_small : NumbersStaySmall
numbers_stay_small h key r =
    small_in h (number_of_last h.opening (revisions_up_to h.opening r h.revisions)) (key_at h key r)
    (up_to_is_reached h.opening r h.revisions)
    (are_small h.opening key (revisions_up_to h.opening r h.revisions))
