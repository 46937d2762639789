-- A failed compare is a conflict.
use Rattle.std.proofs.Common.{◌≡◌, ◌⊎◌, inl, inr, ℕ, suc, zero, ◌<◌, ◌≤◌, List, [], ◌∷◌, ◌++◌, map, Bool, true, false, cond}
use Rattle.std.proofs.Common.{Option, Some, None, refl, sym, ◌∙◌, ap, arith}
use Rattle.std.specs.Prelude.{nat_lt, nat_le, is_some, ◌&&◌, ◌||◌, slice_get}
use Rattle.std.proofs.lemmas.Bool.{lt-ltb, ltb-true, ltb-false, leb-true, leb-false, or_right, Decides.nat_tests}
use Rattle.std.proofs.lemmas.Option.{same_Some}
use Rattle.stm_history.specs.declared.change.Change.{Change}
use Rattle.stm_history.specs.declared.key_state.KeyState.{KeyState}
use Rattle.stm_history.specs.declared.key_state.ReadAnswer.{ReadAnswer}
use Rattle.stm_history.specs.Opening.{Opening, opened_state}
use Rattle.stm_history.specs.History.{History, key_now, key_after, mod_of, number_of_last, change_of, revisions_up_to, after_change, IsTrueAnswer}
use Rattle.stm_history.proofs.HistoryLaws.{one_more, mod_is_reached}
use Rattle.stm_program.specs.declared.level.Level.TheVariants.{SerializableSnapshot, Serializable, RepeatableReads, ReadCommitted}
use Rattle.stm_outcome.specs.declared.txn.Compare.{Compare}
use Rattle.stm_outcome.specs.declared.answer.FailedCompare.{FailedCompare}
use Rattle.stm_outcome.specs.Compares.{holds}
use Rattle.stm_outcome.specs.Laws.{FailsAt}
use Rattle.stm_outcome.proofs.Applying.{failed_has_its_place}
use Rattle.stm_compile.specs.Answers.{AreTrue}
use Rattle.stm_compile.specs.CommitTxn.{first_carried, is_as_read, is_unmodified, compares_of}
use Rattle.stm_compile.specs.Conflicts.{changes_above, IsChangedAbove, Seen, seen_of_read, seen_of_write, seen_by, IsConflict}
use Rattle.stm_compile.specs.Laws.{FailedComparesConflict}

-- ---- a key that no revision above changes is what it was

no_change_of : (c : Option Change) → is_some c ≡ false → c ≡ None
no_change_of c e = grind (arith, nat_tests)

neither_above : (above changed deeper : Bool) → ((above && changed) || deeper) ≡ false → (above ≡ true → changed ≡ false) × (deeper ≡ false)
neither_above above changed deeper e = grind (arith, nat_tests)

pub unchanged_above : (opening : Opening) (r : ℕ) (key : List ℕ) (revisions : List (List Change)) → changes_above opening r key revisions ≡ false →
    key_after opening key (revisions_up_to opening r revisions) ≡ key_after opening key revisions
unchanged_above opening r key [] none = refl
unchanged_above opening r key (changes ∷ older) none =
    let number : ℕ = number_of_last opening (changes ∷ older) in
    let parts = neither_above (nat_lt r number) (is_some (change_of key changes)) (changes_above opening r key older) none in
    by (nat_le (number_of_last opening (changes ∷ older)) r) refl parts.0 (unchanged_above opening r key older parts.1)
  where
    by : (b : Bool) → nat_le (number_of_last opening (changes ∷ older)) r ≡ b →
        (nat_lt r (number_of_last opening (changes ∷ older)) ≡ true → is_some (change_of key changes) ≡ false) →
        key_after opening key (revisions_up_to opening r older) ≡ key_after opening key older →
        key_after opening key (cond b (changes ∷ older) (revisions_up_to opening r older)) ≡ key_after opening key (changes ∷ older)
    by true at quiet deeper = refl
    by false at quiet deeper =
        let number : ℕ = number_of_last opening (changes ∷ older) in
        let below : r < number = leb-false number r at in
        let absent : change_of key changes ≡ None = no_change_of (change_of key changes) (quiet (lt-ltb r number below)) in
        deeper ∙ sym (one_more opening key changes older ∙ ap (λ c. after_change number c (key_after opening key older)) absent)

-- ---- a key is modified at most where it is looked at

-- no later than at a revision, where what it was at the opening is so
pub mod_at_small : (opening : Opening) (r : ℕ) (key : List ℕ) (revisions : List (List Change)) → mod_of (opened_state opening key) ≤ r →
    mod_of (key_after opening key (revisions_up_to opening r revisions)) ≤ r
mod_at_small opening r key [] opened = opened
mod_at_small opening r key (changes ∷ older) opened = grind (arith, nat_tests, leb-true, mod_is_reached, mod_at_small opening r key older opened)

-- one more change, or none, of a key that is modified above a revision
either_above : (r number : ℕ) (change : Option Change) (before : Option KeyState) (deeper : Bool) → r < number →
    (r < mod_of before → deeper ≡ true) → r < mod_of (after_change number change before) → ((nat_lt r number && is_some change) || deeper) ≡ true
either_above r number change before deeper reached rest above = grind (arith, nat_tests, or_right, lt-ltb)

-- a modification revision is that of a revision, or of the state that the history opens with
modified_above : (opening : Opening) (r : ℕ) (key : List ℕ) (revisions : List (List Change)) → r < mod_of (key_after opening key revisions) →
    changes_above opening r key revisions ≡ true
modified_above opening r key [] above = lt-ltb r (mod_of (opened_state opening key)) above
modified_above opening r key (changes ∷ older) above = grind (arith, nat_tests, mod_is_reached, either_above, one_more, modified_above opening r key older)

-- ---- what a compare at a place is about

-- a compare of a key read, at its place
record IsOfRead (h : History) (c : Compare) (seen : Option Seen) : Type 0 where
  answer : ReadAnswer
  is_true : IsTrueAnswer h answer
  compares : c ≡ is_as_read answer
  stands : seen ≡ Some (seen_of_read answer)

record IsOfWrite (first : ℕ) (c : Compare) (seen : Option Seen) : Type 0 where
  write : Change
  compares : c ≡ is_unmodified first write
  stands : seen ≡ Some (seen_of_write first write)

of_write : (first : ℕ) (ws : List Change) (i : ℕ) (c : Compare) → slice_get (map (is_unmodified first) ws) i ≡ Some c →
    IsOfWrite first c (slice_get (map (seen_of_write first) ws) i)
of_write first [] i c at = absurd (cc)
of_write first (w ∷ ws) zero c at = record { write = w; compares = same_Some c (is_unmodified first w) (sym at); stands = refl }
of_write first (w ∷ ws) (suc i) c at = of_write first ws i c at

of_either : (h : History) (first : ℕ) (reads : List ReadAnswer) (ws : List Change) (i : ℕ) (c : Compare) → AreTrue h reads →
    slice_get (map is_as_read reads ++ map (is_unmodified first) ws) i ≡ Some c →
    IsOfRead h c (slice_get (map seen_of_read reads ++ map (seen_of_write first) ws) i)
    ⊎ IsOfWrite first c (slice_get (map seen_of_read reads ++ map (seen_of_write first) ws) i)
of_either h first [] ws i c t at = inr (of_write first ws i c at)
of_either h first (a ∷ reads) ws zero c t at = grind (arith, nat_tests, same_Some)
of_either h first (a ∷ reads) ws (suc i) c t at = of_either h first reads ws i c t.1 at

of_read : (h : History) (reads : List ReadAnswer) (more : List Seen) (i : ℕ) (c : Compare) → AreTrue h reads →
    slice_get (map is_as_read reads) i ≡ Some c → IsOfRead h c (slice_get (map seen_of_read reads ++ more) i)
of_read h [] more i c t at = absurd (cc)
of_read h (a ∷ reads) more zero c t at = record { answer = a; is_true = t.0; compares = same_Some c (is_as_read a) (sym at); stands = refl }
of_read h (a ∷ reads) more (suc i) c t at = of_read h reads more i c t.1 at

-- ---- a failed compare

read_changed : (h : History) (a : ReadAnswer) → IsTrueAnswer h a → holds (is_as_read a) (key_now h a.key) ≡ false → IsChangedAbove h a.of_rev a.key
read_changed h a t fails = grind (arith, nat_tests, unchanged_above)

read_conflicts : (h : History) (reads : List ReadAnswer) (ws : List Change) (failed : FailedCompare) (c : Compare) →
    holds c (key_now h c.key) ≡ false → failed.mod_rev ≡ mod_of (key_now h c.key) → IsOfRead h c (slice_get (seen_by reads ws) failed.index) →
    IsConflict h reads ws failed
read_conflicts h reads ws failed c fails reported of = grind (arith, nat_tests, read_changed)

write_conflicts : (h : History) (reads : List ReadAnswer) (ws : List Change) (failed : FailedCompare) (c : Compare) →
    holds c (key_now h c.key) ≡ false → failed.mod_rev ≡ mod_of (key_now h c.key) →
    IsOfWrite (first_carried reads) c (slice_get (seen_by reads ws) failed.index) → IsConflict h reads ws failed
write_conflicts h reads ws failed c fails reported of = grind (arith, nat_tests, modified_above, ltb-true, ltb-false)

either_conflicts : (h : History) (reads : List ReadAnswer) (ws : List Change) (failed : FailedCompare) (c : Compare) →
    holds c (key_now h c.key) ≡ false → failed.mod_rev ≡ mod_of (key_now h c.key) →
    IsOfRead h c (slice_get (seen_by reads ws) failed.index) ⊎ IsOfWrite (first_carried reads) c (slice_get (seen_by reads ws) failed.index) →
    IsConflict h reads ws failed
either_conflicts h reads ws failed c fails reported (inl of) = read_conflicts h reads ws failed c fails reported of
either_conflicts h reads ws failed c fails reported (inr of) = write_conflicts h reads ws failed c fails reported of

reads_conflict : (h : History) (reads : List ReadAnswer) (ws : List Change) (failed : FailedCompare) → AreTrue h reads →
    FailsAt (key_now h) (map is_as_read reads) failed → IsConflict h reads ws failed
reads_conflict h reads ws failed t f =
    read_conflicts h reads ws failed f.compare f.fails f.reported
    (of_read h reads (map (seen_of_write (first_carried reads)) ws) failed.index f.compare t f.stands)

pub failed_compares_conflict : FailedComparesConflict
failed_compares_conflict h SerializableSnapshot reads writes failed t found =
    let f = failed_has_its_place (key_now h) (compares_of SerializableSnapshot reads writes) failed found in
    either_conflicts h reads writes failed f.compare f.fails f.reported
    (of_either h (first_carried reads) reads writes failed.index f.compare t f.stands)
failed_compares_conflict h Serializable reads writes failed t found =
    reads_conflict h reads writes failed t (failed_has_its_place (key_now h) (map is_as_read reads) failed found)
failed_compares_conflict h RepeatableReads reads writes failed t found =
    reads_conflict h reads writes failed t (failed_has_its_place (key_now h) (map is_as_read reads) failed found)
failed_compares_conflict h ReadCommitted reads writes failed t found = absurd (cc)
