-- Whether a key was changed above a revision.
use Rattle.std.proofs.Common.{◌≡◌, ℕ, ◌||◌, List, [], ◌∷◌, is_some, refl, ap, ◌∙◌, arith}
use Rattle.std.specs.Prelude.{nat_lt}
use Rattle.std.proofs.lemmas.Bool.{cases_Bool, Decides.nat_tests}
use Rattle.stm_history.specs.declared.change.Change.{Change}
use Rattle.stm_history.specs.Opening.{Opening, opened_state}
use Rattle.stm_history.specs.History.{History, revisions_up_to, key_at, key_after, mod_of}
use Rattle.stm_history.proofs.HistoryLaws.{last_is_above}
use Rattle.stm_keys.specs.NextChange.{first_change, changes_key}
use Rattle.stm_compile.specs.Conflicts.{changes_above}

none_up_to : (opening : Opening) (revisions : List (List Change)) → revisions_up_to opening opening.number revisions ≡ []
none_up_to opening [] = refl
none_up_to opening (c ∷ revisions) = last_is_above opening opening.number c revisions (omega arith) ∙ none_up_to opening revisions

-- what a key is at the opening
pub at_the_opening : (h : History) (key : List ℕ) → key_at h key h.opening.number ≡ opened_state h.opening key
at_the_opening h key = ap (key_after h.opening key) (none_up_to h.opening h.revisions)

-- a change above a number is one that the state at the opening shows, or a later one
pub by_next : (opening : Opening) (since : ℕ) (key : List ℕ) (revisions : List (List Change)) →
    changes_above opening since key revisions
    ≡ (nat_lt since (mod_of (opened_state opening key)) || is_some (first_change opening since (changes_key key) revisions))
by_next opening since key [] = grind (arith, nat_tests, cases_Bool)
by_next opening since key (c ∷ revisions) = grind (arith, nat_tests, cases_Bool, by_next opening since key revisions)
