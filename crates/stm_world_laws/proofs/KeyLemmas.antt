-- What a commit leaves of a key, by the last write of the key.
use Rattle.std.proofs.Common.{◌≡◌, ℕ, ◌+◌, List, [], ◌∷◌, Option, Some, None, Bool, true, cond, sym, ◌∙◌, ap, subst, arith}
use Rattle.std.specs.Prelude.{bytes_eq}
use Rattle.std.proofs.lemmas.Bool.Decides.{nat_tests}
use Rattle.stm_history.specs.declared.change.Change.{Change}
use Rattle.stm_history.specs.History.{History, now, key_now, key_of, change_of, after_change, HasDistinctKeys}
use Rattle.stm_history.proofs.HistoryLaws.{one_more_revision}
use Rattle.stm_program.specs.Writes.{last_write, latest_writes}
use Rattle.stm_program.proofs.WriteLemmas.{bytes_eq-same, or_else, last_write-none, last_write-one, last_write-append}
use Rattle.stm_meaning.specs.Writes.{changes, effect}
use Rattle.stm_meaning.specs.EffectLaw.{kept_by}
use Rattle.stm_meaning.proofs.EffectLemmas.{effect_leaves_last_writes}
use Rattle.stm_outcome.specs.Outcome.{with_changes}
use Rattle.stm_outcome.specs.Commits.{effective}
use Rattle.stm_outcome.specs.Effect.{changes_something}
use Rattle.stm_compile.specs.Now.{is_present}
use Rattle.stm_compile.proofs.OutcomeLemmas.{applied_is_effect}
use Rattle.stm_entries.proofs.EffectLemmas.{latest_are_distinct}

-- ---- a key's change among the changes of writes

pub last_write-cons : (key : List ℕ) (w : Change) (ws : List Change) →
    last_write key (w ∷ ws) ≡ or_else (last_write key ws) (cond (bytes_eq (key_of w) key) (Some w) None)
last_write-cons key w ws = last_write-append key (w ∷ []) ws ∙ ap (λ o. or_else (last_write key ws) o) (last_write-one key w)

first_is_last : (here : Bool) (w : Change) (later : Option Change) → (here ≡ true → later ≡ None) →
    cond here (Some w) later ≡ or_else later (cond here (Some w) None)
first_is_last here w later alone = grind (arith, nat_tests, or_else)

-- where no key is changed twice, a key's change is its last write
change_is_last : (key : List ℕ) (ws : List Change) → HasDistinctKeys ws → change_of key ws ≡ last_write key ws
change_is_last key [] distinct = sym (last_write-none key)
change_is_last key (w ∷ ws) distinct =
    ap (λ o. cond (bytes_eq (key_of w) key) (Some w) o) (change_is_last key ws distinct.1)
    ∙ first_is_last (bytes_eq (key_of w) key) w (last_write key ws) (λ here.
    sym (change_is_last key ws distinct.1) ∙ ap (λ k. change_of k ws) (sym (bytes_eq-same (key_of w) key here)) ∙ distinct.0)
    ∙ sym (last_write-cons key w ws)

-- ---- a key after changes, and after a commit

after_changes : (h : History) (cs : List Change) (key : List ℕ) →
    key_now (with_changes h cs) key ≡ after_change (now h + 1) (change_of key cs) (key_now h key)
after_changes h cs key = grind (arith, nat_tests, one_more_revision)

-- the change of a key that its last write is
abbrev pub change_by : History → Option Change → Option Change
change_by h o = kept_by (changes (is_present h)) o

-- what the writes of a commit leave of a key
pub left_of_key : (h : History) (writes : List Change) (key : List ℕ) →
    key_now (with_changes h (effective h (latest_writes writes))) key
    ≡ after_change (now h + 1) (change_by h (last_write key writes)) (key_now h key)
left_of_key h writes key =
    let made : List Change = effective h (latest_writes writes) in
    let same : made ≡ effect (is_present h) writes = applied_is_effect h writes in
    let distinct : HasDistinctKeys (effect (is_present h) writes) =
    subst (λ (cs : List Change). HasDistinctKeys cs) same (latest_are_distinct (changes_something (key_now h)) writes) in
    after_changes h made key
    ∙ ap (λ (cs : List Change). after_change (now h + 1) (change_of key cs) (key_now h key)) same
    ∙ ap (λ (o : Option Change). after_change (now h + 1) o (key_now h key)) (change_is_last key (effect (is_present h) writes) distinct)
    ∙ ap (λ (o : Option Change). after_change (now h + 1) o (key_now h key)) (effect_leaves_last_writes (is_present h) writes key)
