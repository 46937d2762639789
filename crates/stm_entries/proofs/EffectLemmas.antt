-- The latest writes change no key twice, nor do those of them that change something.
use Rattle.std.proofs.Common.{◌≡◌, ℕ, List, [], ◌∷◌, filter, Bool, true, false, cond, refl, ◌∙◌, ap, bytes_eq, None, Some}
use Rattle.stm_history.specs.declared.change.Change.{Change}
use Rattle.stm_history.specs.History.{key_of, change_of, HasDistinctKeys}
use Rattle.stm_program.specs.Writes.{latest_writes}
use Rattle.stm_program.proofs.LatestLemmas.{latest_writes-distinct}
use Rattle.stm_outcome.proofs.Branching.{apart_case}
use Rattle.stm_compile.proofs.OutcomeLemmas.{changes_are_distinct}

still_absent : (kept : Bool) (c : Change) (key : List ℕ) (rest : List Change) → bytes_eq (key_of c) key ≡ false → change_of key rest ≡ None →
    change_of key (cond kept (c ∷ rest) rest) ≡ None
still_absent true c key rest other absent = ap (λ e. cond e (Some c) (change_of key rest)) other ∙ absent
still_absent false c key rest other absent = absent

filter_absent : (p : Change → Bool) (key : List ℕ) (cs : List Change) → change_of key cs ≡ None → change_of key (filter p cs) ≡ None
filter_absent p key [] absent = refl
filter_absent p key (c ∷ cs) absent =
    let split : (bytes_eq (key_of c) key ≡ false) × (change_of key cs ≡ None) = apart_case (bytes_eq (key_of c) key) c (change_of key cs) absent in
    still_absent (p c) c key (filter p cs) split.0 (filter_absent p key cs split.1)

distinct_by : (kept : Bool) (c : Change) (rest : List Change) → change_of (key_of c) rest ≡ None → HasDistinctKeys rest →
    HasDistinctKeys (cond kept (c ∷ rest) rest)
distinct_by true c rest absent distinct = (absent, distinct)
distinct_by false c rest absent distinct = distinct

filter_distinct : (p : Change → Bool) (cs : List Change) → HasDistinctKeys cs → HasDistinctKeys (filter p cs)
filter_distinct p [] distinct = tt
filter_distinct p (c ∷ cs) distinct =
    distinct_by (p c) c (filter p cs) (filter_absent p (key_of c) cs distinct.0) (filter_distinct p cs distinct.1)

-- the latest writes that pass a test change no key twice
pub latest_are_distinct : (p : Change → Bool) (writes : List Change) → HasDistinctKeys (filter p (latest_writes writes))
latest_are_distinct p writes = filter_distinct p (latest_writes writes) (changes_are_distinct (latest_writes writes) (latest_writes-distinct writes))
