-- The runs of reservations and releases.
use Rattle.std.proofs.Common.{◌≡◌, ℕ, ◌<◌, Bool, true, false, List, [], ◌∷◌, length, refl, ◌∙◌, ap}
use Rattle.std.specs.Prelude.{pos, codes, nat_eq, bytes_eq, if◌then◌else◌}
use Rattle.stm_program.specs.Syntax.{Text, Abort, Del, End, Then}
use Rattle.stm_program.specs.Writes.{last_write}
use Rattle.stm_history.specs.declared.change.Change.TheVariants.{Put as PutWrite, Del as DelWrite}
use Rattle.stm_steps.specs.declared.value.Value.TheVariants.{Text as TextValue, Number as NumberValue}
use Rattle.stm_steps.specs.Answer.{Lookup}
use Rattle.stm_steps.specs.Values.{equal, text_in}
use Rattle.stm_steps.specs.Session.{Session, fresh, with_write}
use Rattle.stm_steps.specs.Outcome.{Gives, and_then, given}
use Rattle.stm_meaning.specs.Meaning.{evaluate, holds, branch, run_block, run_over}
use Rattle.stm_meaning.specs.Laws.{KnowsEachKey}
use Rattle.stm_meaning.specs.Leaves.{value_in, mod_rev_in}
use Rattle.stm_recipes.specs.Slots.{hold, reserve_program, release_program}
use Rattle.stm_recipes.specs.Alone.{done, aborted, reserved, released, ReserveAlone, ReleaseAlone}
use Rattle.stm_recipes.proofs.Steps.{deed_in, reported, does, after_get, after_rev, gotten, rev_of_key, is_put, is_deletion}

-- nothing was emitted, and nothing written
abbrev blank : Session → Session
blank s = record s { output = []; writes = [] }

-- ---- reserve

held_or_free : (look : Lookup) (slot holder : List ℕ) (lease : ℕ) (b : Bool) (s : Session) → 0 < length slot →
    reported (and_then (branch (run_block look End) (run_block look (Then (Abort (Text (codes "held"))) End)) b (blank s))
    (λ _. run_block look (Then (hold slot holder lease) End))) ≡ (if b then done (PutWrite slot holder lease ∷ []) else aborted (codes "held"))
unfolding run_block evaluate text_in
held_or_free look slot holder lease true s long =
    ap (λ r. reported (and_then (and_then (given r (blank s)) (λ w t. Gives tt (with_write w t))) (λ _. run_block look End))) (is_put slot holder lease long)
held_or_free look slot holder lease false s long = refl

reserve_runs : (look : Lookup) → KnowsEachKey look → (slot holder : List ℕ) (lease : ℕ) → 0 < length slot →
    deed_in (run_over look (reserve_program slot holder lease)) ≡ reserved slot holder lease (mod_rev_in look)
unfolding run_over run_block holds evaluate equal reserve_program fresh
reserve_runs look knows slot holder lease long =
    ap (λ o. reported (and_then (and_then (and_then o (λ x. given (equal x (NumberValue (pos 0)))))
    (branch (run_block look End) (run_block look (Then (Abort (Text (codes "held"))) End)))) (λ _. run_block look (Then (hold slot holder lease) End))))
    (rev_of_key look knows slot fresh long)
    ∙ held_or_free look slot holder lease (nat_eq (mod_rev_in look slot) 0) (after_rev look slot fresh) long

pub reserve_alone : ReserveAlone
reserve_alone look slot holder lease knows long =
    does look (reserve_program slot holder lease) (reserved slot holder lease (mod_rev_in look)) (reserve_runs look knows slot holder lease long)

-- ---- release

let_go_or_not : (look : Lookup) (slot : List ℕ) (b : Bool) (s : Session) → 0 < length slot →
    reported (and_then (branch (run_block look (Then (Del (Text slot)) End)) (run_block look (Then (Abort (Text (codes "not held"))) End)) b (blank s))
    (λ _. run_block look End)) ≡ (if b then done (DelWrite slot ∷ []) else aborted (codes "not held"))
unfolding run_block evaluate text_in
let_go_or_not look slot true s long =
    ap (λ r. reported (and_then (and_then (and_then (given r (blank s)) (λ w t. Gives tt (with_write w t))) (λ _. run_block look End)) (λ _. run_block look End)))
    (is_deletion slot long)
let_go_or_not look slot false s long = refl

release_runs : (look : Lookup) → KnowsEachKey look → (slot holder : List ℕ) → 0 < length slot →
    deed_in (run_over look (release_program slot holder)) ≡ released slot holder (value_in look)
unfolding run_over run_block holds evaluate equal release_program fresh last_write
release_runs look knows slot holder long =
    ap (λ o. reported (and_then (and_then (and_then o (λ x. given (equal x (TextValue holder))))
    (branch (run_block look (Then (Del (Text slot)) End)) (run_block look (Then (Abort (Text (codes "not held"))) End)))) (λ _. run_block look End)))
    (gotten look knows slot fresh long)
    ∙ let_go_or_not look slot (bytes_eq (value_in look slot) holder) (after_get look slot fresh) long

pub release_alone : ReleaseAlone
release_alone look slot holder knows long =
    does look (release_program slot holder) (released slot holder (value_in look)) (release_runs look knows slot holder long)
