-- The store after the writes of a commit.
use Rattle.std.proofs.Common.{◌≡◌, ◌≢◌, ℕ, List, Option, Some, None, Result, Ok, Err, IfOk, OnOk, sym, ◌∙◌, ap, subst}
use Rattle.std.specs.declared.alloc.AllocError.{AllocError}
use Rattle.stm_history.specs.declared.change.Change.{Change}
use Rattle.stm_history.specs.History.{HasDistinctKeys}
use Rattle.stm_program.specs.Writes.{latest_writes}
use Rattle.stm_program.proofs.LatestLemmas.{latest_writes-distinct}
use Rattle.stm_outcome.specs.declared.refusal.Refusal.{Refusal}
use Rattle.stm_outcome.specs.declared.refusal.Refusal.TheVariants.{OutOfMemory}
use Rattle.stm_outcome.proofs.Applying.{branch_applies}
use Rattle.stm_txn.specs.Standing.{Standing, IsRefusalOf, write_step, written, made, terms_of}
use Rattle.stm_compile.proofs.OutcomeLemmas.{changes_are_distinct}
use Rattle.stm_audit.specs.Audit.{after, revision_of, left_by}

-- ---- the changes are those of the last writes

pub are_distinct : (writes : List Change) (changes : List Change) → changes ≡ latest_writes writes → HasDistinctKeys changes
are_distinct writes changes are =
    subst HasDistinctKeys (sym are) (changes_are_distinct (latest_writes writes) (latest_writes-distinct writes))

written_is : (s : Standing) (writes : List Change) (changes : List Change) → changes ≡ latest_writes writes
    → written s changes ≡ after s writes
written_is s writes changes are =
    ap (write_step s) (branch_applies (terms_of s) changes (are_distinct writes changes are)) ∙ ap (λ (cs : List Change). made s cs) are

-- ---- what comes of it

pub taken : (s next : Standing) (writes : List Change) (changes : List Change) (revision : ℕ) → changes ≡ latest_writes writes
    → written s changes ≡ Ok record { answer = revision; next = next }
    → (Some revision ≡ revision_of (after s writes)) × (next ≡ left_by s (after s writes))
taken s next writes changes revision are is =
    let came : after s writes ≡ Ok record { answer = revision; next = next } = sym (written_is s writes changes are) ∙ is in
    (sym (ap revision_of came), sym (ap (left_by s) came))

refused_for : {T : Type 0} (r : Result T Refusal) (cause : Refusal) → IsRefusalOf r cause → cause ≢ OutOfMemory → r ≡ Err cause
refused_for (Ok done) cause is other = absurd (other is)
refused_for (Err c) cause is other = ap Err (sym is)

came_to : (s : Standing) (writes : List Change) (changes : List Change) (cause : Refusal) → changes ≡ latest_writes writes
    → IsRefusalOf (written s changes) cause → cause ≢ OutOfMemory → after s writes ≡ Err cause
came_to s writes changes cause are is other = sym (written_is s writes changes are) ∙ refused_for (written s changes) cause is other

pub no_revision : (r : Result (Option ℕ) AllocError) (s : Standing) (writes : List Change) (changes : List Change) (cause : Refusal)
    → changes ≡ latest_writes writes → IsRefusalOf (written s changes) cause → IfOk r (λ revision. revision ≡ None)
    → OnOk r (cause ≢ OutOfMemory) → IfOk r (λ revision. revision ≡ revision_of (after s writes))
no_revision (Ok revision) s writes changes cause are is none other = none ∙ sym (ap revision_of (came_to s writes changes cause are is other))
no_revision (Err e) s writes changes cause are is none other = tt

pub left_as_it_was : (r : Result (Option ℕ) AllocError) (s next : Standing) (writes : List Change) (changes : List Change) (cause : Refusal)
    → changes ≡ latest_writes writes → IsRefusalOf (written s changes) cause → next ≡ s
    → OnOk r (cause ≢ OutOfMemory) → OnOk r (next ≡ left_by s (after s writes))
left_as_it_was (Ok revision) s next writes changes cause are is same other =
    same ∙ sym (ap (left_by s) (came_to s writes changes cause are is other))
left_as_it_was (Err e) s next writes changes cause are is same other = tt
