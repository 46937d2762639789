-- What an audit finds in a trace.
--
-- etcd's API reference, "Revisions": a transaction that changes something gets the next revision, and another one has that of the store. So a trace
-- that has every commit since its first one has their revisions without a gap.
use Rattle.std.specs.Prelude.{ℕ, suc, ◌-◌, Bool, true, false, nat_eq, nat_lt, if◌then◌else◌, List, [], ◌∷◌, ◌++◌}
use Rattle.std.specs.Prelude.{Option, Some, None, option_map, Result, Ok, Err, min, max}
use Rattle.std.specs.List.{list_any}
use Rattle.stm_history.specs.declared.revisions.TheConstants.{HIGHEST_REVISION}
use Rattle.stm_history.specs.History.{now}
use Rattle.stm_history.specs.declared.change.Change.{Change}
use Rattle.stm_history.specs.declared.change.Change.TheVariants.{Put, Del}
use Rattle.stm_program.specs.Writes.{latest_writes}
use Rattle.stm_outcome.specs.declared.refusal.Refusal.{Refusal}
use Rattle.stm_txn.specs.declared.restored.Checkpoint.{Checkpoint}
use Rattle.stm_txn.specs.Restored.{restored, can_restore}
use Rattle.stm_txn.specs.Standing.{Standing, Step, made, opening, at_revision}
use Rattle.stm_audit.specs.declared.auditing.Audited.{Audited}
use Rattle.stm_audit.specs.declared.commit.Commit.{Commit}
use Rattle.stm_audit.specs.declared.finding.Finding.{Finding}
use Rattle.stm_audit.specs.declared.trace.Trace.{Trace}
use Rattle.stm_audit.specs.Anomalies.{found_in}

-- ---- the store after writes

-- the last write of each key is made, with nothing compared
abbrev pub after : Standing → List Change → Result (Step ℕ) Refusal
after s writes = made s (latest_writes writes)

abbrev pub revision_of : Result (Step ℕ) Refusal → Option ℕ
revision_of (Ok step) = Some step.answer
revision_of (Err cause) = None

abbrev pub left_by : Standing → Result (Step ℕ) Refusal → Standing
left_by s (Ok step) = step.next
left_by s (Err cause) = s

abbrev pub is_reached : ℕ → Option ℕ → Bool
is_reached revision None = false
is_reached revision (Some reached) = nat_eq reached revision

-- ---- a trace, commit after commit

abbrev pub with_found : Option Finding → List Finding → List Finding
with_found None findings = findings
with_found (Some f) findings = f ∷ findings

-- the commits that changed something, with one more where it has
abbrev pub with_maker : Bool → List Commit → Commit → List Commit
with_maker has_changed made t = if has_changed then made ++ t ∷ [] else made

abbrev pub more : Option Finding → Audited → Audited
more found a = record { findings = with_found found a.findings; off = a.off }

-- a commit whose revision is not the store's ends the audit: what the store was is not known from there on
abbrev pub audit_from : ℕ → Standing → List Commit → ℕ → List Commit → Audited
audit_from known s made number [] = record { findings = []; off = None }
audit_from known s made number (t ∷ ts) =
    if is_reached t.revision (revision_of (after s t.writes))
    then more (found_in s.history known made number t)
    (audit_from known (left_by s (after s t.writes)) (with_maker (nat_lt (now s.history) t.revision) made t) (suc number) ts)
    else record { findings = []; off = Some number }

-- ---- where a trace begins

abbrev pub is_put : Change → Bool
is_put (Put key value lease) = true
is_put (Del key) = false

-- the revision before the first commit: the one below it, where the last write of a key puts it
abbrev pub before_first : List Commit → ℕ
before_first [] = 1
before_first (t ∷ ts) = if list_any is_put (latest_writes t.writes) then t.revision - 1 else t.revision

-- a store's revision is 1 at least
abbrev pub opened : List Commit → ℕ
opened commits = min HIGHEST_REVISION (max 1 (before_first commits))

-- the store that a trace says it begins with, if a store can be so
abbrev pub restoring : Checkpoint → Option Standing
restoring c = if can_restore c then Some (restored c) else None

-- the store before a trace, in which no key was present where the trace does not say
abbrev pub beginning : Option Checkpoint → List Commit → Option Standing
beginning None commits = Some (opening (at_revision (opened commits)))
beginning (Some c) commits = restoring c

-- the revision from which on it is known what each key was: a trace that says what it begins with does not say what was before
abbrev pub known_from : Option Checkpoint → ℕ
known_from None = 0
known_from (Some c) = c.revision

-- the audit of a trace over that store, and none where there is no such store
abbrev pub audited : Trace → Option Audited
audited t = option_map (λ s. audit_from (known_from t.opening) s [] 1 t.commits) (beginning t.opening t.commits)
