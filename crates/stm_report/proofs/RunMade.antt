-- Each revision of a world deletes only keys that were there: so it can be made again.
use Rattle.std.proofs.Common.{◌≡◌, ℕ, ◌+◌, ◌≤◌, ◌<◌, Bool, true, false, cond, List, [], ◌∷◌, Ok, Err, refl, sym, subst, arith}
use Rattle.std.specs.Prelude.{Result}
use Rattle.std.specs.List.{list_any}
use Rattle.std.proofs.lemmas.Bool.Decides.{nat_tests}
use Rattle.stm_history.specs.declared.change.Change.{Change}
use Rattle.stm_history.specs.Opening.{Opening}
use Rattle.stm_history.specs.History.{History, key_now, number_of_last, revisions_up_to, HasDistinctKeys, IsRevision}
use Rattle.stm_history.proofs.HistoryLaws.{all_up_to, last_is_above}
use Rattle.stm_keys.specs.Keys.{DeletePresent}
use Rattle.stm_steps.specs.declared.run.End.{End}
use Rattle.stm_steps.specs.declared.run.End.TheVariants.{Done as DoneEnd, Aborted, Faulted}
use Rattle.stm_steps.specs.declared.run.Run.{Run}
use Rattle.stm_steps.specs.declared.run.Answered.{Answered}
use Rattle.stm_steps.specs.declared.run.Answered.TheVariants.{Ended, Wants}
use Rattle.stm_meaning.specs.Meaning.{run_over}
use Rattle.stm_program.specs.Writes.{latest_writes}
use Rattle.stm_program.proofs.LatestLemmas.{latest_writes-distinct}
use Rattle.stm_compile.proofs.OutcomeLemmas.{changes_are_distinct as writes_are_distinct}
use Rattle.stm_outcome.specs.declared.txn.Op.{Op}
use Rattle.stm_outcome.specs.declared.txn.Txn.{Txn}
use Rattle.stm_outcome.specs.declared.refusal.Refusal.{Refusal}
use Rattle.stm_outcome.specs.declared.refusal.Refusal.TheVariants.{LeaseNotFound, RevisionsUsedUp}
use Rattle.stm_outcome.specs.Branches.{changes_of_branch}
use Rattle.stm_outcome.specs.Commits.{applied, effective, is_on_dead_lease}
use Rattle.stm_outcome.specs.LookUps.{changes_copied}
use Rattle.stm_outcome.specs.Outcome.{Done, outcome, with_changes, is_used_up}
use Rattle.stm_outcome.specs.Compares.{first_failed}
use Rattle.stm_outcome.specs.Terms.{Terms}
use Rattle.stm_outcome.proofs.Applying.{IsDone, is_done, branch_run, chosen_apart}
use Rattle.stm_outcome.proofs.Branching.{changes_are_distinct}
use Rattle.stm_outcome.proofs.Folding.{changes_agree}
use Rattle.stm_txn.specs.LeaseKeys.{deletions_of}
use Rattle.stm_txn.proofs.Ending.{deletions_are_distinct, deletions_are_present}
use Rattle.stm_txn.proofs.Running.{deletes_present}
use Rattle.stm_txn.proofs.Writing.{effective_distinct, effective_present}
use Rattle.stm_entries.specs.declared.entry.Entry.{Entry}
use Rattle.stm_entries.specs.declared.entry.Entry.TheVariants.{Program, Foreign, Grant, Renew, Revoke, Expire}
use Rattle.stm_entries.specs.Replayed.{Replayed, replay_terms, opened_with}
use Rattle.stm_entries.specs.Alone.{seen_at, history_left, left_by, left_by_run}
use Rattle.stm_entries.specs.Replay.{replay, replay_entry}
use Rattle.stm_world.specs.Sound.{IsSound}
use Rattle.stm_world.specs.World.{World}
use Rattle.stm_report.specs.RunHistory.{history_up_to}
use Rattle.stm_report.proofs.RunRevisions.{changes_numbered}

-- a revision that can be made of a history
abbrev pub CanBeMade : History → List Change → Type 0
CanBeMade h changes = IsRevision changes × DeletePresent h changes

abbrev older_of : Opening → List (List Change) → History
older_of opening older = record { opening = opening; revisions = older }

abbrev WereMade : Opening → List (List Change) → Type 0
WereMade opening [] = Unit {0}
WereMade opening (changes ∷ older) = CanBeMade (older_of opening older) changes × WereMade opening older

abbrev IsMade : History → Type 0
IsMade h = WereMade h.opening h.revisions

changes_made : (h : History) (changes : List Change) → HasDistinctKeys changes → DeletePresent h changes → IsMade h → IsMade (with_changes h changes)
changes_made h [] distinct present made = made
changes_made h (c ∷ cs) distinct present made = (((omega arith, distinct), present), made)

finished_made : (used : Bool) (h : History) (done : Done) → IsMade h → IsMade done.history →
    IsMade (history_left h (cond used (Err RevisionsUsedUp) (Ok done)))
finished_made true h done made after = made
finished_made false h done made after = after

judged_made : (dead : Bool) (h : History) (rest : Result Done Refusal) → IsMade h → IsMade (history_left h rest) →
    IsMade (history_left h (cond dead (Err LeaseNotFound) rest))
judged_made true h rest made after = made
judged_made false h rest made after = after

applied_made : (terms : Terms) (changes : List Change) → HasDistinctKeys changes → IsMade terms.history →
    IsMade (history_left terms.history (applied terms changes))
applied_made terms changes distinct made =
    let h : History = terms.history in
    judged_made (list_any (is_on_dead_lease terms.is_live) changes) h _ made
    (finished_made (is_used_up h (effective h changes)) h _ made
    (changes_made h (effective h changes) (effective_distinct h changes distinct) (effective_present h changes distinct) made))

run_made : (r : Replayed) (run : Run) (end : End) → IsMade r.history → IsMade (left_by run end r).history
run_made r run DoneEnd made = applied_made (replay_terms r) (latest_writes run.writes) (writes_are_distinct (latest_writes run.writes) (latest_writes-distinct run.writes)) made
run_made r run (Aborted text) made = made
run_made r run (Faulted fault) made = made

program_made : (r : Replayed) (answered : Answered) → IsMade r.history → IsMade (left_by_run answered r).history
program_made r (Ended run) made = run_made r run run.end made
program_made r (Wants key trace) made = made

foreign_made : (terms : Terms) (txn : Txn) (o : Result Done Refusal) → outcome terms txn ≡ o → IsMade terms.history →
    IsMade (history_left terms.history o)
foreign_made terms txn (Ok done) is made =
    let h : History = terms.history in
    let ops : List Op = branch_run h txn in
    let d : IsDone terms txn done = is_done terms txn done is in
    let apart = chosen_apart terms.limit txn (first_failed (key_now h) 0 txn.compares) d.right in
    let same : changes_copied h [] ops ≡ changes_of_branch h ops = sym (changes_agree h ops apart) in
    subst (λ (e : Done). IsMade e.history) d.made
    (changes_made h (changes_of_branch h ops)
    (subst (λ (cs : List Change). HasDistinctKeys cs) same (changes_are_distinct h ops apart))
    (subst (λ (cs : List Change). DeletePresent h cs) same (deletes_present h ops apart)) made)
foreign_made terms txn (Err refusal) is made = made

entry_made : (e : Entry) (r : Replayed) → IsMade r.history → IsMade (replay_entry e r).history
entry_made (Program program level answers output trace revision) r made = program_made r (run_over (seen_at level answers r.history) program.statements) made
entry_made (Foreign txn) r made = foreign_made (replay_terms r) txn (outcome (replay_terms r) txn) refl made
entry_made (Grant id ttl moment) r made = made
entry_made (Renew id moment) r made = made
entry_made (Revoke id) r made = changes_made r.history (deletions_of r.history id) (deletions_are_distinct r.history id) (deletions_are_present r.history id) made
entry_made (Expire id) r made = changes_made r.history (deletions_of r.history id) (deletions_are_distinct r.history id) (deletions_are_present r.history id) made

replay_made : (entries : List Entry) (r : Replayed) → IsMade r.history → IsMade (replay entries r).history
replay_made [] r made = made
replay_made (e ∷ es) r made = replay_made es (replay_entry e r) (entry_made e r made)

next_made : (opening : Opening) (number : ℕ) (revisions : List (List Change)) → WereMade opening revisions → opening.number ≤ number →
    number < number_of_last opening revisions →
    CanBeMade (older_of opening (revisions_up_to opening number revisions)) (changes_numbered opening (number + 1) revisions)
next_made opening number [] made opened below = absurd (omega arith)
next_made opening number (changes ∷ older) made opened below =
    grind (arith, nat_tests, all_up_to, last_is_above, next_made opening number older made.1 opened)

-- the next revision of a sound world after those up to a number can be made of these
pub can_be_made : (w : World) (number : ℕ) → IsSound w → w.standing.history.opening.number ≤ number →
    number < number_of_last w.standing.history.opening w.standing.history.revisions →
    CanBeMade (history_up_to number w.standing.history) (changes_numbered w.standing.history.opening (number + 1) w.standing.history.revisions)
can_be_made w number sound opened below =
    let h : History = w.standing.history in
    let made : IsMade h = subst (λ (r : Replayed). IsMade r.history) sound.replays (replay_made w.entries (opened_with h.opening) tt) in
    next_made h.opening number h.revisions made opened below
