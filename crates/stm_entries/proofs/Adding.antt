-- What is replayed adds revisions to the history, and nothing else.
use Rattle.std.proofs.Common.{◌≡◌, List, [], ◌∷◌, ◌++◌, Bool, true, false, cond, Ok, Err, refl, sym, ◌∙◌, ap, subst, append_assoc, arith}
use Rattle.std.specs.Prelude.{Result}
use Rattle.std.specs.List.{list_any}
use Rattle.stm_history.specs.declared.change.Change.{Change}
use Rattle.stm_history.specs.History.{History, key_now, HasDistinctKeys, AreRevisions}
use Rattle.stm_steps.specs.declared.run.End.{End}
use Rattle.stm_steps.specs.declared.run.End.TheVariants.{Done as DoneEnd, Aborted, Faulted}
use Rattle.stm_steps.specs.declared.run.Run.{Run}
use Rattle.stm_steps.specs.declared.run.Answered.{Answered}
use Rattle.stm_steps.specs.declared.run.Answered.TheVariants.{Ended, Wants}
use Rattle.stm_meaning.specs.Meaning.{run_over}
use Rattle.stm_program.specs.Writes.{latest_writes}
use Rattle.stm_outcome.specs.declared.txn.Txn.{Txn}
use Rattle.stm_outcome.specs.declared.refusal.Refusal.{Refusal}
use Rattle.stm_outcome.specs.declared.refusal.Refusal.TheVariants.{LeaseNotFound, RevisionsUsedUp}
use Rattle.stm_outcome.specs.Outcome.{Done, outcome, with_changes, is_used_up}
use Rattle.stm_txn.specs.LeaseKeys.{deletions_of}
use Rattle.stm_outcome.proofs.Applying.{history_grows}
use Rattle.stm_txn.proofs.Ending.{deletions_are_distinct}
use Rattle.stm_outcome.specs.Commits.{applied, effective, is_on_dead_lease}
use Rattle.stm_outcome.specs.Effect.{changes_something}
use Rattle.stm_outcome.specs.Terms.{Terms}
use Rattle.stm_entries.specs.declared.entry.Entry.{Entry}
use Rattle.stm_entries.specs.declared.entry.Entry.TheVariants.{Program, Foreign, Grant, Renew, Revoke, Expire}
use Rattle.stm_entries.specs.Replayed.{Replayed, replay_terms}
use Rattle.stm_entries.specs.Alone.{seen_at, history_left, left_by, left_by_run}
use Rattle.stm_entries.specs.Replay.{replay, replay_entry}
use Rattle.stm_entries.specs.Laws.{AddsTo, ReplayOnlyAdds}
use Rattle.stm_entries.proofs.EffectLemmas.{latest_are_distinct}

revisions_append : (newer older : List (List Change)) → AreRevisions newer → AreRevisions older → AreRevisions (newer ++ older)
revisions_append [] older new old = old
revisions_append (r ∷ newer) older new old = (new.0, revisions_append newer older new.1 old)

nothing_added : (h : History) → AddsTo h h
nothing_added h = record { added = []; are_revisions = tt; opening = refl; revisions = refl }

added_twice : (a b c : History) → AddsTo a b → AddsTo b c → AddsTo a c
added_twice a b c first second = record {
  added = second.added ++ first.added;
  are_revisions = revisions_append second.added first.added second.are_revisions first.are_revisions;
  opening = second.opening ∙ first.opening;
  revisions = second.revisions ∙ ap (λ l. second.added ++ l) first.revisions ∙ sym (append_assoc second.added first.added a.revisions);
}

changes_add : (h : History) (changes : List Change) → HasDistinctKeys changes → AddsTo h (with_changes h changes)
changes_add h [] distinct = nothing_added h
changes_add h (c ∷ cs) distinct =
    record { added = (c ∷ cs) ∷ []; are_revisions = ((omega arith, distinct), tt); opening = refl; revisions = refl }

-- a refused call adds nothing
finished_adds : (used : Bool) (h : History) (done : Done) → AddsTo h done.history → AddsTo h (history_left h (cond used (Err RevisionsUsedUp) (Ok done)))
finished_adds true h done adds = nothing_added h
finished_adds false h done adds = adds

judged_adds : (dead : Bool) (h : History) (rest : Result Done Refusal) → AddsTo h (history_left h rest) →
    AddsTo h (history_left h (cond dead (Err LeaseNotFound) rest))
judged_adds true h rest adds = nothing_added h
judged_adds false h rest adds = adds

applied_adds : (terms : Terms) (writes : List Change) →
    AddsTo terms.history (history_left terms.history (applied terms (latest_writes writes)))
applied_adds terms writes =
    let h : History = terms.history in
    let changes : List Change = (latest_writes writes) in
    judged_adds (list_any (is_on_dead_lease terms.is_live) changes) h _
    (finished_adds (is_used_up h (effective h changes)) h _
    (changes_add h (effective h changes) (latest_are_distinct (changes_something (key_now h)) writes)))

run_adds : (r : Replayed) (run : Run) (end : End) → AddsTo r.history (left_by run end r).history
run_adds r run DoneEnd = applied_adds (replay_terms r) run.writes
run_adds r run (Aborted text) = nothing_added r.history
run_adds r run (Faulted fault) = nothing_added r.history

program_adds : (r : Replayed) (answered : Answered) → AddsTo r.history (left_by_run answered r).history
program_adds r (Ended run) = run_adds r run run.end
program_adds r (Wants key trace) = nothing_added r.history

foreign_adds : (terms : Terms) (txn : Txn) (o : Result Done Refusal) → outcome terms txn ≡ o → AddsTo terms.history (history_left terms.history o)
foreign_adds terms txn (Ok done) is =
    let h : History = terms.history in
    let grown : (changes : List Change) × HasDistinctKeys changes × (done.history ≡ with_changes h changes) = history_grows terms txn done is in
    subst (AddsTo h) (sym grown.2) (changes_add h grown.0 grown.1)
foreign_adds terms txn (Err refusal) is = nothing_added terms.history

entry_adds : (e : Entry) (r : Replayed) → AddsTo r.history (replay_entry e r).history
entry_adds (Program program level answers output trace revision) r = program_adds r (run_over (seen_at level answers r.history) program.statements)
entry_adds (Foreign txn) r = foreign_adds (replay_terms r) txn (outcome (replay_terms r) txn) refl
entry_adds (Grant id ttl moment) r = nothing_added r.history
entry_adds (Renew id moment) r = nothing_added r.history
entry_adds (Revoke id) r = changes_add r.history (deletions_of r.history id) (deletions_are_distinct r.history id)
entry_adds (Expire id) r = changes_add r.history (deletions_of r.history id) (deletions_are_distinct r.history id)

pub replay_only_adds : ReplayOnlyAdds
replay_only_adds [] r = nothing_added r.history
replay_only_adds (e ∷ es) r =
    added_twice r.history (replay_entry e r).history (replay es (replay_entry e r)).history (entry_adds e r) (replay_only_adds es (replay_entry e r))
