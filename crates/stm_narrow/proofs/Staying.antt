-- The keys that programs and others' transactions keep away from stay as they are.
use Rattle.std.proofs.Common.{◌≡◌, ℕ, Bool, true, false, cond, List, [], ◌∷◌, ◌++◌, length, filter, Option, None, Some, Result, Ok, Err, refl, ◌∙◌, ap, arith}
use Rattle.std.specs.Prelude.{nat_lt}
use Rattle.std.specs.List.{AllByRecursion, list_all}
use Rattle.std.proofs.lemmas.Bool.{and_parts, Decides.nat_tests}
use Rattle.std.proofs.lemmas.Slice.Eq.{bytes_eq-Decides}
use Rattle.stm_history.specs.declared.change.Change.{Change}
use Rattle.stm_history.specs.declared.key_state.ReadAnswer.{ReadAnswer}
use Rattle.stm_history.specs.History.{History, now, key_now, add_revision, change_of, after_change}
use Rattle.stm_history.proofs.HistoryLaws.{one_more_revision}
use Rattle.stm_program.specs.declared.level.Level.{Level}
use Rattle.stm_program.specs.Writes.{latest_writes}
use Rattle.stm_steps.specs.declared.run.End.{End}
use Rattle.stm_steps.specs.declared.run.End.TheVariants.{Done as DoneEnd, Aborted as AbortedEnd, Faulted as FaultedEnd}
use Rattle.stm_steps.specs.declared.run.Run.{Run}
use Rattle.stm_steps.specs.declared.run.Answered.{Answered}
use Rattle.stm_steps.specs.declared.run.Answered.TheVariants.{Ended as EndedRun, Wants}
use Rattle.stm_outcome.specs.declared.answer.FailedCompare.{FailedCompare}
use Rattle.stm_outcome.specs.declared.refusal.Refusal.{Refusal}
use Rattle.stm_outcome.specs.declared.txn.Op.{Op}
use Rattle.stm_outcome.specs.declared.txn.Txn.{Txn}
use Rattle.stm_outcome.specs.Branches.{Progress, change_made, with_change_made, progress_after}
use Rattle.stm_outcome.specs.Commits.{applied, revision_read}
use Rattle.stm_outcome.specs.Outcome.{Done, chosen, with_changes, unless, outcome}
use Rattle.stm_outcome.specs.Terms.{Terms, is_below_floor}
use Rattle.stm_txn.specs.Standing.{Standing, terms_of, step_of}
use Rattle.stm_compile.specs.Answers.{look_up}
use Rattle.stm_compile.specs.Committed.{judged, committed}
use Rattle.stm_attempt.specs.Settled.{run_on}
use Rattle.stm_attempt.specs.Entering.{is_due}
use Rattle.stm_attempt.specs.Fetches.{at_of}
use Rattle.stm_events.specs.declared.event.WorldEvent.{WorldEvent}
use Rattle.stm_events.specs.declared.event.WorldEvent.TheVariants as event
use Rattle.stm_events.specs.Replies.{store_after_call}
use Rattle.stm_world.specs.World.{World, Runner, Stepped, runner_at, fetch, fetch_at, fetch_list, decided, commit_reported, commit, finish, step_on, step_live, step_runner, step, world_after}
use Rattle.stm_schedules.specs.declared.moves.Move.{Move}
use Rattle.stm_schedules.specs.declared.moves.Move.TheVariants.{Step as StepOf, Other}
use Rattle.stm_schedules.specs.Places.{Place, moved, event_of}
use Rattle.stm_schedules.specs.Schedules.{place_after}
use Rattle.stm_narrow.specs.Touching.{KeepsTo, WritesWithin}
use Rattle.stm_narrow.specs.Foreign.{op_keeps_to, txn_keeps_to, event_keeps_to}
use Rattle.stm_narrow.specs.AgreeingPlaces.{PlacesAgree}
use Rattle.stm_narrow.proofs.Histories.{key_within}
use Rattle.stm_narrow.proofs.Searching.{moved_same}

module _ (touched : List ℕ → Bool) (leased : ℕ → Bool) where
  -- the keys that are not touched are after it as they were before
  abbrev pub Stays : History → History → Type 0
  Stays before after = (key : List ℕ) → touched key ≡ false → key_now after key ≡ key_now before key

  abbrev Within : List Change → Type 0
  Within changes = AllByRecursion (WritesWithin touched leased) changes

  -- ---- changes

  none_of : (key : List ℕ) (changes : List Change) → touched key ≡ false → Within changes → change_of key changes ≡ None
  none_of key [] apart all = refl
  none_of key (c ∷ cs) apart all = grind (arith, nat_tests, bytes_eq-Decides, key_within, none_of key cs apart all.1)

  with_changes_stays : (h : History) (changes : List Change) → Within changes → Stays h (with_changes h changes)
  with_changes_stays h [] all = λ key apart. refl
  with_changes_stays h (c ∷ cs) all = λ key apart.
      one_more_revision h (c ∷ cs) key
      ∙ ap (λ (o : Option Change). after_change (now (add_revision h (c ∷ cs))) o (key_now h key)) (none_of key (c ∷ cs) apart all)

  filtered_within : (p : Change → Bool) (changes : List Change) → Within changes → Within (filter p changes)
  filtered_within p [] all = tt
  filtered_within p (c ∷ cs) all = grind (arith, nat_tests, filtered_within p cs all.1)

  -- ---- a commit

  abbrev LeavesThem : History → Result Done Refusal → Type 0
  LeavesThem h (Ok done) = Stays h done.history
  LeavesThem h (Err cause) = Unit {0}

  unless_refused : (b : Bool) (h : History) (cause : Refusal) (o : Result Done Refusal) → LeavesThem h o → LeavesThem h (cond b (Err cause) o)
  unless_refused b h cause o leaves = grind (arith, nat_tests)

  applied_leaves : (terms : Terms) (writes : List Change) → Within writes → LeavesThem terms.history (applied terms writes)
  applied_leaves terms writes all = grind (arith, nat_tests, unless_refused, with_changes_stays, filtered_within)

  judged_leaves : (terms : Terms) (level : Level) (reads : List ReadAnswer) (run : Run) (o : Option FailedCompare) → Within (latest_writes run.writes) →
      LeavesThem terms.history (judged terms level reads run o)
  judged_leaves terms level reads run None all = applied_leaves terms (latest_writes run.writes) all
  judged_leaves terms level reads run (Some failed) all = λ key apart. refl

  committed_leaves : (terms : Terms) (level : Level) (reads : List ReadAnswer) (run : Run) → Within (latest_writes run.writes) →
      LeavesThem terms.history (committed terms level reads run)
  committed_leaves terms level reads run all = grind (arith, nat_tests, unless_refused, judged_leaves)

  -- ---- a step

  record StepStays (w : World) (s : Stepped) : Type 0 where
    stays : Stays w.standing.history s.next.standing.history

  -- what leaves the whole history
  quiet : {w : World} {s : Stepped} → s.next.standing.history ≡ w.standing.history → StepStays w s
  quiet same = record { stays = λ key apart. ap (λ (h : History). key_now h key) same }

  by_test : (b : Bool) (w : World) (x y : Stepped) → StepStays w x → StepStays w y → StepStays w (cond b x y)
  by_test b w x y first second = grind (arith, nat_tests)

  fetch_stays : (id : ℕ) (r : Runner) (key : List ℕ) (of_rev : ℕ) (w : World) → StepStays w (fetch id r key of_rev w)
  unfolding fetch
  fetch_stays id r key of_rev w = quiet refl

  fetch_at_stays : (id : ℕ) (r : Runner) (key : List ℕ) (base : ℕ) (w : World) → StepStays w (fetch_at id r key base w)
  fetch_at_stays id r key base w =
      by_test (is_below_floor w.standing.floor base) w _ _ (quiet refl) (fetch_stays id r key (revision_read w.standing.history base) w)

  fetch_list_stays : (id : ℕ) (r : Runner) (w : World) → StepStays w (fetch_list id r w)
  fetch_list_stays id r w = by_test (nat_lt w.standing.limit (length r.task.program.prefetch)) w _ _ (quiet refl) (quiet refl)

  decided_stays : (id : ℕ) (r : Runner) (reads : List ReadAnswer) (run : Run) (done : Done) (o : Option FailedCompare) (w : World) →
      Stays w.standing.history done.history → StepStays w (decided id r reads run done o w)
  decided_stays id r reads run done o w stays = grind (arith, nat_tests, by_test, quiet)

  reported_stays : (id : ℕ) (r : Runner) (reads : List ReadAnswer) (run : Run) (o : Result Done Refusal) (w : World) → LeavesThem w.standing.history o →
      StepStays w (commit_reported id r reads run o w)
  reported_stays id r reads run o w leaves = grind (arith, nat_tests, decided_stays, quiet)

  commit_stays : (id : ℕ) (r : Runner) (reads : List ReadAnswer) (run : Run) (w : World) → Within (latest_writes run.writes) → StepStays w (commit id r reads run w)
  unfolding commit
  commit_stays id r reads run w all =
      reported_stays id r reads run (committed (terms_of w.standing) r.task.level reads run) w (committed_leaves (terms_of w.standing) r.task.level reads run all)

  finish_stays : (id : ℕ) (r : Runner) (reads : List ReadAnswer) (run : Run) (end : End) (w : World) → Within (latest_writes run.writes) →
      StepStays w (finish id r reads run end w)
  finish_stays id r reads run DoneEnd w all = commit_stays id r reads run w all
  finish_stays id r reads run (AbortedEnd text) w all = quiet refl
  finish_stays id r reads run (FaultedEnd fault) w all = quiet refl

  on_stays : (id : ℕ) (r : Runner) (answered : Answered) (w : World) → KeepsTo touched leased r.task.program → run_on r.task.program r.known.reads ≡ answered →
      StepStays w (step_on id r r.known.reads answered w)
  on_stays id r (Wants key trace) w keeps is = fetch_at_stays id r key (at_of r.task.level r.known.reads) w
  on_stays id r (EndedRun run) w keeps is = finish_stays id r r.known.reads run run.end w (keeps.written (look_up r.known.reads) run is)

  live_stays : (id : ℕ) (r : Runner) (w : World) → KeepsTo touched leased r.task.program → StepStays w (step_live id r w)
  unfolding step_live
  live_stays id r w keeps =
      by_test (is_due r.task.program.prefetch r.known.reads) w _ _ (fetch_list_stays id r w) (on_stays id r (run_on r.task.program r.known.reads) w keeps refl)

  runner_stays : (id : ℕ) (o : Option Runner) (w : World) → ((r : Runner) → o ≡ Some r → KeepsTo touched leased r.task.program) → StepStays w (step_runner id o w)
  runner_stays id None w keeps = quiet refl
  runner_stays id (Some r) w keeps = live_stays id r w (keeps r refl)

  -- ---- another client's transaction

  one_more_within : (changes : List Change) (c : Change) → WritesWithin touched leased c → Within changes → Within (changes ++ c ∷ [])
  one_more_within [] c is all = (is, tt)
  one_more_within (x ∷ xs) c is all = (all.0, one_more_within xs c is all.1)

  made_within : (h : History) (p : Progress) (op : Op) → op_keeps_to touched leased op ≡ true → Within p.changes →
      Within (with_change_made h p (change_made p op)).changes
  made_within h p op is all = grind (arith, nat_tests, one_more_within, and_parts)

  branch_within : (h : History) (p : Progress) (ops : List Op) → list_all (op_keeps_to touched leased) ops ≡ true → Within p.changes →
      Within (progress_after h p ops).changes
  branch_within h p [] keep all = all
  branch_within h p (op ∷ ops) keep all =
      let parts = and_parts (op_keeps_to touched leased op) (list_all (op_keeps_to touched leased) ops) keep in
      branch_within h (with_change_made h p (change_made p op)) ops parts.1 (made_within h p op parts.0 all)

  abbrev all_keep : List Op → Bool
  all_keep ops = list_all (op_keeps_to touched leased) ops

  chosen_within : (failed : Option FailedCompare) (txn : Txn) → txn_keeps_to touched leased txn ≡ true → all_keep (chosen failed txn) ≡ true
  chosen_within failed txn is = grind (arith, nat_tests, and_parts)

  unless_leaves : (refusal : Option Refusal) (h : History) (o : Result Done Refusal) → LeavesThem h o → LeavesThem h (unless refusal o)
  unless_leaves refusal h o leaves = grind (arith, nat_tests)

  outcome_leaves : (terms : Terms) (txn : Txn) → txn_keeps_to touched leased txn ≡ true → LeavesThem terms.history (outcome terms txn)
  outcome_leaves terms txn is = grind (arith, nat_tests, unless_leaves, unless_refused, with_changes_stays, branch_within, chosen_within)

  taken_stays : (s : Standing) (o : Result Done Refusal) → LeavesThem s.history o → Stays s.history (store_after_call s (step_of s o)).history
  taken_stays s o leaves = grind (arith, nat_tests)

  foreign_stays : (e : WorldEvent) (w : World) → event_keeps_to touched leased e ≡ true → Stays w.standing.history (step e w).next.standing.history
  foreign_stays (event.Txn txn) w is = taken_stays w.standing (outcome (terms_of w.standing) txn) (outcome_leaves (terms_of w.standing) txn is)
  foreign_stays _ w is = absurd (cc)

  next_stays : (others : List WorldEvent) (w : World) → list_all (event_keeps_to touched leased) others ≡ true →
      Stays w.standing.history (world_after (event_of Other others) w).standing.history
  next_stays others w all = grind (arith, nat_tests, foreign_stays, and_parts)

  -- ---- schedules

  module _ (since : ℕ) where
    move_stays : (m : Move) (p q : Place) → PlacesAgree touched leased since p q → Stays p.world.standing.history (moved m p).world.standing.history
    move_stays (StepOf id) p q same = (runner_stays id (runner_at id p.world.runners) p.world (λ r is. (same.worlds.within id r is).program)).stays
    move_stays Other p q same = next_stays p.others p.world same.within

    pub schedule_stays : (ms : List Move) (p q : Place) → PlacesAgree touched leased since p q → Stays p.world.standing.history (place_after ms p).world.standing.history
    schedule_stays [] p q same = λ key apart. refl
    schedule_stays (m ∷ ms) p q same = λ key apart.
        schedule_stays ms (moved m p) (moved m q) (moved_same touched leased since m p q same) key apart ∙ move_stays m p q same key apart
