-- A step of a runner in two worlds that agree.
use Rattle.std.proofs.Common.{◌≡◌, ◌⊎◌, ℕ, ◌+◌, ◌≤◌, ◌<◌, Bool, true, false, cond, List, [], ◌∷◌, ◌++◌, length, map, Option, Some, None, Result, Ok, Err}
use Rattle.std.proofs.Common.{refl, sym, ◌∙◌, ap, subst, arith}
use Rattle.std.specs.Prelude.{nat_eq, nat_lt, ◌&&◌}
use Rattle.std.specs.List.{AllByRecursion}
use Rattle.std.proofs.lemmas.Bool.{le-ltb, Decides.nat_tests}
use Rattle.stm_history.specs.declared.key_state.ReadAnswer.{ReadAnswer}
use Rattle.stm_history.specs.History.{History, now, mod_of}
use Rattle.stm_program.specs.declared.level.Level.{Level}
use Rattle.stm_program.specs.Writes.{latest_writes}
use Rattle.stm_steps.specs.declared.run.End.{End}
use Rattle.stm_steps.specs.declared.run.End.TheVariants.{Done as DoneEnd, Aborted as AbortedEnd, Faulted as FaultedEnd}
use Rattle.stm_steps.specs.declared.run.Run.{Run}
use Rattle.stm_steps.specs.declared.run.Answered.{Answered}
use Rattle.stm_steps.specs.declared.run.Answered.TheVariants.{Ended as EndedRun, Wants}
use Rattle.stm_outcome.specs.declared.answer.FailedCompare.{FailedCompare}
use Rattle.stm_outcome.specs.declared.refusal.Refusal.{Refusal as StoreRefusal}
use Rattle.stm_outcome.specs.declared.refusal.Refusal.TheVariants.{TooManyOps as TooManyOpsRefusal}
use Rattle.stm_outcome.specs.Commits.{revision_read}
use Rattle.stm_outcome.specs.Outcome.{Done}
use Rattle.stm_outcome.specs.Terms.{is_below_floor}
use Rattle.stm_txn.specs.Standing.{Standing, terms_of}
use Rattle.stm_compile.specs.Answers.{answer_now, look_up}
use Rattle.stm_compile.specs.Committed.{committed}
use Rattle.stm_compile.specs.CommitTxn.{reread_keys}
use Rattle.stm_attempt.specs.Known.{Known}
use Rattle.stm_attempt.specs.Settled.{run_on}
use Rattle.stm_attempt.specs.Fetches.{at_of}
use Rattle.stm_entries.specs.Entered.{answers_kept}
use Rattle.stm_events.specs.declared.reply.Reply.{Reply}
use Rattle.stm_events.specs.declared.reply.Reply.TheVariants.{Prefetched, Fetched, Committed, Ended}
use Rattle.stm_events.specs.declared.refusal.Denied.{Denied}
use Rattle.stm_events.specs.Replies.{committed_read, event_refusal}
use Rattle.stm_world.specs.Task.{with_served, answer_at, modified_now, after_list, after_fetch, after_conflict}
use Rattle.stm_world.specs.World.{World, Runner, Slot, Over, Live, Stepped, live_in, runner_at, with_slot, replied, fetch, fetch_at, fetch_list, decided}
use Rattle.stm_world.specs.World.{commit_reported, commit, finish, step_on, step_live, step_runner}
use Rattle.stm_world.proofs.Served.{KnowsAll, one_more, served_all}
use Rattle.stm_world.proofs.Slots.{equal_numbers, differ, runner_there, runner_own, runner_other}
use Rattle.stm_narrow.specs.Touching.{IsTouched, WritesWithin}
use Rattle.stm_narrow.specs.Agree.{SameSince, SameStore, IsReadSince, RunsWithin, Agree}
use Rattle.stm_narrow.proofs.Histories.{mapped_same, all_weaker, all_of_map, turned_history, same_now, SameDone, committed_same}

module _ (touched : List ℕ → Bool) (leased : ℕ → Bool) (since : ℕ) where
  abbrev Agrees : World → World → Type 0
  Agrees = Agree touched leased since

  abbrev Runs : Runner → Type 0
  Runs = RunsWithin touched leased since

  -- ---- places of runners

  abbrev pub SlotWithin : Slot → Type 0
  SlotWithin Over = Unit {0}
  SlotWithin (Live r) = Runs r

  -- each runner that has not ended
  abbrev pub AllRun : List Slot → Type 0
  AllRun slots = (id : ℕ) (r : Runner) → runner_at id slots ≡ Some r → Runs r

  in_slot : (slot : Slot) (r : Runner) → SlotWithin slot → live_in (Some slot) ≡ Some r → Runs r
  in_slot slot r is found = grind (arith, nat_tests)

  all_run_set : (id : ℕ) (slots : List Slot) (slot : Slot) → (0 < id) × (id ≤ length slots) → SlotWithin slot → AllRun slots → AllRun (with_slot id slot slots)
  all_run_set id slots slot there is all other r found = by (nat_eq id other) refl
    where
      by : (b : Bool) → nat_eq id other ≡ b → Runs r
      by true e =
          in_slot slot r is (sym (runner_own id slots slot there.0 there.1)
          ∙ ap (λ (n : ℕ). runner_at n (with_slot id slot slots)) (equal_numbers id other e) ∙ found)
      by false e = all other r (sym (runner_other id other slots slot there.0 (differ id other e)) ∙ found)

  -- ---- what comes of a step

  -- the same reply, and worlds that agree
  pub record Same (a b : Stepped) : Type 0 where
    pub reply : a.reply ≡ b.reply
    pub next : Agrees a.next b.next

  by_test : (b : Bool) (x1 y1 x2 y2 : Stepped) → Same x1 x2 → Same y1 y2 → Same (cond b x1 y1) (cond b x2 y2)
  by_test b x1 y1 x2 y2 first second = grind (arith, nat_tests)

  -- a runner that runs in worlds that agree
  record IsThere (id : ℕ) (r : Runner) (v w : World) : Type 0 where
    agree : Agrees v w
    runs : runner_at id v.runners ≡ Some r

  slots_same : {id : ℕ} {r : Runner} {v w : World} (slot other : Slot) → IsThere id r v w → slot ≡ other → with_slot id slot v.runners ≡ with_slot id other w.runners
  slots_same {id} {r} {v} {w} slot other there same = ap (λ (s : Slot). with_slot id s v.runners) same ∙ ap (with_slot id other) there.agree.runners

  slots_within : {id : ℕ} {r : Runner} {v w : World} (slot : Slot) → IsThere id r v w → SlotWithin slot → AllRun (with_slot id slot v.runners)
  slots_within {id} {r} {v} {w} slot there is = all_run_set id v.runners slot (runner_there id v.runners r there.runs) is there.agree.within

  replied_same : {id : ℕ} {r : Runner} {v w : World} (one other : Reply) (slot slot2 : Slot) → IsThere id r v w → one ≡ other → slot ≡ slot2 → SlotWithin slot →
      Same (replied one id slot v) (replied other id slot2 w)
  replied_same one other slot slot2 there reply same is = grind (arith, nat_tests, slots_same, slots_within)

  over_same : {id : ℕ} {r : Runner} {v w : World} (one : Reply) → IsThere id r v w → Same (replied one id Over v) (replied one id Over w)
  over_same one there = replied_same one one Over Over there refl refl tt

  -- ---- fetches

  -- a runner that knows something else
  knows_within : (r : Runner) (failures : ℕ) (known : Known) → Runs r → KnowsAll (IsReadSince touched since) known →
      SlotWithin (Live (record { task = r.task; failures = failures; known = known }))
  knows_within r failures known is knows = record { program = is.program; reads = knows.0; prefetched = knows.1 }

  known_of_runner : (r : Runner) → Runs r → KnowsAll (IsReadSince touched since) r.known
  known_of_runner r is = (is.reads, is.prefetched)

  answer_same : (g h : History) (key : List ℕ) (of_rev : ℕ) → SameSince touched since g h → IsTouched touched key → since ≤ of_rev →
      answer_at g key of_rev ≡ answer_at h key of_rev
  answer_same g h key of_rev same is later = grind (arith, nat_tests)

  fetch_same : {id : ℕ} {r : Runner} {v w : World} (key : List ℕ) (of_rev : ℕ) → IsThere id r v w → IsTouched touched key → since ≤ of_rev →
      Same (fetch id r key of_rev v) (fetch id r key of_rev w)
  unfolding fetch
  fetch_same {id} {r} {v} {w} key of_rev there is later =
      let same = there.agree.store.history in
      let runs = there.agree.within id r there.runs in
      replied_same _ _ _ _ there
      (λ i. Fetched id key (mod_of (same.keys key is of_rev later i)) of_rev (same.now i))
      (ap (λ (a : ReadAnswer). Live (record r { known = after_fetch r.task a r.known })) (answer_same v.standing.history w.standing.history key of_rev same is later))
      (knows_within r r.failures (after_fetch r.task (answer_at v.standing.history key of_rev) r.known) runs (served_all (IsReadSince touched since) r.task
      (record { reads = r.known.reads ++ answer_at v.standing.history key of_rev ∷ []; prefetched = r.known.prefetched })
      (one_more (IsReadSince touched since) r.known.reads (answer_at v.standing.history key of_rev) runs.reads (is, later), runs.prefetched)))

  and_false : (b : Bool) → (b && false) ≡ false
  and_false b = grind (arith, nat_tests)

  -- a base is none, or the revision or later
  abbrev IsBase : ℕ → Type 0
  IsBase base = (base ≡ 0) ⊎ (since ≤ base)

  base_within : (level : Level) (reads : List ReadAnswer) → AllByRecursion (IsReadSince touched since) reads → IsBase (at_of level reads)
  base_within level reads all = grind (arith, nat_tests)

  not_below : (floor base : ℕ) → floor ≤ since → IsBase base → is_below_floor floor base ≡ false
  not_below floor base under h4 = grind (arith, nat_tests, le-ltb, and_false)

  read_later : (h : History) (base : ℕ) → since ≤ now h → IsBase base → since ≤ revision_read h base
  read_later h base reached h4 = grind (arith, nat_tests)

  fetch_at_same : {id : ℕ} {r : Runner} {v w : World} (key : List ℕ) (base : ℕ) → IsThere id r v w → IsTouched touched key → IsBase base →
      Same (fetch_at id r key base v) (fetch_at id r key base w)
  fetch_at_same {id} {r} {v} {w} key base there is based = grind (arith, nat_tests, not_below, fetch_same, read_later)

  -- answers to reads of touched keys as they are now
  now_same : (g h : History) (keys : List (List ℕ)) → SameSince touched since g h → AllByRecursion (IsTouched touched) keys →
      map (answer_now g) keys ≡ map (answer_now h) keys
  now_same g h keys same all =
      mapped_same (answer_now g) (answer_now h) keys (all_weaker (IsTouched touched) (λ key. answer_now g key ≡ answer_now h key) keys
      (λ key is i. record { key = key; kv = same_now touched since g h same key is i; of_rev = same.now i; revision = same.now i }) all)

  now_within : (g : History) (keys : List (List ℕ)) → since ≤ now g → AllByRecursion (IsTouched touched) keys →
      AllByRecursion (IsReadSince touched since) (map (answer_now g) keys)
  now_within g keys reached all = grind (arith, nat_tests, all_of_map, all_weaker)

  told_same : (g h : History) (keys : List (List ℕ)) → SameSince touched since g h → AllByRecursion (IsTouched touched) keys →
      map (modified_now g) keys ≡ map (modified_now h) keys
  told_same g h keys same all =
      mapped_same (modified_now g) (modified_now h) keys (all_weaker (IsTouched touched) (λ key. modified_now g key ≡ modified_now h key) keys
      (λ key is i. record { key = key; mod_rev = mod_of (same_now touched since g h same key is i) }) all)

  fetch_list_same : {id : ℕ} {r : Runner} {v w : World} → IsThere id r v w → Same (fetch_list id r v) (fetch_list id r w)
  fetch_list_same {id} {r} {v} {w} there =
      let g = v.standing.history in
      let h = w.standing.history in
      let same = there.agree.store.history in
      let keys = r.task.program.prefetch in
      let runs = there.agree.within id r there.runs in
      let listed = runs.program.listed in
      let known : List ReadAnswer → Known = λ reads. with_served r.task (record { reads = reads; prefetched = r.known.prefetched }) in
      subst (λ n. Same (fetch_list id r v) (cond (nat_lt n (length keys)) (replied (Ended id (event_refusal TooManyOpsRefusal)) id Over w)
      (replied (Prefetched id (now h) (map (modified_now h) keys)) id (Live (record r { known = after_list r.task h r.known })) w)))
      there.agree.store.limit
      (by_test (nat_lt v.standing.limit (length keys)) _ _ _ _ (over_same _ there)
      (replied_same _ _ _ _ there (λ i. Prefetched id (same.now i) (told_same g h keys same listed i))
      (λ i. Live (record r { known = known (now_same g h keys same listed i) }))
      (knows_within r r.failures (after_list r.task g r.known) runs (served_all (IsReadSince touched since) r.task
      (record { reads = map (answer_now g) keys; prefetched = r.known.prefetched }) (now_within g keys same.reached listed, runs.prefetched)))))

  -- ---- commits

  reread_within : (level : Level) (reads : List ReadAnswer) → AllByRecursion (IsReadSince touched since) reads →
      AllByRecursion (IsTouched touched) (reread_keys level reads)
  reread_within level reads all = grind (arith, nat_tests, all_of_map, all_weaker)

  decided_same : {id : ℕ} {r : Runner} {v w : World} (reads : List ReadAnswer) (run : Run) (d e : Done) (o : Option FailedCompare) → IsThere id r v w →
      SameSince touched since d.history e.history → Same (decided id r reads run d o v) (decided id r reads run e o w)
  decided_same {id} {r} {v} {w} reads run d e None there same = record {
    reply = ap (λ n. let it : Result Reply Denied = Ok (Committed id n (r.failures + 1) run.output run.trace (map committed_read (answers_kept r.task.level reads))) in it)
        same.now;
    next = record {
      store = record { history = same; limit = there.agree.store.limit; floors = there.agree.store.floors; live = there.agree.store.live };
      runners = slots_same Over Over there refl;
      within = slots_within Over there tt;
    };
  }
  decided_same {id} {r} {v} {w} reads run d e (Some failed) there same =
      let g = v.standing.history in
      let h = w.standing.history in
      let store = there.agree.store.history in
      let runs = there.agree.within id r there.runs in
      let keys = reread_keys r.task.level r.known.reads in
      let listed = reread_within r.task.level r.known.reads runs.reads in
      by_test (nat_lt (r.failures + 1) r.task.limit) _ _ _ _
      (replied_same _ _ _ _ there refl
      (ap (λ (answers : List ReadAnswer). Live (record {
        task = r.task;
        failures = r.failures + 1;
        known = with_served r.task (record { reads = []; prefetched = answers });
      })) (now_same g h keys store listed))
      (knows_within r (r.failures + 1) (after_conflict r.task g r.known) runs (served_all (IsReadSince touched since) r.task (record { reads = []; prefetched = map (answer_now g) keys })
      (tt, now_within g keys store.reached listed))))
      (over_same _ there)

  reported_same : {id : ℕ} {r : Runner} {v w : World} (reads : List ReadAnswer) (run : Run) (o p : Result Done StoreRefusal) → IsThere id r v w →
      SameDone touched leased since o p → Same (commit_reported id r reads run o v) (commit_reported id r reads run p w)
  reported_same {id} {r} {v} {w} reads run (Ok d) (Ok e) there same =
      subst (λ failed. Same (decided id r reads run d d.answer.failed v) (decided id r reads run e failed w)) same.0
      (decided_same reads run d e d.answer.failed there same.1)
  reported_same reads run (Ok d) (Err cause) there same = absurd same
  reported_same reads run (Err cause) (Ok e) there same = absurd same
  reported_same {id} {r} {v} {w} reads run (Err cause) (Err other) there same =
      subst (λ refusal. Same (replied (Ended id (event_refusal cause)) id Over v) (replied (Ended id (event_refusal refusal)) id Over w)) same (over_same _ there)

  commit_same : {id : ℕ} {r : Runner} {v w : World} (reads : List ReadAnswer) (run : Run) → IsThere id r v w → AllByRecursion (IsReadSince touched since) reads →
      AllByRecursion (WritesWithin touched leased) (latest_writes run.writes) → Same (commit id r reads run v) (commit id r reads run w)
  unfolding commit
  commit_same {id} {r} {v} {w} reads run there are_read are_written =
      reported_same reads run (committed (terms_of v.standing) r.task.level reads run) (committed (terms_of w.standing) r.task.level reads run) there
      (committed_same touched leased since v.standing w.standing r.task.level reads run there.agree.store are_read are_written)

  finish_same : {id : ℕ} {r : Runner} {v w : World} (reads : List ReadAnswer) (run : Run) (end : End) → IsThere id r v w →
      AllByRecursion (IsReadSince touched since) reads → AllByRecursion (WritesWithin touched leased) (latest_writes run.writes) →
      Same (finish id r reads run end v) (finish id r reads run end w)
  finish_same reads run DoneEnd there are_read are_written = commit_same reads run there are_read are_written
  finish_same reads run (AbortedEnd text) there are_read are_written = over_same _ there
  finish_same reads run (FaultedEnd fault) there are_read are_written = over_same _ there

  -- ---- the step

  step_on_same : {id : ℕ} {r : Runner} {v w : World} (answered : Answered) → run_on r.task.program r.known.reads ≡ answered → IsThere id r v w →
      Same (step_on id r r.known.reads answered v) (step_on id r r.known.reads answered w)
  step_on_same {id} {r} {v} {w} (Wants key trace) is there =
      let runs = there.agree.within id r there.runs in
      fetch_at_same key (at_of r.task.level r.known.reads) there (runs.program.wanted (look_up r.known.reads) key trace is)
      (base_within r.task.level r.known.reads runs.reads)
  step_on_same {id} {r} {v} {w} (EndedRun run) is there =
      let runs = there.agree.within id r there.runs in
      finish_same r.known.reads run run.end there runs.reads (runs.program.written (look_up r.known.reads) run is)

  live_same : {id : ℕ} {r : Runner} {v w : World} → IsThere id r v w → Same (step_live id r v) (step_live id r w)
  unfolding step_live
  live_same {id} {r} {v} {w} there = grind (arith, nat_tests, by_test, fetch_list_same, step_on_same)

  some_runner_same : (id : ℕ) (o : Option Runner) (v w : World) → Agrees v w → runner_at id v.runners ≡ o → Same (step_runner id o v) (step_runner id o w)
  some_runner_same id o v w agree is = grind (arith, nat_tests, live_same)

  pub step_same : (id : ℕ) (v w : World) → Agrees v w → Same (step_runner id (runner_at id v.runners) v) (step_runner id (runner_at id w.runners) w)
  step_same id v w agree = grind (arith, nat_tests, some_runner_same)

  -- ---- turned round

  turned_store : (s t : Standing) → SameStore touched leased since s t → SameStore touched leased since t s
  turned_store s t same = grind (arith, nat_tests, turned_history)

  pub turned : (v w : World) → Agrees v w → Agrees w v
  turned v w agree = grind (arith, nat_tests, turned_store)
