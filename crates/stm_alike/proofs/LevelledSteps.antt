-- A step from a world with what can be seen of its attempts.
use Rattle.std.proofs.Common.{◌≡◌, ℕ, Bool, cond, List, [], ◌∷◌, ◌++◌, length, map, Option, Some, None, option_map, Result, Ok, Err}
use Rattle.std.proofs.Common.{refl, sym, ◌∙◌, ap, subst, arith}
use Rattle.std.proofs.lemmas.List.{map-set, length-map}
use Rattle.std.proofs.lemmas.Option.{slice_get-map}
use Rattle.std.specs.Prelude.{nat_lt}
use Rattle.std.proofs.lemmas.Bool.Decides.{nat_tests}
use Rattle.stm_history.specs.declared.key_state.ReadAnswer.{ReadAnswer}
use Rattle.stm_steps.specs.declared.run.End.{End}
use Rattle.stm_steps.specs.declared.run.End.TheVariants.{Done as DoneEnd, Aborted as AbortedEnd, Faulted as FaultedEnd}
use Rattle.stm_steps.specs.declared.run.Run.{Run}
use Rattle.stm_steps.specs.declared.run.Answered.{Answered}
use Rattle.stm_steps.specs.declared.run.Answered.TheVariants.{Ended as EndedRun, Wants}
use Rattle.stm_outcome.specs.declared.answer.FailedCompare.{FailedCompare}
use Rattle.stm_outcome.specs.declared.refusal.Refusal.{Refusal as StoreRefusal}
use Rattle.stm_outcome.specs.Outcome.{Done}
use Rattle.stm_outcome.specs.Commits.{revision_read}
use Rattle.stm_outcome.specs.Terms.{is_below_floor}
use Rattle.stm_txn.specs.Standing.{Standing, terms_of}
use Rattle.stm_compile.specs.Committed.{committed}
use Rattle.stm_attempt.specs.Known.{known_of}
use Rattle.stm_attempt.specs.Settled.{run_on}
use Rattle.stm_attempt.specs.Entering.{is_due}
use Rattle.stm_attempt.specs.Fetches.{at_of}
use Rattle.stm_events.specs.declared.event.WorldEvent.{WorldEvent}
use Rattle.stm_events.specs.declared.event.WorldEvent.TheVariants.{Start, Step}
use Rattle.stm_events.specs.declared.reply.Reply.{Reply}
use Rattle.stm_world.specs.Task.{Task, answer_at}
use Rattle.stm_world.specs.World.{World, Runner, Slot, Over, Live, Stepped, runner_at, with_slot, start_runner, replied, fetch, fetch_at, fetch_list, decided}
use Rattle.stm_world.specs.World.{commit_reported, commit, finish, step_on, step_live, step_runner, step}
use Rattle.stm_world.proofs.CommitCases.{fails}
use Rattle.stm_alike.specs.Levelled.{reads_seen}
use Rattle.stm_alike.specs.Seen.{seen_runner, seen_slot, seen_reply}
use Rattle.stm_alike.proofs.SeenAttempts.{seen_again, seen_more, seen_run, seen_due, seen_at, seen_reread, seen_commit, seen_conflict, seen_kept}

-- a world with its attempts levelled, and without its entries
abbrev pub levelled_world : World → World
levelled_world w = record { standing = w.standing; runners = map seen_slot w.runners; entries = [] }

-- ---- places of runners

slot_again : (slot : Slot) → seen_slot (seen_slot slot) ≡ seen_slot slot
slot_again slot = grind (arith, nat_tests, seen_again)

pub slots_again : (slots : List Slot) → map seen_slot (map seen_slot slots) ≡ map seen_slot slots
slots_again [] = refl
slots_again (slot ∷ slots) = ap (λ s. s ∷ map seen_slot (map seen_slot slots)) (slot_again slot) ∙ ap (λ rest. seen_slot slot ∷ rest) (slots_again slots)

both_put : (id : ℕ) (one other : Slot) (slots : List Slot) → seen_slot one ≡ seen_slot other →
    map seen_slot (with_slot id one (map seen_slot slots)) ≡ map seen_slot (with_slot id other slots)
both_put id one other slots same = grind (arith, nat_tests, map-set, slots_again)

pub runner_seen : (id : ℕ) (slots : List Slot) → runner_at id (map seen_slot slots) ≡ option_map seen_runner (runner_at id slots)
runner_seen id slots = grind (arith, nat_tests, slice_get-map)

-- ---- what comes of a step

record Same (a b : Stepped) : Type 0 where
  reply : seen_reply a.reply ≡ seen_reply b.reply
  next : levelled_world a.next ≡ levelled_world b.next

in_store : (s : Standing) (one other : List Slot) → one ≡ other → (let it : World = record { standing = s; runners = one; entries = [] } in it) ≡ record { standing = s; runners = other; entries = [] }
in_store s one other same = ap (λ slots. let it : World = record { standing = s; runners = slots; entries = [] } in it) same

by_test : (b : Bool) (x1 y1 x2 y2 : Stepped) → Same x1 x2 → Same y1 y2 → Same (cond b x1 y1) (cond b x2 y2)
by_test b x1 y1 x2 y2 first second = grind (arith, nat_tests)

replied_same : (reply1 reply2 : Reply) (id : ℕ) (slot1 slot2 : Slot) (w : World) → reply1 ≡ reply2 → seen_slot slot1 ≡ seen_slot slot2 →
    Same (replied reply1 id slot1 (levelled_world w)) (replied reply2 id slot2 w)
replied_same reply1 reply2 id slot1 slot2 w reply slot = grind (arith, nat_tests, in_store, both_put)

fetch_same : (id : ℕ) (r : Runner) (key : List ℕ) (of_rev : ℕ) (w : World) → Same (fetch id (seen_runner r) key of_rev (levelled_world w)) (fetch id r key of_rev w)
unfolding fetch
fetch_same id r key of_rev w = replied_same _ _ id _ _ w refl
    (ap (λ reads. Live (record { task = r.task; failures = r.failures; known = known_of reads r.known.prefetched }))
    (seen_more r.task.level r.task.program r.known.prefetched r.known.reads (answer_at w.standing.history key of_rev)))

fetch_at_same : (id : ℕ) (r : Runner) (key : List ℕ) (base : ℕ) (w : World) → Same (fetch_at id (seen_runner r) key base (levelled_world w)) (fetch_at id r key base w)
fetch_at_same id r key base w =
    by_test (is_below_floor w.standing.floor base) _ _ _ _ (replied_same _ _ id Over Over w refl refl) (fetch_same id r key (revision_read w.standing.history base) w)

fetch_list_same : (id : ℕ) (r : Runner) (w : World) → Same (fetch_list id (seen_runner r) (levelled_world w)) (fetch_list id r w)
fetch_list_same id r w =
    by_test (nat_lt w.standing.limit (length r.task.program.prefetch)) _ _ _ _ (replied_same _ _ id Over Over w refl refl) (replied_same _ _ id _ _ w refl refl)

-- what can be seen of the answers of an attempt
abbrev seen_reads : Runner → List ReadAnswer
seen_reads r = reads_seen r.task.level r.known.prefetched r.known.reads

decided_same : (id : ℕ) (r : Runner) (run : Run) (done : Done) (o : Option FailedCompare) (w : World) →
    committed (terms_of w.standing) r.task.level r.known.reads run ≡ Ok done → done.answer.failed ≡ o →
    Same (decided id (seen_runner r) (seen_reads r) run done o (levelled_world w)) (decided id r r.known.reads run done o w)
decided_same id r run done o w is found = grind (arith, nat_tests, seen_kept, in_store, both_put, fails, seen_conflict, by_test, replied_same, seen_reread)

reported_same : (id : ℕ) (r : Runner) (run : Run) (o : Result Done StoreRefusal) (w : World) → committed (terms_of w.standing) r.task.level r.known.reads run ≡ o →
    Same (commit_reported id (seen_runner r) (seen_reads r) run o (levelled_world w)) (commit_reported id r r.known.reads run o w)
reported_same id r run (Ok done) w is = decided_same id r run done done.answer.failed w is refl
reported_same id r run (Err cause) w is = replied_same _ _ id Over Over w refl refl

commit_same : (id : ℕ) (r : Runner) (run : Run) (w : World) → Same (commit id (seen_runner r) (seen_reads r) run (levelled_world w)) (commit id r r.known.reads run w)
unfolding commit
commit_same id r run w =
    subst (λ (o : Result Done StoreRefusal). Same (commit_reported id (seen_runner r) (seen_reads r) run o (levelled_world w))
    (commit_reported id r r.known.reads run (committed (terms_of w.standing) r.task.level r.known.reads run) w))
    (sym (seen_commit (terms_of w.standing) r.task.level r.known.prefetched r.known.reads run))
    (reported_same id r run (committed (terms_of w.standing) r.task.level r.known.reads run) w refl)

finish_same : (id : ℕ) (r : Runner) (run : Run) (end : End) (w : World) →
    Same (finish id (seen_runner r) (seen_reads r) run end (levelled_world w)) (finish id r r.known.reads run end w)
finish_same id r run DoneEnd w = commit_same id r run w
finish_same id r run (AbortedEnd text) w = replied_same _ _ id Over Over w refl refl
finish_same id r run (FaultedEnd fault) w = replied_same _ _ id Over Over w refl refl

step_on_same : (id : ℕ) (r : Runner) (answered : Answered) (w : World) →
    Same (step_on id (seen_runner r) (seen_reads r) answered (levelled_world w)) (step_on id r r.known.reads answered w)
step_on_same id r (Wants key trace) w =
    subst (λ n. Same (fetch_at id (seen_runner r) key n (levelled_world w)) (fetch_at id r key (at_of r.task.level r.known.reads) w))
    (sym (seen_at r.task.level r.known.prefetched r.known.reads)) (fetch_at_same id r key (at_of r.task.level r.known.reads) w)
step_on_same id r (EndedRun run) w = finish_same id r run run.end w

live_same : (id : ℕ) (r : Runner) (w : World) → Same (step_live id (seen_runner r) (levelled_world w)) (step_live id r w)
unfolding step_live
live_same id r w =
    subst (λ b. Same
    (cond b (fetch_list id (seen_runner r) (levelled_world w))
    (step_on id (seen_runner r) (seen_reads r) (run_on r.task.program (seen_reads r)) (levelled_world w)))
    (cond (is_due r.task.program.prefetch r.known.reads) (fetch_list id r w) (step_on id r r.known.reads (run_on r.task.program r.known.reads) w)))
    (sym (seen_due r.task.level r.task.program.prefetch r.known.prefetched r.known.reads))
    (subst (λ (run : Answered). Same
    (cond (is_due r.task.program.prefetch r.known.reads) (fetch_list id (seen_runner r) (levelled_world w))
    (step_on id (seen_runner r) (seen_reads r) run (levelled_world w)))
    (cond (is_due r.task.program.prefetch r.known.reads) (fetch_list id r w) (step_on id r r.known.reads (run_on r.task.program r.known.reads) w)))
    (sym (seen_run r.task.level r.task.program r.known.prefetched r.known.reads))
    (by_test (is_due r.task.program.prefetch r.known.reads) _ _ _ _ (fetch_list_same id r w) (step_on_same id r (run_on r.task.program r.known.reads) w)))

world_again : (w : World) → levelled_world (levelled_world w) ≡ levelled_world w
world_again w = in_store w.standing _ _ (slots_again w.runners)

some_runner_same : (id : ℕ) (o : Option Runner) (w : World) → Same (step_runner id (option_map seen_runner o) (levelled_world w)) (step_runner id o w)
some_runner_same id None w = record { reply = refl; next = world_again w }
some_runner_same id (Some r) w = live_same id r w

step_same : (id : ℕ) (w : World) → Same (step (Step id) (levelled_world w)) (step (Step id) w)
step_same id w =
    subst (λ (o : Option Runner). Same (step_runner id o (levelled_world w)) (step_runner id (runner_at id w.runners) w))
    (sym (runner_seen id w.runners)) (some_runner_same id (runner_at id w.runners) w)

more_slots : (slots : List Slot) (slot : Slot) → map seen_slot (map seen_slot slots ++ slot ∷ []) ≡ map seen_slot (slots ++ slot ∷ [])
more_slots [] slot = refl
more_slots (s ∷ slots) slot = grind (arith, nat_tests, slot_again, more_slots slots slot)

started_same : (task : Task) (w : World) → Same (start_runner task (levelled_world w)) (start_runner task w)
unfolding start_runner
started_same task w = grind (arith, nat_tests, by_test, world_again, length-map, in_store, more_slots)

pub next_levelled : (event : WorldEvent) (w : World) → levelled_world (step event (levelled_world w)).next ≡ levelled_world (step event w).next
next_levelled (Start program level limit) w = (started_same (record { program = program; level = level; limit = limit }) w).next
next_levelled (Step id) w = (step_same id w).next
next_levelled _ w = in_store _ _ _ (slots_again w.runners)

pub told_levelled : (event : WorldEvent) (w : World) → seen_reply (step event (levelled_world w)).reply ≡ seen_reply (step event w).reply
told_levelled event w = grind (arith, nat_tests, started_same, step_same)
