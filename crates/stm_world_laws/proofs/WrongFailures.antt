-- Wrong failures, ends and runs are rejected.
use Rattle.std.proofs.Common.{◌≡◌, ◌≢◌, ◌⊎◌, inl, inr, ℕ, ◌+◌, ◌<◌, ◌≤◌, zero, suc, List, [], ◌∷◌, ◌++◌, length, map, Option, Some, None, Ok}
use Rattle.std.proofs.Common.{Bool, true, false, cond, refl, sym, ◌∙◌, ap, subst, arith}
use Rattle.std.specs.Prelude.{nat_eq, nat_lt, bytes_eq, is_some, ◌&&◌, ◌||◌, slice_get, Result}
use Rattle.std.specs.List.{AllByRecursion}
use Rattle.std.proofs.lemmas.Bool.Decides.{nat_tests}
use Rattle.std.proofs.lemmas.Bool.{ltb-true}
use Rattle.std.proofs.lemmas.List.{append-nil, append_cancel_left, length-append}
use Rattle.std.proofs.lemmas.Option.{same_Some}
use Rattle.stm_history.specs.declared.change.Change.{Change}
use Rattle.stm_history.specs.declared.key_state.KeyState.{KeyState}
use Rattle.stm_history.specs.declared.key_state.ReadAnswer.{ReadAnswer}
use Rattle.stm_history.specs.Opening.{Opening, opening_at, opened_state}
use Rattle.stm_history.specs.History.{History, now, key_now, key_after, mod_of, revisions_up_to, after_change, key_of}
use Rattle.stm_history.proofs.HistoryLaws.{one_more as one_more_revision, mod_is_reached}
use Rattle.stm_program.specs.declared.level.Level.{Level}
use Rattle.stm_program.specs.declared.level.Level.TheVariants.{SerializableSnapshot, Serializable, RepeatableReads, ReadCommitted}
use Rattle.stm_program.specs.Writes.{last_write, is_written, latest_writes}
use Rattle.stm_program.proofs.WriteLemmas.{bytes_eq-self, or_else, last_write-append, last_write-one}
use Rattle.stm_program.proofs.LatestLemmas.{latest_writes-last}
use Rattle.stm_steps.specs.declared.run.End.TheVariants.{Done as DoneEnd}
use Rattle.stm_steps.specs.declared.run.Run.{Run}
use Rattle.stm_steps.specs.declared.run.Answered.TheVariants.{Ended as EndedRun, Wants}
use Rattle.stm_outcome.specs.declared.txn.Compare.{Compare}
use Rattle.stm_outcome.specs.declared.answer.FailedCompare.{FailedCompare}
use Rattle.stm_outcome.specs.Compares.{holds}
use Rattle.stm_outcome.specs.Laws.{FailsAt}
use Rattle.stm_outcome.proofs.Applying.{failed_has_its_place}
use Rattle.stm_program.specs.Levels.{is_serializable}
use Rattle.stm_compile.specs.Answers.{answer_in, answer_now}
use Rattle.stm_compile.specs.CommitTxn.{first_carried, is_as_read, is_unmodified, compares_of, reread_keys}
use Rattle.stm_compile.specs.Committed.{conflict_now}
use Rattle.stm_compile.specs.Conflicts.{Seen, seen_by, seen_of_read, seen_of_write, changes_above}
use Rattle.stm_attempt.specs.Known.{Known}
use Rattle.stm_attempt.specs.Settled.{run_on}
use Rattle.stm_attempt.specs.Fetches.{base_of, HaveOneBase}
use Rattle.stm_entries.specs.declared.entry.Entry.{Entry}
use Rattle.stm_entries.specs.Replayed.{without_moment}
use Rattle.stm_entries.specs.Replay.{replay}
use Rattle.stm_events.specs.declared.reply.Reply.{Reply}
use Rattle.stm_events.specs.declared.reply.Reply.TheVariants.{Started, Prefetched, Fetched, Conflict}
use Rattle.stm_events.specs.declared.refusal.Denied.{Denied}
use Rattle.stm_world.specs.Task.{Task, answer_at, after_list, after_fetch, after_conflict}
use Rattle.stm_world.specs.Log.{Line, begun, running, store, known_after, known_after_log}
use Rattle.stm_world.specs.Doomed.{FailedCommit, NamesAConflict, IsRealFailure, Stopped, IsEndOnOneState, IsRealStop, since, failed_commits, FailuresMoveOn}
use Rattle.stm_world.specs.World.{opened, replies_to}
use Rattle.stm_world_laws.specs.WrongFailures.{reads_of, WrongFailures, WrongRuns}
use Rattle.stm_world.proofs.EventKeeps.{store_opens}
use Rattle.stm_world.proofs.Logs.{one_log}
use Rattle.stm_world.proofs.OneState.{all_show}
use Rattle.stm_world.proofs.Served.{KnowsAll, one_more, found_all, served_all}
use Rattle.stm_world_laws.proofs.MovingOn.{both_seen, seen_at_index, above_all}
use Rattle.stm_txn.specs.Standing.{Setup}

-- ---- what was read was modified at most at the revision that it shows ----

abbrev IsSmall : ReadAnswer → Type 0
IsSmall a = mod_of a.kv ≤ a.of_rev

-- where a history opens without a key
small_up_to : (number r : ℕ) (key : List ℕ) (revisions : List (List Change)) →
    mod_of (key_after (opening_at number) key (revisions_up_to (opening_at number) r revisions)) ≤ r
small_up_to number r key [] = omega arith
small_up_to number r key (changes ∷ older) = grind (arith, nat_tests, mod_is_reached, small_up_to number r key older)

answer_small : (number : ℕ) (h : History) (key : List ℕ) (r : ℕ) → h.opening ≡ opening_at number → IsSmall (answer_at h key r)
answer_small number h key r opens = grind (arith, nat_tests, small_up_to)

now_small : (h : History) (key : List ℕ) → IsSmall (answer_now h key)
now_small h key = mod_is_reached h.opening key h.revisions

rereads_small : (h : History) (keys : List (List ℕ)) → AllByRecursion IsSmall (map (answer_now h) keys)
rereads_small h [] = tt
rereads_small h (key ∷ keys) = (now_small h key, rereads_small h keys)

-- by whether a line is about the runner
small_by : (mine : Bool) (next known : Known) → KnowsAll IsSmall next → KnowsAll IsSmall known → KnowsAll IsSmall (cond mine next known)
small_by mine next known all was = grind (arith, nat_tests)

known_small : (number id : ℕ) (task : Task) (h : History) (reply : Result Reply Denied) (known : Known) → h.opening ≡ opening_at number →
    KnowsAll IsSmall known → KnowsAll IsSmall (known_after id task h reply known)
known_small number id task h (Ok (Prefetched runner revision reads)) known opens all =
    let keys : List (List ℕ) = task.program.prefetch in
    small_by (nat_eq runner id) (after_list task h known) known
    (served_all IsSmall task (record { reads = map (answer_now h) keys; prefetched = known.prefetched }) (rereads_small h keys, all.1)) all
known_small number id task h (Ok (Fetched runner key mod_rev of_rev revision)) known opens all =
    let a : ReadAnswer = answer_at h key of_rev in
    small_by (nat_eq runner id) (after_fetch task a known) known
    (served_all IsSmall task (record { reads = known.reads ++ a ∷ []; prefetched = known.prefetched })
    (one_more IsSmall known.reads a all.0 (answer_small number h key of_rev opens), all.1)) all
known_small number id task h (Ok (Conflict runner key seen now)) known opens all =
    let keys : List (List ℕ) = reread_keys task.level known.reads in
    small_by (nat_eq runner id) (after_conflict task h known) known
    (served_all IsSmall task (record { reads = []; prefetched = map (answer_now h) keys }) (tt, rereads_small h keys)) all
known_small number id task h (Ok (Started runner)) known opens all = all
known_small number id task h _ known opens all = all

reported_small : (start : Setup) (id : ℕ) (task : Task) (log : List Line) → KnowsAll IsSmall (known_after_log start id task log)
reported_small start id task [] = (tt, tt)
reported_small start id task (line ∷ older) =
    known_small start.revision id task (store start older).history line.reply (known_after_log start id task older) (store_opens start older) (reported_small start id task older)

-- so is what a compare is about

abbrev IsSeenSmall : Seen → Type 0
IsSeenSmall s = s.mod_rev ≤ s.at

reads_small : (reads : List ReadAnswer) → AllByRecursion IsSmall reads → AllByRecursion IsSeenSmall (map seen_of_read reads)
reads_small [] all = tt
reads_small (a ∷ reads) all = (all.0, reads_small reads all.1)

writes_small : (first : ℕ) (writes : List Change) → AllByRecursion IsSeenSmall (map (seen_of_write first) writes)
writes_small first [] = tt
writes_small first (w ∷ writes) = (omega arith, writes_small first writes)

seen_small : (reads : List ReadAnswer) (writes : List Change) → AllByRecursion IsSmall reads → AllByRecursion IsSeenSmall (seen_by reads writes)
seen_small reads writes all = grind (arith, nat_tests, both_seen, reads_small, writes_small)

-- ---- a key that is present, and was changed above a revision, was modified above it ----

changed_above : (r number : ℕ) (change : Option Change) (s : Option KeyState) (deeper : Bool) → r < number →
    ((nat_lt r number && is_some change) || deeper) ≡ true → (deeper ≡ true → 0 < mod_of s → r < mod_of s) → 0 < mod_of (after_change number change s) →
    r < mod_of (after_change number change s)
changed_above r number change s deeper above changed later present = grind (arith, nat_tests)

modified_above : (opening : Opening) (r : ℕ) (key : List ℕ) (revisions : List (List Change)) → changes_above opening r key revisions ≡ true →
    0 < mod_of (key_after opening key revisions) → r < mod_of (key_after opening key revisions)
modified_above opening r key [] changed present = ltb-true r (mod_of (opened_state opening key)) changed
modified_above opening r key (changes ∷ older) changed present =
    grind (arith, nat_tests, one_more_revision, changed_above, above_all, modified_above opening r key older)

-- ---- what a compare that fails is about ----

-- a key that was read, and is not as it was seen
record IsOfRead (h : History) (reads : List ReadAnswer) (seen : Seen) : Type 0 where
  was_read : is_some (answer_in seen.key reads) ≡ true
  differs : mod_of (key_now h seen.key) ≢ seen.mod_rev

-- a key that was written, and is not as it was seen
record IsOfWrite (h : History) (writes : List Change) (seen : Seen) : Type 0 where
  was_written : is_written seen.key writes ≡ true
  differs : mod_of (key_now h seen.key) ≢ seen.mod_rev

of_first : (h : History) (a : ReadAnswer) (reads : List ReadAnswer) (c : Compare) (seen : Seen) → c ≡ is_as_read a → seen ≡ seen_of_read a →
    holds c (key_now h c.key) ≡ false → IsOfRead h (a ∷ reads) seen
of_first h a reads c seen compares about fails = grind (arith, nat_tests, bytes_eq-self)

of_later : (h : History) (a : ReadAnswer) (reads : List ReadAnswer) (seen : Seen) → IsOfRead h reads seen → IsOfRead h (a ∷ reads) seen
of_later h a reads seen of = grind (arith, nat_tests)

of_read : (h : History) (reads : List ReadAnswer) (more : List Seen) (i : ℕ) (c : Compare) (seen : Seen) → slice_get (map is_as_read reads) i ≡ Some c →
    holds c (key_now h c.key) ≡ false → slice_get (map seen_of_read reads ++ more) i ≡ Some seen → IsOfRead h reads seen
of_read h [] more i c seen at fails about = absurd (cc)
of_read h (a ∷ reads) more zero c seen at fails about =
    of_first h a reads c seen (same_Some c (is_as_read a) (sym at)) (same_Some seen (seen_of_read a) (sym about)) fails
of_read h (a ∷ reads) more (suc i) c seen at fails about = of_later h a reads seen (of_read h reads more i c seen at fails about)

-- the last write of a key in a list with one write before it
written_by : (w : Change) (ws : List Change) (key : List ℕ) →
    is_written key (w ∷ ws) ≡ is_some (or_else (last_write key ws) (cond (bytes_eq (key_of w) key) (Some w) None))
written_by w ws key =
    ap is_some (last_write-append key (w ∷ []) ws ∙ ap (λ (o : Option Change). or_else (last_write key ws) o) (last_write-one key w))

of_first_write : (h : History) (first : ℕ) (w : Change) (ws : List Change) (c : Compare) (seen : Seen) → c ≡ is_unmodified first w →
    seen ≡ seen_of_write first w → holds c (key_now h c.key) ≡ false → IsOfWrite h (w ∷ ws) seen
of_first_write h first w ws c seen compares about fails = grind (arith, nat_tests, written_by, bytes_eq-self)

of_later_write : (h : History) (w : Change) (ws : List Change) (seen : Seen) → IsOfWrite h ws seen → IsOfWrite h (w ∷ ws) seen
of_later_write h w ws seen of = grind (arith, nat_tests, written_by)

of_write : (h : History) (first : ℕ) (ws : List Change) (i : ℕ) (c : Compare) (seen : Seen) → slice_get (map (is_unmodified first) ws) i ≡ Some c →
    holds c (key_now h c.key) ≡ false → slice_get (map (seen_of_write first) ws) i ≡ Some seen → IsOfWrite h ws seen
of_write h first [] i c seen at fails about = absurd (cc)
of_write h first (w ∷ ws) zero c seen at fails about =
    of_first_write h first w ws c seen (same_Some c (is_unmodified first w) (sym at)) (same_Some seen (seen_of_write first w) (sym about)) fails
of_write h first (w ∷ ws) (suc i) c seen at fails about = of_later_write h w ws seen (of_write h first ws i c seen at fails about)

of_either : (h : History) (first : ℕ) (reads : List ReadAnswer) (ws : List Change) (i : ℕ) (c : Compare) (seen : Seen) →
    slice_get (map is_as_read reads ++ map (is_unmodified first) ws) i ≡ Some c → holds c (key_now h c.key) ≡ false →
    slice_get (map seen_of_read reads ++ map (seen_of_write first) ws) i ≡ Some seen → IsOfRead h reads seen ⊎ IsOfWrite h ws seen
of_either h first [] ws i c seen at fails about = inr (of_write h first ws i c seen at fails about)
of_either h first (a ∷ reads) ws zero c seen at fails about = grind (arith, nat_tests, of_first, same_Some)
of_either h first (a ∷ reads) ws (suc i) c seen at fails about = grind (arith, nat_tests, of_later, of_either h first reads ws i c seen at fails about)

reads_alone : (h : History) (reads : List ReadAnswer) (writes : List Change) (failed : FailedCompare) (seen : Seen) →
    FailsAt (key_now h) (map is_as_read reads) failed → slice_get (seen_by reads writes) failed.index ≡ Some seen → IsOfRead h reads seen
reads_alone h reads writes failed seen f about =
    of_read h reads (map (seen_of_write (first_carried reads)) writes) failed.index f.compare seen f.stands f.fails about

-- at a level that compares no written keys it is about one that was read
of_level : (h : History) (level : Level) (reads : List ReadAnswer) (writes : List Change) (failed : FailedCompare) (seen : Seen) →
    level ≢ SerializableSnapshot → conflict_now h level reads writes ≡ Some failed → slice_get (seen_by reads writes) failed.index ≡ Some seen →
    IsOfRead h reads seen
of_level h SerializableSnapshot reads writes failed seen other fails about = absurd (other refl)
of_level h Serializable reads writes failed seen other fails about =
    reads_alone h reads writes failed seen (failed_has_its_place (key_now h) (map is_as_read reads) failed fails) about
of_level h RepeatableReads reads writes failed seen other fails about =
    reads_alone h reads writes failed seen (failed_has_its_place (key_now h) (map is_as_read reads) failed fails) about
of_level h ReadCommitted reads writes failed seen other fails about = absurd (cc)

touched : (h : History) (level : Level) (reads : List ReadAnswer) (writes : List Change) (failed : FailedCompare) (seen : Seen) →
    conflict_now h level reads writes ≡ Some failed → slice_get (seen_by reads writes) failed.index ≡ Some seen →
    IsOfRead h reads seen ⊎ IsOfWrite h writes seen
touched h SerializableSnapshot reads writes failed seen fails about =
    let f = failed_has_its_place (key_now h) (compares_of SerializableSnapshot reads writes) failed fails in
    of_either h (first_carried reads) reads writes failed.index f.compare seen f.stands f.fails about
touched h Serializable reads writes failed seen fails about =
    inl (reads_alone h reads writes failed seen (failed_has_its_place (key_now h) (map is_as_read reads) failed fails) about)
touched h RepeatableReads reads writes failed seen fails about =
    inl (reads_alone h reads writes failed seen (failed_has_its_place (key_now h) (map is_as_read reads) failed fails) about)
touched h ReadCommitted reads writes failed seen fails about = absurd (cc)

-- ---- failed commits ----

-- a failed commit of a runner with this task
record Fails (start : Setup) (log : List Line) (failed : FailedCommit) (task : Task) : Type 0 where
  run : Run
  is_run : run_on task.program (reads_of start log failed.runner task) ≡ EndedRun run
  is_done : run.end ≡ DoneEnd
  named : NamesAConflict (store start log).history task.level (reads_of start log failed.runner task) (latest_writes run.writes) failed

fails_as : (start : Setup) (log : List Line) (failed : FailedCommit) (task : Task) → running failed.runner log ≡ Some task → IsRealFailure start log failed →
    Fails start log failed task
fails_as start log failed task runs real = grind (arith, nat_tests, same_Some)

one_run : (a b : Run) → EndedRun a ≡ EndedRun b → a ≡ b
one_run a b same = cc

none_at : (h : History) (level : Level) (reads : List ReadAnswer) (writes : List Change) (compare : FailedCompare) → level ≡ ReadCommitted →
    conflict_now h level reads writes ≡ Some compare → ⊥
none_at h level reads writes compare is fails = grind (arith, nat_tests)

-- a key that has no answer was not read
unread : (h : History) (reads : List ReadAnswer) (key : List ℕ) (seen : Seen) → key ≡ seen.key → answer_in key reads ≡ None → IsOfRead h reads seen → ⊥
unread h reads key seen same none of = grind (arith, nat_tests)

untouched : (h : History) (reads : List ReadAnswer) (writes : List Change) (key : List ℕ) (seen : Seen) → key ≡ seen.key → answer_in key reads ≡ None →
    is_written key writes ≡ false → IsOfRead h reads seen ⊎ IsOfWrite h (latest_writes writes) seen → ⊥
untouched h reads writes key seen same none unwritten h9 = grind (arith, nat_tests, unread, latest_writes-last)

other_number : (h : History) (reads : List ReadAnswer) (writes : List Change) (seen : Seen) → IsOfRead h reads seen ⊎ IsOfWrite h writes seen →
    mod_of (key_now h seen.key) ≢ seen.mod_rev
other_number h reads writes seen h5 = grind (arith, nat_tests)

-- ---- ends ----

-- the end of a runner with this task at a serializable level
ends_as : (start : Setup) (log : List Line) (stopped : Stopped) (task : Task) → running stopped.runner log ≡ Some task → is_serializable task.level ≡ true →
    IsRealStop start log stopped → IsEndOnOneState (store start log).history task (reads_of start log stopped.runner task) stopped.end
ends_as start log stopped task runs serializable real = grind (arith, nat_tests, same_Some)

shows_base : (reads : List ReadAnswer) (key : List ℕ) (a : ReadAnswer) → HaveOneBase reads → answer_in key reads ≡ Some a → a.of_rev ≡ base_of reads
shows_base reads key a one found = grind (arith, nat_tests, found_all, all_show)

pub wrong_failures : FailuresMoveOn → WrongFailures
wrong_failures moves_on = record {
  failure_of_none = λ start log failed none real. let both : None ≡ Some real.task = sym none ∙ real.runs in absurd (cc);
  not_done = λ start log task failed run runs is other real.
      let f : Fails start log failed task = fails_as start log failed task runs real in
      other (ap (λ (r : Run). r.end) (one_run run f.run (sym is ∙ f.is_run)) ∙ f.is_done);
  still_wants = λ start log task failed key trace runs wants real.
      let f : Fails start log failed task = fails_as start log failed task runs real in
      let both : Wants key trace ≡ EndedRun f.run = sym wants ∙ f.is_run in
      absurd (cc);
  not_compared = λ start log task failed runs level real.
      let f : Fails start log failed task = fails_as start log failed task runs real in
      none_at (store start log).history task.level (reads_of start log failed.runner task) (latest_writes f.run.writes) f.named.compare level f.named.fails;
  never_read = λ start log task failed runs level none real.
      let f : Fails start log failed task = fails_as start log failed task runs real in
      let h : History = (store start log).history in
      let reads : List ReadAnswer = reads_of start log failed.runner task in
      unread h reads failed.key f.named.conflict.seen f.named.key none
      (of_level h task.level reads (latest_writes f.run.writes) f.named.compare f.named.conflict.seen level f.named.fails f.named.conflict.about);
  never_touched = λ start log task failed run runs is none unwritten real.
      let f : Fails start log failed task = fails_as start log failed task runs real in
      let h : History = (store start log).history in
      let reads : List ReadAnswer = reads_of start log failed.runner task in
      let same : run ≡ f.run = one_run run f.run (sym is ∙ f.is_run) in
      untouched h reads f.run.writes failed.key f.named.conflict.seen f.named.key none (ap (λ (r : Run). is_written failed.key r.writes) (sym same) ∙ unwritten)
      (touched h task.level reads (latest_writes f.run.writes) f.named.compare f.named.conflict.seen f.named.fails f.named.conflict.about);
  as_it_was = λ start log failed equal real.
      let h : History = (store start log).history in
      let reads : List ReadAnswer = reads_of start log failed.runner real.task in
      let writes : List Change = latest_writes real.run.writes in
      let c : NamesAConflict h real.task.level reads writes failed = real.named in
      other_number h reads writes c.conflict.seen (touched h real.task.level reads writes c.compare c.conflict.seen c.fails c.conflict.about)
      (sym c.conflict.reported ∙ sym c.is ∙ equal ∙ c.was);
  not_above = λ start log failed present below real.
      let h : History = (store start log).history in
      let reads : List ReadAnswer = reads_of start log failed.runner real.task in
      let writes : List Change = latest_writes real.run.writes in
      let c : NamesAConflict h real.task.level reads writes failed = real.named in
      let seen : Seen = c.conflict.seen in
      let small : seen.mod_rev ≤ seen.at =
      seen_at_index IsSeenSmall (seen_by reads writes) c.compare.index seen
      (seen_small reads writes (reported_small start failed.runner real.task log).0) c.conflict.about in
      let is : failed.now_modified ≡ mod_of (key_now h seen.key) = c.is ∙ c.conflict.reported in
      let above : seen.at < mod_of (key_now h seen.key) =
      modified_above h.opening seen.at seen.key h.revisions c.conflict.changed (subst (λ n. 0 < n) is present) in
      omega (arith, small, above, is, c.was, below);
  more_failures_than_growth = λ start events log id task low begins below is.
      let run = moves_on start events in
      let same : run.0 ≡ log = one_log events (replies_to events (opened start)) run.0 log run.1 is in
      let begins_there = subst (λ (l : List Line). begun id l ≡ Some task) (sym same) begins in
      let reached = subst (λ (l : List Line). since start id l + failed_commits id l ≤ now (store start l).history) same
      (run.2 id task low begins_there) in
      omega (arith, reached, below);
  stop_of_none = λ start log stopped none real. let both : None ≡ Some real.task = sym none ∙ real.runs in absurd (cc);
  torn_read = λ start log task stopped key other a b runs serializable one two differ real.
      let e = ends_as start log stopped task runs serializable real in
      let reads : List ReadAnswer = reads_of start log stopped.runner task in
      differ (shows_base reads key a e.state.one_revision one ∙ sym (shows_base reads other b e.state.one_revision two));
  another_end = λ start log task stopped run runs serializable is other real.
      let e = ends_as start log stopped task runs serializable real in
      other (ap (λ (r : Run). r.end) (one_run run e.run (sym is ∙ e.alone)) ∙ e.ends);
}

-- ---- entries that are appended ----

-- what stands in front of others stays in its place
stays_in_place : (front rest : List Entry) (n : ℕ) (was : Entry) → slice_get front n ≡ Some was → slice_get (front ++ rest) n ≡ Some was
stays_in_place [] rest n was at = absurd (cc)
stays_in_place (e ∷ front) rest zero was at = at
stays_in_place (e ∷ front) rest (suc n) was at = stays_in_place front rest n was at

pub wrong_runs : WrongRuns
wrong_runs = record {
  entry_lost = λ old new fewer appended.
      let count : length new.entries ≡ length old.entries + length appended.more =
      ap length appended.entries ∙ length-append old.entries appended.more in
      omega (arith, count, fewer);
  entry_changed = λ old new n was is at there other appended.
      let stays : slice_get new.entries n ≡ Some was =
      ap (λ (es : List Entry). slice_get es n) appended.entries ∙ stays_in_place old.entries appended.more n was at in
      other (same_Some is was (sym there ∙ stays));
  change_not_entered = λ old new same changed appended.
      let none : appended.more ≡ [] =
      append_cancel_left old.entries appended.more [] (sym appended.entries ∙ same ∙ sym (append-nil old.entries)) in
      changed (sym appended.replays ∙ ap (λ (es : List Entry). replay es (without_moment old.standing)) none);
}
