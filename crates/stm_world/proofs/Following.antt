-- A world follows a log: its runners and its store are what the log says, and its entries replay to that store.
use Rattle.std.proofs.Common.{◌≡◌, ℕ, ◌+◌, ◌<◌, ◌≤◌, List, [], ◌∷◌, ◌++◌, length, Some, None, Ok, true, false, cond, refl, sym, ◌∙◌, ap, subst, arith}
use Rattle.std.proofs.lemmas.List.{append-nil}
use Rattle.std.specs.Prelude.{nat_eq, Result}
use Rattle.std.proofs.lemmas.Bool.Decides.{nat_tests}
use Rattle.stm_entries.specs.declared.entry.Entry.{Entry}
use Rattle.stm_entries.specs.Replayed.{opening, without_moment}
use Rattle.stm_entries.specs.Replay.{replay}
use Rattle.stm_entries.specs.Legal.{AreLegal}
use Rattle.stm_entries.proofs.Replaying.{replay_goes_on, all_legal}
use Rattle.stm_events.specs.declared.event.WorldEvent.{WorldEvent}
use Rattle.stm_events.specs.declared.event.WorldEvent.TheVariants.{Step}
use Rattle.stm_events.specs.declared.reply.Reply.{Reply}
use Rattle.stm_events.specs.declared.refusal.Denied.{Denied}
use Rattle.stm_world.specs.Log.{Line, started, is_start, runner_started, store, line_entries, entries_reported}
use Rattle.stm_world.specs.Right.{IsRight, AreRight}
use Rattle.stm_world.specs.World.{World, Stepped, Runner, Slot, live_in, runner_at, with_slot}
use Rattle.stm_world.specs.Sound.{KnowsTruth}
use Rattle.stm_world.specs.Headline.{runner_in_log}
use Rattle.stm_world.proofs.Truth.{known_stays}
use Rattle.stm_world.proofs.Entered.{EntriesFollow}
use Rattle.stm_world.proofs.Bases.{IsWellRun}
use Rattle.stm_world.proofs.Slots.{equal_numbers, other_number, differ, runner_there, runner_own, runner_other, count_stays}
use Rattle.stm_world.proofs.Untouched.{Untouched, IsFresh, same_in_log, fresh_stays}
use Rattle.stm_txn.specs.Standing.{Setup}

-- these places and entries are what the log says
pub record FollowsAt (start : Setup) (log : List Line) (runners : List Slot) (entries : List Entry) : Type 0 where
  pub right : AreRight start log
  pub count : length runners ≡ started log
  pub slots : (id : ℕ) → runner_at id runners ≡ runner_in_log start log id
  pub fresh : (id : ℕ) → started log < id → IsFresh start log id
  pub truth : (id : ℕ) (r : Runner) → runner_at id runners ≡ Some r → KnowsTruth (store start log).history r.known
  pub well_run : (id : ℕ) (r : Runner) → runner_at id runners ≡ Some r → IsWellRun start r
  pub reported : entries ≡ entries_reported start log
  pub replays : replay entries (opening start.revision) ≡ without_moment (store start log)
  pub legal : AreLegal entries (opening start.revision)

-- a log with one more line
abbrev pub with_line : WorldEvent → Result Reply Denied → List Line → List Line
with_line event reply log = record { event = event; reply = reply } ∷ log

-- a world with the store that the log leads to
abbrev pub world_at : Setup → List Line → List Slot → List Entry → World
world_at start log runners entries = record { standing = store start log; runners = runners; entries = entries }

-- a step leads to a world that follows the log with its line
pub record FollowsStep (start : Setup) (log : List Line) (event : WorldEvent) (s : Stepped) : Type 0 where
  pub standing : s.next.standing ≡ store start (with_line event s.reply log)
  pub follows : FollowsAt start (with_line event s.reply log) s.next.runners s.next.entries

replays_more : (start : Setup) (log after : List Line) (runners : List Slot) (entries more : List Entry) → FollowsAt start log runners entries →
    EntriesFollow (store start log) (store start after) more → replay (entries ++ more) (opening start.revision) ≡ without_moment (store start after)
replays_more start log after runners entries more f e = grind (arith, nat_tests, replay_goes_on)

legal_more : (start : Setup) (log after : List Line) (runners : List Slot) (entries more : List Entry) → FollowsAt start log runners entries →
    EntriesFollow (store start log) (store start after) more → AreLegal (entries ++ more) (opening start.revision)
legal_more start log after runners entries more f e = grind (arith, nat_tests, all_legal)

-- the entries with those of one more line
entries_more : (start : Setup) (log : List Line) (runners : List Slot) (entries more : List Entry) (line : Line) → FollowsAt start log runners entries →
    more ≡ line_entries start line log → entries ++ more ≡ entries_reported start (line ∷ log)
entries_more start log runners entries more line f is = ap (λ (es : List Entry). es ++ more) f.reported ∙ ap (λ (es : List Entry). entries_reported start log ++ es) is

same_count : (event : WorldEvent) (reply : Result Reply Denied) (log : List Line) → runner_started reply ≡ None →
    started (with_line event reply log) ≡ started log
same_count event reply log none = ap (λ o. cond (is_start o) (started log + 1) (started log)) none

-- an event that is about no runner
pub no_runner_touched : (start : Setup) (log : List Line) (runners : List Slot) (entries more : List Entry) (event : WorldEvent)
    (reply : Result Reply Denied) → FollowsAt start log runners entries → IsRight start log event reply → runner_started reply ≡ None →
    ((id : ℕ) → Untouched id reply) → more ≡ line_entries start (record { event = event; reply = reply }) log →
    EntriesFollow (store start log) (store start (with_line event reply log)) more → FollowsAt start (with_line event reply log) runners (entries ++ more)
no_runner_touched start log runners entries more event reply f right none untouched entered e =
    let line : Line = record { event = event; reply = reply } in
    let count : started (line ∷ log) ≡ started log = same_count event reply log none in
    record {
      right = (right, f.right);
      count = f.count ∙ sym count;
      slots = λ id. f.slots id ∙ sym (same_in_log start id line log (untouched id));
      fresh = λ id above. fresh_stays start id line log (untouched id) (f.fresh id (subst (λ n. n < id) count above));
      truth = λ id r found. known_stays (store start log).history (store start (line ∷ log)).history r.known e.keeps (f.truth id r found);
      well_run = f.well_run;
      reported = entries_more start log runners entries more line f entered;
      replays = replays_more start log (line ∷ log) runners entries more f e;
      legal = legal_more start log (line ∷ log) runners entries more f e;
    }

-- an event that changes nothing at all
pub nothing_touched : (start : Setup) (log : List Line) (runners : List Slot) (entries : List Entry) (event : WorldEvent) (reply : Result Reply Denied) →
    FollowsAt start log runners entries → IsRight start log event reply → runner_started reply ≡ None → ((id : ℕ) → Untouched id reply) →
    [] ≡ line_entries start (record { event = event; reply = reply }) log →
    EntriesFollow (store start log) (store start (with_line event reply log)) [] → FollowsAt start (with_line event reply log) runners entries
nothing_touched start log runners entries event reply f right none untouched entered e =
    subst (λ (es : List Entry). FollowsAt start (with_line event reply log) runners es) (append-nil entries)
    (no_runner_touched start log runners entries [] event reply f right none untouched entered e)

-- a step that leads a runner to another place
pub slot_touched : (start : Setup) (log : List Line) (runners : List Slot) (entries more : List Entry) (id : ℕ) (r : Runner) (slot : Slot) (reply : Reply) →
    FollowsAt start log runners entries → runner_at id runners ≡ Some r → IsRight start log (Step id) (Ok reply) → runner_started (Ok reply) ≡ None →
    ((other : ℕ) → nat_eq id other ≡ false → Untouched other (Ok reply)) →
    runner_in_log start (with_line (Step id) (Ok reply) log) id ≡ live_in (Some slot) →
    ((r : Runner) → live_in (Some slot) ≡ Some r → KnowsTruth (store start (with_line (Step id) (Ok reply) log)).history r.known) →
    ((r : Runner) → live_in (Some slot) ≡ Some r → IsWellRun start r) →
    more ≡ line_entries start (record { event = Step id; reply = Ok reply }) log →
    EntriesFollow (store start log) (store start (with_line (Step id) (Ok reply) log)) more →
    FollowsAt start (with_line (Step id) (Ok reply) log) (with_slot id slot runners) (entries ++ more)
slot_touched start log runners entries more id r slot reply f found right none others mine truth read entered e =
    let line : Line = record { event = Step id; reply = Ok reply } in
    let count : started (line ∷ log) ≡ started log = same_count (Step id) (Ok reply) log none in
    let there : (0 < id) × (id ≤ length runners) = runner_there id runners r found in
    let own : runner_at id (with_slot id slot runners) ≡ live_in (Some slot) = runner_own id runners slot there.0 there.1 in
    let known : id ≤ started log = subst (λ n. id ≤ n) f.count there.1 in
    record {
      right = (right, f.right);
      count = count_stays id runners slot ∙ f.count ∙ sym count;
      slots = λ other. elim (nat_eq id other) as (λ b. nat_eq id other ≡ b → runner_at other (with_slot id slot runners)
          ≡ runner_in_log start (line ∷ log) other) [
            | true ↦ λ is. subst (λ n. runner_at n (with_slot id slot runners) ≡ runner_in_log start (line ∷ log) n) (equal_numbers id other is)
                (own ∙ sym mine)
            | false ↦ λ is. runner_other id other runners slot there.0 (differ id other is) ∙ f.slots other
                ∙ sym (same_in_log start other line log (others other is))
          ] refl;
      fresh = λ other above.
          let beyond : started log < other = subst (λ n. n < other) count above in
          let ne : nat_eq id other ≡ false =
          other_number id other (λ same. let up : other ≤ started log = subst (λ n. n ≤ started log) same known in omega arith) in
          fresh_stays start other line log (others other ne) (f.fresh other beyond);
      truth = λ other x at. elim (nat_eq id other) as (λ b. nat_eq id other ≡ b → KnowsTruth (store start (line ∷ log)).history x.known) [
        | true ↦ λ is. truth x (sym own ∙ subst (λ n. runner_at n (with_slot id slot runners) ≡ Some x) (sym (equal_numbers id other is)) at)
        | false ↦ λ is. known_stays (store start log).history (store start (line ∷ log)).history x.known e.keeps
            (f.truth other x (sym (runner_other id other runners slot there.0 (differ id other is)) ∙ at))
      ] refl;
      well_run = λ other x at. elim (nat_eq id other) as (λ b. nat_eq id other ≡ b → IsWellRun start x) [
        | true ↦ λ is. read x (sym own ∙ subst (λ n. runner_at n (with_slot id slot runners) ≡ Some x) (sym (equal_numbers id other is)) at)
        | false ↦ λ is. f.well_run other x (sym (runner_other id other runners slot there.0 (differ id other is)) ∙ at)
      ] refl;
      reported = entries_more start log runners entries more line f entered;
      replays = replays_more start log (line ∷ log) runners entries more f e;
      legal = legal_more start log (line ∷ log) runners entries more f e;
    }
