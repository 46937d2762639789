-- The headline of a world that has run before.
use Rattle.std.proofs.Common.{◌≡◌, List, [], ◌∷◌, ◌++◌, map, reverse, sym, ◌∙◌, ap, subst}
use Rattle.std.proofs.lemmas.List.{reverse-append}
use Rattle.std.specs.Prelude.{Result}
use Rattle.stm_entries.specs.Replayed.{without_moment}
use Rattle.stm_events.specs.declared.event.WorldEvent.{WorldEvent}
use Rattle.stm_events.specs.declared.reply.Reply.{Reply}
use Rattle.stm_events.specs.declared.refusal.Denied.{Denied}
use Rattle.stm_world.specs.Log.{Line}
use Rattle.stm_world.specs.Right.{AreRight}
use Rattle.stm_world.specs.World.{World, opened, step, world_after, replies_to}
use Rattle.stm_world.specs.Headline.{Holds, HeadlineGoesOn}
use Rattle.stm_world.proofs.Following.{FollowsAt, FollowsStep, with_line}
use Rattle.stm_world.proofs.RunnerSteps.{CommitLaws}
use Rattle.stm_world.proofs.Logs.{logged, events_in, replies_in}
use Rattle.stm_world.proofs.Headlines.{Follows, step_follows, run_follows, opened_follows}
use Rattle.stm_world.proofs.OneReply.{one_right}
use Rattle.stm_txn.specs.Standing.{Setup}

-- a world that follows a log
record Followed (start : Setup) (log : List Line) : Type 0 where
  w : World
  follows : Follows start log w

-- a log of right replies is that of a world
right_log_is_followed : (start : Setup) (log : List Line) → CommitLaws → AreRight start log → Followed start log
right_log_is_followed start [] laws right = record { w = opened start; follows = opened_follows start }
right_log_is_followed start (line ∷ log) laws right =
    let earlier : Followed start log = right_log_is_followed start log laws right.1 in
    let w : World = earlier.w in
    let s : FollowsStep start log line.event (step line.event w) = step_follows start log line.event w laws earlier.follows in
    let same : (step line.event w).reply ≡ line.reply =
    one_right start log line.event (step line.event w).reply line.reply s.follows.right.0 right.0 in
    record {
      w = (step line.event w).next;
      follows = subst (λ (r : Result Reply Denied). Follows start (with_line line.event r log) (step line.event w).next) same
          (record { standing = s.standing; at = s.follows });
    }

-- a world of which the headline holds follows its log
holds_follows : (start : Setup) (before : List WorldEvent) (earlier : List (Result Reply Denied)) (w : World) → CommitLaws →
    (holds : Holds start before earlier w) → Follows start holds.log w
holds_follows start before earlier w laws holds =
    let other : Followed start holds.log = right_log_is_followed start holds.log laws holds.right in
    let at : FollowsAt start holds.log other.w.runners other.w.entries = other.follows.at in
    record {
      standing = holds.standing;
      at = record {
        right = holds.right;
        count = holds.count;
        slots = holds.runners;
        fresh = at.fresh;
        truth = λ id r found. at.truth id r (at.slots id ∙ sym (holds.runners id) ∙ found);
        well_run = λ id r found. at.well_run id r (at.slots id ∙ sym (holds.runners id) ∙ found);
        reported = holds.entries;
        replays = holds.replays ∙ ap without_moment holds.standing;
        legal = holds.legal;
      };
    }

-- what the lines of the longer log show
longer : {A : Type 0} (shown before first more : List A) → shown ≡ reverse more ++ before → before ≡ reverse first → shown ≡ reverse (first ++ more)
longer {A} shown before first more is are = is ∙ ap (λ (l : List A). reverse more ++ l) are ∙ sym (reverse-append first more)

pub headline_goes_on : CommitLaws → HeadlineGoesOn
headline_goes_on laws start before events earlier w holds =
    let log : List Line = logged events (replies_to events w) holds.log in
    let f : Follows start log (world_after events w) = run_follows start events holds.log w laws (holds_follows start before earlier w laws holds) in
    record {
      log = log;
      is_log = record {
        asked = longer (map (λ (line : Line). line.event) log) (map (λ (line : Line). line.event) holds.log) before events
            (events_in events w holds.log) holds.is_log.asked;
        answered = longer (map (λ (line : Line). line.reply) log) (map (λ (line : Line). line.reply) holds.log) earlier (replies_to events w)
            (replies_in events w holds.log) holds.is_log.answered;
      };
      right = f.at.right;
      standing = f.standing;
      count = f.at.count;
      runners = f.at.slots;
      entries = f.at.reported;
      replays = f.at.replays ∙ ap without_moment (sym f.standing);
      legal = f.at.legal;
    }
