-- Places that are alike have the same moves, are alike after the same move, keep the same rules and show the same.
use Rattle.std.proofs.Common.{◌≡◌, ◌∙◌, ℕ, zero, suc, List, [], ◌∷◌, ◌++◌, drop, map, length, Option, Some, None, option_map, slice_get, Result, Ok, Err, refl, sym, ap}
use Rattle.std.proofs.lemmas.List.{length-map}
use Rattle.stm_program.specs.Syntax.{ProgramTree}
use Rattle.stm_watch.specs.declared.watched.Watched.TheVariants.{Key, Range}
use Rattle.stm_watch.specs.declared.watchers.Batch.{Batch}
use Rattle.stm_outcome.specs.declared.refusal.Refusal.{Refusal as StoreRefusal}
use Rattle.stm_outcome.specs.declared.refusal.Refusal.TheVariants.{Compacted}
use Rattle.stm_txn.specs.Standing.{Step as StoreStep, watched, polled, cancelled}
use Rattle.stm_events.specs.declared.event.WorldEvent.{WorldEvent}
use Rattle.stm_events.specs.declared.event.WorldEvent.TheVariants.{Step, WatchKey, WatchRange, Poll, Cancel}
use Rattle.stm_events.specs.declared.reply.Reply.{Reply}
use Rattle.stm_events.specs.declared.reply.Reply.TheVariants.{Committed, Watching, Cancelled}
use Rattle.stm_events.specs.declared.refusal.Denied.{Denied}
use Rattle.stm_events.specs.Replies.{reply_to, poll_reply}
use Rattle.stm_world.specs.World.{World, Runner, Slot, runner_at, step}
use Rattle.stm_alike.specs.Seen.{seen_runner, seen_slot, seen_reply, AreAlike}
use Rattle.stm_alike.proofs.SeenSteps.{alike_worlds_are_same}
use Rattle.stm_schedules.specs.declared.moves.Move.{Move}
use Rattle.stm_schedules.specs.declared.moves.Move.TheVariants.{Step as StepOf, Other}
use Rattle.stm_schedules.specs.declared.outcome.Outcome.{Outcome}
use Rattle.stm_schedules.specs.Places.{Place, step_if_running, steps_up_to, next_other, moves, left_after, moved}
use Rattle.stm_schedules.specs.Keeping.{keeps}
use Rattle.stm_schedules.specs.Outcomes.{Ends, after_reply, after_reported, ends_moved, state_shown, known_ends}
use Rattle.stm_visited.specs.Alike.{Respects}
use Rattle.stm_explore.specs.declared.places.WorldPlace.{WorldPlace}
use Rattle.stm_explore.specs.declared.places.ReportedPlace.{ReportedPlace}
use Rattle.stm_explore.specs.Spots.{taken_next, place_of, after, seen_place, AreSame, ShowTheSame, keeps_if_there, rules_steps, outcome_steps}

-- ---- where a move leads to

left_next : (t : ℕ) (xs : List WorldEvent) → left_after Other (drop t xs) ≡ drop (suc t) xs
left_next zero [] = refl
left_next zero (x ∷ xs) = refl
left_next (suc t) [] = refl
left_next (suc t) (x ∷ xs) = left_next t xs

taken_by : (t : ℕ) (xs rest : List WorldEvent) → drop t xs ≡ rest → drop (taken_next rest t) xs ≡ left_after Other (drop t xs)
taken_by t xs [] is = is ∙ ap (left_after Other) (sym is)
taken_by t xs (e ∷ es) is = sym (left_next t xs)

pub after_is_moved : (others : List WorldEvent) (m : Move) (p : WorldPlace) → place_of others (after others m p) ≡ moved m (place_of others p)
after_is_moved others (StepOf id) p = refl
after_is_moved others Other p =
    ap (λ rest. let q : Place = record { world = (moved Other (place_of others p)).world; others = rest } in q) (taken_by p.taken others (drop p.taken others) refl)

-- ---- alike places

at_place : (others : List WorldEvent) (v w : World) → v ≡ w → (let one : Place = record { world = v; others = others } in one) ≡ record { world = w; others = others }
at_place others v w same = ap (λ (x : World). let p : Place = record { world = x; others = others } in p) same

running_seen : (id : ℕ) (o : Option Runner) → step_if_running id (option_map seen_runner o) ≡ step_if_running id o
running_seen id None = refl
running_seen id (Some r) = refl

steps_seen : (n : ℕ) (slots : List Slot) → steps_up_to n (map seen_slot slots) ≡ steps_up_to n slots
steps_seen zero slots = refl
steps_seen (suc n) slots =
    ap (λ (ms : List Move). ms ++ step_if_running (suc n) (runner_at (suc n) (map seen_slot slots))) (steps_seen n slots)
    ∙ ap (λ (ms : List Move). steps_up_to n slots ++ ms) (ap (step_if_running (suc n)) (alike_worlds_are_same.seen_at (suc n) slots) ∙ running_seen (suc n) (runner_at (suc n) slots))

moves_seen : (p : Place) → moves (seen_place p) ≡ moves p
moves_seen p =
    ap (λ n. steps_up_to n (map seen_slot p.world.runners) ++ next_other p.others) (length-map p.world.runners seen_slot)
    ∙ ap (λ (ms : List Move). ms ++ next_other p.others) (steps_seen (length p.world.runners) p.world.runners)

alike_moves : (p q : Place) → seen_place p ≡ seen_place q → moves p ≡ moves q
alike_moves p q same = sym (moves_seen p) ∙ ap moves same ∙ moves_seen q

world_same : (p q : Place) → seen_place p ≡ seen_place q → AreAlike p.world q.world
world_same p q same = ap (λ (v : Place). v.world) same

-- after the event of a move, where these are left to the others
moved_by : (m : Move) (v w : World) (others : List WorldEvent) → AreAlike v w →
    seen_place (moved m (record { world = v; others = others })) ≡ seen_place (moved m (record { world = w; others = others }))
moved_by (StepOf id) v w others same = at_place others _ _ (alike_worlds_are_same.after (Step id) v w same)
moved_by Other v w [] same = at_place [] _ _ same
moved_by Other v w (e ∷ es) same = at_place es _ _ (alike_worlds_are_same.after e v w same)

alike_moved : (m : Move) (p q : Place) → seen_place p ≡ seen_place q → seen_place (moved m p) ≡ seen_place (moved m q)
alike_moved m p q same =
    ap (λ (rest : List WorldEvent). seen_place (moved m (record { world = p.world; others = rest }))) (ap (λ (v : Place). v.others) same)
    ∙ moved_by m p.world q.world q.others (world_same p q same)

alike_after : (others : List WorldEvent) (m : Move) (p q : WorldPlace) → AreSame others p q → AreSame others (after others m p) (after others m q)
alike_after others m p q same =
    ap seen_place (after_is_moved others m p) ∙ alike_moved m (place_of others p) (place_of others q) same ∙ sym (ap seen_place (after_is_moved others m q))

-- a rule sees the same, if there is one
alike_kept : (rule : Option ProgramTree) (others : List WorldEvent) (p q : WorldPlace) → AreSame others p q → keeps_if_there rule p.world ≡ keeps_if_there rule q.world
alike_kept None others p q same = refl
alike_kept (Some rule) others p q same = ap (λ (v : Place). keeps rule v.world) same

pub rules_respected : (rules : List ProgramTree) (others : List WorldEvent) (n : ℕ) → Respects WorldPlace Move (Unit {0}) (rules_steps rules others n) (AreSame others)
rules_respected rules others n = record {
  moves = λ p q same. alike_moves (place_of others p) (place_of others q) same;
  after = alike_after others;
  keeps = λ p q same. alike_kept (slice_get rules n) others p q same;
  shows = λ p q same. refl;
}

-- ---- what is known of the ends

-- the reply to a call about watchers says nothing of them
call_says : {A : Type 0} (report : A → Reply) (o : Result (StoreStep A) StoreRefusal) (ends : Ends) → ((x : A) → after_reply (report x) ends ≡ ends) →
    after_reported (reply_to report o) ends ≡ ends
call_says report (Ok done) ends each = each done.answer
call_says report (Err cause) ends each = refl

poll_says : (watcher floor : ℕ) (o : Result (StoreStep Batch) StoreRefusal) (ends : Ends) → after_reported (poll_reply watcher floor o) ends ≡ ends
poll_says watcher floor (Ok done) ends = refl
poll_says watcher floor (Err Compacted) ends = refl
poll_says watcher floor (Err cause) ends = refl

-- nor do the revisions that the reads of a commit show
seen_says : (r : Result Reply Denied) (ends : Ends) → after_reported (seen_reply r) ends ≡ after_reported r ends
seen_says (Ok (Committed id revision attempts output trace reads)) ends = refl
seen_says (Ok reply) ends = refl
seen_says (Err denied) ends = refl

same_reply : (event : WorldEvent) (v w : World) (ends : Ends) → seen_reply (step event v).reply ≡ seen_reply (step event w).reply →
    after_reported (step event v).reply ends ≡ after_reported (step event w).reply ends
same_reply event v w ends same =
    sym (seen_says (step event v).reply ends) ∙ ap (λ (r : Result Reply Denied). after_reported r ends) same ∙ seen_says (step event w).reply ends

-- the same is known after the same event
same_ends : (event : WorldEvent) (v w : World) (ends : Ends) → AreAlike v w → after_reported (step event v).reply ends ≡ after_reported (step event w).reply ends
same_ends (WatchKey key from) v w ends same =
    call_says Watching (watched v.standing (Key key) from) ends (λ x. refl) ∙ sym (call_says Watching (watched w.standing (Key key) from) ends (λ x. refl))
same_ends (WatchRange first end from) v w ends same =
    call_says Watching (watched v.standing (Range first end) from) ends (λ x. refl) ∙ sym (call_says Watching (watched w.standing (Range first end) from) ends (λ x. refl))
same_ends (Poll watcher most) v w ends same =
    poll_says watcher v.standing.floor (polled v.standing watcher most) ends ∙ sym (poll_says watcher w.standing.floor (polled w.standing watcher most) ends)
same_ends (Cancel watcher) v w ends same =
    call_says (λ x. Cancelled watcher) (cancelled v.standing watcher) ends (λ x. refl) ∙ sym (call_says (λ x. Cancelled watcher) (cancelled w.standing watcher) ends (λ x. refl))
same_ends event v w ends same = same_reply event v w ends (alike_worlds_are_same.replies event v w tt same)

-- the same after the event of a move, where these are left to the others
ends_by : (m : Move) (v w : World) (others : List WorldEvent) (ends : Ends) → AreAlike v w →
    ends_moved m (record { world = v; others = others }) ends ≡ ends_moved m (record { world = w; others = others }) ends
ends_by (StepOf id) v w others ends same = same_ends (Step id) v w ends same
ends_by Other v w [] ends same = refl
ends_by Other v w (e ∷ es) ends same = same_ends e v w ends same

alike_ends : (m : Move) (p q : Place) (known other : Ends) → seen_place p ≡ seen_place q → known ≡ other → ends_moved m p known ≡ ends_moved m q other
alike_ends m p q known other same is =
    ap (ends_moved m p) is
    ∙ ap (λ (rest : List WorldEvent). ends_moved m (record { world = p.world; others = rest }) other) (ap (λ (v : Place). v.others) same)
    ∙ ends_by m p.world q.world q.others other (world_same p q same)

pub outcomes_respected : (others : List WorldEvent) → Respects ReportedPlace Move Outcome (outcome_steps others) (ShowTheSame others)
outcomes_respected others = record {
  moves = λ p q same. alike_moves (place_of others p.at) (place_of others q.at) same.0;
  after = λ m p q same. (
    alike_after others m p.at q.at same.0,
    alike_ends m (place_of others p.at) (place_of others q.at) p.ends q.ends same.0 same.1,
  );
  keeps = λ p q same. refl;
  shows = λ p q same.
      ap (λ (v : Place). let it : Outcome = record { state = state_shown v.world.standing.history; ends = known_ends p.ends } in it) same.0
      ∙ ap (λ (e : Ends). let it : Outcome = record { state = state_shown q.at.world.standing.history; ends = known_ends e } in it) same.1;
}
