-- A run that was stopped because memory ran out goes on alike after the stop.
use Rattle.std.proofs.Common.{◌≡◌, ◌≢◌, ◌≤◌, ◌∙◌, ◌⊎◌, inl, inr, ℕ, zero, suc, List, [], ◌∷◌, ◌++◌, length, length-append, take, drop}
use Rattle.std.proofs.Common.{Option, Some, None, Result, Err, refl, sym, ap, subst, arith, append_assoc}
use Rattle.std.specs.Prelude.{slice_get, IfErr}
use Rattle.std.proofs.lemmas.Bool.{le-ltb, Decides.nat_tests}
use Rattle.stm_leases.specs.DueFirst.{first_due}
use Rattle.stm_outcome.specs.declared.advance.Expired.{Expired}
use Rattle.stm_outcome.specs.declared.refusal.Refusal.{Refusal}
use Rattle.stm_txn.specs.Standing.{Standing, Advance as StoreAdvance, ended, after, expire_up_to, expire_all, at_moment, advanced, HasCome}
use Rattle.stm_txn.proofs.Ending.{ended_is, next_ended}
use Rattle.stm_entries.specs.declared.entry.Entry.{Entry}
use Rattle.stm_entries.specs.declared.entry.Entry.TheVariants.{Expire}
use Rattle.stm_entries.specs.Entered.{expiries}
use Rattle.stm_events.specs.declared.event.WorldEvent.{WorldEvent}
use Rattle.stm_events.specs.declared.event.WorldEvent.TheVariants.{Advance, Compact}
use Rattle.stm_events.specs.declared.reply.Reply.{Reply}
use Rattle.stm_events.specs.declared.refusal.Denied.{Denied}
use Rattle.stm_events.specs.Replies.{advance_reply}
use Rattle.stm_events.specs.Called.{expired_reported}
use Rattle.stm_world.specs.World.{World, step, world_after, replies_to}
use Rattle.stm_world.specs.Sound.{after_expiries}
use Rattle.stm_events.proofs.CallMeans.{advance_ended, advance_due}
use Rattle.stm_retry.specs.declared.world.RunStop.{RunStop}
use Rattle.stm_retry.proofs.CallLemmas.{world_with}
use Rattle.stm_retry.specs.Returns.{IsUnchanged, IsCutShort, OutOfMemoryReturns, OutOfMemoryReturnsAt, IsRunStop}
use Rattle.stm_retry.specs.Stops.{with_expired, first_with_expired, RepeatsAlike, GoesOnAlike, Stop, AreStops, ComeToTheWhole, StopsGoOn, WrongStops}

-- ---- an advance ----

due_moment : (many : ℕ) (s : Standing) (o : Option ℕ) → ((next : Standing) → (expire_up_to many next).leaves.moment ≡ next.moment) →
    (advance_due many s o).leaves.moment ≡ s.moment
due_moment many s o rest = grind (arith, nat_tests, ended_is)

moment_stays : (many : ℕ) (s : Standing) → (expire_up_to many s).leaves.moment ≡ s.moment
moment_stays zero s = refl
moment_stays (suc many) s = due_moment many s (first_due s.live s.moment) (λ next. moment_stays many next)

-- an advance that does not go back
forward : (s : Standing) (moment : ℕ) → s.moment ≤ moment → expire_all (at_moment s moment) ≡ advanced s moment
forward s moment above = grind (arith, nat_tests, le-ltb)

-- an advance to the moment that is set already
same_moment : (s : Standing) (moment : ℕ) → s.moment ≡ moment → expire_all s ≡ advanced s moment
same_moment s moment is = ap (λ n. expire_all (at_moment s n)) is ∙ forward s moment (omega (arith, is))

-- the first of the leases that expired, and then all others
first_by_end : (start left : Standing) (id : ℕ) (e : Expired) (es : List Expired) (o : Result Standing Refusal) →
    first_due start.live start.moment ≡ Some id → ended start id ≡ o →
    advance_ended (length es) start id o ≡ record { expired = e ∷ es; leaves = left; cause = None } →
    ((next : Standing) → HasCome next es left → expire_all next ≡ after es (expire_all left)) → expire_all start ≡ after (e ∷ es) (expire_all left)
first_by_end start left id e es o due is come rest = grind (arith, nat_tests, next_ended)

first_by_due : (start left : Standing) (e : Expired) (es : List Expired) (o : Option ℕ) → first_due start.live start.moment ≡ o →
    advance_due (length es) start o ≡ record { expired = e ∷ es; leaves = left; cause = None } →
    ((next : Standing) → HasCome next es left → expire_all next ≡ after es (expire_all left)) → expire_all start ≡ after (e ∷ es) (expire_all left)
first_by_due start left e es None due come rest = grind (arith, nat_tests)
first_by_due start left e es (Some id) due come rest = first_by_end start left id e es (ended start id) due refl come rest

-- whatever expired first, what is left expires after it
rest_expires : (expired : List Expired) (start left : Standing) → HasCome start expired left → expire_all start ≡ after expired (expire_all left)
rest_expires [] start left come = ap (λ (a : StoreAdvance). expire_all a.leaves) come
rest_expires (e ∷ es) start left come =
    first_by_due start left e es (first_due start.live start.moment) refl come (λ next. rest_expires es next left)

advances_go_on : (s left : Standing) (moment : ℕ) (expired : List Expired) → s.moment ≤ moment → HasCome (at_moment s moment) expired left →
    advanced s moment ≡ after expired (advanced left moment)
advances_go_on s left moment expired above come = grind (arith, nat_tests, forward, rest_expires, same_moment, moment_stays)

-- ---- an event ----

expiries-append : (before more : List Expired) → expiries (before ++ more) ≡ expiries before ++ expiries more
expiries-append [] more = refl
expiries-append (e ∷ es) more = ap (λ (l : List Entry). Expire e.id ∷ l) (expiries-append es more)

reported_after : (moment : ℕ) (before rest : List Expired) (cause : Option Refusal) →
    advance_reply moment (before ++ rest) cause ≡ with_expired before (advance_reply moment rest cause)
reported_after moment before rest cause = grind (arith, nat_tests)

-- the advance after some expiries
expired_repeats : (moment : ℕ) (expired : List Expired) (old : World) (left : Standing) → old.standing.moment ≤ moment →
    HasCome (at_moment old.standing moment) expired left → RepeatsAlike (Advance moment) expired old (after_expiries old left expired)
expired_repeats moment expired old left above come =
    let rest : StoreAdvance = advanced left moment in
    let whole : advanced old.standing moment ≡ after expired rest = advances_go_on old.standing left moment expired above come in
    record {
      reply_is = ap (λ (a : StoreAdvance). advance_reply moment a.expired a.cause) whole ∙ reported_after moment expired rest.expired rest.cause;
      next_is = ap (λ (a : StoreAdvance). world_with old.runners a.leaves (old.entries ++ expiries a.expired)) whole
          ∙ ap (λ (l : List Entry). world_with old.runners rest.leaves (old.entries ++ l)) (expiries-append expired rest.expired)
          ∙ ap (λ (l : List Entry). world_with old.runners rest.leaves l) (sym (append_assoc old.entries (expiries expired) (expiries rest.expired)));
    }

cut_repeats : (moment : ℕ) (expired : List Expired) (old new : World) → old.standing.moment ≤ moment → IsCutShort moment expired old new →
    RepeatsAlike (Advance moment) expired old new
cut_repeats moment expired old new above cut =
    subst (λ (w : World). RepeatsAlike (Advance moment) expired old w) (sym cut.rest)
    (expired_repeats moment expired old new.standing above cut.come)

-- with nothing in front a reply is as it is
none_in_front : (reply : Result Reply Denied) → with_expired [] reply ≡ reply
none_in_front reply = grind (arith, nat_tests)

-- an event that left the world as it was
unchanged_repeats : (event : WorldEvent) (expired : List Expired) (old new : World) → IsUnchanged expired old new → RepeatsAlike event expired old new
unchanged_repeats event expired old new same = grind (arith, nat_tests, none_in_front)

advance_repeats : (moment : ℕ) (expired : List Expired) (old new : World) → old.standing.moment ≤ moment →
    (IsUnchanged expired old new ⊎ IsCutShort moment expired old new) → RepeatsAlike (Advance moment) expired old new
advance_repeats moment expired old new above (inl same) = unchanged_repeats (Advance moment) expired old new same
advance_repeats moment expired old new above (inr cut) = cut_repeats moment expired old new above cut

events_repeat : (event : WorldEvent) (expired : List Expired) (old new : World) → OutOfMemoryReturns event expired old new → RepeatsAlike event expired old new
events_repeat (Advance moment) expired old new want = advance_repeats moment expired old new want.0 want.1
events_repeat (Compact revision) expired old new want = absurd want
events_repeat event expired old new want = unchanged_repeats event expired old new want.0

-- ---- a run ----

-- a run that stopped at an event
stopped_at : (events : List WorldEvent) (taken : ℕ) (expired : List Expired) (old new : World) →
    OutOfMemoryReturnsAt (slice_get events taken) expired (world_after (take taken events) old) new → GoesOnAlike events taken expired old new
stopped_at [] taken expired old new want = absurd want
stopped_at (e ∷ es) zero expired old new want =
    let again : RepeatsAlike e expired old new = events_repeat e expired old new want in
    record {
      replies = ap (λ (r : Result Reply Denied). r ∷ replies_to es (step e old).next) again.reply_is
          ∙ ap (λ (w : World). with_expired expired (step e new).reply ∷ replies_to es w) again.next_is;
      world = ap (world_after es) again.next_is;
    }
stopped_at (e ∷ es) (suc n) expired old new want =
    let rest : GoesOnAlike es n expired (step e old).next new = stopped_at es n expired (step e old).next new want in
    record { replies = ap (λ (rs : List (Result Reply Denied)). (step e old).reply ∷ rs) rest.replies; world = rest.world }

-- a run for whose replies there was no room
stopped_before : (events : List WorldEvent) (taken : ℕ) (expired : List Expired) (old new : World) → taken ≡ 0 → IsUnchanged expired old new →
    GoesOnAlike events taken expired old new
stopped_before events taken expired old new none same = grind (arith, nat_tests, none_in_front)

runs_go_on : (events : List WorldEvent) (taken : ℕ) (expired : List Expired) (old new : World) → IsRunStop events taken expired old new →
    GoesOnAlike events taken expired old new
runs_go_on events taken expired old new h6 = grind (arith, nat_tests, stopped_before, stopped_at)

-- what a run that stopped answers
pub answer_goes_on : {A : Type 0} (answer : Result A RunStop) (reported stop : RunStop) (events : List WorldEvent) (old new : World) → answer ≡ Err reported →
    reported ≡ stop → IsRunStop events stop.done stop.expired old new → IfErr answer (λ (s : RunStop). GoesOnAlike events s.done s.expired old new)
answer_goes_on {A = A} answer reported stop events old new is same stopped = grind (arith, nat_tests, runs_go_on)

all_runs_go_on : (stops : List Stop) (events : List WorldEvent) (w : World) → AreStops stops events w → ComeToTheWhole stops events w
all_runs_go_on [] events w are = record { replies = refl; world = refl }
all_runs_go_on (s ∷ stops) events w are =
    let first : GoesOnAlike events s.done s.expired w s.left = runs_go_on events s.done s.expired w s.left are.0 in
    let rest : ComeToTheWhole stops (drop s.done events) s.left = all_runs_go_on stops (drop s.done events) s.left are.1 in
    record {
      replies = first.replies
          ∙ ap (λ (rs : List (Result Reply Denied)). replies_to (take s.done events) w ++ first_with_expired s.expired rs) rest.replies;
      world = first.world ∙ rest.world;
    }

pub stops_go_on : StopsGoOn
stops_go_on = record { advances = advances_go_on; events = events_repeat; runs = runs_go_on; all_runs = all_runs_go_on }

-- ---- wrong accounts of how a run goes on ----

reported_length : (moment : ℕ) (expired : List Expired) (cause : Option Refusal) → length (expired_reported (advance_reply moment expired cause)) ≡ length expired
reported_length moment expired cause = grind (arith, nat_tests)

-- an advance does not report what is left as though nothing had expired before
twice_reported : (moment : ℕ) (expired rest : List Expired) (cause : Option Refusal) → expired ≢ [] →
    with_expired expired (advance_reply moment rest cause) ≡ advance_reply moment rest cause → ⊥
twice_reported moment [] rest cause some same = some refl
twice_reported moment (e ∷ es) rest cause some same =
    let longer : length (e ∷ (es ++ rest)) ≡ length rest =
    sym (reported_length moment (e ∷ (es ++ rest)) cause)
    ∙ ap (λ (r : Result Reply Denied). length (expired_reported r)) (reported_after moment (e ∷ es) rest cause ∙ same)
    ∙ reported_length moment rest cause in
    omega (arith, longer, length-append es rest)

advance_again : (moment : ℕ) (expired : List Expired) (old new : World) → old.standing.moment ≤ moment →
    (IsUnchanged expired old new ⊎ IsCutShort moment expired old new) → expired ≢ [] → (step (Advance moment) old).reply ≡ (step (Advance moment) new).reply → ⊥
advance_again moment expired old new above (inl unchanged) some same = some unchanged.0
advance_again moment expired old new above (inr cut) some same =
    let rest : StoreAdvance = advanced new.standing moment in
    let again : RepeatsAlike (Advance moment) expired old new = cut_repeats moment expired old new above cut in
    twice_reported moment expired rest.expired rest.cause some (sym again.reply_is ∙ same)

event_again : (event : WorldEvent) (expired : List Expired) (old new : World) → OutOfMemoryReturns event expired old new → expired ≢ [] →
    (step event old).reply ≡ (step event new).reply → ⊥
event_again (Advance moment) expired old new want some same = advance_again moment expired old new want.0 want.1 some same
event_again (Compact revision) expired old new want some same = absurd want
event_again _ expired old new want some same = some want.0.0

first_alike : (x y : Result Reply Denied) (xs ys : List (Result Reply Denied)) → x ∷ xs ≡ y ∷ ys → x ≡ y
first_alike x y xs ys is = cc

rest_alike : (x : Result Reply Denied) (xs ys : List (Result Reply Denied)) → x ∷ xs ≡ x ∷ ys → xs ≡ ys
rest_alike x xs ys is = cc

stopped_again : (events : List WorldEvent) (taken : ℕ) (expired : List Expired) (old new : World) →
    OutOfMemoryReturnsAt (slice_get events taken) expired (world_after (take taken events) old) new → expired ≢ [] →
    replies_to events old ≡ replies_to (take taken events) old ++ replies_to (drop taken events) new → ⊥
stopped_again [] taken expired old new want some same = absurd want
stopped_again (e ∷ es) zero expired old new want some same =
    event_again e expired old new want some
    (first_alike (step e old).reply (step e new).reply (replies_to es (step e old).next) (replies_to es (step e new).next) same)
stopped_again (e ∷ es) (suc n) expired old new want some same =
    let next : World = (step e old).next in
    stopped_again es n expired next new want some
    (rest_alike (step e old).reply (replies_to es next) (replies_to (take n es) next ++ replies_to (drop n es) new) same)

-- what had expired is entered
grown : (entries : List Entry) (expired : List Expired) → expired ≢ [] → entries ≡ entries ++ expiries expired → ⊥
grown entries [] some same = some refl
grown entries (e ∷ es) some same =
    let longer : length entries ≡ length (entries ++ Expire e.id ∷ expiries es) = ap length same in
    omega (arith, longer, length-append entries (Expire e.id ∷ expiries es))

advance_undone : (moment : ℕ) (expired : List Expired) (old new : World) → (IsUnchanged expired old new ⊎ IsCutShort moment expired old new) →
    expired ≢ [] → new ≡ old → ⊥
advance_undone moment expired old new h5 some same = grind (arith, nat_tests, grown)

event_undone : (event : WorldEvent) (expired : List Expired) (old new : World) → OutOfMemoryReturns event expired old new → expired ≢ [] → new ≡ old → ⊥
event_undone (Advance moment) expired old new want some same = advance_undone moment expired old new want.1 some same
event_undone (Compact revision) expired old new want some same = absurd want
event_undone _ expired old new want some same = some want.0.0

stopped_undone : (o : Option WorldEvent) (expired : List Expired) (before new : World) → OutOfMemoryReturnsAt o expired before new → expired ≢ [] → new ≡ before → ⊥
stopped_undone o expired before new want some same = grind (arith, nat_tests, event_undone)

nothing_left : (events : List WorldEvent) (taken : ℕ) (expired : List Expired) (old new : World) → IsRunStop events taken expired old new →
    expired ≢ [] → new ≡ world_after (take taken events) old → ⊥
nothing_left events taken expired old new h6 some same = grind (arith, nat_tests, stopped_undone)

pub wrong_stops : WrongStops
wrong_stops = grind (arith, nat_tests, nothing_left, stopped_again)
