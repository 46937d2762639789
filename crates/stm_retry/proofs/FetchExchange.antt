-- The fetch of a key at the base of an attempt, before or after a step of another runner.
use Rattle.std.proofs.Common.{◌≡◌, ◌≢◌, ◌∙◌, ◌<◌, ◌≤◌, ℕ, Bool, false, cond, List, [], ◌∷◌, ◌++◌, map, fold, min, Some}
use Rattle.std.proofs.Common.{refl, sym, ap, subst, arith, length-append}
use Rattle.std.proofs.lemmas.List.{map-set, set_comm}
use Rattle.std.proofs.lemmas.Bool.{le-ltb, Decides.nat_tests}
use Rattle.std.specs.Prelude.{◌&&◌}
use Rattle.stm_history.specs.declared.change.Change.{Change}
use Rattle.stm_history.specs.declared.key_state.ReadAnswer.{ReadAnswer}
use Rattle.stm_history.specs.Opening.{Opening}
use Rattle.stm_history.specs.History.{History, now, number_of_last, revisions_up_to, key_at, mod_of}
use Rattle.stm_history.proofs.HistoryLaws.{last_is_above}
use Rattle.stm_steps.specs.declared.run.Answered.{Answered}
use Rattle.stm_outcome.specs.Commits.{revision_read}
use Rattle.stm_outcome.specs.Terms.{is_below_floor}
use Rattle.stm_txn.specs.Standing.{Standing}
use Rattle.stm_attempt.specs.declared.next.Next.TheVariants.{Fetch}
use Rattle.stm_attempt.specs.Next.{next_after}
use Rattle.stm_entries.specs.Replayed.{Replayed, without_moment}
use Rattle.stm_entries.specs.Laws.{AddsTo}
use Rattle.stm_entries.proofs.Adding.{replay_only_adds}
use Rattle.stm_events.specs.declared.event.WorldEvent.TheVariants.{Step}
use Rattle.stm_events.specs.declared.reply.Reply.TheVariants.{Fetched}
use Rattle.stm_world.specs.Task.{answer_at, after_fetch}
use Rattle.stm_world.specs.World.{World, Runner, Slot, Live, Stepped, runner_at, with_slot, replied, fetch, step_on, step_live, step}
use Rattle.stm_world.specs.Sound.{IsSound}
use Rattle.stm_world.specs.Appended.{HasAppended}
use Rattle.stm_world.proofs.Appending.{events_append}
use Rattle.stm_world.proofs.Sound.{step_is_sound}
use Rattle.stm_world.proofs.Slots.{other_number, runner_there, runner_other}
use Rattle.stm_alike.specs.Levelled.{carrying, levelled}
use Rattle.stm_alike.specs.Seen.{seen_slot, AreAlike}
use Rattle.stm_alike.proofs.Levelling.{both_gone_on}
use Rattle.stm_alike.proofs.SeenAttempts.{seen_level}
use Rattle.stm_retry.specs.AtBase.{FetchesAtBase, NextIsAtBase}
use Rattle.stm_retry.proofs.StepDoes.{world, after_step, step_of, step_does}

-- ---- the fetch

and_false : (a : Bool) → (a && false) ≡ false
and_false a = grind (arith, nat_tests)

not_compacted : (floor n : ℕ) → floor ≡ 0 → is_below_floor floor n ≡ false
not_compacted floor n is = grind (arith, nat_tests, and_false, le-ltb)

not_refused : (b : Bool) (x y : Stepped) → b ≡ false → cond b x y ≡ y
not_refused b x y is = ap (λ (c : Bool). cond c x y) is

own_revision : (h : History) (base : ℕ) → 1 ≤ base → revision_read h base ≡ base
own_revision h base some = ap (λ b. cond b (now h) base) (other_number base 0 (λ none. omega (arith, none, some)))

fetched_by : (id : ℕ) (r : Runner) (answered : Answered) (key : List ℕ) (base : ℕ) (w : World) → next_after r.task.program r.task.level r.known.reads answered ≡ Fetch key base →
    w.standing.floor ≡ 0 → 1 ≤ base → step_on id r r.known.reads answered w ≡ fetch id r key base w
fetched_by id r answered key base w is floor some = grind (arith, nat_tests, not_refused, not_compacted, own_revision)

live_fetches : (id : ℕ) (r : Runner) (w : World) → (f : FetchesAtBase r) → w.standing.floor ≡ 0 → step_live id r w ≡ fetch id r f.key f.first.of_rev w
unfolding step_live
live_fetches id r w f floor = grind (arith, nat_tests, fetched_by)

-- the place of the runner after it, in a store of this history
abbrev pub after_it : (r : Runner) → FetchesAtBase r → History → Slot
after_it r f h = Live (record r { known = after_fetch r.task (answer_at h f.key f.first.of_rev) r.known })

pub fetch_is : (id : ℕ) (w : World) → (x : NextIsAtBase id w) → step (Step id) w
    ≡ replied (Fetched id x.fetches.key (mod_of (key_at w.standing.history x.fetches.key x.fetches.first.of_rev)) x.fetches.first.of_rev (now w.standing.history)) id
    (after_it x.runner x.fetches w.standing.history) w
unfolding fetch
fetch_is id w x = grind (arith, nat_tests, live_fetches)

-- ---- what it shows stays

up_to_stays : (added older : List (List Change)) (opening : Opening) (r : ℕ) → r ≤ number_of_last opening older → revisions_up_to opening r (added ++ older) ≡ revisions_up_to opening r older
up_to_stays [] older opening r within = refl
up_to_stays (c ∷ added) older opening r within = grind (arith, nat_tests, last_is_above, length-append, up_to_stays added older opening r within)

counter_grows : (before after : History) → AddsTo before after → now before ≤ now after
counter_grows before after adds = grind (arith, nat_tests, length-append)

step_adds : (id : ℕ) (w : World) → IsSound w → AddsTo w.standing.history (after_step id w).standing.history
step_adds id w sound =
    let appended : HasAppended w (after_step id w) = events_append (Step id ∷ []) w sound in
    subst (λ (r : Replayed). AddsTo w.standing.history r.history) appended.replays (replay_only_adds appended.more (without_moment w.standing))

-- ---- the revision that it carries makes no difference

abbrev low : ℕ → List ReadAnswer → ℕ
low n xs = fold (λ least b. min least b.revision) n xs

low_more : (n : ℕ) (xs : List ReadAnswer) (a : ReadAnswer) → low n (xs ++ a ∷ []) ≡ min (low n xs) a.revision
low_more n [] a = refl
low_more n (x ∷ xs) a = low_more (min n x.revision) xs a

low_below : (n : ℕ) (xs : List ReadAnswer) → low n xs ≤ n
low_below n [] = omega arith
low_below n (x ∷ xs) = let rest : low (min n x.revision) xs ≤ min n x.revision = low_below (min n x.revision) xs in omega (arith, rest)

lowest : (n : ℕ) (xs : List ReadAnswer) (a : ReadAnswer) → n ≤ a.revision → low n (xs ++ a ∷ []) ≡ low n xs
lowest n xs a above = low_more n xs a ∙ (let below : low n xs ≤ n = low_below n xs in let e : min (low n xs) a.revision ≡ low n xs = omega (arith, below, above) in e)

map_more : {A B : Type 0} (f : A → B) (xs : List A) (x : A) → map f (xs ++ x ∷ []) ≡ map f xs ++ f x ∷ []
map_more f [] x = refl
map_more f (y ∷ xs) x = ap (λ ys. f y ∷ ys) (map_more f xs x)

level_with : (first : ReadAnswer) (rest : List ReadAnswer) (a b : ReadAnswer) → first.revision ≤ a.revision → first.revision ≤ b.revision → ((n : ℕ) → carrying n a ≡ carrying n b) →
    levelled ((first ∷ rest) ++ a ∷ []) ≡ levelled ((first ∷ rest) ++ b ∷ [])
level_with first rest a b above_a above_b same =
    let least : ℕ = low first.revision rest in
    ap (λ n. map (carrying n) ((first ∷ rest) ++ a ∷ [])) (lowest first.revision rest a above_a)
    ∙ map_more (carrying least) (first ∷ rest) a
    ∙ ap (λ x. map (carrying least) (first ∷ rest) ++ x ∷ []) (same least)
    ∙ sym (map_more (carrying least) (first ∷ rest) b)
    ∙ sym (ap (λ n. map (carrying n) ((first ∷ rest) ++ b ∷ [])) (lowest first.revision rest b above_b))

-- the place after it is seen alike in a store with more revisions
seen_after : (r : Runner) (f : FetchesAtBase r) (before after : History) → AddsTo before after → f.first.of_rev ≤ now before →
    seen_slot (after_it r f before) ≡ seen_slot (after_it r f after)
seen_after r f before after adds reached = grind (arith, nat_tests, counter_grows, level_with, seen_level, both_gone_on, up_to_stays)

-- ---- before or after a step of another runner

either_first : (i j : ℕ) (one other slot : Slot) (slots : List Slot) → i ≢ j → 0 < i → 0 < j → seen_slot one ≡ seen_slot other →
    map seen_slot (with_slot j slot (with_slot i one slots)) ≡ map seen_slot (with_slot i other (with_slot j slot slots))
either_first i j one other slot slots ne some_i some_j same = grind (arith, nat_tests, set_comm, map-set)

alike_by : (v w : World) → v.standing ≡ w.standing → map seen_slot v.runners ≡ map seen_slot w.runners → AreAlike v w
alike_by v w standing runners = grind (arith, nat_tests)

-- after the fetch another runner is as it was
pub others_stay : (i j : ℕ) (w : World) → i ≢ j → NextIsAtBase i w → runner_at j (after_step i w).runners ≡ runner_at j w.runners
others_stay i j w ne x =
    ap (λ (y : Stepped). runner_at j y.next.runners) (fetch_is i w x) ∙ runner_other i j w.runners _ (runner_there i w.runners x.runner x.there).0 ne

-- the same after the fetch
step_after : (i j : ℕ) (w : World) (r : Runner) → i ≢ j → runner_at j w.runners ≡ Some r → (x : NextIsAtBase i w) →
    step (Step j) (after_step i w) ≡ step_live j r (world w.standing (with_slot i (after_it x.runner x.fetches w.standing.history) w.runners) w.entries)
step_after i j w r ne there x = grind (arith, nat_tests, step_of, after_step, others_stay, fetch_is)

pub same_reply : (i j : ℕ) (w : World) (r : Runner) → i ≢ j → runner_at j w.runners ≡ Some r → NextIsAtBase i w →
    (step (Step j) (after_step i w)).reply ≡ (step (Step j) w).reply
same_reply i j w r ne there x =
    let does = step_does j w.standing r w.entries in
    ap (λ (y : Stepped). y.reply) (step_after i j w r ne there x) ∙ does.replies (with_slot i (after_it x.runner x.fetches w.standing.history) w.runners)
    ∙ sym (ap (λ (y : Stepped). y.reply) (step_of j w r there) ∙ does.replies w.runners)

-- after a step of another runner the fetch can still be made
pub still_at_base : (i j : ℕ) (w : World) (r : Runner) → i ≢ j → runner_at j w.runners ≡ Some r → NextIsAtBase i w → NextIsAtBase i (after_step j w)
still_at_base i j w r ne there x =
    let does = step_does j w.standing r w.entries in
    record {
      runner = x.runner;
      there = ap (λ (y : Stepped). runner_at i y.next.runners) (step_of j w r there) ∙ ap (runner_at i) (does.puts w.runners)
          ∙ runner_other j i w.runners does.slot (runner_there j w.runners r there).0 (λ same. ne (sym same)) ∙ x.there;
      fetches = x.fetches;
      floor = ap (λ (y : Stepped). y.next.standing.floor) (step_of j w r there) ∙ ap (λ (s : Standing). s.floor) (does.leaves w.runners) ∙ does.floor ∙ x.floor;
      sound = step_is_sound (Step j) w x.sound;
    }

reads_reached : (i : ℕ) (w : World) → (x : NextIsAtBase i w) → x.fetches.first.of_rev ≤ now w.standing.history
reads_reached i w x = grind (arith, nat_tests)

-- both orders lead to alike worlds
pub fetch_exchanged : (i j : ℕ) (w : World) (r : Runner) → i ≢ j → runner_at j w.runners ≡ Some r → NextIsAtBase i w →
    AreAlike (after_step j (after_step i w)) (after_step i (after_step j w))
unfolding still_at_base
fetch_exchanged i j w r ne there x =
    let does = step_does j w.standing r w.entries in
    let later : NextIsAtBase i (after_step j w) = still_at_base i j w r ne there x in
    let slot : Slot = after_it x.runner x.fetches w.standing.history in
    let slot_later : Slot = after_it x.runner x.fetches (after_step j w).standing.history in
    let left = step_after i j w r ne there x in
    let right = fetch_is i (after_step j w) later in
    let here = step_of j w r there in
    let seen : seen_slot slot ≡ seen_slot slot_later =
    seen_after x.runner x.fetches w.standing.history (after_step j w).standing.history (step_adds j w x.sound) (reads_reached i w x) in
    alike_by (after_step j (after_step i w)) (after_step i (after_step j w))
    (ap (λ (y : Stepped). y.next.standing) left ∙ does.leaves (with_slot i slot w.runners)
    ∙ sym (ap (λ (y : Stepped). y.next.standing) right ∙ ap (λ (y : Stepped). y.next.standing) here ∙ does.leaves w.runners))
    (ap (λ (y : Stepped). map seen_slot y.next.runners) left ∙ ap (map seen_slot) (does.puts (with_slot i slot w.runners))
    ∙ either_first i j slot slot_later does.slot w.runners ne (runner_there i w.runners x.runner x.there).0 (runner_there j w.runners r there).0 seen
    ∙ sym (ap (λ (y : Stepped). map seen_slot y.next.runners) right
    ∙ ap (λ (slots : List Slot). map seen_slot (with_slot i slot_later slots)) (ap (λ (y : Stepped). y.next.runners) here ∙ does.puts w.runners)))
