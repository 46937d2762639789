-- A small world agrees with the whole one on what programs, rules and the others' transactions name.
use Rattle.std.proofs.Common.{◌≡◌, ◌⊎◌, inl, inr, ◌≤◌, ◌+◌, ◌-◌, ℕ, zero, suc, Bool, true, false, ◌&&◌, ◌||◌, List, [], ◌∷◌, ◌++◌, filter, Some, refl, sym, ap, ◌∙◌, subst, arith}
use Rattle.std.proofs.lemmas.Bool.{and_parts}
use Rattle.std.specs.BTreeMap.{is_at}
use Rattle.std.specs.FinMap as finmap
use Rattle.std.specs.List.{AllByRecursion, list_all, list_any}
use Rattle.std.specs.Ordering.{is_eq}
use Rattle.std.specs.declared.cmp.Ordering.{Ordering}
use Rattle.std.specs.declared.cmp.Ordering.TheVariants.{Less, Equal, Greater}
use Rattle.std.specs.Prelude.{Option, None, Result, Ok, Err, IfOk, IfSome, slice_get}
use Rattle.stm_history.specs.History.{now, key_now}
use Rattle.stm_history.proofs.CutLaws.{cut_keeps_keys_now, cut_keeps_now}
use Rattle.stm_program.specs.Syntax.{ProgramTree}
use Rattle.stm_named_keys.specs.Named.{looked_up}
use Rattle.stm_named_keys.specs.Written.{written}
use Rattle.stm_txn.specs.Standing.{Standing, kept}
use Rattle.stm_events.specs.declared.event.WorldEvent.{WorldEvent}
use Rattle.stm_world.specs.World.{World, Slot, runner_at, world_after}
use Rattle.stm_world.specs.Sound.{IsSound}
use Rattle.stm_world.proofs.Sound.{worlds_are_sound}
use Rattle.stm_schedules.specs.Scenarios.{is_start}
use Rattle.stm_serial_search.specs.Search.{AreProgramsOf}
use Rattle.stm_narrow.specs.Beginning.{has_step, is_step, started}
use Rattle.stm_narrow.specs.Touching.{KeepsTo, is_touched, is_written}
use Rattle.stm_narrow.proofs.Beginnings.{beginnings_agree}
use Rattle.stm_narrow.proofs.Naming.{named_keys_are_kept}
use Rattle.stm_exploring.specs.declared.touched.Touched.{Touched}
use Rattle.stm_exploring.specs.Narrowing.{HasRun, IsNew, IsSmall, Narrows, ShowTheSame, brings_within, is_key_of, is_lease_of, keeps_to, name_alone}

-- ---- loops

-- each of these keys is so, or is one of those that are left
abbrev pub SoFar : {K : Type 0} → (K → K → Ordering) → (K → Type 0) → List K → List K → Type 0
SoFar {K} cmp P all left = (k : K) → list_any (is_at (cmp k)) all ≡ true → P k ⊎ (list_any (is_at (cmp k)) left ≡ true)

pub one_so : {K : Type 0} (cmp : K → K → Ordering) → finmap.IsAntisymmetric cmp → (P : K → Type 0) (all left : List K) (k : K) → P k → SoFar cmp P all (k ∷ left) →
    SoFar cmp P all left
one_so cmp same P all left k is so_far q among = by (so_far q among)
  where
    first : (o : Ordering) → cmp q k ≡ o → (is_eq o || list_any (is_at (cmp q)) left) ≡ true → P q ⊎ (list_any (is_at (cmp q)) left ≡ true)
    first Less at there = inr there
    first Equal at there = inl (subst P (sym (same q k at)) is)
    first Greater at there = inr there

    by : P q ⊎ (list_any (is_at (cmp q)) (k ∷ left) ≡ true) → P q ⊎ (list_any (is_at (cmp q)) left ≡ true)
    by (inl known) = inl known
    by (inr there) = first (cmp q k) refl there

-- ---- a store without the revisions that a compaction dropped shows the same as with them

counter_stays : (s : Standing) → s.floor ≤ now s.history → now (kept s).history ≡ now s.history
counter_stays s reached = cut_keeps_now s.history (s.floor - 1) (omega (arith, reached))

key_stays : (s : Standing) → s.floor ≤ now s.history → (key : List ℕ) → key_now (kept s).history key ≡ key_now s.history key
key_stays s reached = cut_keeps_keys_now s.history (s.floor - 1) (omega (arith, reached))

pub whole_shows : (t : Touched) (s r : Standing) → s.floor ≤ now s.history → ShowTheSame t (kept s) r → ShowTheSame t s r
whole_shows t s r reached shows = record {
  reached = sym (counter_stays s reached) ∙ shows.reached;
  keys = λ key is. sym (key_stays s reached key) ∙ shows.keys key is;
  live = shows.live;
  limit = shows.limit;
}

shows_whole : (t : Touched) (r s : Standing) → s.floor ≤ now s.history → ShowTheSame t r (kept s) → ShowTheSame t r s
shows_whole t r s reached shows = record {
  reached = shows.reached ∙ counter_stays s reached;
  keys = λ key is. shows.keys key is ∙ key_stays s reached key;
  live = shows.live;
  limit = shows.limit;
}

-- ---- programs that keep to what is touched

keeps : (t : Touched) (p : ProgramTree) → keeps_to t p ≡ true → KeepsTo (is_key_of t) (is_lease_of t) p
keeps t p is =
    let parts = and_parts (list_all (is_touched (is_key_of t)) (looked_up p)) (list_all (is_written (is_key_of t) (is_lease_of t)) (written p)) is in
    named_keys_are_kept (is_key_of t) (is_lease_of t) p parts.0 parts.1

each_within : (t : Touched) (ps : List ProgramTree) → list_all (keeps_to t) ps ≡ true → AllByRecursion (KeepsTo (is_key_of t) (is_lease_of t)) ps
each_within t [] all = tt
each_within t (p ∷ ps) all = let parts = and_parts (keeps_to t p) (list_all (keeps_to t) ps) all in (keeps t p parts.0, each_within t ps parts.1)

one_within : (t : Touched) (ps : List ProgramTree) (i : ℕ) (p : ProgramTree) → list_all (keeps_to t) ps ≡ true → slice_get ps i ≡ Some p →
    KeepsTo (is_key_of t) (is_lease_of t) p
one_within t [] i p all found = absurd (cc)
one_within t (x ∷ ps) zero p all found =
    let same : x ≡ p = cc in
    subst (KeepsTo (is_key_of t) (is_lease_of t)) same (keeps t x (and_parts (keeps_to t x) (list_all (keeps_to t) ps) all).0)
one_within t (x ∷ ps) (suc i) p all found = one_within t ps i p (and_parts (keeps_to t x) (list_all (keeps_to t) ps) all).1 found

-- ---- the two worlds

-- the two tests for a step are one
some_step : (events : List WorldEvent) → list_any is_step events ≡ has_step events
some_step [] = refl
some_step (e ∷ es) = ap (λ (b : Bool). is_step e || b) (some_step es)

-- both have the runners of the same starts
module _ (setup : List WorldEvent) (stepless : has_step setup ≡ false) where
  from_start : (start w : World) → start.runners ≡ [] → w ≡ world_after setup start → w.runners ≡ started setup
  from_start start w none is =
      ap (λ (x : World). x.runners) is ∙ beginnings_agree.runners setup start stepless ∙ ap (λ (slots : List Slot). slots ++ started setup) none

  from_starts : (start w : World) → start.runners ≡ [] → w ≡ world_after (filter is_start setup) start → w.runners ≡ started setup
  from_starts start w none is =
      ap (λ (x : World). x.runners) is ∙ beginnings_agree.runners (filter is_start setup) start (beginnings_agree.no_step setup)
      ∙ ap (λ (slots : List Slot). slots ++ started (filter is_start setup)) none ∙ beginnings_agree.starts setup

narrows : (t : Touched) (setup others : List WorldEvent) (w small : World) (s : Standing) (programs rules : List ProgramTree) → HasRun setup w →
    list_any is_step setup ≡ false → w.standing.floor ≤ now w.standing.history → s ≡ kept w.standing → AreProgramsOf programs w.runners →
    name_alone t others programs rules ≡ true → IsSmall t setup s small → Narrows rules (record { world = small; others = others }) (record { world = w; others = others })
narrows t setup others w small s programs rules ran none reached shown are keep is =
    let stepless : has_step setup ≡ false = sym (some_step setup) ∙ none in
    let both = and_parts (list_all (brings_within t) others && list_all (keeps_to t) programs) (list_all (keeps_to t) rules) keep in
    let parts = and_parts (list_all (brings_within t) others) (list_all (keeps_to t) programs) both.0 in
    let shows : ShowTheSame t small.standing w.standing = shows_whole t small.standing w.standing reached (subst (ShowTheSame t small.standing) shown is.shows) in
    let sound : IsSound small = subst IsSound (sym is.world) (worlds_are_sound.goes_on (filter is_start setup) is.start is.is_new.sound) in
    let runs : w.runners ≡ started setup = from_start setup stepless ran.start w ran.runners ran.world in
    record {
      touched = is_key_of t;
      leased = is_lease_of t;
      since = now w.standing.history;
      agree = record {
        worlds = beginnings_agree.agree (is_key_of t) (is_lease_of t) small w (record {
          now = shows.reached;
          keys = shows.keys;
          live = shows.live;
          limit = shows.limit;
          floors = (sound.kept.reached, reached);
          runners = from_starts setup stepless is.start small is.is_new.runners is.world ∙ sym runs;
          begun = λ id r found. beginnings_agree.begun setup id r (sym (ap (runner_at id) runs) ∙ found);
          keeps = λ id r found. one_within t programs (id - 1) r.task.program parts.1 (are id r found);
        });
        others = refl;
        within = parts.0;
      };
      within = each_within t rules both.1;
      sound = sound;
    }

-- ---- where there is one

pub is_small : {E : Type 0} (t : Touched) (setup : List WorldEvent) (s : Standing) (start : World) (r : Result (Option World) E) → IsNew start →
    IfOk r (λ o. IfSome o (λ w. w ≡ world_after (filter is_start setup) start)) → IfOk r (λ o. IfSome o (λ w. ShowTheSame t w.standing s)) →
    IfOk r (λ o. IfSome o (IsSmall t setup s))
is_small t setup s start (Ok (Some w)) new is shows = record { start = start; is_new = new; world = is; shows = shows }
is_small t setup s start (Ok None) new is shows = tt
is_small t setup s start (Err e) new is shows = tt

pub all_narrow : {E : Type 0} (t : Touched) (setup others : List WorldEvent) (w : World) (s : Standing) (programs rules : List ProgramTree)
    (r : Result (Option World) E) → HasRun setup w → list_any is_step setup ≡ false → w.standing.floor ≤ now w.standing.history → s ≡ kept w.standing →
    AreProgramsOf programs w.runners → name_alone t others programs rules ≡ true → IfOk r (λ o. IfSome o (IsSmall t setup s)) →
    IfOk r (λ o. IfSome o (λ small. Narrows rules (record { world = small; others = others }) (record { world = w; others = others })))
all_narrow t setup others w s programs rules (Ok (Some small)) ran none reached shown are keep is =
    narrows t setup others w small s programs rules ran none reached shown are keep is
all_narrow t setup others w s programs rules (Ok None) ran none reached shown are keep is = tt
all_narrow t setup others w s programs rules (Err e) ran none reached shown are keep is = tt
