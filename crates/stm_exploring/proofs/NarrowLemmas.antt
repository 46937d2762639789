-- What is found of rules from one of two places that agree on what programs and rules name is so from the other.
use Rattle.std.proofs.Common.{◌≡◌, ◌<◌, ℕ, zero, suc, Bool, List, [], ◌∷◌, length, map, filter, get_or, Some, IsSome, bytes_eq, refl, sym, ap, ◌∙◌, subst, arith}
use Rattle.std.specs.List.{AllByRecursion, find}
use Rattle.std.specs.Prelude.{Option, None, Result, Ok, Err, IfOk, IfSome}
use Rattle.stm_events.specs.declared.event.WorldEvent.{WorldEvent}
use Rattle.std.proofs.lemmas.List.{length-map, get_or-map}
use Rattle.stm_history.specs.declared.key_state.KeyState.{KeyState}
use Rattle.stm_history.specs.History.{History}
use Rattle.stm_program.specs.Syntax.{ProgramTree}
use Rattle.stm_meaning.specs.Answer.{Answer as Known}
use Rattle.stm_meaning.specs.Laws.{KnowsEachKey}
use Rattle.stm_compile.specs.Answers.{seen_of, state_now}
use Rattle.stm_world.specs.World.{World}
use Rattle.stm_schedules.specs.declared.moves.Move.{Move}
use Rattle.stm_schedules.specs.declared.outcome.KeyValue.{KeyValue}
use Rattle.stm_schedules.specs.Keeping.{end_of, is_done, end_alone, keeps}
use Rattle.stm_schedules.specs.Outcomes.{Ends, ends_moved, ends_after}
use Rattle.stm_schedules.specs.Places.{Place, moved}
use Rattle.stm_schedules.specs.Schedules.{place_after}
use Rattle.stm_schedules.proofs.Merging.{merges_keep as schedules_merge}
use Rattle.stm_explore.specs.declared.asking.When.{When}
use Rattle.stm_explore.specs.declared.asking.When.TheVariants.{Each, Last}
use Rattle.stm_explore.specs.declared.exploring.Explored.{Explored}
use Rattle.stm_explore.specs.declared.exploring.Explored.TheVariants.{Always, Broken, Open}
use Rattle.stm_explore.specs.declared.waits.Wait.{Wait}
use Rattle.stm_explore.specs.Asked.{asks, end_for, laid, laid_or, seen_by}
use Rattle.stm_explore.specs.Explored.{IsExplored}
use Rattle.stm_explore.specs.Waiting.{AreAllowed, IsExploredPatiently, IsPatient, PatientKeepUpTo, SomePatient, allowed, is_allowed, kept_after}
use Rattle.stm_explore.proofs.ExploreLemmas.{merges_keep}
use Rattle.stm_serial.specs.Serial.{AreComparing, AreForeign}
use Rattle.stm_narrow.specs.Touching.{KeepsTo, SayTheSame}
use Rattle.stm_narrow.specs.Agree.{Agree}
use Rattle.stm_narrow.specs.AgreeingPlaces.{AreSearchedAlike, PlacesAgree}
use Rattle.stm_narrow.proofs.Histories.{same_now}
use Rattle.stm_narrow.proofs.SameRun.{same_runs}
use Rattle.stm_narrow.proofs.Searching.{agreeing_places_are_same}
use Rattle.stm_exploring.specs.declared.judging.Answer.{Answer}
use Rattle.stm_exploring.specs.declared.judging.Answer.TheVariants.{BySchedules, AlwaysByOrders, BrokenByOrder}
use Rattle.stm_exploring.specs.declared.rules.Rule.{Rule}
use Rattle.stm_exploring.specs.declared.rules.RuleAnswer.{RuleAnswer}
use Rattle.stm_exploring.specs.Judging.{AreFoundFrom, IsAnswer, IsFoundWhen}
use Rattle.stm_exploring.specs.Narrowing.{Narrows, StandsFor}
use Rattle.stm_exploring.proofs.NarrowOutcomes.{answered_there, gathered_there}

-- ---- what a rule sees

some_laid : (o : Option KeyValue) (known : Option Known) → IsSome known → IsSome (laid_or o known)
some_laid None known is = is
some_laid (Some kv) known is = refl

knows_each : (when : When) (h : History) (ends : Ends) → KnowsEachKey (seen_by when h ends)
knows_each Each h ends key = refl
knows_each Last h ends key = some_laid (find (λ (kv : KeyValue). bytes_eq kv.key key) (laid ends)) (state_now h key) refl

same_seen : (touched : List ℕ → Bool) (when : When) (g h : History) (ends : Ends) → SayTheSame touched (state_now g) (state_now h)
    → SayTheSame touched (seen_by when g ends) (seen_by when h ends)
same_seen touched Each g h ends same key is = same key is
same_seen touched Last g h ends same key is = ap (laid_or (find (λ (kv : KeyValue). bytes_eq kv.key key) (laid ends))) (same key is)

same_asked : (when : When) (rule : ProgramTree) (ms : List Move) (g h : History) (ends : Ends) → end_for when rule g ends ≡ end_for when rule h ends
    → asks when rule ms g ends ≡ asks when rule ms h ends
same_asked Each rule ms g h ends same = ap is_done same
same_asked Last rule [] g h ends same = ap is_done same
same_asked Last rule (m ∷ ms) g h ends same = refl

module _ (touched : List ℕ → Bool) (leased : ℕ → Bool) (since : ℕ) where
  abbrev Agreed : Place → Place → Type 0
  Agreed p q = PlacesAgree touched leased since p q

  alike : (p q : Place) → Agreed p q → AreSearchedAlike touched leased since p q
  alike p q agree = agreeing_places_are_same touched leased since p q agree

  -- ---- schedules in which runners wait

  are_allowed : (waits : List Wait) (ms : List Move) (p q : Place) (ends : Ends) → Agreed p q → AreAllowed waits ms p ends → AreAllowed waits ms q ends
  are_allowed waits [] p q ends agree are = tt
  are_allowed waits (m ∷ ms) p q ends agree are = (
    are.0,
    subst (AreAllowed waits ms (moved m q)) ((alike p q agree).ends m ends)
        (are_allowed waits ms (moved m p) (moved m q) (ends_moved m p ends) ((alike p q agree).moved m) are.1),
  )

  patient : (waits : List Wait) (ms : List Move) (p q : Place) (ends : Ends) → Agreed p q → IsPatient waits ms p ends → IsPatient waits ms q ends
  patient waits ms p q ends agree is = ((alike p q agree).schedules ms is.0, are_allowed waits ms p q ends agree is.1)

  some_patient : (waits : List Wait) (n : ℕ) (p q : Place) (ends : Ends) → Agreed p q → SomePatient waits n p ends → SomePatient waits n q ends
  some_patient waits n p q ends agree one = (one.0, patient waits one.0 p q ends agree one.1, one.2)

  same_states : (v w : World) → Agree touched leased since v w → SayTheSame touched (state_now v.standing.history) (state_now w.standing.history)
  same_states v w agree key is =
      ap (λ (s : Option KeyState). Some (seen_of s)) (same_now touched since v.standing.history w.standing.history agree.store.history key is)

  -- ---- a rule that keeps to the keys

  module _ (rule : ProgramTree) (within : KeepsTo touched leased rule) where
    same_end : (when : When) (v w : World) (ends : Ends) → Agree touched leased since v w →
        end_for when rule v.standing.history ends ≡ end_for when rule w.standing.history ends
    same_end when v w ends agree =
        ap end_of (same_runs touched leased rule within (seen_by when v.standing.history ends) (seen_by when w.standing.history ends)
        (knows_each when v.standing.history ends) (same_seen touched when v.standing.history w.standing.history ends (same_states v w agree)))

    same_kept : (waits : List Wait) (when : When) (ms : List Move) (p q : Place) (ends : Ends) → Agreed p q →
        kept_after waits when rule ms p ends ≡ kept_after waits when rule ms q ends
    same_kept waits when ms p q ends agree =
        let far = (alike p q agree).after ms in
        let known : Ends = ends_after ms p ends in
        let there : History = (place_after ms q).world.standing.history in
        same_asked when rule (allowed waits known (place_after ms p)) (place_after ms p).world.standing.history there known
        (same_end when (place_after ms p).world (place_after ms q).world known far.worlds)
        ∙ ap (λ (moves : List Move). asks when rule (filter (is_allowed waits known) moves) there known)
        (alike (place_after ms p) (place_after ms q) far).moves
        ∙ ap (λ (e : Ends). asks when rule (allowed waits e (place_after ms q)) there e) ((alike p q agree).ends_after ms ends)

    keep_patient : (waits : List Wait) (when : When) (n : ℕ) (p q : Place) (ends : Ends) → Agreed p q → PatientKeepUpTo waits when rule n p ends →
        PatientKeepUpTo waits when rule n q ends
    keep_patient waits when n p q ends agree keep = λ ms is short.
        sym (same_kept waits when ms p q ends agree) ∙ keep ms (patient waits ms q p ends (alike p q agree).turned is) short

    found_patiently : (waits : List Wait) (when : When) (p q : Place) (ends : Ends) (e : Explored) → Agreed p q →
        IsExploredPatiently waits when rule p ends e → IsExploredPatiently waits when rule q ends e
    found_patiently waits when p q ends (Always longest) agree is = (
      keep_patient waits when longest p q ends agree is.0,
      some_patient waits longest p q ends agree is.1,
      λ ms from. is.2 ms (patient waits ms q p ends (alike p q agree).turned from),
    )
    found_patiently waits when p q ends (Broken ms end) agree is = (
      record {
        is_patient = patient waits ms p q ends agree is.0.is_patient;
        is_bad = sym (same_kept waits when ms p q ends agree) ∙ is.0.is_bad;
        shorter_keep = λ other from shorter.
            sym (same_kept waits when other p q ends agree) ∙ is.0.shorter_keep other (patient waits other q p ends (alike p q agree).turned from) shorter;
      },
      sym (same_end when (place_after ms p).world (place_after ms q).world (ends_after ms p ends) ((alike p q agree).after ms).worlds
          ∙ ap (end_for when rule (place_after ms q).world.standing.history) ((alike p q agree).ends_after ms ends)) ∙ is.1,
    )
    found_patiently waits when p q ends (Open kept) agree is =
        (keep_patient waits when kept p q ends agree is.0, some_patient waits (suc kept) p q ends agree is.1)

    -- ---- any search

    -- the rule ends the same after the same moves
    same_after : (ms : List Move) (p q : Place) → Agreed p q → end_alone rule (place_after ms p).world ≡ end_alone rule (place_after ms q).world
    same_after ms p q agree = (alike (place_after ms p) (place_after ms q) ((alike p q agree).after ms)).rule_ends rule within

    found_by_schedules : (p q : Place) (e : Explored) → Agreed p q → IsExplored rule p e → IsExplored rule q e
    found_by_schedules p q (Always longest) agree is = ((alike p q agree).all_keep rule within is.0, (alike p q agree).longest longest is.1)
    found_by_schedules p q (Broken ms end) agree is = ((alike p q agree).first_bad rule ms within is.0, sym (same_after ms p q agree) ∙ is.1)
    found_by_schedules p q (Open kept) agree is =
        ((alike p q agree).all_keep_up_to rule kept within is.0, sym ((alike p q agree).goes_on (suc kept)) ∙ is.1)

    found_by_any : (p q : Place) (answer : Answer) → Agreed p q → IsAnswer rule p answer → IsAnswer rule q answer
    found_by_any p q (BySchedules e) agree is =
        let found = found_by_schedules p q e agree is.0 in (found, merges_keep schedules_merge rule q e found)
    found_by_any p q AlwaysByOrders agree is =
        let all = (alike p q agree).all_keep rule within is.0 in (all, λ events merge. schedules_merge.always (keeps rule) q events all merge)
    found_by_any p q (BrokenByOrder found) agree is = record {
      is_schedule = (alike p q agree).schedules found.moves is.is_schedule;
      is_bad = sym (ap is_done (same_after found.moves p q agree)) ∙ is.is_bad;
      ends = sym (same_after found.moves p q agree) ∙ is.ends;
    }

    found_when : (when : When) (waits : List Wait) (p q : Place) (ends : Ends) (answer : Answer) → Agreed p q → IsFoundWhen when waits rule p ends answer →
        IsFoundWhen when waits rule q ends answer
    found_when Each [] p q ends answer agree is = found_by_any p q answer agree is
    found_when Each (w ∷ ws) p q ends (BySchedules e) agree is = found_patiently (w ∷ ws) Each p q ends e agree is
    found_when Each (w ∷ ws) p q ends AlwaysByOrders agree is = absurd is
    found_when Each (w ∷ ws) p q ends (BrokenByOrder found) agree is = absurd is
    found_when Last waits p q ends (BySchedules e) agree is = found_patiently waits Last p q ends e agree is
    found_when Last waits p q ends AlwaysByOrders agree is = absurd is
    found_when Last waits p q ends (BrokenByOrder found) agree is = absurd is

  -- ---- all rules

  within_at : (rules : List Rule) (i : ℕ) (d : Rule) → AllByRecursion (KeepsTo touched leased) (map (λ (rule : Rule). rule.program) rules) → i < length rules →
      KeepsTo touched leased (get_or rules i d).program
  within_at [] i d all there = absurd (omega (arith, there))
  within_at (rule ∷ rules) zero d all there = all.0
  within_at (rule ∷ rules) (suc i) d all there = within_at rules i d all.1 (omega (arith, there))

  found_from : (rules : List Rule) (p q : Place) (waits : List Wait) (ends : Ends) (answers : List RuleAnswer) → Agreed p q →
      AllByRecursion (KeepsTo touched leased) (map (λ (rule : Rule). rule.program) rules) → AreFoundFrom waits rules p ends answers →
      AreFoundFrom waits rules q ends answers
  found_from rules p q waits ends answers agree all found = (
    found.0,
    λ i d there.
        let a : RuleAnswer = get_or answers i d in
        let same : get_or rules i d.rule ≡ a.rule =
        ap (λ (rs : List Rule). get_or rs i d.rule) (sym found.0) ∙ get_or-map (λ (x : RuleAnswer). x.rule) answers i d d.rule there in
        let many : i < length rules =
        subst (λ (n : ℕ). i < n) (sym (length-map answers (λ (x : RuleAnswer). x.rule)) ∙ ap length found.0) there in
        found_when a.rule.program (subst (λ (rule : Rule). KeepsTo touched leased rule.program) same (within_at rules i d.rule all many)) a.rule.when waits p q ends
        a.answer agree (found.1 i d there),
  )

-- ---- one place stands for the other

pub stands_for : (rules : List Rule) (p q : Place) → Narrows (map (λ (rule : Rule). rule.program) rules) p q → StandsFor rules p q
stands_for rules p q n = record {
  runners = n.agree.worlds.runners;
  comparing = λ is. record {
    sound = n.sound;
    comparing = subst AreComparing (sym n.agree.worlds.runners) is.comparing;
    foreign = subst AreForeign (sym n.agree.others) is.foreign;
  };
  found = λ waits ends answers found. found_from n.touched n.leased n.since rules p q waits ends answers n.agree n.within found;
  outcomes = λ ends found are. gathered_there n.touched n.leased n.since ends p q n.agree found are;
  serial = λ ends answer is. answered_there n.touched n.leased n.since ends p q n.agree answer is;
}

-- the same of a world that was found, if one was
pub all_stand : {E : Type 0} (rules : List Rule) (asked : List ProgramTree) (w : World) (others : List WorldEvent) (r : Result (Option World) E) →
    asked ≡ map (λ (rule : Rule). rule.program) rules →
    IfOk r (λ o. IfSome o (λ small. Narrows asked (record { world = small; others = others }) (record { world = w; others = others }))) →
    IfOk r (λ o. IfSome o (λ small. StandsFor rules (record { world = small; others = others }) (record { world = w; others = others })))
all_stand rules asked w others (Ok (Some small)) are narrow =
    stands_for rules (record { world = small; others = others }) (record { world = w; others = others })
    (subst (λ (ps : List ProgramTree). Narrows ps (record { world = small; others = others }) (record { world = w; others = others })) are narrow)
all_stand rules asked w others (Ok None) are narrow = tt
all_stand rules asked w others (Err e) are narrow = tt
