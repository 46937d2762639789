-- What is printed of a schedule spells the scenario with the schedule's events.
use Rattle.std.proofs.Common.{◌≡◌, ℕ, ◌≤◌, List, [], ◌∷◌, ◌++◌, map, Bool, true, false, cond, not, Option, Some, None, Ok, Err, inl, inr, refl, sym, subst, arith}
use Rattle.serde_json.specs.Data.{Data, string, unsigned, Items}
use Rattle.stm_history.specs.declared.revisions.TheConstants.{HIGHEST_NUMBER}
use Rattle.stm_json.specs.Outcome.{Outcome, ◌>>=◌}
use Rattle.stm_outcome.specs.Terms.{most_operations}
use Rattle.stm_program.specs.declared.level.Level.{Level}
use Rattle.stm_program_json.specs.Writing.{written_number}
use Rattle.stm_texts.specs.Laws.{AreSpelled}
use Rattle.stm_texts.proofs.WrittenScenarios.{scenarios_spell}
use Rattle.stm_schedules.specs.declared.moves.Move.{Move}
use Rattle.stm_schedules.specs.declared.moves.Move.TheVariants.{Step, Other}
use Rattle.stm_schedules.specs.Scenarios.{has_start, up_to_last_start, after_last_start, at_level, with_schedule}
use Rattle.stm_schedules.specs.Schedules.{events_along}
use Rattle.stm_texts.specs.Grammar.{level_text, SpellsEvent, SpellsOpening, SpellsElements, SpellsScenario}
use Rattle.stm_texts.specs.Reading.{scenario_in}
use Rattle.stm_texts.specs.Opens.{IsOpening}
use Rattle.stm_texts.specs.declared.scenario.Scenario.{Scenario}
use Rattle.stm_texts.proofs.GrammarSound.{scenario_sound}
use Rattle.stm_txn.specs.Standing.{Setup}
use Rattle.stm_json.specs.Parts.{SpellsEach}
use Rattle.stm_events.specs.declared.event.WorldEvent.{WorldEvent}
use Rattle.stm_events.specs.declared.event.WorldEvent.TheVariants as event
use Rattle.stm_exploring.specs.Asking.{without_steps, events_at, asked}
use Rattle.stm_serial_search.specs.Started.{is_step}
use Rattle.stm_exploring.specs.Laws.{AreNumbered, SchedulesSpell}

-- ---- what was read is spelled

each_spelled : (ds : Items) (es : List WorldEvent) → SpellsEach SpellsEvent ds es → AreSpelled es
each_spelled ds [] is = tt
each_spelled ds (e ∷ es) (a, rest, is, s, others) = ((a, s), each_spelled rest es others)

opening_spelled : (d : Data) (o : Setup) → SpellsOpening d o → IsOpening (Some o)
opening_spelled d o (inl (a, is, (number, low, high), most)) =
    let some : 1 ≤ most_operations = omega arith in
    let few : most_operations ≤ most_operations = omega arith in
    ((low, high), (subst (λ n. 1 ≤ n) (sym most) some, subst (λ n. n ≤ most_operations) (sym most) few))
opening_spelled d o (inr (a, b, is, (number, low, high), (count, some, few))) = ((low, high), (some, few))

elements_spelled : (ds : Items) (o : Option Setup) (es : List WorldEvent) → SpellsElements ds o es → IsOpening o × AreSpelled es
elements_spelled ds None es spelled = (tt, each_spelled ds es spelled)
elements_spelled ds (Some o) es (a, rest, is, opens, spelled) = (opening_spelled a o opens, each_spelled rest es spelled)

read_spelled : (bytes : List ℕ) (s : Scenario) → SpellsScenario bytes s → IsOpening s.opening × AreSpelled s.events
read_spelled bytes s (short, d, is, (ds, are, spelled, few)) = elements_spelled ds s.opening s.events spelled

-- ---- at another level

level_spelled : (level : Level) (e : WorldEvent) → ((d : Data) × SpellsEvent d e) → (d : Data) × SpellsEvent d (at_level level e)
level_spelled level (event.Start program other limit) (d, (a, b, c, is, word, within_limit, of_program, fits)) =
    (_, (string (level_text level), b, c, refl, refl, within_limit, of_program, fits))
level_spelled level (event.Step runner) s = s
level_spelled level _ s = s

levels_spelled : (level : Level) (es : List WorldEvent) → AreSpelled es → AreSpelled (map (at_level level) es)
levels_spelled level [] all = tt
levels_spelled level (e ∷ es) (s, others) = (level_spelled level e s, levels_spelled level es others)

events_at-spelled : (level : Option Level) (es : List WorldEvent) → AreSpelled es → AreSpelled (events_at level es)
events_at-spelled None es all = all
events_at-spelled (Some level) es all = levels_spelled level es all

-- ---- without its steps

kept_spelled : (kept : Bool) (e : WorldEvent) (es : List WorldEvent) → ((d : Data) × SpellsEvent d e) → AreSpelled es → AreSpelled (cond kept (e ∷ es) es)
kept_spelled true e es s all = (s, all)
kept_spelled false e es s all = all

left_spelled : (es : List WorldEvent) → AreSpelled es → AreSpelled (without_steps es)
left_spelled [] all = tt
left_spelled (e ∷ es) (s, rest) = kept_spelled (not (is_step e)) e (without_steps es) s (left_spelled es rest)

-- ---- with a schedule

append_spelled : (es fs : List WorldEvent) → AreSpelled es → AreSpelled fs → AreSpelled (es ++ fs)
append_spelled [] fs all others = others
append_spelled (e ∷ es) fs (s, rest) others = (s, append_spelled es fs rest others)

setup_of : (b : Bool) (e : WorldEvent) (es : List WorldEvent) → ((d : Data) × SpellsEvent d e) → AreSpelled (up_to_last_start es)
    → AreSpelled (cond b (e ∷ up_to_last_start es) [])
setup_of true e es s rest = (s, rest)
setup_of false e es s rest = tt

setup_spelled : (es : List WorldEvent) → AreSpelled es → AreSpelled (up_to_last_start es)
setup_spelled [] all = tt
setup_spelled (e ∷ es) (s, others) = setup_of (has_start (e ∷ es)) e es s (setup_spelled es others)

others_of : (b : Bool) (e : WorldEvent) (es : List WorldEvent) → AreSpelled (e ∷ es) → AreSpelled (after_last_start es)
    → AreSpelled (cond b (after_last_start es) (e ∷ es))
others_of true e es all rest = rest
others_of false e es all rest = all

others_spelled : (es : List WorldEvent) → AreSpelled es → AreSpelled (after_last_start es)
others_spelled [] all = tt
others_spelled (e ∷ es) (s, others) = others_of (has_start (e ∷ es)) e es (s, others) (others_spelled es others)

step_spelled : (runner : ℕ) → runner ≤ HIGHEST_NUMBER → (d : Data) × SpellsEvent d (event.Step runner)
step_spelled runner high = (_, (written_number runner, refl, ((unsigned runner, refl, refl), omega arith, high)))

along_spelled : (ms : List Move) (others : List WorldEvent) → AreNumbered ms → AreSpelled others → AreSpelled (events_along ms others)
along_spelled [] others numbered all = tt
along_spelled (Step runner ∷ ms) others (high, numbered) all = (step_spelled runner high, along_spelled ms others numbered all)
along_spelled (Other ∷ ms) [] numbered all = along_spelled ms [] numbered all
along_spelled (Other ∷ ms) (e ∷ es) numbered (s, rest) = (s, along_spelled ms es numbered rest)

schedule_spelled : (es : List WorldEvent) (ms : List Move) → AreNumbered ms → AreSpelled es → AreSpelled (with_schedule es ms)
schedule_spelled es ms numbered all =
    append_spelled (up_to_last_start es) (events_along ms (after_last_start es)) (setup_spelled es all)
    (along_spelled ms (after_last_start es) numbered (others_spelled es all))

-- ---- the law

read_as : (level : Option Level) (bytes : List ℕ) (reading : Outcome Scenario) (s : Scenario) → scenario_in bytes ≡ reading
    → (reading >>= (λ (t : Scenario). Ok (asked level t))) ≡ Ok s → IsOpening s.opening × AreSpelled s.events
read_as level bytes (Err fault) s is asked_is = absurd (cc)
read_as level bytes (Ok read) s is asked_is =
    let spelled = read_spelled bytes read (scenario_sound bytes read is) in
    subst (λ (t : Scenario). IsOpening t.opening × AreSpelled t.events) (cc asked_is)
    (spelled.0, events_at-spelled level (without_steps read.events) (left_spelled read.events spelled.1))

pub schedules_spell : SchedulesSpell
schedules_spell level bytes s schedule is numbered few =
    let spelled = read_as level bytes (scenario_in bytes) s refl is in
    scenarios_spell (record { opening = s.opening; events = with_schedule s.events schedule }) spelled.0
    (schedule_spelled s.events schedule numbered spelled.1) few
