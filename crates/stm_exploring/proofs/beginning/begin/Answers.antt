use Rattle.std.proofs.Common.{◌≡◌, sym, ap, ◌∙◌, subst}
use Rattle.stm_schedules.specs.Places.{Place}
use Rattle.stm_serial.specs.Asked.{AreOrderly}
use Rattle.stm_serial.specs.Serial.{IsComparing}
use Rattle.stm_serial.proofs.Scenarios.{orderly_scenarios_compare}
use Rattle.stm_serial_search.specs.Search.{AreProgramsOf}
use Rattle.stm_texts.specs.declared.scenario.Scenario.{Scenario}
use Rattle.stm_world.specs.World.{World}
use Rattle.stm_exploring.specs.Asking.{opening_of}
use Rattle.stm_exploring.proofs.PlaceLemmas.{ends_are, placed_by, programs_are}
use Rattle.stm_exploring.proofs.beginning.begin.Goals as goal

pub narrowed-requires : goal.narrowed-requires
narrowed-requires g c =
    let place = placed_by c.args.scenario.now c.setup_and_others.result.0.now c.setup_and_others.result.1.now c.as_slice-events.result.now c.in_ok-world.world
    c.run_setup.new.world c.setup_and_others.ensures.setup c.setup_and_others.ensures.others c.as_slice-events.ensures c.in_ok-world.ensures c.in_ok-ends.ensures.world in
    record {
      programs = subst (λ (p : Place). AreProgramsOf c.as_slice.result.now p.world.runners) (sym place)
          (programs_are c.args.scenario.now c.setup_and_others.result.0.now c.as_slice-events.result.now c.as_slice.result.now c.setup_and_others.ensures.setup
          c.as_slice-events.ensures (c.as_slice.ensures.value ∙ c.in_ok-programs.ensures) c.requires);
      ran = record { start = c.in_ok-world.world; runners = ap (λ (w : World). w.runners) c.in_ok-world.ensures; world = c.in_ok-ends.ensures.world };
    }

pub returns : goal.returns
returns g c =
    let s : Scenario = c.args.scenario.now in
    let setup = c.setup_and_others.ensures.setup in
    let events = c.as_slice-events.ensures in
    let place = placed_by s c.setup_and_others.result.0.now c.setup_and_others.result.1.now c.as_slice-events.result.now c.in_ok-world.world c.run_setup.new.world
    setup c.setup_and_others.ensures.others events c.in_ok-world.ensures c.in_ok-ends.ensures.world in
    record {
      ready = record {
        programs = subst (λ (p : Place). AreProgramsOf c.in_ok-programs.programs.items p.world.runners) (sym place)
            (programs_are s c.setup_and_others.result.0.now c.as_slice-events.result.now c.in_ok-programs.programs.items setup events c.in_ok-programs.ensures c.requires);
        comparing = λ is.
            subst IsComparing (sym place) (orderly_scenarios_compare (opening_of s) s.events (subst AreOrderly events (c.are_orderly.ensures is)));
        small = c.in_ok-small.ensures;
      };
      place = place;
      ends = c.in_ok-ends.ensures.ends
          ∙ ends_are s c.setup_and_others.result.0.now c.as_slice-events.result.now c.in_ok-world.world setup events c.in_ok-world.ensures;
    }
