use Rattle.std.proofs.Common.{◌≡◌, List, sym, subst}
use Rattle.std.specs.Prelude.{Option, Result, Ok, Err, IfOk, IfSome}
use Rattle.stm_program.specs.Syntax.{ProgramTree}
use Rattle.stm_schedules.specs.Outcomes.{Ends}
use Rattle.stm_serial_search.specs.Search.{AreProgramsOf}
use Rattle.stm_world.specs.World.{World}
use Rattle.stm_exploring.specs.declared.beginning.Begun.{Begun}
use Rattle.stm_exploring.specs.Beginnings.{place_in, whole_place}
use Rattle.stm_exploring.specs.Judging.{AreFoundFrom}
use Rattle.stm_exploring.specs.Narrowing.{StandsFor}
use Rattle.stm_exploring.proofs.searching.judge_in_either.Goals as goal

there_too : {A E : Type 0} {P Q : A → Type 0} (r : Result A E) → ((a : A) → P a → Q a) → IfOk r P → IfOk r Q
there_too (Ok a) also found = also a found
there_too (Err e) also found = tt

pub judge_and_tell-requires : goal.judge_and_tell-requires
judge_and_tell-requires g c = record {
  programs = subst (λ (ps : List ProgramTree). AreProgramsOf ps c.args.begun.now.world.runners) (sym c.as_slice-2.ensures.value) c.requires.programs;
  comparing = c.requires.comparing;
}

pub returns-in-None : goal.returns-in-None
returns-in-None g c =
    let begun : Begun = c.args.begun.now in
    subst (λ (ends : Ends). IfOk c.judge_and_tell.result (λ answers. AreFoundFrom c.args.waits.now c.args.rules.now (whole_place begun) ends answers.items))
    c.as_slice.ensures.value c.judge_and_tell.ensures

pub returns-in-Some : goal.returns-in-Some
returns-in-Some g c =
    let begun : Begun = c.args.begun.now in
    let stands : StandsFor c.args.rules.now (place_in begun c.in-Some.small) (whole_place begun) =
    subst (λ (o : Option World). IfSome o (λ w. StandsFor c.args.rules.now (place_in begun w) (whole_place begun))) c.in-Some.is c.requires.small in
    there_too c.judge_and_tell-in-Some.result (λ answers. stands.found c.args.waits.now begun.ends.items answers.items)
    (subst (λ (ends : Ends). IfOk c.judge_and_tell-in-Some.result (λ answers. AreFoundFrom c.args.waits.now c.args.rules.now (place_in begun c.in-Some.small) ends answers.items))
    c.as_slice.ensures.value c.judge_and_tell-in-Some.ensures)
