use Rattle.std.proofs.Common.{◌≡◌, [], sym, ◌∙◌, subst}
use Rattle.std.specs.Prelude.{IfOk, IfSome, Option}
use Rattle.stm_schedules.specs.Outcomes.{Ends}
use Rattle.stm_world.specs.World.{World}
use Rattle.stm_exploring.specs.declared.beginning.Begun.{Begun}
use Rattle.stm_exploring.specs.Beginnings.{place_in, whole_place}
use Rattle.stm_exploring.specs.Narrowing.{StandsFor}
use Rattle.stm_exploring.specs.Questions.{AreGathered}
use Rattle.stm_exploring.proofs.outcomes.gather_in_either.Goals as goal

pub returns-in_ok-found-in-None : goal.returns-in_ok-found-in-None
returns-in_ok-found-in-None g c =
    let begun : Begun = c.args.begun.now in
    subst (λ (ends : Ends). AreGathered (whole_place begun) ends c.in_ok-found-in-None.found) c.as_slice-ends.ensures.value
    (c.in_ok-found-in-None.ensures.outcomes, c.in_ok-found-in-None.ensures.witnessed)

pub returns-in_ok-there-in-Some : goal.returns-in_ok-there-in-Some
returns-in_ok-there-in-Some g c =
    let begun : Begun = c.args.begun.now in
    let whole = whole_place begun in
    let stands : StandsFor [] (place_in begun c.in-Some.small) whole =
    subst (λ (o : Option World). IfSome o (λ w. StandsFor [] (place_in begun w) whole)) c.in-Some.is c.requires.small in
    subst (λ (ends : Ends). AreGathered whole ends c.in_ok-there-in-Some.there) c.as_slice-ends.ensures.value
    (subst (AreGathered whole c.as_slice-ends.result.now) (sym c.in_ok-there-in-Some.ensures)
    (stands.outcomes c.as_slice-ends.result.now c.in_ok-found-in-Some.found (c.in_ok-found-in-Some.ensures.outcomes, c.in_ok-found-in-Some.ensures.witnessed)))
