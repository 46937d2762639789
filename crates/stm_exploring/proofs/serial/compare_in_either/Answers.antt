use Rattle.std.proofs.Common.{◌≡◌, [], sym, subst}
use Rattle.std.specs.Prelude.{IfOk, IfSome, Option}
use Rattle.stm_schedules.specs.Outcomes.{Ends}
use Rattle.stm_world.specs.World.{World}
use Rattle.stm_explore.specs.Orders.{IsSerialAnswer}
use Rattle.stm_exploring.specs.declared.beginning.Begun.{Begun}
use Rattle.stm_exploring.specs.Beginnings.{place_in, whole_place}
use Rattle.stm_exploring.specs.Narrowing.{StandsFor}
use Rattle.stm_exploring.proofs.serial.compare_in_either.Goals as goal

pub returns-in-None : goal.returns-in-None
returns-in-None g c =
    subst (λ (ends : Ends). IfOk c.find_anomaly.result (IsSerialAnswer (whole_place c.args.begun.now) ends)) c.as_slice-ends.ensures.value c.find_anomaly.ensures.answer

pub returns-in_ok-there-in-Some : goal.returns-in_ok-there-in-Some
returns-in_ok-there-in-Some g c =
    let begun : Begun = c.args.begun.now in
    let whole = whole_place begun in
    let stands : StandsFor [] (place_in begun c.in-Some.small) whole =
    subst (λ (o : Option World). IfSome o (λ w. StandsFor [] (place_in begun w) whole)) c.in-Some.is c.requires.small in
    subst (λ (ends : Ends). IsSerialAnswer whole ends c.in_ok-there-in-Some.there) c.as_slice-ends.ensures.value
    (subst (IsSerialAnswer whole c.as_slice-ends.result.now) (sym c.in_ok-there-in-Some.ensures)
    (stands.serial c.as_slice-ends.result.now c.in_ok-answer-in-Some.answer c.in_ok-answer-in-Some.ensures.answer))
