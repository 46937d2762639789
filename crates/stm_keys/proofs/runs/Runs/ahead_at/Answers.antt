use Rattle.std.proofs.Common.{◌<◌, arith, length, refl, subst, sym}
use Rattle.stm_keys.specs.Runs.{SumsUp}
use Rattle.stm_keys.proofs.Ranges.{each_at}
use Rattle.std.specs.List.{AllByRecursion}
use Rattle.stm_keys.proofs.runs.Runs.ahead_at.Goals as goal

pub returns-in-Some : goal.returns-in-Some
returns-in-Some c = λ below recorded low all.
    let within : c.args.index < length c.self.inside.runs.items = omega (arith, c.in-Some.ensures.variant.0 refl, c.self.inside.runs.ok.0) in
    c.ahead.ensures below recorded low
    (subst (SumsUp below recorded) (sym c.in-Some.ensures.lookup)
    (each_at (SumsUp below recorded) c.self.inside.runs.items c.args.index c.in-Some.run'.now
    (subst (AllByRecursion (SumsUp below recorded)) (sym c.self.view_is) all) within))
