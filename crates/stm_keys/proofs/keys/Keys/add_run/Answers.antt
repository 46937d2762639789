use Rattle.std.proofs.Common.{◌≤◌, reverse, sym, subst, arith, map}
use Rattle.std.proofs.lemmas.List.{length-map, length-reverse}
use Rattle.stm_history.specs.History.{now}
use Rattle.stm_keys.specs.Events.{change_of_event}
use Rattle.stm_keys.specs.Keys.{Contents}
use Rattle.stm_keys.proofs.keys.Keys.add_run.Goals as goal

pub add-requires : goal.add-requires
add-requires c =
    let reached = subst (λ (v : Contents). c.args.upto ≤ now v.history) (sym c.self.view_is) c.requires in
    omega (arith, reached, length-map (reverse c.self.inside.revisions.items) (map change_of_event), length-reverse c.self.inside.revisions.items)
