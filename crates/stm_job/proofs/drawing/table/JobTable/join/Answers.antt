use Rattle.std.proofs.Common.{rules, arith, ◌∙◌, ap, sym}
use Rattle.std.proofs.lemmas.Grind.{common_steps}
use Rattle.stm_job.proofs.Keeps.{joins, looks}
use Rattle.stm_job.proofs.drawing.table.JobTable.join.Goals as goal

pub join_seat-requires : goal.join_seat-requires
join_seat-requires c =
    let t = c.args.self.now in
    let s = c.args.seat.now in
    let o = c.args.other in (
      c.requires.0.0,
      c.requires.1.0,
      o.holds_nothing,
      (first_of (search rules, grind (arith, common_steps))),
      joins t.table.shared.key s.seat.id s.seat.me.0 o.seat.id o.seat.me.0,
    )

-- after the join the seat is of the same table, and its view has the same size
pub load-requires : goal.load-requires
load-requires c =
    let t = c.args.self.now in
    let joined = c.join_seat.ensures in (
      joined.0 ∙ c.requires.0.0,
      (first_of (search rules, grind (arith, common_steps))),
      looks t.table.shared.key _ _ _ (ap (λ m. m.0.size) joined.2 ∙ c.requires.0.1 ∙ sym t.sized),
    )
