use Rattle.std.proofs.Common.{rules, arith}
use Rattle.std.proofs.lemmas.Grind.{common_steps}
use Rattle.stm_job.proofs.Keeps.{splits}
use Rattle.stm_job.proofs.drawing.table.JobTable.split.Goals as goal

pub split_seat-other-requires : goal.split_seat-other-requires
split_seat-other-requires c =
    let t = c.args.self.now in
    let s = c.args.seat.now in
    (c.requires.seat.0, (first_of (search rules, grind (arith, common_steps))), splits t.table.shared.key s.seat.id s.seat.me.0 c.requires.left)
