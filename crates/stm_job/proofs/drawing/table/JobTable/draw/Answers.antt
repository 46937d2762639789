use Rattle.std.proofs.Common.{rules, arith, ◌≡◌, ◌<◌, ◌^◌, ◌∙◌, sym, subst}
use Rattle.std.proofs.lemmas.Grind.{common_steps}
use Rattle.stm_job.specs.declared.drawing.view.Size.{Size}
use Rattle.stm_job.proofs.Keeps.{draws}
use Rattle.stm_job.proofs.drawing.table.JobTable.draw.Goals as goal

pub fetch_add-found-requires : goal.fetch_add-found-requires
fetch_add-found-requires c =
    let t = c.args.self.now in
    let s = c.args.seat.now in
    let key : Size = t.table.shared.key in
    let few_jobs : key.jobs < 2 ^ 63 = subst (λ (z : Size). z.jobs < 2 ^ 63) (sym t.sized) t.small.0 in
    let few_seats : key.seats < 2 ^ 63 = subst (λ (z : Size). z.seats < 2 ^ 63) (sym t.sized) t.small.1 in
    let same : s.seat.me.0.size ≡ key = c.requires.1 ∙ sym t.sized in
    let some_left : 0 < s.seat.me.0.left = (first_of (search rules, grind (arith, common_steps))) in
    let some_words : 0 < t.table.shared.table_id.words = (first_of (search rules, grind (arith, common_steps))) in
    (c.requires.0, some_words, draws key t.table.shared.table_id.slots s.seat.id s.seat.me few_jobs few_seats same some_left)
