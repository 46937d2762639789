use Rattle.std.proofs.Common.{◌⊎◌, inl, inr, ⊎_elim}
use Rattle.stm_records.proofs.Moments.{started}
use Rattle.stm_world.specs.World.{World}
use Rattle.stm_lasting.proofs.Moments.{weaker}
use Rattle.stm_lasting.specs.Kept.{OpensTo}
use Rattle.stm_storing.specs.Compacting.{ShowTheSame}
use Rattle.stm_storing.proofs.CompactLemmas.{still_opens}
use Rattle.stm_storing.proofs.compacting.compact_at.Goals as goal

pub returns-in_err-made-clause-any_moment : goal.returns-in_err-made-clause-any_moment
returns-in_err-made-clause-any_moment g c =
    let disk = c.args.records.now.disk in
    let file = g.D.Disk.seen disk in
    let world = c.args.world.now in
    started g.D.Disk.moment g.D.Disk.left_since disk (λ f. OpensTo f world ⊎ ((after : World) × OpensTo f after × ShowTheSame c.args.floor world after))
    (λ f left. inl (still_opens file f world c.requires.kept (c.requires.settled.durable f (g.met.D.Disk.only_now disk f left))))

pub returns-in-Ok-clause-same : goal.returns-in-Ok-clause-same
returns-in-Ok-clause-same g c = (c.in_ok-made.made.world, c.in-Ok.ensures.kept, c.in_ok-made.ensures.same, c.in_ok-made.ensures.dropped)

pub returns-in-Ok-clause-any_moment : goal.returns-in-Ok-clause-any_moment
returns-in-Ok-clause-any_moment g c =
    weaker c.compact.ensures.any_moment (λ f left. ⊎_elim (λ old. inl old) (λ new. inr (c.in_ok-made.made.world, new, c.in_ok-made.ensures.same)) left)

pub returns-clause-any_moment : goal.returns-clause-any_moment
returns-clause-any_moment g c =
    weaker c.compact.ensures.any_moment (λ f left. ⊎_elim (λ old. inl old) (λ new. inr (c.in_ok-made.made.world, new, c.in_ok-made.ensures.same)) left)
