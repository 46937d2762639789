use Rattle.std.proofs.Common.{inl, ℕ, List, sym, subst}
use Rattle.stm_lasting.proofs.Moments.{weaker}
use Rattle.stm_storing.specs.Storing.{IsOpened, LeavesAroundRun}
use Rattle.stm_storing.proofs.Around.{then}
use Rattle.stm_storing.proofs.running.run_kept.Goals as goal

pub returns-in_err-copy-clause-any_moment : goal.returns-in_err-copy-clause-any_moment
returns-in_err-copy-clause-any_moment g c = weaker c.opened.ensures.any_moment (λ f alike. inl alike)

pub returns-in_err-clone-clause-any_moment : goal.returns-in_err-clone-clause-any_moment
returns-in_err-clone-clause-any_moment g c = weaker c.opened.ensures.any_moment (λ f alike. inl alike)

pub returns-in_err-tried-clause-any_moment : goal.returns-in_err-tried-clause-any_moment
returns-in_err-tried-clause-any_moment g c = weaker c.opened.ensures.any_moment (λ f alike. inl alike)

pub returns-in_err-is_committed-clause-any_moment : goal.returns-in_err-is_committed-clause-any_moment
returns-in_err-is_committed-clause-any_moment g c =
    then {Q = λ m f. LeavesAroundRun m f} c.in_ok-kept.ensures.opens c.opened.ensures.any_moment c.answer.ensures.any_moment

pub returns-clause-nothing : goal.returns-clause-nothing
returns-clause-nothing g c = λ not_committed. (
  c.in_ok-kept.kept.world,
  subst (λ (file : List ℕ). IsOpened (g.D.Disk.seen c.args.records.now.disk) file c.in_ok-kept.kept.world) (sym (c.in_ok-is_committed.ensures.same not_committed))
      c.in_ok-kept.ensures.opens,
)

pub returns-clause-lasts : goal.returns-clause-lasts
returns-clause-lasts g c = λ committed. record {
  mended = g.D.Disk.seen c.opened.new.records.disk;
  world = c.in_ok-kept.kept.world;
  opened = c.in_ok-kept.ensures.opens;
  run = c.in_ok-is_committed.ensures.ran committed;
}

pub returns-clause-any_moment : goal.returns-clause-any_moment
returns-clause-any_moment g c =
    then {Q = λ m f. LeavesAroundRun m f} c.in_ok-kept.ensures.opens c.opened.ensures.any_moment c.answer.ensures.any_moment
