use Rattle.std.proofs.Common.{ℕ, List, string_bytes, subst}
use Rattle.std.specs.Io.KnownBytes.{Appends}
use Rattle.stm_storing.specs.Storing.{LeavesAroundRun}
use Rattle.stm_storing.proofs.Around.{then}
use Rattle.stm_storing.proofs.jobs.threads_kept.Goals as goal

pub returns-in_err-done-clause-any_moment : goal.returns-in_err-done-clause-any_moment
returns-in_err-done-clause-any_moment g c =
    then {Q = λ m f. LeavesAroundRun m f} c.in_ok-kept.ensures.opens c.opened.ensures.any_moment c.run_and_keep.ensures.any_moment

pub returns-in_err-print_text-clause-any_moment : goal.returns-in_err-print_text-clause-any_moment
returns-in_err-print_text-clause-any_moment g c =
    then {Q = λ m f. LeavesAroundRun m f} c.in_ok-kept.ensures.opens c.opened.ensures.any_moment c.run_and_keep.ensures.any_moment

pub returns-clause-lasts : goal.returns-clause-lasts
returns-clause-lasts g c = record {
  mended = g.D.Disk.seen c.opened.new.records.disk;
  world = c.in_ok-kept.kept.world;
  opened = c.in_ok-kept.ensures.opens;
  lines = string_bytes c.in_ok-done.done.written.lines;
  run = c.in_ok-done.ensures.run;
  printed =
      subst (λ (bytes : List ℕ). Appends (g.W.Sink.held c.args.out.now) (g.W.Sink.held c.print_text.new.out) bytes) c.as_str.ensures.value
      c.in_ok-print_text.ensures.printed;
}

pub returns-clause-any_moment : goal.returns-clause-any_moment
returns-clause-any_moment g c =
    then {Q = λ m f. LeavesAroundRun m f} c.in_ok-kept.ensures.opens c.opened.ensures.any_moment c.run_and_keep.ensures.any_moment
