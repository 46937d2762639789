use Rattle.std.proofs.Common.{◌+◌, drop}
use Rattle.std.specs.Prelude.{string_bytes}
use Rattle.stm_world.specs.World.{replies_to}
use Rattle.stm_faulted_runs.specs.Lines.{faults_from, faults_reported}
use Rattle.stm_faulted_runs.specs.Origins.{origin_in}
use Rattle.stm_faulted_runs.proofs.LineLemmas.{HasSaid}
use Rattle.stm_faulted_runs.proofs.events.explain_events.Given as goal

-- with lines for what the events that are left report after what was said so far, there are lines for all
abbrev pub invariant-loop-index : goal.invariant-loop-index
invariant-loop-index l =
    HasSaid (origin_in l.explained) (faults_from l.fn.world l.events) (string_bytes l.fn.out) (string_bytes l.out)
    (faults_reported (l.index + 1) (replies_to (drop l.index l.events) l.world))
