use Rattle.std.proofs.Common.{◌++◌, ◌∙◌, List, ℕ, ap}
use Rattle.std.specs.Prelude.{string_bytes}
use Rattle.stm_faulted_runs.specs.ReportedFaults.{reported_run}
use Rattle.stm_faulted_runs.specs.Origins.{origin_in}
use Rattle.stm_faulted_runs.proofs.LineLemmas.{one_line}
use Rattle.stm_faulted_runs.proofs.lines.push_run.Goals as goal

pub returns : goal.returns
returns c =
    let old = string_bytes c.args.out.now in
    one_line (origin_in c.args.explained.now) (reported_run c.args.reported) old
    (string_bytes c.push_str.new.self) (string_bytes c.in_ok-line.line)
    (c.in_ok-push_str.ensures.bytes ∙ ap (λ (line : List ℕ). old ++ line) c.as_str.ensures.value) c.in_ok-line.ensures
