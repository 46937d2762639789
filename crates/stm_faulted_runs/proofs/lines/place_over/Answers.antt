use Rattle.std.proofs.Common.{ℕ, subst}
use Rattle.std.specs.Prelude.{slice_get, string_bytes}
use Rattle.std.proofs.lemmas.Result.{IfOk-weaker}
use Rattle.stm_faulted_runs.specs.Places.{IsMoreOf}
use Rattle.stm_faulted_runs.specs.Origins.{origin_in}
use Rattle.stm_faulted_runs.proofs.lines.place_over.Goals as goal

-- it is given over this look-up, so over some
pub returns : goal.returns
returns g c =
    let look = g.L.Lookup.answers c.args.lookup.now in
    let origin = origin_in c.args.explained.now in
    IfOk-weaker c.place_of_run.result _ _
    (λ p more. (look, subst (λ (n : ℕ). IsMoreOf origin.json (slice_get origin.runs n) look c.args.reported.fault (string_bytes p.more)) c.saturating_sub-number.ensures more))
    c.place_of_run.ensures
