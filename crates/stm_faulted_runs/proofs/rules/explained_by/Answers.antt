use Rattle.std.proofs.Common.{sym, subst, Option}
use Rattle.std.specs.Prelude.{string_bytes}
use Rattle.std.proofs.lemmas.Result.{IfOk-weaker}
use Rattle.serde_json.specs.Data.{Data}
use Rattle.stm_steps.specs.States.{state_answers}
use Rattle.stm_faulted_runs.specs.Rules.{ExplainsData}
use Rattle.stm_faulted_runs.proofs.rules.explained_by.Goals as goal

pub returns-in-Ok : goal.returns-in-Ok
returns-in-Ok c =
    let rule = c.args.rule.now in
    IfOk-weaker c.explained_on.result _ _
    (λ s line. subst (λ (d : Option Data). ExplainsData rule.name.now rule.text.now (state_answers c.args.state.now) d (string_bytes s)) (sym c.in-Ok.ensures.ok) line)
    c.explained_on.ensures
