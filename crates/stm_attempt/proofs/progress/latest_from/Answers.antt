use Rattle.std.proofs.Common.{List, subst, sym, ◌∙◌}
use Rattle.std.specs.Prelude.{Option}
use Rattle.stm_history.specs.declared.change.Change.{Change}
use Rattle.stm_attempt.specs.Progress.{AreLatest}
use Rattle.stm_attempt.proofs.progress.latest_from.Goals as goal

pub of_latest-requires : goal.of_latest-requires
of_latest-requires c = subst (λ (o : Option (List Change)). AreLatest c.args.writes o) c.in-None.is c.requires

pub returns-in-Some : goal.returns-in-Some
returns-in-Some c = subst (λ (o : Option (List Change)). AreLatest c.args.writes o) c.in-Some.is c.requires

pub returns-in-None : goal.returns-in-None
returns-in-None c =
    c.of_latest.ensures ∙ sym (subst (λ (o : Option (List Change)). AreLatest c.args.writes o) c.in-None.is c.requires)
