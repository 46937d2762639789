-- The state that a scenario leaves.
use Rattle.std.proofs.Common.{◌≡◌, ◌∙◌, List, ap, subst}
use Rattle.stm_history.specs.History.{History}
use Rattle.stm_steps.specs.declared.state.StateEntry.{StateEntry}
use Rattle.stm_journal.specs.StateOf.{IsStateOf}
use Rattle.stm_events.specs.declared.event.WorldEvent.{WorldEvent}
use Rattle.stm_world.specs.World.{World, opened, world_after}
use Rattle.stm_texts.specs.declared.scenario.Scenario.{Scenario}
use Rattle.stm_faulted_runs.specs.Rules.{left_by}
use Rattle.stm_txn.specs.Standing.{Setup}
use Rattle.stm_texts.specs.Opens.{setup_of}

pub state_left : (s : Scenario) (start : Setup) (events : List WorldEvent) (before after : World) (entries : List StateEntry) → start ≡ setup_of s.opening →
    events ≡ s.events → before ≡ opened start → after ≡ world_after events before → IsStateOf after.standing.history entries → IsStateOf (left_by s) entries
state_left s start events before after entries opens takes new ran is =
    let from : before ≡ opened (setup_of s.opening) = new ∙ ap opened opens in
    let end : after ≡ world_after s.events (opened (setup_of s.opening)) =
    ran ∙ ap (λ (es : List WorldEvent). world_after es before) takes ∙ ap (λ (w : World). world_after s.events w) from in
    subst (λ (h : History). IsStateOf h entries) (ap (λ (w : World). w.standing.history) end) is
