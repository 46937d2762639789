use Rattle.std.proofs.Common.{◌≡◌, ◌∙◌, ℕ, List, subst}
use Rattle.stm_keys.specs.declared.event.Event.{Event}
use Rattle.stm_keys.specs.Events.{events_of}
use Rattle.stm_keys.specs.Within.{those_within}
use Rattle.stm_watch.specs.Keys.{first_key}
use Rattle.stm_watch.proofs.Ordered.{matching_same}
use Rattle.stm_watch.proofs.pending_revision.copy_pending.Goals as goal

pub returns : goal.returns
returns c =
    let some : List Event = c.events_within-events.result.now in
    let all : List Event = events_of c.args.keys.now.history c.args.number in
    c.in_ok-copies.ensures
    ∙ matching_same c.args.watched.now some all
    (subst (λ (l : List ℕ). those_within (first_key c.args.watched.now) l some ≡ those_within (first_key c.args.watched.now) l all) c.last_key.ensures
    (subst (λ (k : List ℕ). those_within k c.last_key.result.now some ≡ those_within k c.last_key.result.now all) c.first_key.ensures
    c.events_within-events.ensures))
