use Rattle.std.proofs.Common.{List, ℕ, arith, subst}
use Rattle.stm_keys.specs.declared.event.Event.{Event}
use Rattle.stm_keys.specs.Events.{event_about}
use Rattle.std.specs.Prelude.{IsSome}
use Rattle.stm_storing.specs.Past.{Adds, IsChangedIn}
use Rattle.stm_storing.proofs.PastKeys.{no_revision, revision_added}
use Rattle.stm_storing.proofs.past.add_changed_since.Goals as goal

pub loop-later-init : goal.loop-later-init
loop-later-init c = (c.requires, no_revision c.args.keys.now.history c.args.revision)

pub loop-later-preserved : goal.loop-later-preserved
loop-later-preserved c =
    let h = c.args.keys.now.history in (
      omega (arith, c.loop-later-test.true, c.revision-later-end.ensures.value),
      revision_added h c.args.revision c.loop-later.later c.loop-later.invariant.1
          (subst (λ (es : List Event). Adds h c.args.revision (λ q. IsSome (event_about q es)) c.loop-later.past.entries c.add_changed.new.past.entries) c.events_at.ensures
          c.in_ok-add_changed.ensures),
    )

pub returns : goal.returns
returns c =
    subst (λ (n : ℕ). Adds c.args.keys.now.history c.args.revision (IsChangedIn c.args.keys.now.history c.args.revision n) c.args.past.now.entries c.loop-later.past.entries)
    (omega (arith, c.loop-later.invariant.0, c.loop-later-test.false, c.revision-later-end.ensures.value)) c.loop-later.invariant.1
