use Rattle.std.proofs.Common.{◌≡◌, ◌+◌, List, refl, ap, sym, ◌∙◌, subst, arith}
use Rattle.stm_history.specs.declared.change.Change.{Change}
use Rattle.stm_history.specs.History.{History, now, add_revision, IsRevision}
use Rattle.stm_keys.specs.Keys.{DeletePresent}
use Rattle.stm_report.specs.RunHistory.{IsBehind}
use Rattle.stm_report.proofs.RunHistories.{kept_now, next_changes, next_can_be_made, behind_next, taken_next}
use Rattle.stm_report.proofs.run_history.add_next.Goals as goal

pub events_at-events-requires : goal.events_at-events-requires
events_at-events-requires c =
    let last = kept_now c.args.world.now c.keys.result.now.history (now c.keys.result.now.history) c.store.result.now.standing c.requires.behind.sound refl
    c.keys.ensures.history c.store.ensures.standing in
    omega (arith, c.requires.lacks, last, c.revision.ensures.value)

pub apply_all-requires-clause-revision : goal.apply_all-requires-clause-revision
apply_all-requires-clause-revision c =
    let taken : c.in_ok-changes.changes.items ≡ next_changes c.args.whole.now.history c.args.world.now =
    taken_next c.args.whole.now.history c.args.world.now c.in_ok-changes.changes.items c.events_at-events.result.now c.keys.result.now.history
    c.store.result.now.standing (c.revision.result + 1) c.requires.behind c.requires.lacks c.in_ok-changes.ensures c.events_at-events.ensures
    (ap (λ n. n + 1) c.revision.ensures.value) c.keys.ensures.history c.store.ensures.standing in
    subst (λ (cs : List Change). IsRevision cs) (sym taken) (next_can_be_made c.args.whole.now.history c.args.world.now c.requires.behind c.requires.lacks).0

pub apply_all-requires-clause-present : goal.apply_all-requires-clause-present
apply_all-requires-clause-present c =
    let taken : c.in_ok-changes.changes.items ≡ next_changes c.args.whole.now.history c.args.world.now =
    taken_next c.args.whole.now.history c.args.world.now c.in_ok-changes.changes.items c.events_at-events.result.now c.keys.result.now.history
    c.store.result.now.standing (c.revision.result + 1) c.requires.behind c.requires.lacks c.in_ok-changes.ensures c.events_at-events.ensures
    (ap (λ n. n + 1) c.revision.ensures.value) c.keys.ensures.history c.store.ensures.standing in
    subst (λ (cs : List Change). DeletePresent c.args.whole.now.history cs) (sym taken)
    (next_can_be_made c.args.whole.now.history c.args.world.now c.requires.behind c.requires.lacks).1

pub returns-in-Ok-clause-behind : goal.returns-in-Ok-clause-behind
returns-in-Ok-clause-behind c =
    let taken : c.in_ok-changes.changes.items ≡ next_changes c.args.whole.now.history c.args.world.now =
    taken_next c.args.whole.now.history c.args.world.now c.in_ok-changes.changes.items c.events_at-events.result.now c.keys.result.now.history
    c.store.result.now.standing (c.revision.result + 1) c.requires.behind c.requires.lacks c.in_ok-changes.ensures c.events_at-events.ensures
    (ap (λ n. n + 1) c.revision.ensures.value) c.keys.ensures.history c.store.ensures.standing in
    subst (λ (h : History). IsBehind h c.args.world.now) (sym (c.in-Ok.ensures.ok ∙ ap (add_revision c.args.whole.now.history) taken))
    (behind_next c.args.whole.now.history c.args.world.now c.requires.behind c.requires.lacks)

pub returns-in-Ok-clause-next : goal.returns-in-Ok-clause-next
returns-in-Ok-clause-next c =
    let one : now (add_revision c.args.whole.now.history c.in_ok-changes.changes.items) ≡ now c.args.whole.now.history + 1 = omega arith in
    ap now c.in-Ok.ensures.ok ∙ one
