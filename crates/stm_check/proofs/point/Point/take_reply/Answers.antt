use Rattle.std.proofs.Common.{◌≡◌, ◌+◌, List, length, sym, ap, ◌∙◌}
use Rattle.stm_history.specs.History.{History, now}
use Rattle.stm_txn.specs.Standing.{Standing}
use Rattle.stm_check.specs.declared.runner.Runner.{Runner}
use Rattle.stm_check.specs.Point.{entries_reported, standing_after}
use Rattle.stm_check.specs.Replays.{Replays}
use Rattle.stm_check.proofs.CallLemmas.{txn_counter}
use Rattle.stm_check.proofs.point.Point.take_reply.Goals as goal

pub returns-clause-next : goal.returns-clause-next
returns-clause-next c = λ t.
    let s : Standing = c.args.self.now.store.standing in
    let next : Standing = c.replays.new.store.standing in
    let rs : List Runner = c.as_slice.result.now in
    let event = c.args.event.now in
    let replied = c.args.reply.now in
    let right : Replays s rs event replied = c.in_ok-replays.ensures.right.0 c.if-not-branch.false in
    let reached : next ≡ standing_after s rs event replied = c.in_ok-replays.ensures.next c.if-not-branch.false in
    let count : c.count_reported-more.result ≡ length (entries_reported s c.as_slice-2.result.now event replied) =
    c.count_reported-more.ensures s (sym (c.revision-before.ensures.value ∙ ap (λ (h : History). now h) c.keys.ensures.history))
    (λ txn is. txn_counter s next rs event replied txn c.limit-few.ensures.few right reached is
    ∙ sym (c.revision-revision.ensures.value ∙ ap (λ (h : History). now h) c.keys-2.ensures.history)) in
    λ k. record {
      standing = (reached ∙ ap (λ (x : List Runner). standing_after s x event replied) c.as_slice.ensures.value) k;
      entries = (c.in_ok-self.ensures
          ∙ ap (λ n. c.args.self.now.entries + n)
          (count ∙ ap (λ (x : List Runner). length (entries_reported s x event replied)) c.as_slice-2.ensures.value)) k;
      runners = c.in_ok-note.ensures k;
    }
