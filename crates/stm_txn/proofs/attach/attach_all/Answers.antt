use Rattle.std.proofs.Common.{◌≡◌, ◌≤◌, ◌∙◌, sym, ap, subst, arith, length, List, ℕ, ◌∷◌}
use Rattle.std.specs.Vec.Iter.{into_iter_items}
use Rattle.stm_leases.specs.Leases.{Leases, lease_of}
use Rattle.stm_txn.specs.Moves.{attached_all, CanAttach}
use Rattle.stm_txn.proofs.Moving.{can_after}
use Rattle.stm_txn.proofs.attach.attach_all.Goals as goal

pub loop-attach-preserved : goal.loop-attach-preserved
loop-attach-preserved c =
    let before : Leases = c.loop-attach.leases in
    let attach : List ℕ × ℕ = c.in-Some.attach in
    let rest : List (List ℕ × ℕ) = into_iter_items c.next.new.self in
    let items : into_iter_items c.loop-attach.attach-iterator ≡ attach ∷ rest = c.in-Some.ensures.steps.0 in
    let can : CanAttach (lease_of before) before.live (attach ∷ rest) = subst (CanAttach (lease_of before) before.live) items c.loop-attach.invariant.can in
    let room : length (attach ∷ rest) ≤ before.spare = subst (λ l. length l ≤ before.spare) items c.loop-attach.invariant.room in
    record {
      can_next = tt;
      ends = tt;
      can = can_after (lease_of before) (lease_of c.attach_one.new.leases) before.live c.attach_one.new.leases.live attach rest can.2 can.3
          c.attach_one.ensures.keys c.attach_one.ensures.live;
      room = omega (arith, c.attach_one.ensures.spare);
      reported = λ key. ap (attached_all rest key) (c.attach_one.ensures.keys key)
          ∙ sym (ap (λ l. attached_all l key (lease_of before key)) items) ∙ c.loop-attach.invariant.reported key;
      live = c.attach_one.ensures.live ∙ c.loop-attach.invariant.live;
    }
