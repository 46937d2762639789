use Rattle.std.proofs.Common.{◌≡◌, ◌+◌, ◌∙◌, sym, ap, arith, cond, suc, drop, map, List, ℕ, ◌∷◌, None}
use Rattle.std.specs.Prelude.{bytes_eq}
use Rattle.std.proofs.Math.Seq.{drop-cons}
use Rattle.stm_history.specs.History.{key_of}
use Rattle.stm_keys.specs.declared.event.Event.{Event}
use Rattle.stm_keys.specs.Events.{key_of_event, change_of_event}
use Rattle.stm_leases.specs.Leases.{Leases, lease_of}
use Rattle.stm_txn.specs.Moves.{detached_all}
use Rattle.stm_txn.proofs.Moving.{get_taken, key_shown}
use Rattle.stm_txn.proofs.attach.detach_all.Goals as goal

pub loop-event-preserved : goal.loop-event-preserved
loop-event-preserved c =
    let i = c.loop-event.event-index in
    let es : List Event = c.args.events.now in
    let e : Event = c.event-item.result in
    let now : Leases = c.loop-event.leases in
    let step : i + 1 ≡ suc i = omega arith in
    let rest : drop i es ≡ e ∷ drop (i + 1) es =
    drop-cons es i e c.loop-event-test.true ∙ ap (λ d. d ∷ drop (suc i) es) (sym c.event-item.is) ∙ ap (λ n. e ∷ drop n es) (sym step) in
    let taken : (key : List ℕ) → lease_of c.take_off.new.leases key ≡ cond (bytes_eq (key_of (change_of_event e)) key) None (lease_of now key) = λ key.
    ap (λ (s : Leases). lease_of s key) c.take_off.ensures
    ∙ get_taken now.attached (key_of_event e) key
    ∙ ap (λ (k : List ℕ). cond (bytes_eq k key) None (lease_of now key)) (sym (key_shown e)) in
    record {
      reported = λ key. ap (detached_all (map change_of_event (drop (i + 1) es)) key) (taken key)
          ∙ sym (ap (λ (l : List Event). detached_all (map change_of_event l) key (lease_of now key)) rest)
          ∙ c.loop-event.invariant.reported key;
      live = ap (λ (s : Leases). s.live) c.take_off.ensures ∙ c.loop-event.invariant.live;
      spare = ap (λ (s : Leases). s.spare) c.take_off.ensures ∙ c.loop-event.invariant.spare;
    }
