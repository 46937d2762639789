use Rattle.std.proofs.Common.{◌≡◌, ◌+◌, ◌∷◌, [], List, Ok, Err, length, refl, sym, ap, ◌∙◌, arith}
use Rattle.std.proofs.lemmas.Result.{err_from_is_err_and}
use Rattle.std.specs.Vec.Iter.{into_iter_items}
use Rattle.std.proofs.lemmas.List.{nil_from_length}
use Rattle.stm_events.specs.declared.event.WorldEvent.{WorldEvent}
use Rattle.stm_job_texts.specs.Accepting.{sorted_of, add_event, accepted}
use Rattle.stm_job_texts.proofs.AcceptLemmas.{within_ok, within_err, next_event, stops_at, all_sorted}
use Rattle.stm_job_texts.proofs.accepting.accept.Goals as goal

pub loop-event-preserved : goal.loop-event-preserved
loop-event-preserved c =
    let at = c.loop-event in
    let event : WorldEvent = c.in-Some.event in
    let rest : List WorldEvent = into_iter_items c.next.new.self in
    let old = sorted_of at.sorted in
    let new = sorted_of c.add.new.sorted in
    let items : into_iter_items at.event-iterator ≡ event ∷ rest = c.in-Some.ensures.steps.0 in
    let gone = c.in-Some.ensures.steps.1 in
    let short = ap length items in
    let added : add_event old event ≡ Ok new =
    within_ok (λ _. new) (c.first_place-first.result + at.before) c.add.result (Ok tt) (add_event old event) tt c.in_ok-within.ensures c.add.ensures refl in
    record {
      can_next = tt;
      ends = tt;
      counted = let was = at.invariant.counted in omega arith;
      room = omega (arith, at.invariant.room, gone);
      reported = next_event c.first_place-first.result at.before (into_iter_items at.event-iterator) rest event old new (accepted c.args.scenario) items added
          at.invariant.reported;
    }

pub returns-in_err-within : goal.returns-in_err-within
returns-in_err-within c =
    let at = c.loop-event in
    let event : WorldEvent = c.in-Some.event in
    let rest : List WorldEvent = into_iter_items c.next.new.self in
    let old = sorted_of at.sorted in
    let new = sorted_of c.add.new.sorted in
    let place = c.first_place-first.result + at.before in
    let fault = c.in_err-within.field-0.0 in
    let p = err_from_is_err_and c.from_residual.result c.from_residual.ensures.1 in
    let items : into_iter_items at.event-iterator ≡ event ∷ rest = c.in-Some.ensures.steps.0 in
    let reported = within_err (λ _. new) place c.add.result (Err fault) (add_event old event) fault c.in_err-within.ensures c.add.ensures refl in
    rw (p.1, p.2) (stops_at c.first_place-first.result at.before (into_iter_items at.event-iterator) rest event old (accepted c.args.scenario) fault items reported
    at.invariant.reported)

pub returns : goal.returns
returns c =
    let at = c.loop-event in
    let none : into_iter_items at.event-iterator ≡ [] =
    nil_from_length (into_iter_items at.event-iterator) (sym at.invariant.counted ∙ c.in-None.ensures.steps.0) in
    all_sorted c.first_place-first.result at.before (into_iter_items at.event-iterator) (sorted_of at.sorted) (accepted c.args.scenario) none at.invariant.reported
