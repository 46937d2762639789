use Rattle.std.proofs.Common.{refl, arith}
use Rattle.std.proofs.lemmas.Result.{err_from_is_err_and}
use Rattle.stm_lasting.proofs.Leading.{taken_on, taken_nowhere, all_taken}
use Rattle.stm_lasting.proofs.replay.take_records.Goals as goal

pub loop-place-init : goal.loop-place-init
loop-place-init c = refl

pub loop-place-preserved : goal.loop-place-preserved
loop-place-preserved c =
    taken_on c.args.bytes.now c.args.places.now c.loop-place.place-index _ c.loop-place.world c.take_record.new.world c.args.world.now (omega arith)
    c.in_ok-take_record.ensures.taken c.loop-place.invariant

pub returns-clause-taken : goal.returns-clause-taken
returns-clause-taken c =
    all_taken c.args.bytes.now c.args.places.now c.loop-place.place-index c.loop-place.world c.args.world.now (omega arith) c.loop-place.invariant

pub returns-in_err-take_record-clause-none : goal.returns-in_err-take_record-clause-none
returns-in_err-take_record-clause-none c =
    let p = err_from_is_err_and c.from_residual.result c.from_residual.ensures.1 in
    rw (p.1, p.2) (λ at is.
    taken_nowhere c.args.bytes.now c.args.places.now c.loop-place.place-index _ c.loop-place.world c.args.world.now (omega arith)
    (c.in_err-take_record.ensures.none at is) c.loop-place.invariant)
