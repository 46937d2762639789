use Rattle.std.proofs.Common.{◌≡◌, drop}
use Rattle.stm_job_texts.specs.StoreAfter.{after_calls}
use Rattle.stm_job_texts.proofs.opening.make_calls.Given as goal

abbrev pub invariant-loop-call : goal.invariant-loop-call
invariant-loop-call l = after_calls (drop l.call-index l.calls) l.store.standing ≡ after_calls l.calls l.fn.store.standing
