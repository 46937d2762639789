use Rattle.std.proofs.Common.{rules}
use Rattle.std.proofs.lemmas.Result.{IfOk-weaker}
use Rattle.stm_attempt.proofs.TakingLemmas.{take_stops, take_is_new, take_once, take_goes_on}
use Rattle.stm_attempt.proofs.entering.+take_each.Goals as goal

pub returns-in-None : goal.returns-in-None
returns-in-None t c =
    take_stops c.args.keys.now c.first-item.result _ c.args.taken c.args.prefetched.now c.in-len1-up.len_at_least c.first-item.is c.as_str.ensures.value
    c.in-None.ensures.answer

pub add-requires-clause-new_key : goal.add-requires-clause-new_key
add-requires-clause-new_key t c =
    take_is_new c.args.keys.now c.first-item.result _ c.args.taken c.args.prefetched.now _ c.in_ok-copy_of-in-Some.field-0 c.in-len1-up.len_at_least
    c.first-item.is c.as_str.ensures.value c.in-Some.ensures.answer c.in_ok-copy_of-in-Some.ensures c.requires.once

pub take_each-requires : goal.take_each-requires
take_each-requires t c = (
  search rules,
  take_once c.args.keys.now c.first-item.result _ c.args.taken c.add.new.self c.args.prefetched.now _ c.in_ok-copy_of-in-Some.field-0
      c.in-len1-up.len_at_least c.first-item.is c.as_str.ensures.value c.in-Some.ensures.answer c.in_ok-copy_of-in-Some.ensures
      c.in_ok-add-in-Some.ensures.ok c.requires.once,
)

pub returns-in_ok-add-in-Some : goal.returns-in_ok-add-in-Some
returns-in_ok-add-in-Some t c =
    IfOk-weaker c.take_each.result _ _
    (λ found reported. take_goes_on c.args.keys.now c.first-item.result _ c.args.taken c.add.new.self c.args.prefetched.now _
    c.in_ok-copy_of-in-Some.field-0 found c.in-len1-up.len_at_least c.first-item.is c.as_str.ensures.value c.in-Some.ensures.answer
    c.in_ok-copy_of-in-Some.ensures c.in_ok-add-in-Some.ensures.ok reported)
    c.take_each.ensures
