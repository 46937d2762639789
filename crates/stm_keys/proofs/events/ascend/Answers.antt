use Rattle.std.proofs.Common.{Bool, not, rules}
use Rattle.std.specs.Ordering.{nat_cmp, is_lt}
use Rattle.std.specs.Cmp.Lexicographic.{slice_cmp}
use Rattle.std.proofs.lemmas.Bool.{MatchBool-at_true}
use Rattle.std.proofs.lemmas.List.Sorted.{answers_always}
use Rattle.stm_keys.specs.declared.event.Event.{Event}
use Rattle.stm_keys.specs.Events.{key_of_event}
use Rattle.stm_keys.proofs.Within.{ascending}
use Rattle.stm_keys.proofs.events.ascend.Goals as goal

pub returns : goal.returns
returns c is =
    let in_order : Event → Event → Bool = λ a b. not (is_lt (slice_cmp nat_cmp (key_of_event b) (key_of_event a))) in
    ascending c.args.events.now (MatchBool-at_true _ _ is (c.is_sorted_by.ensures.cases in_order (answers_always _ _ _ (λ f a r f' called. search rules))))
