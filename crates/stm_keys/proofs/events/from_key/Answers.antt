use Rattle.std.proofs.Common.{◌∙◌, ℕ, List, ap, arith, get_or, rules}
use Rattle.std.specs.Ordering.{nat_cmp, is_lt}
use Rattle.std.specs.Cmp.Lexicographic.{slice_cmp}
use Rattle.std.proofs.lemmas.List.{take_rest}
use Rattle.std.proofs.lemmas.List.Sorted.{IsPartitionPoint-from_clause}
use Rattle.stm_keys.specs.declared.event.Event.{Event}
use Rattle.stm_keys.specs.Events.{key_of_event}
use Rattle.stm_keys.specs.Within.{is_within, those_within}
use Rattle.stm_keys.proofs.Ranges.{parted}
use Rattle.stm_keys.proofs.Within.{too_low, without_front}
use Rattle.stm_keys.proofs.events.from_key.Goals as goal

-- those that are left out are before the first key
pub returns-clause-those : goal.returns-clause-those
returns-clause-those c = λ last.
    let events : List Event = c.args.events.now in
    let first : List ℕ = c.args.first.now in
    let before : ℕ = c.partition_point-before.result in
    let cut = IsPartitionPoint-from_clause (λ e. is_lt (slice_cmp nat_cmp (key_of_event e) first)) events before c.partition_point-before.ensures.partitioned
    (parted key_of_event first events c.requires) (λ a r q k. search rules) in
    ap (those_within first last) (take_rest events before)
    ∙ without_front (λ e. is_within first last (key_of_event e)) before events
    (λ k d less within. too_low first last (key_of_event (get_or events k d)) (cut.0 k d (omega arith) less))
