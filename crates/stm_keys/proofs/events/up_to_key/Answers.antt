use Rattle.std.proofs.Common.{ℕ, List, not, get_or, rules}
use Rattle.std.specs.Ordering.{nat_cmp, is_lt}
use Rattle.std.specs.Cmp.Lexicographic.{slice_cmp}
use Rattle.std.proofs.lemmas.List.Sorted.{IsPartitionPoint-from_clause}
use Rattle.stm_keys.specs.declared.event.Event.{Event}
use Rattle.stm_keys.specs.Events.{key_of_event}
use Rattle.stm_keys.specs.Within.{is_within}
use Rattle.stm_keys.proofs.Ranges.{parted_behind}
use Rattle.stm_keys.proofs.Within.{too_high, without_back}
use Rattle.stm_keys.proofs.events.up_to_key.Goals as goal

-- those that are left out are behind the last key
pub returns : goal.returns
returns c = λ first.
    let events : List Event = c.args.events.now in
    let last : List ℕ = c.args.last.now in
    let upto : ℕ = c.partition_point-upto.result in
    let cut = IsPartitionPoint-from_clause (λ e. not (is_lt (slice_cmp nat_cmp last (key_of_event e)))) events upto c.partition_point-upto.ensures.partitioned
    (parted_behind key_of_event last events c.requires) (λ a r q k. search rules) in
    without_back (λ e. is_within first last (key_of_event e)) upto events
    (λ k d more within. too_high first last (key_of_event (get_or events k d)) (cut.1 k d more within))
