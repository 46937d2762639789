use Rattle.std.proofs.Common.{◌≡◌, ◌+◌, ◌-◌, ◌*◌, length, drop}
use Rattle.stm_leaving.specs.Weight.{source_weight, sources_weight, copies_weight}
use Rattle.stm_leaving.specs.PartsView.{sources_of}
use Rattle.stm_leaving.specs.CopiesView.{copies_of}
use Rattle.stm_leaving.specs.Closed.{closed, closed_copies, with_next, first_abort, around}
use Rattle.stm_leaving.proofs.closing.+closed.Given as goal

abbrev pub decreases-choice : goal.decreases-choice
decreases-choice l = 10 * (sources_weight l.yes.now + sources_weight l.no.now) + 3

abbrev pub decreases-kept_choice : goal.decreases-kept_choice
decreases-kept_choice l = 10 * (sources_weight l.yes.now + sources_weight l.no.now) + 4

abbrev pub decreases-left_choice : goal.decreases-left_choice
decreases-left_choice l = 10 * (sources_weight l.yes.now + sources_weight l.no.now) + 4

abbrev pub decreases-closed_choice : goal.decreases-closed_choice
decreases-closed_choice l = 10 * (sources_weight l.yes.now + sources_weight l.no.now) + 5

abbrev pub decreases-closed_count : goal.decreases-closed_count
decreases-closed_count l = 10 * sources_weight l.body.now + 5

abbrev pub decreases-closed_items : goal.decreases-closed_items
decreases-closed_items l = 10 * copies_weight l.copies.now + 5

abbrev pub decreases-closed_copy : goal.decreases-closed_copy
decreases-closed_copy l = 10 * sources_weight l.copy.now + 1

abbrev pub decreases-closed_copies : goal.decreases-closed_copies
decreases-closed_copies l = 10 * copies_weight l.copies.now + 2

abbrev pub decreases-closed_one : goal.decreases-closed_one
decreases-closed_one l = 10 * source_weight l.part.now + 5

abbrev pub decreases-closed_list : goal.decreases-closed_list
decreases-closed_list l = 10 * sources_weight l.parts.now

abbrev pub decreases-closed : goal.decreases-closed
decreases-closed l = 10 * sources_weight l.parts.now + 1

-- what those so far have become
abbrev pub invariant-closed_list-loop-done : goal.invariant-closed_list-loop-done
invariant-closed_list-loop-done l =
    let xs = l.all.items in
    l.more ≡ closed (sources_of (drop (length xs - l.done) xs)) (around (first_abort xs) (length xs - l.done) (with_next l.follow l.fn.behind))

abbrev pub invariant-closed_copies-loop-done : goal.invariant-closed_copies-loop-done
invariant-closed_copies-loop-done l =
    let cs = l.all.items in
    l.more ≡ closed_copies (copies_of (drop (length cs - l.done) cs)) l.after
