use Rattle.stm_journal.proofs.PresentLemmas.{sorted_present, sorted_computed}
use Rattle.stm_journal.proofs.present.present_keys.Goals as goal

pub returns-clause-present : goal.returns-clause-present
returns-clause-present c =
    sorted_present c.args.keys.now.history c.args.keys.now.present c.in_ok-present.present.items c.sort.new.self.items
    c.in_ok-present.ensures.present c.in_ok-present.ensures.copies c.sort.ensures.permutation c.in_ok-sort.ensures.sorted

pub returns-clause-computed : goal.returns-clause-computed
returns-clause-computed c =
    sorted_computed c.args.keys.now.history c.args.keys.now.present c.in_ok-present.present.items c.sort.new.self.items
    c.in_ok-present.ensures.present c.in_ok-present.ensures.copies c.sort.ensures.permutation c.in_ok-sort.ensures.sorted
