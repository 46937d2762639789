use Rattle.std.proofs.Common.{◌≡◌, map, ◌∙◌, sym, ap, Some, None}
use Rattle.std.specs.Prelude.{string_bytes, option_map}
use Rattle.stm_recipes.specs.Queues.{item_at}
use Rattle.stm_recipes.proofs.ReaderLemmas.{before, items_from-next, items_from-absent}
use Rattle.stm_recipes.proofs.readers.items_between.Goals as goal

pub loop-number-preserved : goal.loop-number-preserved
loop-number-preserved c =
    let is : Some (string_bytes c.in-Some.item) ≡ item_at c.args.state.now c.args.queue.now c.loop-number.number =
    sym (ap (λ o. option_map string_bytes o) c.in-Some.is) ∙ c.in_ok-found.ensures in
    items_from-next c.args.state.now c.args.queue.now string_bytes c.loop-number.number c.args.tail c.loop-number.items.items
    c.push.new.self.items c.in-Some.item c.loop-number-test.true is c.in_ok-push-in-Some.ensures.items ∙ c.loop-number.invariant

pub returns-in-None : goal.returns-in-None
returns-in-None c =
    let absent : item_at c.args.state.now c.args.queue.now c.loop-number.number ≡ None =
    sym c.in_ok-found.ensures ∙ ap (λ o. option_map string_bytes o) c.in-None.is in
    sym (ap (before (map string_bytes c.loop-number.items.items)) (items_from-absent c.args.state.now c.args.queue.now c.loop-number.number c.args.tail
    c.loop-number-test.true absent)) ∙ c.loop-number.invariant
