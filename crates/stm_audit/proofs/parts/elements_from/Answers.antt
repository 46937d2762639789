use Rattle.std.proofs.Common.{◌≡◌, [], drop, arith}
use Rattle.std.proofs.lemmas.List.{drop_all}
use Rattle.std.proofs.lemmas.Result.{err_from_is_err_and}
use Rattle.serde_json.specs.View.{items_view}
use Rattle.stm_json.specs.Parts.{each_from}
use Rattle.stm_json.proofs.ListLemmas.{goes_on, ends, is_done}
use Rattle.stm_audit.proofs.parts.elements_from.Goals as goal

pub returns-in_err-element : goal.returns-in_err-element
returns-in_err-element g c =
    let p = err_from_is_err_and c.from_residual.result c.from_residual.ensures.1 in
    rw (p.1, p.2) (ends g.T.Readable.reading c.in_err-element.field-0.0 c.loop-index.elements.items c.args.values.now c.loop-index.index
    c.index-values-index.result (each_from g.T.Readable.reading c.args.first (items_view (drop c.args.first c.args.values.now)))
    c.loop-index-test.true c.index-values-index.is c.in_err-element.ensures c.loop-index.invariant)

pub loop-index-preserved : goal.loop-index-preserved
loop-index-preserved g c =
    rw c.in_ok-push.ensures.items (goes_on g.T.Readable.reading c.loop-index.elements.items c.args.values.now c.loop-index.index
    c.index-values-index.result c.in_ok-element.element (each_from g.T.Readable.reading c.args.first (items_view (drop c.args.first c.args.values.now)))
    c.loop-index-test.true c.index-values-index.is c.in_ok-element.ensures c.loop-index.invariant)

pub returns : goal.returns
returns g c =
    let none : drop c.loop-index.index c.args.values.now ≡ [] = drop_all c.loop-index.index c.args.values.now (omega arith) in
    is_done g.T.Readable.reading c.loop-index.elements.items c.args.values.now c.loop-index.index
    (each_from g.T.Readable.reading c.args.first (items_view (drop c.args.first c.args.values.now))) none c.loop-index.invariant
