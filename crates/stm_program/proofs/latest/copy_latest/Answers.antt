use Rattle.std.proofs.Common.{rules, ◌≡◌, ◌∙◌, ap, map}
use Rattle.std.specs.Map.Iter.{deref}
use Rattle.std.proofs.lemmas.Map.Iter.{iter_end}
use Rattle.indexmap.specs.IndexMap.{values}
use Rattle.stm_program.proofs.latest.copy_latest.Goals as goal

-- all the writes of the table were copied
pub returns : goal.returns
returns c =
    let all : map deref c.loop-write.yielded ≡ values c.args.latest.now = search (rules, iter_end) in
    c.of.ensures ∙ c.loop-write.invariant ∙ ap (map (λ w. w.now)) all
