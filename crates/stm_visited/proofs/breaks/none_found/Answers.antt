use Rattle.std.proofs.Common.{◌≡◌, ◌+◌, [], ◌∷◌, None, length, refl, ap, ◌∙◌, length-append}
use Rattle.stm_visited.proofs.SearchLemmas.{each_push}
use Rattle.stm_visited.proofs.breaks.none_found.Goals as goal

pub loop-index-preserved : goal.loop-index-preserved
loop-index-preserved g c = (
  ap length c.in_ok-push.ensures.items ∙ length-append c.loop-index.founds.items (None ∷ []) ∙ ap (λ k. k + 1) c.loop-index.invariant.0,
  rw c.in_ok-push.ensures.items (each_push (λ n it. it ≡ None) c.loop-index.founds.items None c.loop-index.invariant.1 refl),
)
