use Rattle.std.proofs.Common.{List, Option, length, get_or, None, ap, ◌∙◌, ◌≡◌, subst}
use Rattle.std.specs.Option.{option_or}
use Rattle.stm_visited.specs.Answers.{EachIs}
use Rattle.stm_visited.specs.Layers.{bad_among}
use Rattle.stm_visited.proofs.SearchLemmas.{founds_begin}
use Rattle.stm_visited.proofs.search.founds_at_start.Goals as goal

pub returns-clause-found : goal.returns-clause-found
returns-clause-found g c =
    let s = g.S.System.steps c.args.system.now in
    founds_begin s c.args.layer.now c.in_ok-none.none.items c.in_ok-founds.founds.items (c.in_ok-founds.ensures.each ∙ ap length c.as_slice.ensures.value)
    c.in_ok-none.ensures.none
    (subst (λ (none : List (Option (List g.row.S-Move.Denot))). EachIs (λ n it. it ≡ option_or (get_or none n None) (bad_among (s n) 0 c.args.layer.now)) c.in_ok-founds.founds.items)
    c.as_slice.ensures.value c.in_ok-founds.ensures.found)
