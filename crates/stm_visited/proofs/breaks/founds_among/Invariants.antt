use Rattle.std.proofs.Common.{◌≡◌, length, get_or, None}
use Rattle.std.specs.Option.{option_or}
use Rattle.stm_visited.specs.Answers.{EachIs}
use Rattle.stm_visited.specs.Layers.{bad_among}
use Rattle.stm_visited.proofs.breaks.founds_among.Given as goal

-- those of the rules so far
abbrev pub invariant-loop-rule : goal.invariant-loop-rule
invariant-loop-rule g l =
    (length l.founds.items ≡ l.rule)
    × EachIs (λ n found. found ≡ option_or (get_or l.before n None) (bad_among (g.S.System.steps l.system n) 0 l.layer)) l.founds.items
