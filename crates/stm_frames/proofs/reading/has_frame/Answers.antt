use Rattle.std.proofs.Common.{rules, ◌≡◌, ◌+◌, ◌++◌, List, ℕ, take, drop, subst}
use Rattle.stm_frames.specs.Frame.{frame}
use Rattle.stm_frames.proofs.Frames.{found, none_found}
use Rattle.stm_frames.proofs.reading.has_frame.Goals as goal

pub returns-in-Some-clause-some : goal.returns-in-Some-clause-some
returns-in-Some-clause-some c = λ _.
    found c.args.bytes.now c.args.from c.loop-at.at c.in-Some._len (search rules)
    (subst (λ (r : List ℕ). r ≡ frame c.loop-at.at (take c.in-Some._len (drop 24 r)) ++ drop (24 + c.in-Some._len) r) c.behind.ensures c.in-Some.ensures.whole)

pub returns-clause-none : goal.returns-clause-none
returns-clause-none c = λ _. none_found c.args.bytes.now c.args.from c.loop-at.at (search rules) c.loop-at.invariant
