use Rattle.std.proofs.Common.{◌≡◌, ◌-◌}
use Rattle.stm_source.specs.Events.{start_named}
use Rattle.stm_source.proofs.starts.start_named.Given as goal

-- what is left leads to all
abbrev pub invariant-loop-done : goal.invariant-loop-done
invariant-loop-done l =
    start_named l.fn.at l.fn.program l.fn.options (l.fn.times - l._done) l.story
    ≡ start_named l.fn.at l.fn.program l.fn.options l.fn.times l.fn.story
