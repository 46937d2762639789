use Rattle.std.proofs.Common.{◌≡◌, ℕ, List, take}
use Rattle.stm_compile.specs.Answers.{answer_in}
use Rattle.stm_events.specs.Replies.{reads_in}
use Rattle.stm_check.proofs.lookups.reads_reported.Given as goal

-- the answers so far are looked up as those that were reported
abbrev pub invariant-loop-answer : goal.invariant-loop-answer
invariant-loop-answer l =
    (key : List ℕ) → answer_in key l.reads ≡ answer_in key (reads_in l.keys.history (take l.answer-index l.answers))
