use Rattle.std.proofs.Common.{◌≡◌, drop, false}
use Rattle.stm_tokens.specs.Quoted.{closing}
use Rattle.stm_tokens.proofs.quoted.closing_quote.Given as goal

-- none of the bytes so far closes the text
abbrev pub invariant-loop-index : goal.invariant-loop-index
invariant-loop-index l = closing 0 false l.bytes ≡ closing l.index l.escaped (drop l.index l.bytes)
