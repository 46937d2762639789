use Rattle.std.proofs.Common.{◌≡◌, ◌+◌, ◌-◌, ◌++◌, suc, length}
use Rattle.stm_tokens.specs.Tokens.{tokens_from}
use Rattle.stm_tokens.proofs.tokens.tokens_of.Given as goal

-- the tokens so far, and then those of the rest
abbrev pub invariant-loop-turn : goal.invariant-loop-turn
invariant-loop-turn l = record {
  leads : l.tokens.items ++ tokens_from (suc (length l.fn.source) - l._turn) l.at l.rest ≡ tokens_from (suc (length l.fn.source)) 0 l.fn.source;
  placed : l.at + length l.rest ≡ length l.fn.source;
}
