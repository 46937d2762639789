use Rattle.std.proofs.Common.{◌≡◌, ◌<◌, ◌++◌, suc, length, Some, None, ◌∙◌, arith, rules}
use Rattle.stm_tokens.specs.Tokens.{next_at, added, advanced, tokens_in}
use Rattle.stm_tokens.proofs.TokenLemmas.{goes_on, ends, runs_out}
use Rattle.stm_tokens.proofs.tokens.tokens_of.Goals as goal

pub returns-in_default : goal.returns-in_default
unfolding tokens_in
returns-in_default c =
    let less : c.loop-turn._turn < suc (length c.args.source.now) = omega arith in
    let none : None ≡ advanced (next_at c.loop-turn.at c.loop-turn.rest.now) = search rules in
    let more : c.advance.new.tokens.items ≡ c.loop-turn.tokens.items ++ added (next_at c.loop-turn.at c.loop-turn.rest.now) = search rules in
    more ∙ ends c.loop-turn.tokens.items (suc (length c.args.source.now)) c.loop-turn._turn c.loop-turn.at c.loop-turn.rest.now _ less none
    c.loop-turn.invariant.leads

pub loop-turn-preserved : goal.loop-turn-preserved
loop-turn-preserved c =
    let less : c.loop-turn._turn < suc (length c.args.source.now) = omega arith in
    let some : Some c.in-Some.length ≡ advanced (next_at c.loop-turn.at c.loop-turn.rest.now) = search rules in
    let more : c.advance.new.tokens.items ≡ c.loop-turn.tokens.items ++ added (next_at c.loop-turn.at c.loop-turn.rest.now) = search rules in
    record {
      leads = rw (more, c.split_at.ensures.back)
          (goes_on c.loop-turn.tokens.items (suc (length c.args.source.now)) c.loop-turn._turn c.loop-turn.at c.loop-turn.rest.now c.in-Some.length _ less some
          c.loop-turn.invariant.leads);
      placed = omega (arith, c.loop-turn.invariant.placed, c.split_at.ensures.back_len);
    }

pub returns : goal.returns
unfolding tokens_in
returns c =
    runs_out c.loop-turn.tokens.items (suc (length c.args.source.now)) c.loop-turn._turn c.loop-turn.at c.loop-turn.rest.now _ (omega arith)
    c.loop-turn.invariant.leads
