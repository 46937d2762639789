use Rattle.std.proofs.Common.{sym, ◌∙◌}
use Rattle.stm_steps.specs.Meaning.{run_block}
use Rattle.stm_sites.specs.Sites.{block_site}
use Rattle.stm_sites.proofs.BlockLemmas.{run-step, site-step as block-step}
use Rattle.stm_sites.proofs.TurnLemmas.{repeat-step, site-step}
use Rattle.stm_sites.proofs.statements.+statements.Goals as goal

pub run_turns-loop-turn-preserved : goal.run_turns-loop-turn-preserved
run_turns-loop-turn-preserved g t c =
    let look = g.L.Lookup.answers c.args.lookup.now in
    let body = run_block look c.args.body.now in
    let site = block_site look 0 c.args.body.now in (
      sym
          (repeat-step c.args.variable body c.args.count c.loop-turn.turn c.loop-turn.session c.begin_turn.new.session c.run_part.new.session
          c.loop-turn-test.true c.in_ok-begin_turn.ensures.reported c.in_ok-run_part.ensures.reported)
          ∙ c.loop-turn.invariant.0,
      sym
          (site-step c.args.variable body site c.args.count c.loop-turn.turn c.loop-turn.session c.begin_turn.new.session c.run_part.new.session
          c.loop-turn-test.true c.in_ok-begin_turn.ensures.reported c.in_ok-run_part.ensures.reported)
          ∙ c.loop-turn.invariant.1,
    )

pub run_all-loop-index-preserved : goal.run_all-loop-index-preserved
run_all-loop-index-preserved g t c =
    let look = g.L.Lookup.answers c.args.lookup.now in
    let statements = c.args.statements.now in
    let statement = c.index-statements-index.result in (
      sym
          (run-step look statements c.loop-index.index statement c.loop-index.session c.run_at.new.session c.loop-index-test.true
          c.index-statements-index.is c.in_ok-run_at.ensures.reported)
          ∙ c.loop-index.invariant.0,
      sym
          (block-step look statements c.loop-index.index statement c.loop-index.session c.run_at.new.session c.loop-index-test.true
          c.index-statements-index.is c.in_ok-run_at.ensures.reported)
          ∙ c.loop-index.invariant.1,
    )
