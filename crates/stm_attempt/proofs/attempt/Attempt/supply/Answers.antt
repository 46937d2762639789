use Rattle.stm_attempt.proofs.AttemptLemmas.{new_key, supplied_is, supplied_attempt}
use Rattle.stm_attempt.proofs.attempt.Attempt.supply.Goals as goal

pub add-requires-clause-new_key : goal.add-requires-clause-new_key
add-requires-clause-new_key c =
    new_key c.args.self.now c.self.inside.program c.self.inside.level c.self.inside.reads c.self.inside.prefetched c.self.inside.reported
    c.self.inside.progress c.args.answer.key c.self.view_is c.requires.asked c.self.invariant.1

pub invariant_of-self-2 : goal.invariant_of-self-2
invariant_of-self-2 c = (
  c.self.invariant.0,
  supplied_attempt c.args.self.now c.self.inside.program c.self.inside.level c.self.inside.reads c.self.inside.prefetched c.add.new.self c.self.inside.reported
      c.len-self-inside.result c.self.inside.progress c.args.answer c.self.view_is c.requires.asked c.self.invariant.1 c.in_ok-add.ensures.ok
      c.len-self-inside.ensures,
)

pub returns-clause-ok : goal.returns-clause-ok
returns-clause-ok c =
    supplied_is c.args.self.now c.self.inside.program c.self.inside.level c.self.inside.reads c.self.inside.prefetched c.add.new.self c.self.inside.reported
    c.len-self-inside.result c.self.inside.progress c.args.answer c.self.view_is c.requires.asked c.self.invariant.1 c.in_ok-add.ensures.ok
    c.len-self-inside.ensures
