use Rattle.stm_hall.proofs.Keeping.{advance_keeps}
use Rattle.stm_hall.proofs.hall.Hall.advance.Goals as goal

pub invariant_of-self : goal.invariant_of-self
invariant_of-self c =
    let kept = advance_keeps (λ v. v.items) c.self.inside.journal c.advance.new.self c.args.moment c.advance.result c.self.invariant c.advance.ensures.ok
    c.advance.ensures.refused in
    kept.locked

pub returns-clause-goes_on : goal.returns-clause-goes_on
returns-clause-goes_on c =
    let kept = advance_keeps (λ v. v.items) c.self.inside.journal c.advance.new.self c.args.moment c.advance.result c.self.invariant c.advance.ensures.ok
    c.advance.ensures.refused in
    rw c.self.view_is at kept.goes
