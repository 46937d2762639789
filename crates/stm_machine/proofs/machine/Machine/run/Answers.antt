use Rattle.stm_machine.proofs.RunLemmas.{go_alike, go_falls, stands_after}
use Rattle.stm_machine.proofs.machine.Machine.run.Goals as goal

pub steps-smaller : goal.steps-smaller
steps-smaller g c =
    go_falls (g.L.Lookup.answers c.args.lookup.now) c.steps.self c.go.new.self c.in_ok-go.field-0 c.if-branch.true c.in_ok-go.ensures.ok

pub steps-preserved : goal.steps-preserved
steps-preserved g c =
    go_alike (g.L.Lookup.answers c.args.lookup.now) c.args.self.now c.steps.self c.go.new.self c.in_ok-go.field-0 c.steps.invariant c.in_ok-go.ensures.ok

pub returns-clause-stands : goal.returns-clause-stands
returns-clause-stands g c =
    stands_after (g.L.Lookup.answers c.args.lookup.now) c.steps.self c.go.new.self c.in_ok-go.field-0 c.if-branch.false c.in_ok-go.ensures.ok
