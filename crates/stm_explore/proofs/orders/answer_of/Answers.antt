use Rattle.std.proofs.Common.{sym, subst}
use Rattle.stm_explore.specs.declared.orders.Compared.{Compared}
use Rattle.stm_explore.specs.declared.orders.SerialAnswer.TheVariants.{Serial, Anomaly, Undecided}
use Rattle.stm_explore.specs.Orders.{Answers}
use Rattle.stm_explore.proofs.OrderLemmas.{anomaly_by, serial_by, unknown_by}
use Rattle.stm_explore.proofs.orders.answer_of.Goals as goal

pub returns-in-Serial-clause-answers : goal.returns-in-Serial-clause-answers
returns-in-Serial-clause-answers c =
    subst (λ (k : Compared). Answers c.args.outcomes c.args.schedules k (Serial c.len.result)) (sym c.in-Serial.is)
    (serial_by c.args.outcomes c.args.schedules c.len.result (sym c.len.ensures))

pub returns-in-Odd-clause-answers : goal.returns-in-Odd-clause-answers
returns-in-Odd-clause-answers c =
    subst (λ (k : Compared). Answers c.args.outcomes c.args.schedules k (Anomaly c.taken.result c.taken-in-Odd.result)) (sym c.in-Odd.is)
    (anomaly_by c.args.outcomes c.args.schedules c.in-Odd.i c.taken.result c.taken-in-Odd.result c.taken.ensures c.taken-in-Odd.ensures)

pub returns-in-Undecided-clause-answers : goal.returns-in-Undecided-clause-answers
returns-in-Undecided-clause-answers c =
    subst (λ (k : Compared). Answers c.args.outcomes c.args.schedules k (Undecided c.taken-in-Undecided.result c.taken-in-Undecided-2.result)) (sym c.in-Undecided.is)
    (unknown_by c.args.outcomes c.args.schedules c.in-Undecided.i c.taken-in-Undecided.result c.taken-in-Undecided-2.result c.taken-in-Undecided.ensures
    c.taken-in-Undecided-2.ensures)
