use Rattle.std.proofs.Common.{sym, subst}
use Rattle.stm_json.specs.Returns.{Returns}
use Rattle.stm_events.specs.declared.event.WorldEvent.{WorldEvent}
use Rattle.stm_job_texts.specs.Accepting.{sorted_of, add_event}
use Rattle.stm_job_texts.proofs.accepting.add.Goals as goal

pub returns-in-Start : goal.returns-in-Start
returns-in-Start c =
    subst (λ (e : WorldEvent). Returns (λ _. sorted_of c.add_job.new.sorted) c.add_job.result (add_event (sorted_of c.args.sorted.now) e)) (sym c.in-Start.is)
    c.add_job.ensures

pub returns-in-Txn : goal.returns-in-Txn
returns-in-Txn c =
    subst (λ (e : WorldEvent). Returns (λ _. sorted_of c.add_call.new.sorted) c.add_call.result (add_event (sorted_of c.args.sorted.now) e))
    (sym c.in-Txn.is) c.add_call.ensures

pub returns-in-Grant : goal.returns-in-Grant
returns-in-Grant c =
    subst (λ (e : WorldEvent). Returns (λ _. sorted_of c.add_call-in-Grant.new.sorted) c.add_call-in-Grant.result (add_event (sorted_of c.args.sorted.now) e))
    (sym c.in-Grant.is) c.add_call-in-Grant.ensures

pub returns-in-Keep : goal.returns-in-Keep
returns-in-Keep c =
    subst (λ (e : WorldEvent). Returns (λ _. sorted_of c.add_call-in-Keep.new.sorted) c.add_call-in-Keep.result (add_event (sorted_of c.args.sorted.now) e))
    (sym c.in-Keep.is) c.add_call-in-Keep.ensures

pub returns-in-Revoke : goal.returns-in-Revoke
returns-in-Revoke c =
    subst (λ (e : WorldEvent). Returns (λ _. sorted_of c.add_call-in-Revoke.new.sorted) c.add_call-in-Revoke.result (add_event (sorted_of c.args.sorted.now) e))
    (sym c.in-Revoke.is) c.add_call-in-Revoke.ensures

pub returns-in-Advance : goal.returns-in-Advance
returns-in-Advance c =
    subst (λ (e : WorldEvent). Returns (λ _. sorted_of c.add_call-in-Advance.new.sorted) c.add_call-in-Advance.result (add_event (sorted_of c.args.sorted.now) e))
    (sym c.in-Advance.is) c.add_call-in-Advance.ensures
