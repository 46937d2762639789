use Rattle.std.proofs.Common.{inl, refl, subst, sym}
use Rattle.std.specs.Prelude.{All}
use Rattle.std.proofs.lemmas.Result.{err_from_is_err_and}
use Rattle.stm_outcome.specs.Numbers.{ReadFits}
use Rattle.stm_outcome.specs.declared.refusal.Refusal.TheVariants.{OutOfMemory}
use Rattle.stm_journal.proofs.ReadLemmas.{reads_fit}
use Rattle.stm_journal.proofs.ListFetchLemmas.{are_read, all_refused, all_reported, refused_with_all}
use Rattle.stm_journal.proofs.fetching.fetch_all.Goals as goal

-- the store refused it
pub returns-in_err-answer-clause-refused : goal.returns-in_err-answer-clause-refused
returns-in_err-answer-clause-refused c =
    let exit = err_from_is_err_and c.from_residual-in_err-answer.result c.from_residual-in_err-answer.ensures.1 in
    refused_with_all c.args.store.now.standing c.args.keys.now c.from_residual-in_err-answer.result exit.0 c.in_err-answer.field-0.0 exit.1 exit.2
    (all_refused c.args.store.now.standing c.args.keys.now c.in_ok-txn.txn c.in_err-answer.field-0.0 c.in_ok-txn.ensures c.requires
    c.in_err-answer.ensures.step)

-- it answered, and an allocation failed
pub returns-in_err-reads-clause-refused : goal.returns-in_err-reads-clause-refused
returns-in_err-reads-clause-refused c =
    let exit = err_from_is_err_and c.from_residual-in_err-reads.result c.from_residual-in_err-reads.ensures.1 in
    refused_with_all c.args.store.now.standing c.args.keys.now c.from_residual-in_err-reads.result exit.0 OutOfMemory exit.1 exit.2 (inl refl)

pub returns-in_err-reads-clause-store : goal.returns-in_err-reads-clause-store
returns-in_err-reads-clause-store c =
    (are_read c.args.store.now.standing c.txn-reported.new.self.standing c.args.keys.now c.in_ok-txn.txn c.in_ok-answer.answer c.in_ok-txn.ensures c.requires
    c.in_ok-answer.ensures.step).unchanged

pub returns-clause-reported : goal.returns-clause-reported
returns-clause-reported c =
    all_reported c.args.store.now.standing c.txn-reported.new.self.standing c.args.keys.now c.in_ok-answer.answer.answers c.in_ok-reads.reads.items
    (are_read c.args.store.now.standing c.txn-reported.new.self.standing c.args.keys.now c.in_ok-txn.txn c.in_ok-answer.answer c.in_ok-txn.ensures c.requires
    c.in_ok-answer.ensures.step)
    c.in_ok-reads.ensures

pub returns-clause-in_range : goal.returns-clause-in_range
returns-clause-in_range c = subst (All ReadFits) (sym c.in_ok-reads.ensures) (reads_fit c.in_ok-answer.answer.answers c.in_ok-answer.ensures.numbers.answers)

pub returns-clause-store : goal.returns-clause-store
returns-clause-store c =
    (are_read c.args.store.now.standing c.txn-reported.new.self.standing c.args.keys.now c.in_ok-txn.txn c.in_ok-answer.answer c.in_ok-txn.ensures c.requires
    c.in_ok-answer.ensures.step).unchanged
