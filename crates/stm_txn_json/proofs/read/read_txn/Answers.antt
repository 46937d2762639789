use Rattle.serde_json.specs.View.{view}
use Rattle.stm_json.proofs.FaultLemmas.{reported_faults}
use Rattle.stm_json.proofs.OutcomeLemmas.{reported_means, reported_reads}
use Rattle.std.specs.Prelude.{Ok}
use Rattle.stm_outcome.specs.declared.txn.Txn.{Txn}
use Rattle.stm_txn_json.specs.FirstFault.{first_fault}
use Rattle.stm_txn_json.specs.Grammar.{SpellsTxn}
use Rattle.stm_txn_json.specs.Reading.{txn_of}
use Rattle.stm_txn_json.proofs.GrammarSound.{txn_sound}
use Rattle.stm_txn_json.proofs.GrammarComplete.{txn_reads}
use Rattle.stm_txn_json.proofs.TxnFaults.{first_fault-is}
use Rattle.stm_txn_json.proofs.read.read_txn.Goals as goal

pub returns-clause-spelled : goal.returns-clause-spelled
returns-clause-spelled c =
    let d = view c.args.value.now in
    reported_means (λ (t : Txn). t) (SpellsTxn d) c.txn.result (txn_of d) (txn_sound d) c.txn.ensures

pub returns-clause-accepts : goal.returns-clause-accepts
returns-clause-accepts c t s =
    let d = view c.args.value.now in
    reported_reads (λ (x : Txn). x) c.txn.result (txn_of d) (Ok t) (txn_reads d t s) c.txn.ensures

pub returns-clause-faults : goal.returns-clause-faults
returns-clause-faults c =
    let d = view c.args.value.now in
    reported_faults (λ (t : Txn). t) (first_fault d) c.txn.result (txn_of d) (first_fault-is d) c.txn.ensures
