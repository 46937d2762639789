-- Parts of arrays: what was read of them is spelled, and what is spelled is read.
use Rattle.std.proofs.Common.{◌≡◌, Ok, arith}
use Rattle.std.proofs.lemmas.Bool.Decides.{nat_tests}
use Rattle.serde_json.specs.Data.{Data, string}
use Rattle.stm_outcome.specs.declared.txn.Order.{Order}
use Rattle.stm_txn_json.specs.Grammar.{order_text}
use Rattle.stm_txn_json.specs.Reading.{order_of}
use Rattle.stm_txn_json.proofs.WordLemmas.{order_named-is, order_named-text}
use Rattle.stm_json.proofs.PartLemmas.{on_text-is}

-- ---- what was read

pub order_of-is : (d : Data) (o : Order) → order_of d ≡ Ok o → d ≡ string (order_text o)
unfolding order_of
order_of-is d o h = grind (arith, nat_tests, on_text-is, order_named-is)

-- ---- what is spelled

pub order_reads : (o : Order) → order_of (string (order_text o)) ≡ Ok o
unfolding order_of
order_reads o = order_named-text o
