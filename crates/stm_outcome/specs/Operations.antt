-- The keys of operations.
use Rattle.std.specs.Prelude.{ℕ, Bool, false, bytes_eq, List}
use Rattle.stm_outcome.specs.declared.txn.Op.{Op}
use Rattle.stm_outcome.specs.declared.txn.Op.TheVariants.{Get, Put, Del}

-- the key that an operation is about
abbrev pub key_of_op : Op → List ℕ
key_of_op (Get key rev) = key
key_of_op (Put key value lease) = key
key_of_op (Del key) = key

-- two operations of one branch that clash: a put, and a put or a deletion of the same key
abbrev pub clash : Op → Op → Bool
clash (Get key rev) later = false
clash (Put key value lease) later = changes_key later
  where
    changes_key : Op → Bool
    changes_key (Get k rev) = false
    changes_key (Put k v l) = bytes_eq key k
    changes_key (Del k) = bytes_eq key k
clash (Del key) later = puts_key later
  where
    puts_key : Op → Bool
    puts_key (Get k rev) = false
    puts_key (Put k v l) = bytes_eq key k
    puts_key (Del k) = false
