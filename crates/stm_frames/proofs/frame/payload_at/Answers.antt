use Rattle.std.proofs.Common.{rules}
use Rattle.stm_frames.proofs.Frames.{too_short, too_long, other_guard, other_sum, whole}
use Rattle.stm_frames.proofs.frame.payload_at.Goals as goal

pub returns-then-bytes-lt24-clause-none : goal.returns-then-bytes-lt24-clause-none
returns-then-bytes-lt24-clause-none c = λ _. too_short c.args.at c.args.bytes.now (search rules)

pub returns-then-len-bytes-clause-none : goal.returns-then-len-bytes-clause-none
returns-then-len-bytes-clause-none c = λ _.
    too_long c.args.at c.number_at-len.result c.args.bytes.now (search rules) (search rules) c.number_at-len.ensures (search rules)

pub returns-then-number_at-digest_of-clause-none : goal.returns-then-number_at-digest_of-clause-none
returns-then-number_at-digest_of-clause-none c = λ _.
    other_guard c.args.at c.number_at-len.result c.number_at.result c.digest_of.result c.args.bytes.now c.to_le_bytes.result (search rules) (search rules) (search rules) (search rules) c.number_at-len.ensures c.number_at.ensures c.to_le_bytes.ensures c.digest_of.ensures (search rules)

pub returns-then-sum-digest_of-clause-whole : goal.returns-then-sum-digest_of-clause-whole
returns-then-sum-digest_of-clause-whole c =
    whole c.args.at c.number_at-len.result c.number_at.result c.number_at-sum.result c.args.bytes.now c.to_le_bytes.result (search rules) c.number_at-len.ensures c.number_at.ensures c.to_le_bytes.ensures (search rules) c.number_at-sum.ensures (search rules)

pub returns-clause-none : goal.returns-clause-none
returns-clause-none c = λ _.
    other_sum c.args.at c.number_at-len.result c.number_at-sum.result c.digest_of-2.result c.args.bytes.now (search rules) (search rules) (search rules) (search rules) c.number_at-len.ensures c.number_at-sum.ensures (search rules) (search rules)
