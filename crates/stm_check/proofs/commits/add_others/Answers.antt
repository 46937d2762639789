use Rattle.std.proofs.Common.{map, sym, arith}
use Rattle.std.proofs.lemmas.List.{append-nil}
use Rattle.std.specs.Prelude.{string_bytes}
use Rattle.stm_events.specs.FirstReads.{is_other}
use Rattle.stm_check.proofs.CommitLemmas.{other_more, others_end}
use Rattle.stm_check.proofs.commits.add_others.Goals as goal

pub loop-read-init : goal.loop-read-init
loop-read-init c = sym (append-nil c.args.keys.now)

pub loop-read-preserved : goal.loop-read-preserved
loop-read-preserved c =
    other_more (is_other (map string_bytes c.args.listed.now)) c.args.keys.now c.loop-read.keys c.add_other.new.keys c.args.reads.now c.loop-read.read-index
    c.read-item.result c.loop-read-test.true c.read-item.is c.in_ok-add_other.ensures c.loop-read.invariant

pub returns : goal.returns
returns c =
    others_end (is_other (map string_bytes c.args.listed.now)) c.args.keys.now c.loop-read.keys c.args.reads.now c.loop-read.read-index
    (omega arith) c.loop-read.invariant
