use Rattle.stm_formats.specs.FormatWords.{reads_after}
use Rattle.stm_formats.proofs.FormatRowLemmas.{next_read}
use Rattle.stm_formats.proofs.format_words.reads_words.Goals as goal

pub loop-count-preserved : goal.loop-count-preserved
loop-count-preserved c =
    let cuts = c.args.cuts.now in
    let h = c.args.keys.now.history in
    let reads = c.args.reads.now in
    let l = c.loop-count in
    rw c.in_ok-push_read.ensures
    (next_read cuts h c.args.revision l.out.items (reads_after cuts h c.args.revision 0 reads) reads l.count c.index-reads-count.result c.loop-count-test.true
    c.index-reads-count.is l.invariant)
