use Rattle.std.proofs.Common.{◌≡◌, ◌<◌, ◌-◌, suc, length, refl, sym, ◌∙◌, arith}
use Rattle.std.proofs.lemmas.Option.{slice_get_read}
use Rattle.stm_formats.specs.FormatEnds.{attempt_reads}
use Rattle.stm_formats.proofs.FormatAttempts.{stopped, read_before}
use Rattle.stm_formats.proofs.format_ends.attempt_reads.Goals as goal

pub returns-then-begins : goal.returns-then-begins
returns-then-begins c =
    let h = c.args.keys.now.history in
    let replies = c.args.replies.now in
    let left = c.loop-left.left in
    let step : left ≡ suc (left - 1) = omega (arith, c.loop-left-test.true) in
    let within : left - 1 < length replies = omega (arith, c.loop-left-test.true, c.loop-left.invariant.within) in
    let is = slice_get_read replies (length replies) (left - 1) c.index-replies-before.result refl within c.index-replies-before.is in
    stopped c.args.cuts.now h c.args.runner left (left - 1) replies c.index-replies-before.result step is c.loop-left.words
    (attempt_reads c.args.cuts.now h c.args.runner replies c.args.events) (sym c.begins.ensures ∙ c.if-begins.true) c.loop-left.invariant.reads

pub loop-left-preserved : goal.loop-left-preserved
loop-left-preserved c =
    let h = c.args.keys.now.history in
    let replies = c.args.replies.now in
    let left = c.loop-left.left in
    let step : left ≡ suc (left - 1) = omega (arith, c.loop-left-test.true) in
    let within : left - 1 < length replies = omega (arith, c.loop-left-test.true, c.loop-left.invariant.within) in
    let is = slice_get_read replies (length replies) (left - 1) c.index-replies-before.result refl within c.index-replies-before.is in
    record {
      within = omega (arith, within);
      reads = rw (c.in_ok-words.ensures, c.as_slice.ensures) (read_before c.args.cuts.now h c.args.runner left (left - 1) replies c.index-replies-before.result step is
          c.loop-left.words (attempt_reads c.args.cuts.now h c.args.runner replies c.args.events) (sym c.begins.ensures ∙ c.if-begins.false) c.loop-left.invariant.reads);
    }
