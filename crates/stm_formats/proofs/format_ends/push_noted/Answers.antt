use Rattle.std.proofs.Common.{◌≤◌, ◌++◌, ℕ, List, length, sym, ap, arith}
use Rattle.stm_formats.proofs.FormatAttempts.{some_read}
use Rattle.stm_formats.proofs.format_ends.push_noted.Goals as goal

pub returns : goal.returns
returns c =
    let reads = c.args.reads.now in
    let enough : 2 ≤ length reads = omega (arith, c.if-reads-lt2.false) in
    rw (c.in_ok-push.ensures.items, c.in_ok-said.ensures, c.split_at.ensures.back)
    (ap (λ (it : List (List ℕ)). c.args.notes.now.items ++ it) (sym (some_read c.args.words.now reads enough)))
