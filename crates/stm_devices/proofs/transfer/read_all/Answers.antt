use Rattle.std.proofs.Common.{◌≡◌, ◌≤◌, length, arith}
use Rattle.stm_devices.specs.declared.transfer.TheConstants.{MOST_READ}
use Rattle.stm_devices.proofs.TransferLemmas.{reads_end, reads_most}
use Rattle.stm_devices.proofs.transfer.read_all.Goals as goal

pub returns-then-count-eq0-clause-bytes : goal.returns-then-count-eq0-clause-bytes
returns-then-count-eq0-clause-bytes g c =
    let e = c.in_ok-count.ensures.taken in
    let left = g.S.Source.left in
    let room : length c.loop-buffer.bytes.items ≤ MOST_READ = omega (arith, c.loop-buffer.bytes.ok.0, c.loop-buffer.invariant.long) in (
      e.0,
      reads_end (left c.args.source.now) (left c.loop-buffer.source) (left c.read_piece.new.source)
          c.loop-buffer.bytes.items c.read_piece.new.bytes.items e.3 c.in_ok-count.count MOST_READ
          c.loop-buffer.invariant.taken e.5 e.4 c.if-count-eq0.true e.6 (e.2 c.if-count-eq0.true) room,
    )

pub returns-clause-bytes : goal.returns-clause-bytes
returns-clause-bytes g c =
    let left = g.S.Source.left in
    let long : MOST_READ ≡ length c.loop-buffer.bytes.items = omega (arith, c.loop-buffer.bytes.ok.0, c.loop-buffer.invariant.long, c.len.ensures) in (
      c.loop-buffer.invariant.works,
      reads_most (left c.args.source.now) (left c.loop-buffer.source) c.loop-buffer.bytes.items MOST_READ c.loop-buffer.invariant.taken long,
    )
