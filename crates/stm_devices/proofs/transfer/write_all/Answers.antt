use Rattle.stm_devices.proofs.TransferLemmas.{writes_on}
use Rattle.stm_devices.proofs.transfer.write_all.Goals as goal

pub loop-rest-preserved : goal.loop-rest-preserved
loop-rest-preserved g c =
    let e = c.in_ok-count.ensures in
    let held = g.W.Sink.held in
    let so_far = c.loop-rest.invariant.written in
    record {
      works = e.0;
      written = rw c.split_at.ensures.back
          (writes_on (held c.args.sink.now) (held c.loop-rest.sink) (held c.write.new.self) c.args.bytes.now
          so_far.0 c.loop-rest.rest.now c.in_ok-count.count so_far.1 so_far.2 e.3);
    }
