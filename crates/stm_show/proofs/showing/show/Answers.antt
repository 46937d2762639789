use Rattle.stm_show.proofs.Inputs.{Does-from_Writes}
use Rattle.stm_show.proofs.showing.show.Goals as goal

pub returns-in-Ok-clause-done : goal.returns-in-Ok-clause-done
returns-in-Ok-clause-done g c =
    let did = rw c.as_slice.ensures.value at c.write_source.ensures in
    Does-from_Writes c.args.shown (record {
      input = g.S.Source.left c.args.source.now;
      before = g.W.Sink.held c.args.sink.now;
      after = g.W.Sink.held c.write_source.new.sink;
      source_failed = g.S.Source.failed c.read_all.new.source;
      sink_failed = g.W.Sink.failed c.write_source.new.sink;
    }) c.in-Ok.bytes.items c.write_source.result c.in-Ok.ensures.bytes.1 c.in-Ok.ensures.bytes.0 did
