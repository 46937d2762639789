use Rattle.std.proofs.Common.{List, Result, subst}
use Rattle.stm_events.specs.declared.reply.Reply.{Reply}
use Rattle.stm_events.specs.declared.refusal.Denied.{Denied}
use Rattle.stm_storing.specs.Storing.{HasPrintedLast}
use Rattle.stm_storing.proofs.running.keep_and_write.Goals as goal

pub returns-clause-ran : goal.returns-clause-ran
returns-clause-ran g c = record {
  replies = c.in_ok-replies.replies.items;
  past = c.in_ok-replies.ensures.past;
  printed =
      subst (λ (replies : List (Result Reply Denied)). HasPrintedLast replies (g.W.Sink.held c.args.out.now) (g.W.Sink.held c.write_last.new.out))
      c.as_slice.ensures.value c.in_ok-write_last.ensures.printed;
}
