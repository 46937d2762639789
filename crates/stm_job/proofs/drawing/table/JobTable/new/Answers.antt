use Rattle.stm_job.proofs.Keeps.{begins}
use Rattle.stm_job.proofs.drawing.table.JobTable.new.Goals as goal

pub of_words-requires : goal.of_words-requires
of_words-requires c = begins _
