-- What an attempt answers.
use Rattle.std.specs.Prelude.{ℕ, if◌then◌else◌, List, Option, None, Some}
use Rattle.stm_history.specs.declared.key_state.ReadAnswer.{ReadAnswer}
use Rattle.stm_program.specs.Syntax.{ProgramTree}
use Rattle.stm_program.specs.declared.level.Level.{Level}
use Rattle.stm_steps.specs.declared.run.End.{End}
use Rattle.stm_steps.specs.declared.run.End.TheVariants.{Done, Aborted as AbortedEnd, Faulted as FaultedEnd}
use Rattle.stm_steps.specs.declared.run.Run.{Run}
use Rattle.stm_steps.specs.declared.run.Answered.{Answered}
use Rattle.stm_steps.specs.declared.run.Answered.TheVariants.{Ended, Wants}
use Rattle.stm_attempt.specs.declared.next.Next.{Next}
use Rattle.stm_attempt.specs.declared.next.Next.TheVariants.{FetchAll, Fetch, Ready, Aborted, Faulted}
use Rattle.stm_attempt.specs.Known.{Known}
use Rattle.stm_attempt.specs.Settled.{run_on, settled}
use Rattle.stm_attempt.specs.Entering.{is_due, gone_on}
use Rattle.stm_attempt.specs.Fetches.{at_of}
use Rattle.stm_attempt.specs.ReadyRun.{ready_run}

-- a run that came to its end: it is ready to commit where it is done
abbrev pub next_at_end : ProgramTree → Level → List ReadAnswer → Run → End → Next
next_at_end program level reads run Done = Ready (ready_run program level reads run)
next_at_end program level reads run (AbortedEnd text) = Aborted run
next_at_end program level reads run (FaultedEnd fault) = Faulted run

abbrev pub next_after : ProgramTree → Level → List ReadAnswer → Answered → Next
next_after program level reads (Wants key trace) = Fetch key (at_of level reads)
next_after program level reads (Ended run) = next_at_end program level reads run run.end

-- where its list is not due: the key that its run still wants once it has settled, or the run's end
abbrev pub next_settled : ProgramTree → Level → Known → Next
next_settled program level known =
    let reads = settled program known in next_after program level reads (run_on program reads)

-- on these reads: its list, where that is due, and else what its run comes to
abbrev pub next_on : ProgramTree → Level → List ReadAnswer → Next
next_on program level reads =
    if is_due program.prefetch reads then FetchAll program.prefetch 0 else next_after program level reads (run_on program reads)

-- What the attempt answers once it went on.
abbrev pub next_of : ProgramTree → Level → Known → Next
next_of program level known = next_on program level (gone_on program known)

-- the keys of a list that is to be fetched
abbrev pub list_asked : Next → Option (List (List ℕ))
list_asked (FetchAll keys at) = Some keys
list_asked (Fetch key at) = None
list_asked (Ready run) = None
list_asked (Aborted run) = None
list_asked (Faulted run) = None

-- the key of a fetch
abbrev pub key_asked : Next → Option (List ℕ)
key_asked (FetchAll keys at) = None
key_asked (Fetch key at) = Some key
key_asked (Ready run) = None
key_asked (Aborted run) = None
key_asked (Faulted run) = None
