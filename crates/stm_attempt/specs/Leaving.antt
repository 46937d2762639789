-- What an attempt is left as by an answer that was given away.
use Rattle.stm_attempt.specs.declared.next.Next.{Next}
use Rattle.stm_attempt.specs.declared.next.Next.TheVariants.{FetchAll, Fetch, Ready, Aborted, Faulted}
use Rattle.stm_attempt.specs.AttemptState.{AttemptState, begun}

-- one that is ready has gone into the answer, and is as before its first call
abbrev pub left_by : Next → AttemptState → AttemptState
left_by (FetchAll keys at) attempt = attempt
left_by (Fetch key at) attempt = attempt
left_by (Ready ready) attempt = begun attempt.level attempt.known.prefetched
left_by (Aborted run) attempt = attempt
left_by (Faulted run) attempt = attempt
