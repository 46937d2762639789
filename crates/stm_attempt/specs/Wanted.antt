-- What an attempt answers where its program waits for something.
use Rattle.stm_attempt.specs.declared.wanted.Wanted.{Wanted}
use Rattle.stm_attempt.specs.declared.wanted.Wanted.TheVariants.{List, Key}
use Rattle.stm_attempt.specs.declared.next.Next.{Next}
use Rattle.stm_attempt.specs.declared.next.Next.TheVariants.{FetchAll, Fetch}

abbrev pub next_wanted : Wanted → Next
next_wanted (List keys) = FetchAll keys 0
next_wanted (Key key at) = Fetch key at
