-- Worked examples of the check: the report of two programs that each set a key to 0 where the sum of both is above 1.
use Rattle.std.proofs.Common.{◌≡◌, refl, inl, inr, ℕ, pos, true, false, List, [], ◌∷◌, Ok}
use Rattle.std.specs.Prelude.{codes}
use Rattle.stm_program.specs.Syntax.{ProgramTree, of_statements, End as EndBlock, Then, Expression}
use Rattle.stm_program.specs.Syntax.{Put as PutStatement, If, Less, Number, Text, Get, NumOf, Arithmetic}
use Rattle.stm_program.specs.declared.operator.Operator.TheVariants.{Add}
use Rattle.stm_program.specs.declared.level.Level.TheVariants.{Serializable}
use Rattle.stm_steps.specs.declared.trace_item.TraceItem.{TraceItem}
use Rattle.stm_steps.specs.declared.trace_item.TraceItem.TheVariants as seen
use Rattle.stm_outcome.specs.declared.txn.Op.{Op}
use Rattle.stm_outcome.specs.declared.txn.Op.TheVariants.{Put, Get as GetOperation}
use Rattle.stm_events.specs.declared.event.WorldEvent.{WorldEvent}
use Rattle.stm_events.specs.declared.event.WorldEvent.TheVariants.{Start, Step, Txn, Compact, Poll, Cancel, WatchKey}
use Rattle.stm_events.specs.declared.line.ReportLine.{ReportLine}
use Rattle.stm_events.specs.declared.line.ReportLine.TheVariants as line
use Rattle.stm_events.specs.declared.refusal.EventRefusal.TheVariants.{NoWatcher, LeaseIdOutOfRange, FutureRevision, Compacted as BelowTheFloor}
use Rattle.stm_events.specs.declared.reply.OpReply.TheVariants as op
use Rattle.stm_events.specs.declared.reply.Reply.{Reply}
use Rattle.stm_events.specs.declared.reply.Reply.TheVariants as reply
use Rattle.stm_check.specs.declared.cause.WrongCause.TheVariants.{Count, Final}
use Rattle.stm_check.specs.Point.{Point, beginning, after}
use Rattle.stm_check.specs.Fits.{fits}
use Rattle.stm_txn.specs.Standing.{Standing, at_revision, transacted, granted, raised}
use Rattle.stm_events.specs.Replies.{denied, txn_reply, reply_to}
use Rattle.stm_check.specs.Wrong.{IsOff, IsFirstWrong, point_after}

-- ---- the scenario

abbrev put_one : List ℕ → WorldEvent
put_one key = Txn (record { compares = []; success = Put key (codes "1") 0 ∷ []; failure = [] })

abbrev number_in : List ℕ → Expression
number_in key = NumOf (Get (Text key))

-- sets a key to 0 where x and y are more than 1
abbrev setting : List ℕ → ProgramTree
setting key =
    of_statements (Then (If (Less (Number (pos 1)) (Arithmetic Add (number_in (codes "x")) (number_in (codes "y"))))
    (Then (PutStatement (Text key) (Text (codes "0")) 0) EndBlock) EndBlock) EndBlock)

abbrev skew : List WorldEvent
skew =
    put_one (codes "x") ∷ put_one (codes "y") ∷ Start (setting (codes "x")) Serializable 3 ∷ Start (setting (codes "y")) Serializable 3
    ∷ Step 1 ∷ Step 2 ∷ Step 1 ∷ Step 2 ∷ Step 1 ∷ Step 2 ∷ Step 2 ∷ []

-- ---- its report

-- the line of an event that was taken
abbrev taken : ℕ → Reply → ReportLine
taken n r = line.Event n (Ok r)

abbrev both : List ℕ → List ℕ → List TraceItem
both x y = seen.Get (codes "x") x ∷ seen.Get (codes "y") y ∷ []

abbrev first_lines : List ReportLine
first_lines =
    taken 1 (reply.Txn true 2 (op.Put ∷ [])) ∷ taken 2 (reply.Txn true 3 (op.Put ∷ [])) ∷ taken 3 (reply.Started 1) ∷ taken 4 (reply.Started 2) ∷ []

abbrev skew_lines : List ReportLine
skew_lines =
    taken 1 (reply.Txn true 2 (op.Put ∷ [])) ∷ taken 2 (reply.Txn true 3 (op.Put ∷ [])) ∷ taken 3 (reply.Started 1) ∷ taken 4 (reply.Started 2)
    ∷ taken 5 (reply.Fetched 1 (codes "x") 2 3 3) ∷ taken 6 (reply.Fetched 2 (codes "x") 2 3 3)
    ∷ taken 7 (reply.Fetched 1 (codes "y") 3 3 3) ∷ taken 8 (reply.Fetched 2 (codes "y") 3 3 3)
    ∷ taken 9 (reply.Committed 1 4 1 [] (both (codes "1") (codes "1")) []) ∷ taken 10 (reply.Conflict 2 (codes "x") 2 4)
    ∷ taken 11 (reply.Committed 2 4 2 [] (both (codes "0") (codes "1")) []) ∷ []

abbrev last_lines : List ReportLine
last_lines =
    line.Key (codes "x") (record { value = codes "0"; create_rev = 2; mod_rev = 4; version = 2; lease = 0 })
    ∷ line.Key (codes "y") (record { value = codes "1"; create_rev = 3; mod_rev = 3; version = 1; lease = 0 })
    ∷ line.End 4 4 ∷ []

-- after the first four lines
abbrev started : Point
started = point_after (beginning (at_revision 1)) skew first_lines

-- after all lines of events
abbrev ended : Point
ended = point_after (beginning (at_revision 1)) skew skew_lines

-- ---- what a line can stand in

own_runner : fits 5 started.runners (Step 1) (taken 5 (reply.Fetched 1 (codes "x") 2 3 3)) ≡ true
own_runner = refl

-- runner 2 at a step of runner 1 is Event
other_runner : fits 5 started.runners (Step 1) (taken 5 (reply.Fetched 2 (codes "x") 2 3 3)) ≡ false
other_runner = refl

own_list : fits 5 started.runners (Step 1) (taken 5 (reply.Prefetched 1 3 (record { key = codes "x"; mod_rev = 2 } ∷ []))) ≡ true
own_list = refl

other_list : fits 5 started.runners (Step 1) (taken 5 (reply.Prefetched 2 3 (record { key = codes "x"; mod_rev = 2 } ∷ []))) ≡ false
other_list = refl

list_is_of_a_step : fits 5 started.runners (Poll 1 0) (taken 5 (reply.Prefetched 1 3 [])) ≡ false
list_is_of_a_step = refl

other_number : fits 5 started.runners (Step 1) (taken 6 (reply.Fetched 1 (codes "x") 2 3 3)) ≡ false
other_number = refl

unknown_runner : fits 5 started.runners (Step 3) (taken 5 (reply.Fetched 3 (codes "x") 2 3 3)) ≡ false
unknown_runner = refl

-- both runners committed
ended_runner : fits 12 ended.runners (Step 1) (taken 12 (reply.Aborted 1 (codes "no"))) ≡ false
ended_runner = refl

next_runner_starts : fits 12 ended.runners (Start (setting (codes "x")) Serializable 1) (taken 12 (reply.Started 3)) ≡ true
next_runner_starts = refl

another_starts : fits 12 ended.runners (Start (setting (codes "x")) Serializable 1) (taken 12 (reply.Started 4)) ≡ false
another_starts = refl

no_commit_may_be_sent : fits 12 ended.runners (Start (setting (codes "x")) Serializable 0) (taken 12 (reply.Started 3)) ≡ false
no_commit_may_be_sent = refl

refused_is_of_any_event : fits 1 [] (Poll 1 0) (line.Event 1 (denied NoWatcher)) ≡ true
refused_is_of_any_event = refl

own_watcher : fits 1 [] (Poll 7 0) (taken 1 (reply.Batch 7 1 [])) ≡ true
own_watcher = refl

other_watcher : fits 1 [] (Cancel 7) (taken 1 (reply.Cancelled 8)) ≡ false
other_watcher = refl

lost_watcher : fits 1 [] (Poll 7 0) (taken 1 (reply.Lost 7 3)) ≡ true
lost_watcher = refl

other_is_lost : fits 1 [] (Poll 7 0) (taken 1 (reply.Lost 8 3)) ≡ false
other_is_lost = refl

only_a_poll_reports_of_loss : fits 1 [] (Cancel 7) (taken 1 (reply.Lost 7 3)) ≡ false
only_a_poll_reports_of_loss = refl

any_watcher : fits 1 [] (WatchKey (codes "a") 0) (taken 1 (reply.Watching 9)) ≡ true
any_watcher = refl

key_line_is_of_no_event : fits 1 [] (Step 1) (line.End 1 0) ≡ false
key_line_is_of_no_event = refl

-- ---- the replay

first_txn : reply_to txn_reply
    (transacted (beginning (at_revision 1)).standing (record { compares = []; success = Put (codes "x") (codes "1") 0 ∷ []; failure = [] }))
    ≡ Ok (reply.Txn true 2 (op.Put ∷ []))
first_txn = refl

bad_grant : reply_to (λ _. reply.Granted 0) (granted (beginning (at_revision 1)).standing 0 5) ≡ denied LeaseIdOutOfRange
bad_grant = refl

-- ---- a compaction after the first four lines, where the counter is 3

abbrev compacted : Standing
compacted = (after started (Compact 3) (Ok (reply.Compacted 3))).standing

raises_the_floor : compacted.floor ≡ 3
raises_the_floor = refl

keeps_the_history : compacted.history ≡ started.standing.history
keeps_the_history = refl

at_the_counter : reply_to (λ _. reply.Compacted 3) (raised started.standing 3) ≡ Ok (reply.Compacted 3)
at_the_counter = refl

above_the_counter : reply_to (λ _. reply.Compacted 4) (raised started.standing 4) ≡ denied FutureRevision
above_the_counter = refl

at_the_floor : reply_to (λ _. reply.Compacted 3) (raised compacted 3) ≡ denied BelowTheFloor
at_the_floor = refl

-- a read of a revision below it
abbrev read_at_two : Op
read_at_two = GetOperation (codes "x") 2

below_the_floor : reply_to txn_reply (transacted compacted (record { compares = []; success = read_at_two ∷ []; failure = [] })) ≡ denied BelowTheFloor
below_the_floor = refl

-- ---- the end

-- the end line is missing
missing : IsOff 12 last_lines (line.Key (codes "x") (record { value = codes "0"; create_rev = 2; mod_rev = 4; version = 2; lease = 0 })
    ∷ line.Key (codes "y") (record { value = codes "1"; create_rev = 3; mod_rev = 3; version = 1; lease = 0 }) ∷ []) 14 Count
missing = inr (refl, inr (refl, (refl, refl)))

-- an empty report lacks its first line
nothing_there : IsFirstWrong 1 (beginning (at_revision 1)) skew [] 1 Count
nothing_there = (refl, refl)

-- the line of an event after those of the events
surplus : IsOff 12 last_lines (taken 12 (reply.Started 3) ∷ last_lines) 12 Final
surplus = inl (refl, refl, λ same. cc)
