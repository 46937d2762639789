-- The log of a run: each event with its reply.
use Rattle.std.proofs.Common.{◌≡◌, List, [], ◌∷◌, ◌++◌, map, reverse, length, refl, sym, ◌∙◌, ap, arith}
use Rattle.std.proofs.lemmas.List.{append-nil, append_assoc, reverse-append, length-map, length-reverse}
use Rattle.std.specs.Prelude.{Result}
use Rattle.std.proofs.lemmas.Bool.Decides.{nat_tests}
use Rattle.stm_events.specs.declared.event.WorldEvent.{WorldEvent}
use Rattle.stm_events.specs.declared.reply.Reply.{Reply}
use Rattle.stm_events.specs.declared.refusal.Denied.{Denied}
use Rattle.stm_world.specs.Log.{Line, IsLogOf}
use Rattle.stm_world.specs.World.{World, opened, step, replies_to}
use Rattle.stm_world.specs.Headline.{OfEachLog}
use Rattle.stm_txn.specs.Standing.{Setup}

-- a log with these events and their replies after what it has
abbrev pub logged : List WorldEvent → List (Result Reply Denied) → List Line → List Line
logged [] replies log = log
logged (e ∷ es) [] log = log
logged (e ∷ es) (reply ∷ replies) log = logged es replies (record { event = e; reply = reply } ∷ log)

-- the log of these events in a world whose store opened at a revision
abbrev pub log_of : Setup → List WorldEvent → List Line
log_of start events = logged events (replies_to events (opened start)) []

abbrev event_in : Line → WorldEvent
event_in line = line.event

abbrev reply_in : Line → Result Reply Denied
reply_in line = line.reply

turned : {A : Type 0} (x : A) (xs rest : List A) → reverse (x ∷ xs) ++ rest ≡ reverse xs ++ x ∷ rest
turned {A} x xs rest = ap (λ (l : List A). l ++ rest) (reverse-append (x ∷ []) xs) ∙ append_assoc (reverse xs) (x ∷ []) rest

pub events_in : (events : List WorldEvent) (w : World) (log : List Line) →
    map event_in (logged events (replies_to events w) log) ≡ reverse events ++ map event_in log
events_in [] w log = refl
events_in (e ∷ es) w log =
    events_in es (step e w).next (record { event = e; reply = (step e w).reply } ∷ log) ∙ sym (turned e es (map event_in log))

pub replies_in : (events : List WorldEvent) (w : World) (log : List Line) →
    map reply_in (logged events (replies_to events w) log) ≡ reverse (replies_to events w) ++ map reply_in log
replies_in [] w log = refl
replies_in (e ∷ es) w log =
    replies_in es (step e w).next (record { event = e; reply = (step e w).reply } ∷ log)
    ∙ sym (turned (step e w).reply (replies_to es (step e w).next) (map reply_in log))

pub logged_is_log : (events : List WorldEvent) (w : World) → IsLogOf events (replies_to events w) (logged events (replies_to events w) [])
logged_is_log events w = grind (arith, nat_tests, events_in, append-nil, replies_in)

pub log_of_is_log : (start : Setup) (events : List WorldEvent) → IsLogOf events (replies_to events (opened start)) (log_of start events)
log_of_is_log start events = logged_is_log events (opened start)

-- what holds of the log of each run
pub of_each_log : (P : Setup → List Line → Type 0) → ((start : Setup) (events : List WorldEvent) → P start (log_of start events)) → OfEachLog P
of_each_log P holds start events = (log_of start events, log_of_is_log start events, holds start events)

-- ---- there is one log, or none ----

same_lines : (a b : List Line) → map event_in a ≡ map event_in b → map reply_in a ≡ map reply_in b → a ≡ b
same_lines [] [] events replies = refl
same_lines [] (y ∷ b) events replies = absurd (cc)
same_lines (x ∷ a) [] events replies = absurd (cc)
same_lines (x ∷ a) (y ∷ b) events replies = grind (arith, nat_tests, same_lines a b (cc) (cc))

pub one_log : (events : List WorldEvent) (replies : List (Result Reply Denied)) (a b : List Line) → IsLogOf events replies a → IsLogOf events replies b → a ≡ b
one_log events replies a b first second = same_lines a b (first.asked ∙ sym second.asked) (first.answered ∙ sym second.answered)

pub as_many : (events : List WorldEvent) (replies : List (Result Reply Denied)) (log : List Line) → IsLogOf events replies log → length replies ≡ length events
as_many events replies log is = grind (arith, nat_tests, length-reverse, length-map)
