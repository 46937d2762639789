-- What a `get` and a `rev` of a key come to, and what a run gives at its end.
use Rattle.std.specs.Prelude.{List, ℕ, pos, Option, None, Some}
use Rattle.stm_history.specs.declared.change.Change.{Change}
use Rattle.stm_history.specs.History.{value_written}
use Rattle.stm_program.specs.Writes.{last_write}
use Rattle.stm_steps.specs.declared.value.Value.{Value}
use Rattle.stm_steps.specs.declared.value.Value.TheVariants.{Text as TextValue, Number as NumberValue}
use Rattle.stm_steps.specs.declared.stop.Stop.TheVariants.{Wants}
use Rattle.stm_steps.specs.declared.trace_item.TraceItem.TheVariants.{Get as GetItem, Rev as RevItem}
use Rattle.stm_steps.specs.declared.run.End.{End as RunEnd}
use Rattle.stm_steps.specs.declared.run.Run.{Run}
use Rattle.stm_steps.specs.Answer.{Answer, Lookup}
use Rattle.stm_steps.specs.Session.{Session, with_item, with_read}
use Rattle.stm_steps.specs.Outcome.{Outcome, Gives, Stops}

-- what the look-up has to say of a key that it was asked for
abbrev pub get_answered : List ℕ → Option Answer → Session → Outcome Value
get_answered key None s = Stops (Wants key) s
get_answered key (Some a) s = Gives (TextValue a.value) (with_item (GetItem key a.value) (with_read key s))

abbrev pub rev_answered : List ℕ → Option Answer → Session → Outcome Value
rev_answered key None s = Stops (Wants key) s
rev_answered key (Some a) s = Gives (NumberValue (pos a.mod_rev)) (with_item (RevItem key a.mod_rev) (with_read key s))

-- a `get` sees the last write of its key, and the look-up where there is none
abbrev pub get_of : Lookup → List ℕ → Option Change → Session → Outcome Value
get_of look key (Some w) s = Gives (TextValue (value_written w)) (with_item (GetItem key (value_written w)) s)
get_of look key None s = get_answered key (look key) s

unfoldable pub get_key : Lookup → List ℕ → Session → Outcome Value
get_key look key s = get_of look key (last_write key s.writes) s

-- a `rev` sees the look-up alone
unfoldable pub rev_key : Lookup → List ℕ → Session → Outcome Value
rev_key look key s = rev_answered key (look key) s

-- a run that came to its end
abbrev pub run_of : RunEnd → Session → Run
run_of end s = record { end = end; output = s.output; trace = s.trace; writes = s.writes; reads = s.reads }
