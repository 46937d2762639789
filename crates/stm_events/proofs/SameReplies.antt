-- What `==` says of two replies, and of two lines.
use Rattle.std.proofs.Common.{rules, ◌≡◌, Decides, Bool, List, Option, Result, Ok, Err, refl, arith}
use Rattle.std.specs.Option.{option_eq}
use Rattle.std.specs.Result.{result_eq}
use Rattle.std.specs.Cmp.Lexicographic.{pointwise}
use Rattle.std.proofs.lemmas.Bool.Decides.{Decides-like, Decides-and, Decides-eqb, nat_tests}
use Rattle.std.proofs.lemmas.Slice.Eq.{bytes_eq-Decides, slice_eq-Decides}
use denote.Enum.Bare.{sameb}
use mathlib.Core.Bool.{beq}
use Rattle.stm_history.specs.declared.key_state.KeyState.{KeyState}
use Rattle.stm_history.specs.contracts.key_state.KeyStatePartialEq.TheImpl.{eq-value as eq-state}
use Rattle.stm_history.proofs.SameStates.{state_decides}
use Rattle.stm_keys.specs.declared.event.Event.{Event as WatchEvent}
use Rattle.stm_keys.specs.contracts.event.EventPartialEq.TheImpl.{eq-value as eq-event}
use Rattle.stm_keys.proofs.SameEvents.{event_decides}
use Rattle.stm_steps.specs.declared.value.Value.{Value}
use Rattle.stm_steps.specs.contracts.value.ValuePartialEq.TheImpl.{eq-value}
use Rattle.stm_steps.specs.declared.trace_item.TraceItem.{TraceItem}
use Rattle.stm_steps.specs.contracts.trace_item.TraceItemPartialEq.TheImpl.{eq-value as eq-item}
use Rattle.stm_steps.proofs.SameValues.{value_decides, item_decides}
use Rattle.stm_steps.specs.declared.fault.Fault.{Fault}
use Rattle.stm_steps.specs.contracts.fault.Fault.{the_type as fault_type}
use Rattle.stm_outcome.specs.declared.advance.Expired.{Expired}
use Rattle.stm_outcome.specs.contracts.advance.ExpiredPartialEq.TheImpl.{eq-value as eq-expired}
use Rattle.stm_events.specs.declared.refusal.EventRefusal.{EventRefusal}
use Rattle.stm_events.specs.contracts.refusal.EventRefusal.{the_type as refusal_type}
use Rattle.stm_events.specs.declared.reply.KeyRead.{KeyRead}
use Rattle.stm_events.specs.contracts.reply.KeyReadPartialEq.TheImpl.{eq-value as eq-key_read}
use Rattle.stm_events.specs.declared.reply.CommittedRead.{CommittedRead}
use Rattle.stm_events.specs.contracts.reply.CommittedReadPartialEq.TheImpl.{eq-value as eq-committed_read}
use Rattle.stm_events.specs.declared.reply.OpReply.{OpReply}
use Rattle.stm_events.specs.contracts.reply.OpReplyPartialEq.TheImpl.{eq-value as eq-op}
use Rattle.stm_events.specs.declared.reply.Reply.{Reply}
use Rattle.stm_events.specs.contracts.reply.ReplyPartialEq.TheImpl.{eq-value as eq-reply}
use Rattle.stm_events.specs.declared.refusal.Denied.{Denied}
use Rattle.stm_events.specs.contracts.refusal.DeniedPartialEq.TheImpl.{eq-value as eq-denied}
use Rattle.stm_events.specs.declared.line.ReportLine.{ReportLine}
use Rattle.stm_events.specs.contracts.line.ReportLinePartialEq.TheImpl.{eq-value as eq-line}

pub lists_decide : {A : Type 0} {E : A → A → Bool} → ((a b : A) → Decides (E a b) (a ≡ b)) → (xs ys : List A) → Decides (pointwise E xs ys) (xs ≡ ys)
lists_decide each xs ys = slice_eq-Decides each xs ys _ refl

options_decide : {A : Type 0} {E : A → A → Bool} → ((a b : A) → Decides (E a b) (a ≡ b)) → (x y : Option A) → Decides (option_eq E x y) (x ≡ y)
options_decide each a b = grind (arith, nat_tests)

flags_decide : (a b : Bool) → Decides (beq a b) (a ≡ b)
flags_decide a b = grind (arith, nat_tests)

pub faults_decide : (a b : Fault) → Decides (sameb fault_type a b) (a ≡ b)
faults_decide a b = search rules

pub causes_decide : (a b : EventRefusal) → Decides (sameb refusal_type a b) (a ≡ b)
causes_decide a b = search rules

expired_decides : (a b : Expired) → Decides (eq-expired.it a b) (a ≡ b)
expired_decides a b = search (rules, Decides-eqb)

key_read_decides : (a b : KeyRead) → Decides (eq-key_read.it a b) (a ≡ b)
key_read_decides a b = search (rules, bytes_eq-Decides, Decides-eqb)

committed_read_decides : (a b : CommittedRead) → Decides (eq-committed_read.it a b) (a ≡ b)
committed_read_decides a b = search (rules, bytes_eq-Decides, options_decide bytes_eq-Decides, Decides-eqb)

pub states_decide : (x y : Option KeyState) → Decides (option_eq eq-state.it x y) (x ≡ y)
states_decide = options_decide state_decides

op_decides : (a b : OpReply) → Decides (eq-op.it a b) (a ≡ b)
op_decides a b = grind (arith, nat_tests, Decides-eqb, states_decide)

pub values_decide : (xs ys : List Value) → Decides (pointwise eq-value.it xs ys) (xs ≡ ys)
values_decide = lists_decide value_decides

items_decide : (xs ys : List TraceItem) → Decides (pointwise eq-item.it xs ys) (xs ≡ ys)
items_decide = lists_decide item_decides

events_decide : (xs ys : List WatchEvent) → Decides (pointwise eq-event.it xs ys) (xs ≡ ys)
events_decide = lists_decide event_decides

key_reads_decide : (xs ys : List KeyRead) → Decides (pointwise eq-key_read.it xs ys) (xs ≡ ys)
key_reads_decide = lists_decide key_read_decides

committed_reads_decide : (xs ys : List CommittedRead) → Decides (pointwise eq-committed_read.it xs ys) (xs ≡ ys)
committed_reads_decide = lists_decide committed_read_decides

ops_decide : (xs ys : List OpReply) → Decides (pointwise eq-op.it xs ys) (xs ≡ ys)
ops_decide = lists_decide op_decides

expiries_decide : (xs ys : List Expired) → Decides (pointwise eq-expired.it xs ys) (xs ≡ ys)
expiries_decide = lists_decide expired_decides

pub reply_decides : (a b : Reply) → Decides (eq-reply.it a b) (a ≡ b)
reply_decides a b =
    grind (arith, nat_tests, Decides-eqb, key_reads_decide, bytes_eq-Decides, values_decide, items_decide, committed_reads_decide, faults_decide, Decides-like, Decides-and, causes_decide, flags_decide, ops_decide, expiries_decide, events_decide)

denied_decides : (a b : Denied) → Decides (eq-denied.it a b) (a ≡ b)
denied_decides a b = search (rules, causes_decide, expiries_decide)

pub outcome_decides : (a b : Result Reply Denied) → Decides (result_eq eq-reply.it eq-denied.it a b) (a ≡ b)
outcome_decides (Ok r) (Ok s) = search (rules, reply_decides)
outcome_decides (Err d) (Err e) = search (rules, denied_decides)
outcome_decides a b = (λ e. cc, λ e. cc)

pub line_decides : (a b : ReportLine) → Decides (eq-line.it a b) (a ≡ b)
line_decides a b = grind (arith, nat_tests, Decides-eqb, outcome_decides, bytes_eq-Decides, state_decides)
