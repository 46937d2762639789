-- The data of a line have no float, and are nested a few levels deep, far from what a reader of JSON takes.
use Rattle.std.proofs.Common.{◌≡◌, ℕ, zero, suc, ◌≤◌, false, List, [], ◌∷◌, map, refl, arith}
use Rattle.std.proofs.Math.Nat.{max-le}
use Rattle.std.proofs.lemmas.Bool.Decides.{nat_tests}
use Rattle.serde_json.specs.Data.{Data, null, boolean, number, string, array, object, Items, no_items, item, depth, items_depth}
use Rattle.serde_json.specs.Find.{is_float}
use Rattle.serde_json.specs.Read.{max_depth}
use Rattle.serde_json.specs.View.{items_of}
use Rattle.serde_json.specs.Written.{has_float, items_have_float}
use Rattle.stm_steps.specs.declared.trace_item.TraceItem.{TraceItem}
use Rattle.stm_outcome.specs.declared.advance.Expired.{Expired}
use Rattle.stm_events.specs.declared.line.ReportLine.{ReportLine}
use Rattle.stm_events.specs.declared.reply.Reply.{Reply}
use Rattle.stm_events.specs.declared.reply.CommittedRead.{CommittedRead}
use Rattle.stm_keys.specs.declared.event.Event.{Event}
use Rattle.stm_events.specs.declared.reply.OpReply.{OpReply}
use Rattle.stm_events.specs.declared.reply.KeyRead.{KeyRead}
use Rattle.stm_report_lines.specs.LineData.{trace_data, answer_data, op_data, read_data, expired_data, event_data, reply_data, line_data}

-- data with no float and no object, nested at most so deep
abbrev mutual
  IsShallow : Data → ℕ → Type 0
  IsShallow null k = Unit {0}
  IsShallow (boolean b) k = Unit {0}
  IsShallow (number n) k = is_float n ≡ false
  IsShallow (string s) k = Unit {0}
  IsShallow (array ds) zero = ⊥
  IsShallow (array ds) (suc k) = AreShallow ds k
  IsShallow (object ms) k = ⊥

  AreShallow : Items → ℕ → Type 0
  AreShallow no_items k = Unit {0}
  AreShallow (item d ds) k = IsShallow d k × AreShallow ds k

mutual
  no_float_in : (d : Data) (k : ℕ) → IsShallow d k → has_float d ≡ false
  no_float_in null k has = refl
  no_float_in (boolean b) k has = refl
  no_float_in (number n) k has = has
  no_float_in (string s) k has = refl
  no_float_in (array ds) zero has = absurd has
  no_float_in (array ds) (suc k) has = no_floats_in ds k has
  no_float_in (object ms) k has = absurd has

  no_floats_in : (ds : Items) (k : ℕ) → AreShallow ds k → items_have_float ds ≡ false
  no_floats_in no_items k all = refl
  no_floats_in (item d ds) k (one, others) = rw (no_float_in d k one) (no_floats_in ds k others)

up : (n k : ℕ) → n ≤ k → suc n ≤ suc k
up n k h = omega arith

mutual
  depth_within : (d : Data) (k : ℕ) → IsShallow d k → depth d ≤ k
  depth_within null k has = omega arith
  depth_within (boolean b) k has = omega arith
  depth_within (number n) k has = omega arith
  depth_within (string s) k has = omega arith
  depth_within (array ds) zero has = absurd has
  depth_within (array ds) (suc k) has = up (items_depth ds) k (depths_within ds k has)
  depth_within (object ms) k has = absurd has

  depths_within : (ds : Items) (k : ℕ) → AreShallow ds k → items_depth ds ≤ k
  depths_within no_items k all = omega arith
  depths_within (item d ds) k (one, others) = max-le (depth_within d k one) (depths_within ds k others)

listed : {A : Type 0} (f : A → Data) (k : ℕ) → ((x : A) → IsShallow (f x) k) → (xs : List A) → AreShallow (items_of (map f xs)) k
listed f k each [] = tt
listed f k each (x ∷ xs) = (each x, listed f k each xs)

trace_shallow : (t : TraceItem) → IsShallow (trace_data t) 3
trace_shallow t = grind (arith, nat_tests)

answer_shallow : (a : CommittedRead) → IsShallow (answer_data a) 3
answer_shallow a = grind (arith, nat_tests)

op_shallow : (o : OpReply) → IsShallow (op_data o) 3
op_shallow o = grind (arith, nat_tests)

read_shallow : (r : KeyRead) → IsShallow (read_data r) 3
read_shallow r = (tt, (refl, tt))

expired_shallow : (e : Expired) → IsShallow (expired_data e) 3
expired_shallow e = (refl, (refl, tt))

event_shallow : (e : Event) → IsShallow (event_data e) 3
event_shallow e = grind (arith, nat_tests)

reply_shallow : (n : ℕ) (r : Reply) → IsShallow (reply_data n r) 5
reply_shallow n r = grind (arith, nat_tests, listed, read_shallow, trace_shallow, answer_shallow, op_shallow, expired_shallow, event_shallow)

line_shallow : (l : ReportLine) → IsShallow (line_data l) 5
line_shallow l = grind (arith, nat_tests, reply_shallow, listed, expired_shallow)

pub line_data-no_float : (l : ReportLine) → has_float (line_data l) ≡ false
line_data-no_float l = no_float_in (line_data l) 5 (line_shallow l)

pub line_is_shallow : (l : ReportLine) → depth (line_data l) ≤ max_depth
line_is_shallow l = let few : depth (line_data l) ≤ 5 = depth_within (line_data l) 5 (line_shallow l) in omega (arith, few)
