-- The event that is named as the cause of a commit's failure has made the revision.
use Rattle.std.proofs.Common.{◌≡◌, ℕ, zero, suc, ◌-◌, ◌<◌, ◌≤◌, Bool, cond, List, get_or, Option, Some, refl, arith}
use Rattle.std.proofs.lemmas.Bool.Decides.{nat_tests}
use Rattle.std.proofs.lemmas.Option.{none-some, same_Some}
use Rattle.std.specs.Prelude.{Result, nat_lt}
use Rattle.stm_history.specs.History.{History}
use Rattle.stm_keys.specs.NextChange.{next_change}
use Rattle.stm_events.specs.declared.reply.Reply.{Reply}
use Rattle.stm_events.specs.declared.refusal.Denied.{Denied}
use Rattle.stm_reasons.specs.declared.reason.Cause.{Cause}
use Rattle.stm_reasons.specs.Causes.{if_by, first_change, maker, cause_by}
use Rattle.stm_world_laws.specs.Reasons.{IsCause, CausesAreFirstChanges}

-- among that many events this one made the revision
record IsMaker (counters : List ℕ) (revision n e : ℕ) : Type 0 where
  within : e ≤ n
  made : 0 < e → get_or counters (e - 1) 0 < revision
  reached : e < n → revision ≤ get_or counters e 0

maker_by : (b : Bool) (counters : List ℕ) (revision n e : ℕ) → nat_lt (get_or counters n 0) revision ≡ b → IsMaker counters revision n e
    → IsMaker counters revision (suc n) (cond b (suc n) e)
maker_by b counters revision n e is earlier = grind (arith, nat_tests)

maker_is : (counters : List ℕ) (revision n : ℕ) → IsMaker counters revision n (maker counters revision n)
maker_is counters revision zero = grind (arith, nat_tests)
maker_is counters revision (suc n) = grind (arith, nat_tests, maker_by, maker_is counters revision n)

-- a change that is told is the first, and has come
record HasCome (h : History) (key : List ℕ) (since last revision : ℕ) : Type 0 where
  first : next_change h key since ≡ Some revision
  come : revision ≤ last

come_by : (o : Option ℕ) (h : History) (key : List ℕ) (since last revision : ℕ) → next_change h key since ≡ o → if_by last o ≡ Some revision
    → HasCome h key since last revision
come_by o h key since last revision is told = grind (arith, nat_tests, none-some, same_Some)

cause_is : (o : Option ℕ) (h : History) (key counters : List ℕ) (replies : List (Result Reply Denied)) (since before : ℕ) (c : Cause)
    → first_change h key since (get_or counters before 0) ≡ o → cause_by h key counters replies before o ≡ Some c → IsCause h key counters since before c
cause_is o h key counters replies since before c is told = grind (arith, nat_tests, none-some, maker_is, same_Some, come_by)

pub causes_are_first_changes : CausesAreFirstChanges
causes_are_first_changes h key counters replies since before c told =
    cause_is (first_change h key since (get_or counters before 0)) h key counters replies since before c refl told
