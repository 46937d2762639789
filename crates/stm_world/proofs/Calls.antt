-- The calls of the store: what each leaves is what its entries replay to, and what was true stays so.
use Rattle.std.proofs.Common.{◌≡◌, ◌≤◌, ◌<◌, ◌-◌, ℕ, List, Option, None, refl, ◌∙◌, arith}
use Rattle.std.proofs.lemmas.Bool.{ltb-false, leb-false, Decides.nat_tests}
use Rattle.std.proofs.lemmas.List.{append-nil}
use Rattle.stm_history.specs.History.{now}
use Rattle.stm_watch.specs.Watching.{Watching}
use Rattle.stm_outcome.specs.Terms.{most_operations}
use Rattle.stm_txn.specs.Standing.{Standing, HasKept, AreKeptFor, with_watchers, at_moment, expire_up_to}
use Rattle.stm_entries.specs.Entered.{expiries}
use Rattle.stm_events.specs.Called.{Call, called, entered}
use Rattle.stm_events.proofs.StoreKeeps.{StoreKeeps, store_keeps, expiries_keep}
use Rattle.stm_events.proofs.CallEnters.{few_are_replayed, call_enters, at_moment_enters}
use Rattle.stm_world.specs.World.{World, after_call, make_call}
use Rattle.stm_world.proofs.Truth.{keeps_same, keeps_twice, keeps_changes}
use Rattle.stm_world.proofs.Entered.{GoesOn, EntriesFollow, floor_stays, followed, nothing_goes_on}
use Rattle.stm_world.proofs.KeptFor.{kept_by_changes, kept_set, kept_by_watch, kept_by_poll, kept_by_compaction}

-- ---- a call that is no entry adds none

pub call_adds : (c : Call) (w : World) → make_call c w ≡ after_call (called w.standing c).reply (called w.standing c).next (entered w.standing c) w
call_adds other w = grind (arith, nat_tests, append-nil)

-- ---- what goes on

goes_on_twice : (a b c : Standing) → GoesOn a b → GoesOn b c → GoesOn a c
goes_on_twice a b c first second = record {
  keeps = keeps_twice a.history b.history c.history first.keeps second.keeps;
  kept = λ k. second.kept (first.kept k);
  floor = let low = first.floor in let high = second.floor in let both : a.floor ≤ c.floor = omega (arith, low, high) in both;
  limit = second.limit ∙ first.limit;
}

watchers_go_on : (s : Standing) (ws : List (Option Watching)) → (HasKept s → AreKeptFor s.history s.floor ws) → GoesOn s (with_watchers s ws)
watchers_go_on s ws kept = grind (arith, nat_tests, keeps_same, floor_stays)

-- the moment changes nothing of this
moment_goes_on : (s : Standing) (moment : ℕ) → GoesOn s (at_moment s moment)
moment_goes_on s moment = grind (arith, nat_tests, keeps_same, floor_stays)

go_on : StoreKeeps (λ c. Unit {0}) GoesOn
go_on = record {
  same = nothing_goes_on;
  joined = goes_on_twice;
  changed = λ s changes. record { keeps = keeps_changes s.history changes; kept = kept_by_changes s changes; floor = floor_stays s; limit = refl };
  leased = λ s live. record {
    keeps = keeps_same s.history;
    kept = λ k. record { reached = k.reached; watchers = k.watchers };
    floor = floor_stays s;
    limit = refl;
  };
  moved = λ s moment of. moment_goes_on s moment;
  watching = λ s keys from of. watchers_go_on s _ (kept_by_watch s keys from);
  polled = λ s id most w of found lost. watchers_go_on s _ (λ k. kept_by_poll s id most w k found lost);
  lost = λ s id most of. watchers_go_on s _ (λ k. kept_set s.history s.floor s.watchers (id - 1) None k.watchers tt);
  cancelled = λ s id of. watchers_go_on s _ (λ k. kept_set s.history s.floor s.watchers (id - 1) None k.watchers tt);
  raised = λ s revision of above reached. record {
    keeps = keeps_same s.history;
    kept = λ k. record { reached = ltb-false (now s.history) revision reached; watchers = kept_by_compaction s.history revision s.watchers };
    floor = let up : s.floor < revision = leb-false revision s.floor above in let higher : s.floor ≤ revision = omega arith in higher;
    limit = refl;
  };
}

pub call_goes_on : (s : Standing) (c : Call) → GoesOn s (called s c).next
call_goes_on s c = store_keeps (λ c. Unit {0}) GoesOn go_on s c tt

-- in a store that takes no more operations than any
pub call_follows : (s : Standing) (c : Call) → s.limit ≤ most_operations → EntriesFollow s (called s c).next (entered s c)
call_follows s c few = followed s (called s c).next (entered s c) (call_enters s c (few_are_replayed s c few)) (call_goes_on s c)

-- after at most so many expiries of an advance
pub at_moment_follows : (many : ℕ) (s : Standing) (moment : ℕ) →
    EntriesFollow s (expire_up_to many (at_moment s moment)).leaves (expiries (expire_up_to many (at_moment s moment)).expired)
at_moment_follows many s moment =
    let left : Standing = (expire_up_to many (at_moment s moment)).leaves in
    followed s left (expiries (expire_up_to many (at_moment s moment)).expired) (at_moment_enters many s moment)
    (goes_on_twice s (at_moment s moment) left (moment_goes_on s moment) (expiries_keep (λ c. Unit {0}) GoesOn go_on many (at_moment s moment) tt))
