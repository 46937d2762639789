-- What a foreign transaction and an advance leave of the store is what their entries replay to.
use Rattle.std.proofs.Common.{◌≡◌, ℕ, ◌≤◌, List, [], ◌∷◌, length, Option, Ok, Bool, true, false, cond, subst}
use Rattle.std.specs.Prelude.{nat_lt, Result}
use Rattle.stm_history.specs.History.{now}
use Rattle.stm_outcome.specs.declared.txn.Txn.{Txn}
use Rattle.stm_outcome.specs.declared.advance.Expired.{Expired}
use Rattle.stm_outcome.specs.declared.refusal.Refusal.{Refusal}
use Rattle.stm_outcome.specs.Outcome.{Done, outcome}
use Rattle.stm_outcome.specs.Terms.{most_operations}
use Rattle.stm_txn.specs.Standing.{Standing, Advance, step_of, with_history, at_moment, advanced, HasCome, terms_of}
use Rattle.stm_entries.specs.declared.entry.Entry.TheVariants.{Foreign}
use Rattle.stm_entries.specs.Entered.{if_changed, expiries}
use Rattle.stm_entries.specs.Replayed.{Replayed, without_moment}
use Rattle.stm_entries.specs.Replay.{without_lease}
use Rattle.stm_entries.specs.Legal.{AreLegal}
use Rattle.stm_events.specs.Called as call
use Rattle.stm_events.specs.Replies.{store_after_call}
use Rattle.stm_events.proofs.CallEnters.{Enters, call_enters, at_moment_enters}
use Rattle.stm_hall.specs.Locked.{AreEntriesThere}
use Rattle.stm_hall.proofs.Opening.{Follows}

-- ---- a transaction is followed by its entry

foreign_there : (b : Bool) (txn : Txn) (r : Replayed) → AreLegal (cond b (Foreign txn ∷ []) []) r → AreEntriesThere (cond b (Foreign txn ∷ []) []) r
foreign_there true txn r legal = (legal.0, tt)
foreign_there false txn r legal = tt

-- a transaction that the store takes
pub txn_follows : (s : Standing) (txn : Txn) (done : Done) → s.limit ≤ most_operations → outcome (terms_of s) txn ≡ Ok done →
    Follows s (with_history s done.history) (if_changed s (with_history s done.history) txn)
txn_follows s txn done few is =
    let e : Enters s (with_history s done.history) (if_changed s (with_history s done.history) txn) =
    subst (λ (o : Result Done Refusal). Enters s (store_after_call s (step_of s o)) (if_changed s (store_after_call s (step_of s o)) txn)) is
    (call_enters s (call.Txn txn) few) in
    record { replays = e.replays; there = foreign_there (nat_lt (now s.history) (now done.history)) txn (without_moment s) e.legal }

-- ---- an advance is followed by its entries

expiries_there : (expired : List Expired) (r : Replayed) → AreLegal (expiries expired) r → AreEntriesThere (expiries expired) r
expiries_there [] r legal = tt
expiries_there (e ∷ es) r legal = (legal.0, expiries_there es (without_lease r e.id) legal.1)

expiries_follow : (s left : Standing) (expired : List Expired) → Enters s left (expiries expired) → Follows s left (expiries expired)
expiries_follow s left expired e = record { replays = e.replays; there = expiries_there expired (without_moment s) e.legal }

-- as far as an advance came
pub come_follows : (s left : Standing) (moment : ℕ) (expired : List Expired) → HasCome (at_moment s moment) expired left →
    Follows s left (expiries expired)
come_follows s left moment expired come =
    expiries_follow s left expired (subst (λ (a : Advance). Enters s a.leaves (expiries a.expired)) come (at_moment_enters (length expired) s moment))

-- a whole one
pub advance_follows : (s left : Standing) (moment : ℕ) (expired : List Expired) (cause : Option Refusal) →
    advanced s moment ≡ record { expired = expired; leaves = left; cause = cause } → Follows s left (expiries expired)
advance_follows s left moment expired cause is =
    expiries_follow s left expired (subst (λ (a : Advance). Enters s a.leaves (expiries a.expired)) is (call_enters s (call.Advance moment) tt))
