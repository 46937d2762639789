-- Leases that expired one after another: one more comes at their end.
use Rattle.std.proofs.Common.{◌≡◌, ◌∙◌, ℕ, List, [], ◌∷◌, ◌++◌, length, Option, Some, None, refl, sym, ap, subst, arith}
use Rattle.std.specs.Prelude.{Result, Ok, Err}
use Rattle.std.proofs.lemmas.Bool.Decides.{nat_tests}
use Rattle.stm_leases.specs.DueFirst.{first_due}
use Rattle.stm_outcome.specs.declared.advance.Expired.{Expired}
use Rattle.stm_outcome.specs.declared.refusal.Refusal.{Refusal}
use Rattle.stm_txn.specs.Standing.{Standing, ended, Advance, after, expired_in, expire_up_to, HasCome}
use Rattle.stm_txn.proofs.Ending.{none_due, one_ended}

-- what an advance has come to
abbrev come_to : List Expired → Standing → Option Refusal → Advance
come_to expired leaves cause = record { expired = expired; leaves = leaves; cause = cause }

-- the first of several expiries, and the rest of them
pub record ComesFirst (first : Standing) (e : Expired) (es : List Expired) (left : Standing) : Type 0 where
  pub id : ℕ
  pub next : Standing
  pub due : first_due first.live first.moment ≡ Some id
  pub is : ended first id ≡ Ok next
  pub named : expired_in id next ≡ e
  pub rest : HasCome next es left

first_by_outcome : (first : Standing) (e : Expired) (es : List Expired) (left : Standing) (id : ℕ) (outcome : Result Standing Refusal) →
    first_due first.live first.moment ≡ Some id → ended first id ≡ outcome → HasCome first (e ∷ es) left → ComesFirst first e es left
first_by_outcome first e es left id (Err cause) due is come =
    let whole : come_to [] first (Some cause) ≡ come_to (e ∷ es) left None =
    sym (one_ended (length es) id first (Err cause) due is) ∙ come in
    let never : Some cause ≡ None = ap (λ (a : Advance). a.cause) whole in absurd (cc)
first_by_outcome first e es left id (Ok next) due is come =
    let whole : after (expired_in id next ∷ []) (expire_up_to (length es) next) ≡ come_to (e ∷ es) left None =
    sym (one_ended (length es) id first (Ok next) due is) ∙ come in
    let parts : expired_in id next ∷ (expire_up_to (length es) next).expired ≡ e ∷ es = ap (λ (a : Advance). a.expired) whole in
    let others : (expire_up_to (length es) next).expired ≡ es = cc in
    let leaves : (expire_up_to (length es) next).leaves ≡ left = ap (λ (a : Advance). a.leaves) whole in
    let cause : (expire_up_to (length es) next).cause ≡ None = ap (λ (a : Advance). a.cause) whole in
    record {
      id = id;
      next = next;
      due = due;
      is = is;
      named = cc;
      rest = λ i. record { expired = others i; leaves = leaves i; cause = cause i };
    }

first_by_due : (first : Standing) (e : Expired) (es : List Expired) (left : Standing) (due : Option ℕ) →
    first_due first.live first.moment ≡ due → HasCome first (e ∷ es) left → ComesFirst first e es left
first_by_due first e es left due h6 come = grind (arith, nat_tests, none_due, first_by_outcome)

pub comes_first : (first : Standing) (e : Expired) (es : List Expired) (left : Standing) → HasCome first (e ∷ es) left → ComesFirst first e es left
comes_first first e es left come = first_by_due first e es left (first_due first.live first.moment) refl come

-- one more expiry comes at the end of those before it
pub one_more_come : (first s next : Standing) (id : ℕ) (expired : List Expired) → HasCome first expired s →
    first_due s.live s.moment ≡ Some id → ended s id ≡ Ok next → HasCome first (expired ++ expired_in id next ∷ []) next
one_more_come first s next id [] come due is =
    let same : s ≡ first = sym (ap (λ (a : Advance). a.leaves) come) in
    subst (λ (start : Standing). expire_up_to 1 start ≡ record { expired = expired_in id next ∷ []; leaves = next; cause = None }) same
    (one_ended 0 id s (Ok next) due is)
one_more_come first s next id (e ∷ es) come due is =
    let one : ComesFirst first e es s = comes_first first e es s come in
    let rest : HasCome one.next (es ++ expired_in id next ∷ []) next = one_more_come one.next s next id es one.rest due is in
    one_ended (length (es ++ expired_in id next ∷ [])) one.id first (Ok one.next) one.due one.is
    ∙ ap (after (expired_in one.id one.next ∷ [])) rest
    ∙ ap (λ (x : Expired). record { expired = x ∷ es ++ expired_in id next ∷ []; leaves = next; cause = None }) one.named
