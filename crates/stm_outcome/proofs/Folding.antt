-- A look-up through the changes of a branch is the branch's state, where no two operations clash.
use Rattle.std.proofs.Common.{◌≡◌, ℕ, ◌+◌, false, List, [], ◌∷◌, Option, Some, None, refl, ap, arith}
use Rattle.std.specs.List.{list_any}
use Rattle.std.proofs.lemmas.Bool.Decides.{nat_tests}
use Rattle.stm_history.specs.declared.change.Change.{Change}
use Rattle.stm_history.specs.declared.change.Change.TheVariants.{Put as PutChange, Del as DelChange}
use Rattle.stm_history.specs.History.{History, now, key_now, key_of, change_of, HasDistinctKeys}
use Rattle.stm_outcome.specs.declared.txn.Op.{Op}
use Rattle.stm_outcome.specs.declared.txn.Op.TheVariants.{Get, Put, Del}
use Rattle.stm_outcome.specs.declared.answer.FailedCompare.{FailedCompare}
use Rattle.stm_outcome.specs.Operations.{clash}
use Rattle.stm_outcome.specs.Checks.{has_clash}
use Rattle.stm_outcome.specs.Branches.{Progress, begun, with_change, change_made, with_change_made, progress_after, answers_after, changes_of_branch}
use Rattle.stm_outcome.specs.Branches.{deletion_of}
use Rattle.stm_outcome.specs.LookUps.{copy, with_copied, change_copied, changes_copied, answers_copied, outcome_copied}
use Rattle.stm_outcome.specs.Laws.{LookUpIsTheState}
use Rattle.stm_outcome.specs.Outcome.{branch_outcome}
use Rattle.stm_outcome.specs.Terms.{Terms}
use Rattle.stm_outcome.proofs.Branching.{earlier, earlier-none, change_of-push, same_text, neither, all_fit, HasDistinctKeys-push, puts_fit, dels_fit}
use Rattle.stm_outcome.proofs.Branching.{first_deletion, nothing_before}

-- what each key is by now is what the look-up finds
abbrev InStep : History → Progress → Type 0
InStep h p = (key : List ℕ) → p.state key ≡ copy h p.changes key

pushed : (h : History) (p : Progress) (c : Change) → InStep h p → change_of (key_of c) p.changes ≡ None → InStep h (with_change h p c)
pushed h p c step first key = grind (arith, nat_tests, same_text, change_of-push, earlier, earlier-none)

-- the rest of a branch, run either way
record Agrees (h : History) (p : Progress) (ops : List Op) : Type 0 where
  changes : (progress_after h p ops).changes ≡ changes_copied h p.changes ops
  answers : answers_after h p ops ≡ answers_copied h p.changes ops
  step : InStep h (progress_after h p ops)

one_change : (h : History) (p : Progress) (op : Op) → InStep h p → change_made p op ≡ change_copied h p.changes op
one_change h p op step = grind (arith, nat_tests)

with_one : (h : History) (p : Progress) (op : Op) (ops : List Op) (made : Option Change) → InStep h p → change_copied h p.changes op ≡ made →
    Agrees h (with_change_made h p made) ops → (with_change_made h p made).changes ≡ with_copied p.changes made → Agrees h p (op ∷ ops)
with_one h p op ops made step is rest changed = grind (arith, nat_tests, one_change)

agrees : (h : History) (p : Progress) (ops : List Op) → InStep h p → HasDistinctKeys p.changes → all_fit p.changes ops → has_clash ops ≡ false → Agrees h p ops
agrees h p [] step distinct fit apart = record { changes = refl; answers = refl; step = step }
agrees h p (Get key rev ∷ ops) step distinct fit apart =
    with_one h p (Get key rev) ops None step refl
    (agrees h p ops step distinct fit.1 (neither (list_any (clash (Get key rev)) ops) (has_clash ops) apart).1) refl
agrees h p (Put key value lease ∷ ops) step distinct fit apart =
    let split : (list_any (clash (Put key value lease)) ops ≡ false) × (has_clash ops ≡ false) =
    neither (list_any (clash (Put key value lease)) ops) (has_clash ops) apart in
    let c : Change = PutChange key value lease in
    with_one h p (Put key value lease) ops (Some c) step refl
    (agrees h (with_change h p c) ops (pushed h p c step fit.0) (HasDistinctKeys-push p.changes c distinct fit.0)
    (puts_fit p.changes key value lease ops fit.1 split.0) split.1) refl
agrees h p (Del key ∷ ops) step distinct fit apart =
    let split : (list_any (clash (Del key)) ops ≡ false) × (has_clash ops ≡ false) = neither (list_any (clash (Del key)) ops) (has_clash ops) apart in
    elim (copy h p.changes key) as (λ s. copy h p.changes key ≡ s → Agrees h p (Del key ∷ ops)) [
      | None ↦ λ is. with_one h p (Del key) ops None step (ap (deletion_of key) is) (agrees h p ops step distinct fit.1 split.1) refl
      | Some s ↦ λ is.
          let first : change_of key p.changes ≡ None = first_deletion (now h + 1) (change_of key p.changes) (key_now h key) (Some s) s fit.0 is refl in
          with_one h p (Del key) ops (Some (DelChange key)) step (ap (deletion_of key) is)
          (agrees h (with_change h p (DelChange key)) ops (pushed h p (DelChange key) step first)
          (HasDistinctKeys-push p.changes (DelChange key) distinct first)
          (dels_fit p.changes key ops fit.1 split.0) split.1) refl
    ] refl

whole : (h : History) (ops : List Op) → has_clash ops ≡ false → Agrees h (begun h) ops
whole h ops apart = agrees h (begun h) ops (λ key. refl) tt (nothing_before ops) apart

pub changes_agree : (h : History) (ops : List Op) → has_clash ops ≡ false → changes_of_branch h ops ≡ changes_copied h [] ops
changes_agree h ops apart = (whole h ops apart).changes

pub by_look_up : (terms : Terms) (failed : Option FailedCompare) (ops : List Op) → has_clash ops ≡ false →
    branch_outcome terms failed ops ≡ outcome_copied terms failed ops
by_look_up terms failed ops apart = grind (arith, nat_tests, whole)

pub look_up_is_the_state : LookUpIsTheState
look_up_is_the_state h ops key apart = (whole h ops apart).step key

pub answers_agree : (h : History) (ops : List Op) → has_clash ops ≡ false → answers_after h (begun h) ops ≡ answers_copied h [] ops
answers_agree h ops apart = (whole h ops apart).answers
