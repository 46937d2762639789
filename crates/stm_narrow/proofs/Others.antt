-- Another client's transaction in two worlds that agree.
use Rattle.std.proofs.Common.{◌≡◌, ℕ, Bool, true, List, [], ◌∷◌, Option, None, Result, refl, ◌∙◌, ap, subst, arith}
use Rattle.std.specs.Prelude.{nat_eq, ◌&&◌}
use Rattle.std.specs.List.{AllByRecursion, list_all}
use Rattle.std.specs.Option.{option_or}
use Rattle.std.proofs.lemmas.Bool.{and_parts}
use Rattle.std.proofs.lemmas.Bool.Decides.{nat_tests}
use Rattle.stm_history.specs.declared.change.Change.{Change}
use Rattle.stm_history.specs.History.{History, now, key_now}
use Rattle.stm_outcome.specs.declared.answer.FailedCompare.{FailedCompare}
use Rattle.stm_outcome.specs.declared.refusal.Refusal.{Refusal}
use Rattle.stm_outcome.specs.declared.txn.Compare.{Compare}
use Rattle.stm_outcome.specs.declared.txn.Op.{Op}
use Rattle.stm_outcome.specs.declared.txn.Txn.{Txn}
use Rattle.stm_outcome.specs.Branches.{Progress, begun, change_made, with_change_made, progress_after, answers_after, changes_of_branch}
use Rattle.stm_outcome.specs.Branches.{read_refusal, op_refusal, branch_refusal}
use Rattle.stm_outcome.specs.Checks.{fault_of}
use Rattle.stm_outcome.specs.Compares.{first_failed}
use Rattle.stm_outcome.specs.Outcome.{Done, chosen, finished, unless, branch_outcome, outcome}
use Rattle.stm_txn.specs.Standing.{Standing, terms_of, step_of}
use Rattle.stm_events.specs.declared.event.WorldEvent.{WorldEvent}
use Rattle.stm_events.specs.declared.event.WorldEvent.TheVariants as event
use Rattle.stm_events.specs.Replies.{reply_to, store_after_call, txn_reply}
use Rattle.stm_world.specs.World.{World, step}
use Rattle.stm_schedules.specs.Outcomes.{Ends, after_reported}
use Rattle.stm_narrow.specs.Touching.{IsTouched}
use Rattle.stm_narrow.specs.Foreign.{op_keeps_to, txn_keeps_to, event_keeps_to}
use Rattle.stm_narrow.specs.Agree.{SameSince, SameStore, Agree, AgreeingWorldsAreSame}
use Rattle.stm_narrow.proofs.Histories.{same_now, same_failed, SameDone, finished_same}
use Rattle.stm_narrow.proofs.Stepping.{step_same, turned}

all_pass : {A : Type 0} (p : A → Bool) (P : A → Type 0) (xs : List A) → ((x : A) → p x ≡ true → P x) → list_all p xs ≡ true → AllByRecursion P xs
all_pass p P [] so all = tt
all_pass p P (x ∷ xs) so all = let parts = and_parts (p x) (list_all p xs) all in (so x parts.0, all_pass p P xs so parts.1)

-- a read of the current state is refused nowhere
now_readable : (counter floor rev : ℕ) → nat_eq rev 0 ≡ true → read_refusal counter floor rev ≡ None
now_readable counter floor rev is = grind (arith, nat_tests)

module _ (touched : List ℕ → Bool) (leased : ℕ → Bool) (since : ℕ) where
  abbrev keeps : Op → Bool
  keeps = op_keeps_to touched leased

  -- branches that have changed the same, in which each touched key is the same by now
  record SameProgress (p q : Progress) : Type 0 where
    state : (key : List ℕ) → IsTouched touched key → p.state key ≡ q.state key
    changes : p.changes ≡ q.changes

  made_same : (g h : History) (p q : Progress) (made : Option Change) → now g ≡ now h → SameProgress p q →
      SameProgress (with_change_made g p made) (with_change_made h q made)
  made_same g h p q made counter same = grind (arith, nat_tests)

  change_same : (p q : Progress) (op : Op) → keeps op ≡ true → SameProgress p q → change_made p op ≡ change_made q op
  change_same p q op is same = grind (arith, nat_tests)

  branch_same : (g h : History) (p q : Progress) (ops : List Op) → now g ≡ now h → list_all keeps ops ≡ true → SameProgress p q →
      SameProgress (progress_after g p ops) (progress_after h q ops)
  branch_same g h p q [] counter all same = same
  branch_same g h p q (op ∷ ops) counter all same =
      let parts = and_parts (keeps op) (list_all keeps ops) all in
      branch_same g h (with_change_made g p (change_made p op)) (with_change_made h q (change_made q op)) ops counter parts.1
      (subst (λ made. SameProgress (with_change_made g p (change_made p op)) (with_change_made h q made)) (change_same p q op parts.0 same)
      (made_same g h p q (change_made p op) counter same))

  changes_same : (g h : History) (ops : List Op) → SameSince touched since g h → list_all keeps ops ≡ true → changes_of_branch g ops ≡ changes_of_branch h ops
  changes_same g h ops same all =
      (branch_same g h (begun g) (begun h) ops same.now all (record { state = same_now touched since g h same; changes = refl })).changes

  -- ---- what is refused

  refused_same : (s t : Standing) (op : Op) → SameStore touched leased since s t → keeps op ≡ true → op_refusal (terms_of s) op ≡ op_refusal (terms_of t) op
  refused_same s t op same is = grind (arith, nat_tests, now_readable, and_parts)

  refusal_same : (s t : Standing) (ops : List Op) → SameStore touched leased since s t → list_all keeps ops ≡ true →
      branch_refusal (terms_of s) ops ≡ branch_refusal (terms_of t) ops
  refusal_same s t [] same all = refl
  refusal_same s t (op ∷ ops) same all =
      let parts = and_parts (keeps op) (list_all keeps ops) all in
      ap (λ (o : Option Refusal). option_or o (branch_refusal (terms_of s) ops)) (refused_same s t op same parts.0)
      ∙ ap (option_or (op_refusal (terms_of t) op)) (refusal_same s t ops same parts.1)

  -- ---- what it comes to

  unless_same : (refusal other : Option Refusal) (x y : Result Done Refusal) → refusal ≡ other → SameDone touched leased since x y →
      SameDone touched leased since (unless refusal x) (unless other y)
  unless_same refusal other x y are same = grind (arith, nat_tests, SameDone)

  run_same : (s t : Standing) (failed : Option FailedCompare) (ops : List Op) → SameStore touched leased since s t → list_all keeps ops ≡ true →
      SameDone touched leased since (branch_outcome (terms_of s) failed ops) (branch_outcome (terms_of t) failed ops)
  run_same s t failed ops same all =
      let g = s.history in
      let h = t.history in
      unless_same (branch_refusal (terms_of s) ops) (branch_refusal (terms_of t) ops) (finished g failed (changes_of_branch g ops) (answers_after g (begun g) ops))
      (finished h failed (changes_of_branch h ops) (answers_after h (begun h) ops)) (refusal_same s t ops same all)
      (subst (λ changes. SameDone touched leased since (finished g failed (changes_of_branch g ops) (answers_after g (begun g) ops))
      (finished h failed changes (answers_after h (begun h) ops))) (changes_same g h ops same.history all)
      (finished_same touched leased since g h failed (changes_of_branch g ops) (answers_after g (begun g) ops) (answers_after h (begun h) ops) same.history))

  chosen_keeps : (failed : Option FailedCompare) (txn : Txn) → list_all keeps txn.success ≡ true → list_all keeps txn.failure ≡ true →
      list_all keeps (chosen failed txn) ≡ true
  chosen_keeps failed txn success failure = grind (arith, nat_tests)

  outcome_same : (s t : Standing) (txn : Txn) → SameStore touched leased since s t → txn_keeps_to touched leased txn ≡ true →
      SameDone touched leased since (outcome (terms_of s) txn) (outcome (terms_of t) txn)
  outcome_same s t txn same is =
      let compared : Compare → Bool = λ c. touched c.key in
      let parts = and_parts (list_all compared txn.compares && list_all keeps txn.success) (list_all keeps txn.failure) is in
      let first = and_parts (list_all compared txn.compares) (list_all keeps txn.success) parts.0 in
      let failed : Option FailedCompare = first_failed (key_now s.history) 0 txn.compares in
      let fails : failed ≡ first_failed (key_now t.history) 0 txn.compares =
      same_failed (key_now s.history) (key_now t.history) 0 txn.compares
      (all_pass compared (λ (c : Compare). key_now s.history c.key ≡ key_now t.history c.key) txn.compares
      (λ c touches. same_now touched since s.history t.history same.history c.key touches) first.0) in
      unless_same (fault_of s.limit txn) (fault_of t.limit txn) (branch_outcome (terms_of s) failed (chosen failed txn))
      (branch_outcome (terms_of t) (first_failed (key_now t.history) 0 txn.compares) (chosen (first_failed (key_now t.history) 0 txn.compares) txn))
      (ap (λ n. fault_of n txn) same.limit)
      (subst (λ o. SameDone touched leased since (branch_outcome (terms_of s) failed (chosen failed txn)) (branch_outcome (terms_of t) o (chosen o txn))) fails
      (run_same s t failed (chosen failed txn) same (chosen_keeps failed txn first.1 parts.1)))

  taken_same : (s t : Standing) (o p : Result Done Refusal) → SameStore touched leased since s t → SameDone touched leased since o p →
      SameStore touched leased since (store_after_call s (step_of s o)) (store_after_call t (step_of t p))
  taken_same s t o p store same = grind (arith, nat_tests)

  pub txn_same : (s t : Standing) (txn : Txn) → SameStore touched leased since s t → txn_keeps_to touched leased txn ≡ true →
      SameStore touched leased since (store_after_call s (step_of s (outcome (terms_of s) txn))) (store_after_call t (step_of t (outcome (terms_of t) txn)))
  txn_same s t txn same is = taken_same s t (outcome (terms_of s) txn) (outcome (terms_of t) txn) same (outcome_same s t txn same is)

  -- ---- the event

  pub foreign_same : (e : WorldEvent) (v w : World) → event_keeps_to touched leased e ≡ true → Agree touched leased since v w →
      Agree touched leased since (step e v).next (step e w).next
  foreign_same (event.Txn txn) v w is agree = grind (arith, nat_tests, txn_same)
  foreign_same _ v w is agree = absurd (cc)

reply_told : (s : Standing) (o : Result Done Refusal) (known : Ends) → after_reported (reply_to txn_reply (step_of s o)) known ≡ known
reply_told s o known = grind (arith, nat_tests)

-- no end of a runner is known by it
pub nothing_told : (touched : List ℕ → Bool) (leased : ℕ → Bool) (e : WorldEvent) (w : World) (known : Ends) → event_keeps_to touched leased e ≡ true →
    after_reported (step e w).reply known ≡ known
nothing_told touched leased e w known is = grind (arith, nat_tests, reply_told)

pub agreeing_worlds_are_same : AgreeingWorldsAreSame
agreeing_worlds_are_same = record {
  turned = λ touched leased since v w. turned touched leased since v w;
  replies = λ touched leased since id v w agree. (step_same touched leased since id v w agree).reply;
  next = λ touched leased since id v w agree. (step_same touched leased since id v w agree).next;
  foreign = λ touched leased since e v w is agree. foreign_same touched leased since e v w is agree;
}
