-- A transaction comes to the same once the revisions below the floor are dropped.
use Rattle.std.proofs.Common.{◌≡◌, ℕ, ◌-◌, ◌≤◌, Bool, false, cond, List, [], ◌∷◌, map, filter, Option, Some, None, refl, ◌∙◌, ap, arith}
use Rattle.std.specs.Prelude.{nat_eq, nat_lt, ◌&&◌, is_none, Result, Ok, Err}
use Rattle.std.specs.List.{list_any}
use Rattle.std.proofs.lemmas.Bool.{ltb-false, eq-eqb, Decides.nat_tests}
use Rattle.stm_history.specs.declared.change.Change.{Change}
use Rattle.stm_history.specs.declared.key_state.KeyState.{KeyState}
use Rattle.stm_history.specs.declared.key_state.ReadAnswer.{ReadAnswer}
use Rattle.stm_history.specs.History.{History, now, key_now, key_at}
use Rattle.stm_history.specs.Cut.{cut}
use Rattle.stm_history.proofs.CutLaws.{cut_keeps_now, cut_goes_on}
use Rattle.stm_outcome.specs.declared.txn.Txn.{Txn}
use Rattle.stm_outcome.specs.declared.txn.Op.{Op}
use Rattle.stm_outcome.specs.declared.txn.Op.TheVariants.{Get, Put, Del}
use Rattle.stm_outcome.specs.declared.answer.OpAnswer.{OpAnswer}
use Rattle.stm_outcome.specs.declared.answer.FailedCompare.{FailedCompare}
use Rattle.stm_outcome.specs.declared.refusal.Refusal.{Refusal}
use Rattle.stm_outcome.specs.declared.refusal.Refusal.TheVariants.{RevisionsUsedUp, LeaseNotFound}
use Rattle.stm_outcome.specs.Terms.{Terms}
use Rattle.stm_outcome.specs.Compares.{first_failed}
use Rattle.stm_outcome.specs.Checks.{fault_of}
use Rattle.stm_outcome.specs.Branches.{Progress, begun, with_change_made, change_made, carried, op_answer, progress_after, answers_after}
use Rattle.stm_outcome.specs.Branches.{changes_of_branch, read_refusal, op_refusal, branch_refusal}
use Rattle.stm_outcome.specs.Effect.{changes_something}
use Rattle.stm_outcome.specs.Commits.{is_on_dead_lease, write_answer, effective, applied}
use Rattle.stm_outcome.specs.Outcome.{Done, chosen, with_changes, is_used_up, finished, unless, branch_outcome, outcome}
use Rattle.stm_outcome.proofs.Widening.{both_none}
use Rattle.stm_compaction.specs.Kept.{kept_done, kept_terms}
use Rattle.stm_compaction.proofs.Alike.{IsAlike, cut_is_alike}

-- ---- a branch over histories that show the same from a floor on

-- a read is of now, or of a revision from the floor on
abbrev IsShown : ℕ → Op → Type 0
IsShown floor (Get key rev) = nat_eq rev 0 ≡ false → floor ≤ rev
IsShown floor (Put key value lease) = Unit {0}
IsShown floor (Del key) = Unit {0}

abbrev AreShown : ℕ → List Op → Type 0
AreShown floor [] = Unit {0}
AreShown floor (op ∷ ops) = IsShown floor op × AreShown floor ops

-- a branch on its way, by what the keys are
abbrev on_its_way : (List ℕ → Option KeyState) → List Change → Progress
on_its_way state changes = record { state = state; changes = changes }

-- an answer to a read, by what it shows
abbrev shown_as : List ℕ → Option KeyState → ℕ → ℕ → ReadAnswer
shown_as key kv of_rev revision = record { key = key; kv = kv; of_rev = of_rev; revision = revision }

module _ (floor : ℕ) (g h : History) (alike : IsAlike floor g h) where
  begun_alike : begun g ≡ begun h
  begun_alike = ap (λ (state : List ℕ → Option KeyState). on_its_way state []) alike.keys_now

  made_alike : (p : Progress) (o : Option Change) → with_change_made g p o ≡ with_change_made h p o
  made_alike p o = grind (arith, nat_tests)

  progress_alike : (p : Progress) (ops : List Op) → progress_after g p ops ≡ progress_after h p ops
  progress_alike p [] = refl
  progress_alike p (op ∷ ops) = grind (arith, nat_tests, made_alike, progress_alike (with_change_made h p (change_made p op)) ops)

  pub changes_alike : (ops : List Op) → changes_of_branch g ops ≡ changes_of_branch h ops
  changes_alike ops = grind (arith, nat_tests, begun_alike, progress_alike)

  read_by : (p : Progress) (key : List ℕ) (rev : ℕ) (current : Bool) → (current ≡ false → floor ≤ rev) →
      cond current (shown_as key (p.state key) (carried g p.changes) (carried g p.changes)) (shown_as key (key_at g key rev) rev (carried g p.changes))
      ≡ cond current (shown_as key (p.state key) (carried h p.changes) (carried h p.changes)) (shown_as key (key_at h key rev) rev (carried h p.changes))
  read_by p key rev current shown = grind (arith, nat_tests)

  answer_alike : (p : Progress) (op : Op) → IsShown floor op → op_answer g p op ≡ op_answer h p op
  answer_alike p op shown = grind (arith, nat_tests, read_by)

  answers_from : (p : Progress) (ops : List Op) → AreShown floor ops → answers_after g p ops ≡ answers_after h p ops
  answers_from p [] shown = refl
  answers_from p (op ∷ ops) shown = grind (arith, nat_tests, answer_alike, made_alike, answers_from (with_change_made h p (change_made p op)) ops shown.1)

  pub answers_alike : (ops : List Op) → AreShown floor ops → answers_after g (begun g) ops ≡ answers_after h (begun h) ops
  answers_alike ops shown = ap (λ (p : Progress). answers_after g p ops) begun_alike ∙ answers_from (begun h) ops shown

  pub used_alike : (changes : List Change) → is_used_up g changes ≡ is_used_up h changes
  used_alike changes = grind (arith, nat_tests)

-- ---- changes of a history without the revisions below a floor

-- what a branch that is not refused comes to
abbrev done_as : Option FailedCompare → List OpAnswer → ℕ → History → Result Done Refusal
done_as failed answers revision h =
    Ok record { answer = record { succeeded = is_none failed; revision = revision; answers = answers; failed = failed }; history = h }

module _ (floor : ℕ) (h : History) (reached : floor ≤ now h) where
  pub changes_go_on : (changes : List Change) → with_changes (cut (floor - 1) h) changes ≡ cut (floor - 1) (with_changes h changes)
  changes_go_on changes = grind (arith, nat_tests, cut_goes_on)

  pub counter_goes_on : (changes : List Change) → now (with_changes (cut (floor - 1) h) changes) ≡ now (with_changes h changes)
  counter_goes_on changes = grind (arith, nat_tests, changes_go_on, cut_keeps_now)

  finished_by : (failed : Option FailedCompare) (changes : List Change) (answers : List OpAnswer) (used : Bool) →
      cond used (Err RevisionsUsedUp)
      (done_as failed answers (now (with_changes (cut (floor - 1) h) changes)) (with_changes (cut (floor - 1) h) changes))
      ≡ kept_done floor (cond used (Err RevisionsUsedUp) (done_as failed answers (now (with_changes h changes)) (with_changes h changes)))
  finished_by failed changes answers used = grind (arith, nat_tests, counter_goes_on, changes_go_on)

  pub finished_kept : (failed : Option FailedCompare) (changes : List Change) (answers : List OpAnswer) →
      finished (cut (floor - 1) h) failed changes answers ≡ kept_done floor (finished h failed changes answers)
  finished_kept failed changes answers = grind (arith, nat_tests, used_alike, finished_by, cut_is_alike)

-- ---- what is not refused leaves no fewer revisions

abbrev pub Grows : History → Result Done Refusal → Type 0
Grows h (Ok done) = now h ≤ now done.history
Grows h (Err cause) = Unit {0}

pub changes_grow : (h : History) (changes : List Change) → now h ≤ now (with_changes h changes)
changes_grow h changes = grind (arith, nat_tests)

finished_grows : (h : History) (failed : Option FailedCompare) (changes : List Change) (answers : List OpAnswer) (used : Bool) →
    Grows h (cond used (Err RevisionsUsedUp) (done_as failed answers (now (with_changes h changes)) (with_changes h changes)))
finished_grows h failed changes answers used = grind (arith, nat_tests, changes_grow)

unless_grows : (h : History) (refusal : Option Refusal) (o : Result Done Refusal) → Grows h o → Grows h (unless refusal o)
unless_grows h refusal o grows = grind (arith, nat_tests)

pub branch_grows : (terms : Terms) (failed : Option FailedCompare) (ops : List Op) → Grows terms.history (branch_outcome terms failed ops)
branch_grows terms failed ops = grind (arith, nat_tests, unless_grows, finished_grows)

pub outcome_grows : (terms : Terms) (txn : Txn) → Grows terms.history (outcome terms txn)
outcome_grows terms txn = grind (arith, nat_tests, unless_grows, branch_grows)

pub applied_grows : (terms : Terms) (writes : List Change) → Grows terms.history (applied terms writes)
applied_grows terms writes = grind (arith, nat_tests, finished_grows)

-- ---- refusals

pub not_below : (floor rev : ℕ) (positive below : Bool) → nat_lt 0 rev ≡ positive → nat_lt rev floor ≡ below → (positive && below) ≡ false →
    nat_eq rev 0 ≡ false → floor ≤ rev
not_below floor rev positive below is less none past = grind (arith, nat_tests, ltb-false, eq-eqb)

-- a read that is not refused is shown
read_shown : (counter floor rev : ℕ) → read_refusal counter floor rev ≡ None → nat_eq rev 0 ≡ false → floor ≤ rev
read_shown counter floor rev none = grind (arith, nat_tests, not_below)

is_shown : (terms : Terms) (op : Op) → op_refusal terms op ≡ None → IsShown terms.floor op
is_shown terms op none = grind (arith, nat_tests, read_shown)

are_shown : (terms : Terms) (ops : List Op) → branch_refusal terms ops ≡ None → AreShown terms.floor ops
are_shown terms [] none = tt
are_shown terms (op ∷ ops) none =
    let parts = both_none (op_refusal terms op) (branch_refusal terms ops) none in
    (is_shown terms op parts.0, are_shown terms ops parts.1)

module _ (terms : Terms) (reached : terms.floor ≤ now terms.history) where
  same_history : IsAlike terms.floor (cut (terms.floor - 1) terms.history) terms.history
  same_history = cut_is_alike terms.floor terms.history reached

  refusal_kept : (op : Op) → op_refusal (kept_terms terms) op ≡ op_refusal terms op
  refusal_kept (Get key rev) = ap (λ (n : ℕ). read_refusal n terms.floor rev) same_history.counter
  refusal_kept (Put key value lease) = refl
  refusal_kept (Del key) = refl

  refusals_kept : (ops : List Op) → branch_refusal (kept_terms terms) ops ≡ branch_refusal terms ops
  refusals_kept [] = refl
  refusals_kept (op ∷ ops) = grind (arith, nat_tests, refusal_kept, refusals_kept ops)

  -- ---- outcomes

  branch_by : (failed : Option FailedCompare) (ops : List Op) (refusal : Option Refusal) → branch_refusal terms ops ≡ refusal →
      unless refusal (finished (cut (terms.floor - 1) terms.history) failed (changes_of_branch (cut (terms.floor - 1) terms.history) ops)
      (answers_after (cut (terms.floor - 1) terms.history) (begun (cut (terms.floor - 1) terms.history)) ops))
      ≡ kept_done terms.floor (unless refusal (finished terms.history failed (changes_of_branch terms.history ops)
      (answers_after terms.history (begun terms.history) ops)))
  branch_by failed ops (Some cause) is = refl
  branch_by failed ops None is =
      let g : History = cut (terms.floor - 1) terms.history in
      let h : History = terms.history in
      ap (λ (changes : List Change). finished g failed changes (answers_after g (begun g) ops)) (changes_alike terms.floor g h same_history ops)
      ∙ ap (λ (answers : List OpAnswer). finished g failed (changes_of_branch h ops) answers)
      (answers_alike terms.floor g h same_history ops (are_shown terms ops is))
      ∙ finished_kept terms.floor h reached failed (changes_of_branch h ops) (answers_after h (begun h) ops)

  pub branch_kept : (failed : Option FailedCompare) (ops : List Op) →
      branch_outcome (kept_terms terms) failed ops ≡ kept_done terms.floor (branch_outcome terms failed ops)
  branch_kept failed ops = grind (arith, nat_tests, refusals_kept, branch_by)

  checked_by : (txn : Txn) (failed : Option FailedCompare) (fault : Option Refusal) →
      unless fault (branch_outcome (kept_terms terms) failed (chosen failed txn))
      ≡ kept_done terms.floor (unless fault (branch_outcome terms failed (chosen failed txn)))
  checked_by txn failed fault = grind (arith, nat_tests, branch_kept)

  pub outcome_kept : (txn : Txn) → outcome (kept_terms terms) txn ≡ kept_done terms.floor (outcome terms txn)
  outcome_kept txn =
      ap (λ (state : List ℕ → Option KeyState). unless (fault_of terms.limit txn)
      (branch_outcome (kept_terms terms) (first_failed state 0 txn.compares) (chosen (first_failed state 0 txn.compares) txn))) same_history.keys_now
      ∙ checked_by txn (first_failed (key_now terms.history) 0 txn.compares) (fault_of terms.limit txn)

  -- ---- writes of distinct keys

  applied_by : (dead : Bool) (changes : List Change) (answers : List OpAnswer) →
      cond dead (Err LeaseNotFound) (finished (cut (terms.floor - 1) terms.history) None changes answers)
      ≡ kept_done terms.floor (cond dead (Err LeaseNotFound) (finished terms.history None changes answers))
  applied_by dead changes answers = grind (arith, nat_tests, finished_kept)

  pub applied_kept : (writes : List Change) → applied (kept_terms terms) writes ≡ kept_done terms.floor (applied terms writes)
  applied_kept writes =
      let dead : Bool = list_any (is_on_dead_lease terms.is_live) writes in
      ap (λ (state : List ℕ → Option KeyState).
      cond dead (Err LeaseNotFound)
      (finished (cut (terms.floor - 1) terms.history) None (filter (changes_something state) writes) (map (write_answer state) writes)))
      same_history.keys_now
      ∙ applied_by dead (effective terms.history writes) (map (write_answer (key_now terms.history)) writes)
