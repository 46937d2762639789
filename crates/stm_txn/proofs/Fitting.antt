-- The numbers of an answer fit.
use Rattle.std.proofs.Common.{◌≡◌, ℕ, ◌+◌, ◌≤◌, true, List, [], ◌∷◌, ◌++◌, Option, Some, None, refl, sym, ap, subst, arith}
use Rattle.std.specs.Prelude.{nat_le, Ok, IfSome}
use Rattle.std.proofs.lemmas.Bool.{leb-true, Decides.nat_tests}
use Rattle.stm_history.specs.declared.change.Change.{Change}
use Rattle.stm_history.specs.declared.change.Change.TheVariants.{Put as PutChange}
use Rattle.stm_history.specs.declared.key_state.KeyState.{KeyState}
use Rattle.stm_history.specs.declared.revisions.TheConstants.{HIGHEST_REVISION, HIGHEST_NUMBER}
use Rattle.stm_history.specs.History.{History, now, key_now, key_at, mod_of, change_of, after_change}
use Rattle.stm_history.specs.Laws.{AreSmallIn}
use Rattle.stm_history.proofs.HistoryLaws.{numbers_stay_small, last_revision_is_now, mod_is_reached}
use Rattle.stm_keys.specs.Keys.{HasSmallNumbers}
use Rattle.stm_keys.proofs.Numbers.{at_small}
use Rattle.stm_leases.specs.Live.{is_live_in, AreInRange}
use Rattle.stm_outcome.specs.declared.txn.Op.{Op}
use Rattle.stm_outcome.specs.declared.txn.Op.TheVariants.{Get, Put, Del}
use Rattle.stm_outcome.specs.declared.txn.Txn.{Txn}
use Rattle.stm_outcome.specs.declared.txn.Compare.{Compare}
use Rattle.stm_outcome.specs.declared.answer.FailedCompare.{FailedCompare}
use Rattle.stm_outcome.specs.declared.answer.TxnAnswer.{TxnAnswer}
use Rattle.stm_outcome.specs.Compares.{first_failed}
use Rattle.stm_outcome.specs.Branches.{carried, deletion_of, count_of, are_readable, changes_of_branch}
use Rattle.stm_outcome.specs.LookUps.{copy, read_copied, with_copied, answers_copied}
use Rattle.stm_outcome.specs.Outcome.{Done, with_changes, outcome}
use Rattle.stm_txn.specs.Standing.{Standing, transacted, ended, expired_in, terms_of}
use Rattle.stm_outcome.specs.declared.advance.Expired.{Expired}
use Rattle.stm_txn.proofs.Ending.{ended_is}
use Rattle.stm_outcome.specs.Numbers.{LeaseFits, ChangesFit, LeasesFit, StateFits, StatesFit, ExpiredFits, AllExpiredFit, ReadFits, OpsFit, AnswerFits}
use Rattle.stm_outcome.specs.Laws.{FailsAt}
use Rattle.stm_outcome.proofs.Folding.{answers_agree}
use Rattle.stm_txn.proofs.Running.{all_readable}
use Rattle.stm_txn.proofs.Bounding.{both, live_fits, NamesFit, names_fit, fits-push, deleted_fits, lease_at_fits, lease_copied_fits}
use Rattle.stm_outcome.proofs.Applying.{failed_has_its_place, chosen_apart, branch_run, IsDone, is_done}
use Rattle.stm_txn.proofs.Transacting.{failed_case}

-- the state of a key once the changes so far are made
pub changed_small : (h : History) (o : Option Change) (s : Option KeyState) → now h ≤ HIGHEST_REVISION →
    IfSome s (AreSmallIn h) →
    IfSome (after_change (now h + 1) o s) HasSmallNumbers
changed_small h o s bounded small = grind (arith, nat_tests)

abbrev pub IsSmallFor : History → Option KeyState → Type 0
IsSmallFor h s = IfSome s (AreSmallIn h)

copy_small : (h : History) (changes : List Change) (key : List ℕ) → now h ≤ HIGHEST_REVISION → IfSome (copy h changes key) HasSmallNumbers
copy_small h changes key bounded =
    changed_small h (change_of key changes) (key_now h key) bounded
    (subst (IsSmallFor h) (last_revision_is_now h key (now h) (omega arith)) (numbers_stay_small h key (now h)))

carried_small : (h : History) (changes : List Change) → now h ≤ HIGHEST_REVISION → carried h changes ≤ HIGHEST_NUMBER
carried_small h changes bounded = grind (arith, nat_tests)

-- both kinds of numbers of a state
state_case : (o : Option KeyState) → IfSome o HasSmallNumbers → IfSome o LeaseFits → IfSome o StateFits
state_case o small lease = grind (arith, nat_tests)

pub states_fit : (h : History) → now h ≤ HIGHEST_REVISION → LeasesFit h → StatesFit h
states_fit h bounded fits key revision = state_case (key_at h key revision) (at_small h key revision bounded) (lease_at_fits h key revision fits)

-- what a read answers
read_fits : (h : History) (changes : List Change) (key : List ℕ) (rev : ℕ) → now h ≤ HIGHEST_REVISION → LeasesFit h → ChangesFit changes →
    rev ≤ now h → ReadFits (read_copied h changes key rev)
read_fits h changes key rev bounded fits named reached = grind (arith, nat_tests, carried_small, state_case, copy_small, lease_copied_fits, states_fit)

one_at_most : (o : Option Change) → count_of o ≤ 1
one_at_most o = grind (arith, nat_tests)

answers_fit : (h : History) (changes : List Change) (ops : List Op) → now h ≤ HIGHEST_REVISION → LeasesFit h → ChangesFit changes →
    NamesFit ops → are_readable (now h) ops ≡ true → OpsFit (answers_copied h changes ops)
answers_fit h changes [] bounded fits named names readable = tt
answers_fit h changes (Get key rev ∷ ops) bounded fits named names readable =
    let parts : (nat_le rev (now h) ≡ true) × (are_readable (now h) ops ≡ true) = both (nat_le rev (now h)) (are_readable (now h) ops) readable in
    (read_fits h changes key rev bounded fits named (leb-true rev (now h) parts.0), answers_fit h changes ops bounded fits named names parts.1)
answers_fit h changes (Put key value lease ∷ ops) bounded fits named names readable = (
  tt,
  answers_fit h (changes ++ PutChange key value lease ∷ []) ops bounded fits (fits-push changes (PutChange key value lease) named names.0)
      names.1 readable,
)
answers_fit h changes (Del key ∷ ops) bounded fits named names readable = (
  one_at_most (deletion_of key (copy h changes key)),
  answers_fit h (with_copied changes (deletion_of key (copy h changes key))) ops bounded fits (deleted_fits changes key (copy h changes key) named)
      names readable,
)

counter_fits : (h : History) (changes : List Change) → now h ≤ HIGHEST_REVISION → now (with_changes h changes) ≤ HIGHEST_NUMBER
counter_fits h changes bounded = grind (arith, nat_tests)

failed_fits : (h : History) (cs : List Compare) (failed : Option FailedCompare) → now h ≤ HIGHEST_REVISION → first_failed (key_now h) 0 cs ≡ failed →
    IfSome failed (λ (f : FailedCompare). f.mod_rev ≤ HIGHEST_NUMBER)
failed_fits h cs None bounded is = tt
failed_fits h cs (Some f) bounded is =
    let at : FailsAt (key_now h) cs f = failed_has_its_place (key_now h) cs f is in
    let reported : f.mod_rev ≡ mod_of (key_now h at.compare.key) = at.reported in
    let reached : mod_of (key_now h at.compare.key) ≤ now h = mod_is_reached h.opening at.compare.key h.revisions in
    omega arith

done_fits : (s : Standing) (txn : Txn) (done : Done) → now s.history ≤ HIGHEST_REVISION → LeasesFit s.history → AreInRange s.live →
    outcome (terms_of s) txn ≡ Ok done → AnswerFits done.answer
done_fits s txn done bounded fits in_range is =
    let h : History = s.history in
    let came : IsDone (terms_of s) txn done = is_done (terms_of s) txn done is in
    let ops : List Op = branch_run h txn in
    subst AnswerFits (ap (λ (d : Done). d.answer) came.made) (record {
      revision = counter_fits h (changes_of_branch h ops) bounded;
      answers = subst OpsFit (sym (answers_agree h ops (chosen_apart (terms_of s).limit txn (first_failed (key_now h) 0 txn.compares) came.right)))
          (answers_fit h [] ops bounded fits tt (names_fit s ops in_range came.allowed) (all_readable (terms_of s) ops came.allowed));
      failed = failed_fits h txn.compares (first_failed (key_now h) 0 txn.compares) bounded refl;
    })

pub numbers_fit : (s next : Standing) (txn : Txn) (a : TxnAnswer) → now s.history ≤ HIGHEST_REVISION → LeasesFit s.history → AreInRange s.live →
    transacted s txn ≡ Ok record { answer = a; next = next } → AnswerFits a
numbers_fit s next txn a bounded fits in_range is =
    let found : (done : Done) × (outcome (terms_of s) txn ≡ Ok done) × (done.answer ≡ a) = failed_case s (outcome (terms_of s) txn) a next is in
    subst AnswerFits found.2 (done_fits s txn found.0 bounded fits in_range found.1)

-- a lease that expired, and one more of them
pub expired_fits : (s next : Standing) (id : ℕ) → now s.history ≤ HIGHEST_REVISION → AreInRange s.live → is_live_in s.live id ≡ true →
    ended s id ≡ Ok next → ExpiredFits (expired_in id next)
expired_fits s next id bounded in_range live is = grind (arith, nat_tests, live_fits, ended_is, counter_fits)

pub AllExpiredFit-push : (es : List Expired) (e : Expired) → AllExpiredFit es → ExpiredFits e → AllExpiredFit (es ++ e ∷ [])
AllExpiredFit-push [] e before one = (one, tt)
AllExpiredFit-push (x ∷ xs) e before one = (before.0, AllExpiredFit-push xs e before.1 one)
