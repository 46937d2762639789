-- Histories that agree on the touched keys, and what commits come to over them.
use Rattle.std.proofs.Common.{◌≡◌, ℕ, ◌+◌, ◌≤◌, Bool, true, cond, List, [], ◌∷◌, ◌++◌, map, filter, Option, None, Result, Ok, Err}
use Rattle.std.proofs.Common.{refl, sym, ◌∙◌, ap, subst, arith}
use Rattle.std.specs.List.{AllByRecursion, list_any}
use Rattle.std.proofs.lemmas.Bool.{cases_lt, Decides.nat_tests}
use Rattle.stm_history.specs.declared.change.Change.{Change}
use Rattle.stm_history.specs.declared.change.Change.TheVariants.{Put, Del}
use Rattle.stm_history.specs.declared.key_state.KeyState.{KeyState}
use Rattle.stm_history.specs.declared.key_state.ReadAnswer.{ReadAnswer}
use Rattle.stm_history.specs.History.{History, now, key_at, key_now, key_of, add_revision}
use Rattle.stm_history.proofs.HistoryLaws.{older_revisions_stay, one_more_revision, last_revision_is_now}
use Rattle.stm_program.specs.declared.level.Level.{Level}
use Rattle.stm_program.specs.declared.level.Level.TheVariants.{SerializableSnapshot, Serializable, RepeatableReads, ReadCommitted}
use Rattle.stm_program.specs.Writes.{latest_writes}
use Rattle.stm_steps.specs.declared.run.Run.{Run}
use Rattle.stm_leases.specs.Live.{is_live_in}
use Rattle.stm_outcome.specs.declared.answer.FailedCompare.{FailedCompare}
use Rattle.stm_outcome.specs.declared.answer.OpAnswer.{OpAnswer}
use Rattle.stm_outcome.specs.declared.refusal.Refusal.{Refusal}
use Rattle.stm_outcome.specs.declared.refusal.Refusal.TheVariants.{TooManyOps, LeaseNotFound, RevisionsUsedUp}
use Rattle.stm_outcome.specs.declared.txn.Compare.{Compare}
use Rattle.stm_outcome.specs.Commits.{is_on_dead_lease, effective, applied, write_answer}
use Rattle.stm_outcome.specs.Compares.{first_failed}
use Rattle.stm_outcome.specs.Effect.{changes_something}
use Rattle.stm_outcome.specs.Outcome.{Done, with_changes, is_used_up, answer_of, finished}
use Rattle.stm_txn.specs.Standing.{Standing, terms_of}
use Rattle.stm_compile.specs.CommitTxn.{first_carried, is_as_read, is_unmodified, compares_of}
use Rattle.stm_compile.specs.Committed.{sends_too_many, conflict_now, judged, committed}
use Rattle.stm_narrow.specs.Touching.{IsTouched, WritesWithin}
use Rattle.stm_narrow.specs.Agree.{SameSince, SameStore, IsReadSince}

-- ---- lists

pub mapped_same : {A B : Type 0} (f g : A → B) (xs : List A) → AllByRecursion (λ x. f x ≡ g x) xs → map f xs ≡ map g xs
mapped_same f g [] same = refl
mapped_same {A} {B} f g (x ∷ xs) same = ap (λ (y : B). y ∷ map f xs) same.0 ∙ ap (λ (ys : List B). g x ∷ ys) (mapped_same f g xs same.1)

pub all_weaker : {A : Type 0} (P Q : A → Type 0) (xs : List A) → ((x : A) → P x → Q x) → AllByRecursion P xs → AllByRecursion Q xs
all_weaker P Q [] weaker all = tt
all_weaker P Q (x ∷ xs) weaker all = (weaker x all.0, all_weaker P Q xs weaker all.1)

pub all_of_map : {A B : Type 0} (P : B → Type 0) (f : A → B) (xs : List A) → AllByRecursion (λ x. P (f x)) xs → AllByRecursion P (map f xs)
all_of_map P f [] all = tt
all_of_map P f (x ∷ xs) all = (all.0, all_of_map P f xs all.1)

all_both : {A : Type 0} (P : A → Type 0) (xs ys : List A) → AllByRecursion P xs → AllByRecursion P ys → AllByRecursion P (xs ++ ys)
all_both P [] ys first second = second
all_both P (x ∷ xs) ys first second = (first.0, all_both P xs ys first.1 second)

-- ---- histories

module _ (touched : List ℕ → Bool) (since : ℕ) where
  pub turned_history : (g h : History) → SameSince touched since g h → SameSince touched since h g
  turned_history g h same = grind (arith, nat_tests)

  pub same_now : (g h : History) → SameSince touched since g h → (key : List ℕ) → IsTouched touched key → key_now g key ≡ key_now h key
  same_now g h same key is =
      let now_is : now g ≡ now h = same.now in
      sym (last_revision_is_now g key (now g) (omega arith)) ∙ same.keys key is (now g) same.reached ∙ last_revision_is_now h key (now g) (omega arith)

  -- one more revision, the same in both
  more_key : (g h : History) (changes : List Change) → SameSince touched since g h → (key : List ℕ) → IsTouched touched key → (r : ℕ) → since ≤ r →
      key_at (add_revision g changes) key r ≡ key_at (add_revision h changes) key r
  more_key g h changes same key is r later = grind (arith, nat_tests, cases_lt, last_revision_is_now, one_more_revision, same_now, older_revisions_stay)

  pub more_same : (g h : History) (changes : List Change) → SameSince touched since g h → SameSince touched since (with_changes g changes) (with_changes h changes)
  more_same g h changes same = grind (arith, nat_tests, more_key)

-- ---- compares

pub same_failed : (s t : List ℕ → Option KeyState) (index : ℕ) (cs : List Compare) → AllByRecursion (λ (c : Compare). s c.key ≡ t c.key) cs →
    first_failed s index cs ≡ first_failed t index cs
same_failed s t index [] same = refl
same_failed s t index (c ∷ cs) same = grind (arith, nat_tests, same_failed s t (index + 1) cs same.1)

pub key_within : (touched : List ℕ → Bool) (leased : ℕ → Bool) (w : Change) → WritesWithin touched leased w → IsTouched touched (key_of w)
key_within touched leased w is = grind (arith, nat_tests)

compares_within : (touched : List ℕ → Bool) (leased : ℕ → Bool) (since : ℕ) (level : Level) (reads : List ReadAnswer) (writes : List Change) →
    AllByRecursion (IsReadSince touched since) reads → AllByRecursion (WritesWithin touched leased) writes →
    AllByRecursion (λ (c : Compare). IsTouched touched c.key) (compares_of level reads writes)
compares_within touched leased since level reads writes are_read are_written = by level
  where
    those_read : AllByRecursion (λ (c : Compare). IsTouched touched c.key) (map is_as_read reads)
    those_read =
        all_of_map (λ (c : Compare). IsTouched touched c.key) is_as_read reads
        (all_weaker (IsReadSince touched since) (λ (a : ReadAnswer). IsTouched touched a.key) reads (λ a is. is.0) are_read)

    by : (level : Level) → AllByRecursion (λ (c : Compare). IsTouched touched c.key) (compares_of level reads writes)
    by SerializableSnapshot =
        all_both (λ (c : Compare). IsTouched touched c.key) (map is_as_read reads) (map (is_unmodified (first_carried reads)) writes) those_read
        (all_of_map (λ (c : Compare). IsTouched touched c.key) (is_unmodified (first_carried reads)) writes
        (all_weaker (WritesWithin touched leased) (λ (w : Change). IsTouched touched (key_of w)) writes (key_within touched leased) are_written))
    by Serializable = those_read
    by RepeatableReads = those_read
    by ReadCommitted = tt

-- ---- writes

something_same : (s t : List ℕ → Option KeyState) (w : Change) → s (key_of w) ≡ t (key_of w) → changes_something s w ≡ changes_something t w
something_same s t w same = grind (arith, nat_tests)

filtered_same : (p q : Change → Bool) (ws : List Change) → AllByRecursion (λ w. p w ≡ q w) ws → filter p ws ≡ filter q ws
filtered_same p q [] same = refl
filtered_same p q (w ∷ ws) same = grind (arith, nat_tests, filtered_same p q ws same.1)

dead_same : (one other : ℕ → Bool) (touched : List ℕ → Bool) (leased : ℕ → Bool) → ((id : ℕ) → leased id ≡ true → one id ≡ other id) → (ws : List Change) →
    AllByRecursion (WritesWithin touched leased) ws → list_any (is_on_dead_lease one) ws ≡ list_any (is_on_dead_lease other) ws
dead_same one other touched leased same [] all = refl
dead_same one other touched leased same (Put key value lease ∷ ws) all = grind (arith, nat_tests, dead_same one other touched leased same ws all.1)
dead_same one other touched leased same (Del key ∷ ws) all = dead_same one other touched leased same ws all.1

used_same : (g h : History) (changes : List Change) → now g ≡ now h → is_used_up g changes ≡ is_used_up h changes
used_same g h changes same = grind (arith, nat_tests)

-- ---- a commit

module _ (touched : List ℕ → Bool) (leased : ℕ → Bool) (since : ℕ) where
  -- the same refusal, or the same compare that failed and histories that agree
  abbrev pub SameDone : Result Done Refusal → Result Done Refusal → Type 0
  SameDone (Ok one) (Ok other) = (one.answer.failed ≡ other.answer.failed) × SameSince touched since one.history other.history
  SameDone (Ok one) (Err cause) = ⊥
  SameDone (Err cause) (Ok other) = ⊥
  SameDone (Err one) (Err other) = one ≡ other

  done_by : (b : Bool) (cause : Refusal) (x y : Result Done Refusal) → SameDone x y → SameDone (cond b (Err cause) x) (cond b (Err cause) y)
  done_by b cause x y same = grind (arith, nat_tests)

  pub finished_same : (g h : History) (failed : Option FailedCompare) (changes : List Change) (answers others : List OpAnswer) → SameSince touched since g h →
      SameDone (finished g failed changes answers) (finished h failed changes others)
  finished_same g h failed changes answers others same =
      subst (λ b. SameDone (finished g failed changes answers) (cond b (Err RevisionsUsedUp)
      (Ok record { answer = answer_of h failed changes others; history = with_changes h changes })))
      (used_same g h changes same.now)
      (done_by (is_used_up g changes) RevisionsUsedUp (Ok record { answer = answer_of g failed changes answers; history = with_changes g changes })
      (Ok record { answer = answer_of h failed changes others; history = with_changes h changes }) (refl, more_same touched since g h changes same))

  applied_same : (s t : Standing) (ws : List Change) → SameStore touched leased since s t → AllByRecursion (WritesWithin touched leased) ws →
      SameDone (applied (terms_of s) ws) (applied (terms_of t) ws)
  applied_same s t ws same all =
      let changed : effective s.history ws ≡ effective t.history ws =
      filtered_same (changes_something (key_now s.history)) (changes_something (key_now t.history)) ws
      (all_weaker (WritesWithin touched leased) (λ w. changes_something (key_now s.history) w ≡ changes_something (key_now t.history) w) ws
      (λ w is. something_same (key_now s.history) (key_now t.history) w
      (same_now touched since s.history t.history same.history (key_of w) (key_within touched leased w is))) all) in
      subst (λ b. SameDone (applied (terms_of s) ws) (cond b (Err LeaseNotFound) (finished t.history None (effective t.history ws) (map (write_answer (key_now t.history)) ws))))
      (dead_same (is_live_in s.live) (is_live_in t.live) touched leased same.live ws all)
      (done_by (list_any (is_on_dead_lease (is_live_in s.live)) ws) LeaseNotFound
      (finished s.history None (effective s.history ws) (map (write_answer (key_now s.history)) ws))
      (finished t.history None (effective t.history ws) (map (write_answer (key_now t.history)) ws))
      (subst (λ changes. SameDone (finished s.history None (effective s.history ws) (map (write_answer (key_now s.history)) ws))
      (finished t.history None changes (map (write_answer (key_now t.history)) ws))) changed
      (finished_same s.history t.history None (effective s.history ws) _ _ same.history)))

  judged_same : (s t : Standing) (level : Level) (reads : List ReadAnswer) (run : Run) (o : Option FailedCompare) → SameStore touched leased since s t →
      AllByRecursion (WritesWithin touched leased) (latest_writes run.writes) → SameDone (judged (terms_of s) level reads run o) (judged (terms_of t) level reads run o)
  judged_same s t level reads run o same all = grind (arith, nat_tests, applied_same)

  pub committed_same : (s t : Standing) (level : Level) (reads : List ReadAnswer) (run : Run) → SameStore touched leased since s t →
      AllByRecursion (IsReadSince touched since) reads → AllByRecursion (WritesWithin touched leased) (latest_writes run.writes) →
      SameDone (committed (terms_of s) level reads run) (committed (terms_of t) level reads run)
  committed_same s t level reads run same are_read all =
      let ws : List Change = latest_writes run.writes in
      let conflict : conflict_now s.history level reads ws ≡ conflict_now t.history level reads ws =
      same_failed (key_now s.history) (key_now t.history) 0 (compares_of level reads ws)
      (all_weaker (λ (c : Compare). IsTouched touched c.key) (λ (c : Compare). key_now s.history c.key ≡ key_now t.history c.key) (compares_of level reads ws)
      (λ c is. same_now touched since s.history t.history same.history c.key is) (compares_within touched leased since level reads ws are_read all)) in
      subst (λ n. SameDone (committed (terms_of s) level reads run)
      (cond (sends_too_many n level reads ws) (Err TooManyOps) (judged (terms_of t) level reads run (conflict_now t.history level reads ws)))) same.limit
      (done_by (sends_too_many s.limit level reads ws) TooManyOps (judged (terms_of s) level reads run (conflict_now s.history level reads ws))
      (judged (terms_of t) level reads run (conflict_now t.history level reads ws))
      (subst (λ o. SameDone (judged (terms_of s) level reads run (conflict_now s.history level reads ws)) (judged (terms_of t) level reads run o)) conflict
      (judged_same s t level reads run (conflict_now s.history level reads ws) same all)))
