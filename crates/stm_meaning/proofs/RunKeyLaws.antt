-- The keys of a run are not empty, and those that it read are known to its look-up and stand once.
use Rattle.std.proofs.Common.{◌≡◌, ℕ, ◌<◌, Bool, true, false, not, cond, List, [], ◌∷◌, ◌++◌, length, map, filter, refl, sym, ◌∙◌, ap, subst, All, arith}
use Rattle.std.specs.Prelude.{bytes_eq, Option, None, Some, IsSome, is_some, ◌||◌}
use Rattle.std.specs.List.{IsDistinct, AllByRecursion, list_any}
use Rattle.std.proofs.lemmas.List.Elements.{All-nil, All-push, All-weaker, All-from_recursion, recursion_from_All}
use Rattle.std.proofs.lemmas.Bool.Decides.{nat_tests}
use Rattle.stm_program.specs.Syntax.{Block}
use Rattle.stm_history.specs.declared.change.Change.{Change}
use Rattle.stm_program.specs.Writes.{latest_writes, each_once}
use Rattle.stm_program.proofs.WriteLemmas.{bytes_eq-flip}
use Rattle.stm_program.proofs.LatestLemmas.{latest_writes-in_order}
use Rattle.stm_steps.specs.Answer.{Answer, Lookup}
use Rattle.stm_history.specs.History.{key_of}
use Rattle.stm_meaning.specs.Writes.{last_write}
use Rattle.stm_steps.specs.Session.{Session, fresh, with_key}
use Rattle.stm_steps.specs.Outcome.{Outcome}
use Rattle.stm_steps.specs.Meaning.{get_answered, rev_answered, get_of, get_key, rev_key, answered, run_over}
use Rattle.stm_steps.specs.declared.run.Run.{Run}
use Rattle.stm_steps.specs.declared.run.Answered.TheVariants.{Ended}
use Rattle.stm_meaning.specs.RunKeys.{KeysAreNotEmpty, ReadsAreKnown}
use Rattle.stm_meaning.proofs.KeepLemmas.{session_of, StepsKeep, kept_by_run}

-- ---- a key more

neither : (b c : Bool) → (b || c) ≡ false → (b ≡ false) × (c ≡ false)
neither b c h = grind (arith, nat_tests)

apart-push : (k key : List ℕ) (ks : List (List ℕ)) → bytes_eq key k ≡ false → AllByRecursion (λ l. bytes_eq k l ≡ false) ks →
    AllByRecursion (λ l. bytes_eq k l ≡ false) (ks ++ key ∷ [])
apart-push k key [] apart h = (bytes_eq-flip k key ∙ apart, tt)
apart-push k key (l ∷ ks) apart h = (h.0, apart-push k key ks apart h.1)

distinct-push : (key : List ℕ) (ks : List (List ℕ)) → list_any (bytes_eq key) ks ≡ false → IsDistinct bytes_eq ks → IsDistinct bytes_eq (ks ++ key ∷ [])
unfolding IsDistinct
distinct-push key [] new h = (tt, tt)
distinct-push key (k ∷ ks) new h =
    let apart = neither (bytes_eq key k) (list_any (bytes_eq key) ks) new in
    (apart-push k key ks apart.0 h.0, distinct-push key ks apart.1 h.1)

module _ (Q : List ℕ → Type 0) where
  abbrev pub AreOnce : List (List ℕ) → Type 0
  AreOnce keys = All Q keys × IsDistinct bytes_eq keys

  -- a key of which Q holds joins the keys, each once
  with_key-once : (key : List ℕ) (keys : List (List ℕ)) → Q key → AreOnce keys → AreOnce (with_key key keys)
  with_key-once key keys q h = by (list_any (bytes_eq key) keys) refl
    where
      by : (b : Bool) → list_any (bytes_eq key) keys ≡ b → AreOnce (cond b keys (keys ++ key ∷ []))
      by true e = h
      by false e = (All-push Q keys key h.0 q, distinct-push key keys e h.1)

-- ---- the property that the steps keep

module _ (look : Lookup) where
  abbrev IsReadable : List ℕ → Type 0
  IsReadable key = (0 < length key) × IsSome (look key)

  abbrev AreRight : List Change → List (List ℕ) → Type 0
  AreRight writes reads = All (λ w. 0 < length (key_of w)) writes × AreOnce IsReadable reads

  abbrev IsRight : Session → Type 0
  IsRight s = AreRight s.writes s.reads

  read_kept : (key : List ℕ) (s : Session) → 0 < length key → IsSome (look key) → IsRight s → AreOnce IsReadable (with_key key s.reads)
  read_kept key s long known h = with_key-once IsReadable key s.reads (long, known) h.1

  get_answered-right : (key : List ℕ) (a : Option Answer) (s : Session) → look key ≡ a → 0 < length key → IsRight s →
      IsRight (session_of (get_answered key a s))
  get_answered-right key None s is long h = h
  get_answered-right key (Some a) s is long h = (h.0, read_kept key s long (ap is_some is) h)

  rev_answered-right : (key : List ℕ) (a : Option Answer) (s : Session) → look key ≡ a → 0 < length key → IsRight s →
      IsRight (session_of (rev_answered key a s))
  rev_answered-right key None s is long h = h
  rev_answered-right key (Some a) s is long h = (h.0, read_kept key s long (ap is_some is) h)

  get_of-right : (key : List ℕ) (w : Option Change) (s : Session) → 0 < length key → IsRight s → IsRight (session_of (get_of look key w s))
  get_of-right key (Some w) s long h = h
  get_of-right key None s long h = get_answered-right key (look key) s refl long h

  get-right : (key : List ℕ) (s : Session) → 0 < length key → IsRight s → IsRight (session_of (get_key look key s))
  unfolding get_key
  get-right key s long h = get_of-right key (last_write key s.writes) s long h

  rev-right : (key : List ℕ) (s : Session) → 0 < length key → IsRight s → IsRight (session_of (rev_key look key s))
  unfolding rev_key
  rev-right key s long h = rev_answered-right key (look key) s refl long h

  steps_right : StepsKeep look IsRight
  steps_right = record {
    set = λ v x s h. h;
    turn = λ s h. h;
    emit = λ x s h. h;
    write = λ w s long h. (All-push (λ v. 0 < length (key_of v)) s.writes w h.0 long, h.1);
    get = get-right;
    rev = rev-right;
  }

  ended_right : (o : Outcome (Unit {0})) (run : Run) → answered o ≡ Ended run → IsRight (session_of o) → AreRight run.writes run.reads
  ended_right o run e h = grind (arith, nat_tests)

  right : (program : Block) (run : Run) → run_over look program ≡ Ended run → AreRight run.writes run.reads
  unfolding fresh IsDistinct run_over
  right program run e = grind (arith, nat_tests, ended_right, kept_by_run, steps_right, All-nil)

-- ---- the keys of the latest writes

module _ (Q : List ℕ → Type 0) where
  kept_if : (b : Bool) (k : List ℕ) (ks : List (List ℕ)) → Q k → AllByRecursion Q ks → AllByRecursion Q (cond b (k ∷ ks) ks)
  kept_if b k ks first rest = grind (arith, nat_tests)

  filtered : (test : List ℕ → Bool) (ks : List (List ℕ)) → AllByRecursion Q ks → AllByRecursion Q (filter test ks)
  filtered test [] all = tt
  filtered test (k ∷ ks) all = kept_if (test k) k (filter test ks) all.0 (filtered test ks all.1)

  once : (ks : List (List ℕ)) → AllByRecursion Q ks → AllByRecursion Q (each_once ks)
  once [] all = tt
  once (k ∷ ks) all = (all.0, filtered (λ other. not (bytes_eq k other)) (each_once ks) (once ks all.1))

  keys_of_all : (ws : List Change) → AllByRecursion (λ w. Q (key_of w)) ws → AllByRecursion Q (map key_of ws)
  keys_of_all [] all = tt
  keys_of_all (w ∷ ws) all = (all.0, keys_of_all ws all.1)

  all_of_keys : (ws : List Change) → AllByRecursion Q (map key_of ws) → AllByRecursion (λ w. Q (key_of w)) ws
  all_of_keys [] all = tt
  all_of_keys (w ∷ ws) all = (all.0, all_of_keys ws all.1)

  -- what holds of all written keys holds of those of the latest writes
  latest_keys : (ws : List Change) → All (λ w. Q (key_of w)) ws → All (λ w. Q (key_of w)) (latest_writes ws)
  latest_keys ws all =
      All-from_recursion (λ w. Q (key_of w)) (latest_writes ws)
      (all_of_keys (latest_writes ws)
      (subst (λ ks. AllByRecursion Q ks) (sym (latest_writes-in_order ws))
      (once (map key_of ws) (keys_of_all ws (recursion_from_All (λ w. Q (key_of w)) ws all)))))

-- ---- the laws

pub keys_are_not_empty : KeysAreNotEmpty
keys_are_not_empty look program run e =
    let h = right look program run e in
    let read = All-weaker (IsReadable look) (λ key. 0 < length key) (λ key r. r.0) run.reads h.1.0 in
    (h.0, read, latest_keys (λ key. 0 < length key) run.writes h.0)

pub reads_are_known : ReadsAreKnown
reads_are_known look program run e =
    let h = right look program run e in
    (All-weaker (IsReadable look) (λ key. IsSome (look key)) (λ key r. r.1) run.reads h.1.0, h.1.1)
