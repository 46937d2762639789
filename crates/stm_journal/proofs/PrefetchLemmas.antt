-- What a failed commit read again may be prefetched for the next attempt.
use Rattle.std.proofs.Common.{◌≡◌, ◌≤◌, ℕ, false, List, [], ◌∷◌, map, None, refl, subst, arith}
use Rattle.std.specs.Prelude.{Option, IfSome, bytes_eq}
use Rattle.std.specs.List.{IsDistinct, AllByRecursion}
use Rattle.std.proofs.lemmas.List.Elements.{All-from_recursion}
use Rattle.std.proofs.lemmas.Bool.Decides.{nat_tests}
use Rattle.stm_history.specs.declared.key_state.KeyState.{KeyState}
use Rattle.stm_history.specs.declared.key_state.ReadAnswer.{ReadAnswer}
use Rattle.stm_history.specs.declared.revisions.TheConstants.{HIGHEST_REVISION}
use Rattle.stm_history.specs.History.{History, now}
use Rattle.stm_history.proofs.HistoryLaws.{last_revision_is_now}
use Rattle.stm_program.specs.declared.level.Level.{Level}
use Rattle.stm_program.proofs.WriteLemmas.{bytes_eq-flip}
use Rattle.stm_outcome.specs.Numbers.{StateFits, StatesFit, ReadFits}
use Rattle.stm_compile.specs.Answers.{answer_in, answer_now}
use Rattle.stm_compile.specs.CommitTxn.{reread_keys}
use Rattle.stm_attempt.specs.Known.{HaveDistinctKeys}
use Rattle.stm_attempt.specs.Fetches.{AllShow, ShowOneRevision}
use Rattle.stm_journal.specs.Prefetch.{MayBePrefetched}

-- ---- of keys that differ

none_of : (h : History) (key : List ℕ) (keys : List (List ℕ)) → AllByRecursion (λ k. bytes_eq key k ≡ false) keys →
    answer_in key (map (answer_now h) keys) ≡ None
none_of h key [] others = refl
none_of h key (k ∷ keys) others = grind (arith, nat_tests, bytes_eq-flip, none_of h key keys others.1)

distinct_now : (h : History) (keys : List (List ℕ)) → IsDistinct bytes_eq keys → HaveDistinctKeys (map (answer_now h) keys)
unfolding IsDistinct
distinct_now h [] distinct = tt
distinct_now h (k ∷ keys) distinct = (none_of h k keys distinct.0, distinct_now h keys distinct.1)

-- ---- of one revision

all_now : (h : History) (keys : List (List ℕ)) → AllShow (now h) (map (answer_now h) keys)
all_now h [] = tt
all_now h (k ∷ keys) = (refl, all_now h keys)

one_now : (h : History) (keys : List (List ℕ)) → ShowOneRevision (map (answer_now h) keys)
one_now h keys = grind (arith, nat_tests, all_now)

-- ---- numbers

now_fits : (h : History) (key : List ℕ) → now h ≤ HIGHEST_REVISION → StatesFit h → ReadFits (answer_now h key)
now_fits h key bounded fit = record {
  of_rev = omega arith;
  revision = omega arith;
  state = subst (λ (kv : Option KeyState). IfSome kv StateFits) (last_revision_is_now h key (now h) (omega arith)) (fit key (now h));
}

all_fit : (h : History) (keys : List (List ℕ)) → now h ≤ HIGHEST_REVISION → StatesFit h → AllByRecursion ReadFits (map (answer_now h) keys)
all_fit h [] bounded fit = tt
all_fit h (key ∷ keys) bounded fit = (now_fits h key bounded fit, all_fit h keys bounded fit)

-- what was read again, where no two keys were alike
pub may_be_prefetched : (h : History) (level : Level) (reads : List ReadAnswer) → IsDistinct bytes_eq (map (λ (a : ReadAnswer). a.key) reads) →
    now h ≤ HIGHEST_REVISION → StatesFit h → MayBePrefetched (map (answer_now h) (reread_keys level reads))
unfolding IsDistinct
may_be_prefetched h level reads distinct bounded fit = grind (arith, nat_tests, distinct_now, All-from_recursion, all_fit, one_now)
