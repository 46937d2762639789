-- A commit of which nothing broken is found, and one that is what its level promises.
use Rattle.std.proofs.Common.{◌≡◌, ◌≤◌, ◌∙◌, ℕ, Bool, true, false, not, cond, nat_eq, List, [], ◌∷◌, Option, Some, None, IfSome, All, option_map, refl, sym, ap, arith}
use Rattle.std.specs.Prelude.{find, if◌then◌else◌}
use Rattle.std.specs.List.{AllByRecursion}
use Rattle.std.specs.Option.{option_or}
use Rattle.std.proofs.lemmas.Bool.Decides.{nat_tests}
use Rattle.std.proofs.lemmas.List.Elements.{All-from_recursion, recursion_from_All}
use Rattle.std.proofs.lemmas.Bool.{not-false, ltb-false}
use Rattle.stm_history.specs.History.{History, key_now, mod_of, key_of}
use Rattle.stm_program.specs.declared.level.Level.{Level}
use Rattle.stm_program.specs.declared.level.Level.TheVariants.{SerializableSnapshot}
use Rattle.stm_program.specs.Levels.{is_comparing}
use Rattle.stm_history.specs.declared.change.Change.{Change}
use Rattle.stm_events.specs.declared.reply.CommittedRead.{CommittedRead}
use Rattle.stm_audit.specs.declared.anomaly.Anomaly.TheVariants.{DirtyRead}
use Rattle.stm_audit.specs.declared.finding.Finding.{Finding}
use Rattle.stm_audit.specs.Anomalies.{compares_writes, first_read, of_read, of_stale, of_write, is_put_above, stale_in, overwritten_in}
use Rattle.stm_audit.specs.Laws.{KeptWhereNothingIsBroken, NothingIsBrokenWhereKept}
use Rattle.stm_audit.specs.Reads.{is_so, is_untrue, is_stale}

-- ---- where none is found, none is so

none_found : {X : Type 0} (p : X → Bool) (Q : X → Type 0) (xs : List X) → ((x : X) → p x ≡ false → Q x) → find p xs ≡ None → AllByRecursion Q xs
none_found p Q [] turn is = tt
none_found p Q (x ∷ xs) turn is = by_test (p x) refl is (none_found p Q xs turn)
  where
    by_test : (b : Bool) → p x ≡ b → cond b (Some x) (find p xs) ≡ None → (find p xs ≡ None → AllByRecursion Q xs) → Q x × AllByRecursion Q xs
    by_test true e is rest = absurd (cc)
    by_test false e is rest = (turn x e, rest is)

none_is : {X : Type 0} (p : X → Bool) (Q : X → Type 0) (xs : List X) → ((x : X) → p x ≡ false → Q x) → find p xs ≡ None → All Q xs
none_is p Q xs turn is = All-from_recursion Q xs (none_found p Q xs turn is)

same_number : (m n : ℕ) → not (nat_eq m n) ≡ false → m ≡ n
same_number m n is = grind (arith, nat_tests)

-- ---- by what is found

broken : (b : Bool) → b ≡ true → b ≡ false → ⊥
broken b is is_not = let no : true ≡ false = sym is ∙ is_not in absurd (cc)

abbrev NotBroken : Option Finding → Type 0
NotBroken found = IfSome found (λ (f : Finding). f.is_broken ≡ false)

-- what is found first is not broken, so it is nothing that is broken
none_first : {A : Type 0} (f : A → Finding) (o : Option A) (rest : Option Finding) → ((a : A) → (f a).is_broken ≡ true) → NotBroken (option_or (option_map f o) rest)
    → o ≡ None
none_first f None rest all kept = refl
none_first f (Some a) rest all kept = absurd (broken (f a).is_broken (all a) kept)

-- and then neither is what is found next
past : {A : Type 0} (f : A → Finding) (o : Option A) (rest : Option Finding) → o ≡ None → NotBroken (option_or (option_map f o) rest) → NotBroken rest
past f None rest none kept = kept
past f (Some a) rest none kept = absurd (cc)

none_last : (h : History) (number first : ℕ) (o : Option Change) (b : Bool) → b ≡ true
    → NotBroken (if b then option_map (of_write h number first) o else None) → o ≡ None
none_last h number first None b is kept = refl
none_last h number first (Some w) true is kept = absurd (broken true refl kept)
none_last h number first (Some w) false is kept = absurd (cc)

compares_both : (level : Level) → compares_writes level ≡ true → is_comparing level ≡ true
compares_both SerializableSnapshot is = refl
compares_both _ is = absurd (cc)

pub kept_where_nothing_is_broken : KeptWhereNothingIsBroken
kept_where_nothing_is_broken h known made number t kept =
    let untrue : Option CommittedRead = find (is_untrue h known) t.reads in
    let stale : Option CommittedRead = find (is_stale h) t.reads in
    let after_untrue : Option Finding = option_or (stale_in h made number t) (overwritten_in h number t) in
    let all_so : find (is_untrue h known) t.reads ≡ None = none_first (of_read h number DirtyRead true) untrue after_untrue (λ a. refl) kept in
    let next : NotBroken after_untrue = past (of_read h number DirtyRead true) untrue after_untrue all_so kept in
    let none_stale : is_comparing t.level ≡ true → find (is_stale h) t.reads ≡ None =
    λ is. none_first (of_stale h made number t) stale (overwritten_in h number t) (λ a. is) next in
    record {
      so = none_is (is_untrue h known) (λ (a : CommittedRead). is_so h known a ≡ true) t.reads (λ a. not-false (is_so h known a)) all_so;
      unchanged = λ is.
          none_is (is_stale h) (λ (a : CommittedRead). a.mod_rev ≡ mod_of (key_now h a.key)) t.reads (λ a. same_number a.mod_rev (mod_of (key_now h a.key)))
          (none_stale is);
      unwritten = λ is.
          none_is (is_put_above h (first_read t.reads)) (λ (w : Change). mod_of (key_now h (key_of w)) ≤ first_read t.reads) t.writes
          (λ w. ltb-false (first_read t.reads) (mod_of (key_now h (key_of w))))
          (none_last h number (first_read t.reads) (find (is_put_above h (first_read t.reads)) t.writes) (compares_writes t.level) is
          (past (of_stale h made number t) stale (overwritten_in h number t) (none_stale (compares_both t.level is)) next));
    }

-- ---- where each is so, none is found that is not

found_none : {X : Type 0} (p : X → Bool) (Q : X → Type 0) (xs : List X) → ((x : X) → Q x → p x ≡ false) → AllByRecursion Q xs → find p xs ≡ None
found_none p Q [] turn all = refl
found_none p Q (x ∷ xs) turn all = rw (turn x all.0) (found_none p Q xs turn all.1)

is_none : {X : Type 0} (p : X → Bool) (Q : X → Type 0) (xs : List X) → ((x : X) → Q x → p x ≡ false) → All Q xs → find p xs ≡ None
is_none p Q xs turn all = found_none p Q xs turn (recursion_from_All Q xs all)

-- nothing comes first, or what does is not broken
then_rest : {A : Type 0} (f : A → Finding) (o : Option A) (rest : Option Finding) → o ≡ None → NotBroken rest → NotBroken (option_or (option_map f o) rest)
then_rest f None rest none kept = kept
then_rest f (Some a) rest none kept = absurd (cc)

else_rest : {A : Type 0} (f : A → Finding) (o : Option A) (rest : Option Finding) → ((a : A) → (f a).is_broken ≡ false) → NotBroken rest
    → NotBroken (option_or (option_map f o) rest)
else_rest f None rest all kept = kept
else_rest f (Some a) rest all kept = all a

at_last : (h : History) (number first : ℕ) (o : Option Change) (b : Bool) → (b ≡ true → o ≡ None)
    → NotBroken (if b then option_map (of_write h number first) o else None)
at_last h number first None true none = tt
at_last h number first o false none = tt
at_last h number first (Some w) true none = absurd (let no : Some w ≡ None = none refl in cc)

pub nothing_is_broken_where_kept : NothingIsBrokenWhereKept
nothing_is_broken_where_kept h known made number t kept =
    then_rest (of_read h number DirtyRead true) (find (is_untrue h known) t.reads) (option_or (stale_in h made number t) (overwritten_in h number t))
    (is_none (is_untrue h known) (λ (a : CommittedRead). is_so h known a ≡ true) t.reads (λ a so. ap not so) kept.so) (by_level (is_comparing t.level) refl)
  where
    -- no key that is compared was put above the first read
    last : NotBroken (overwritten_in h number t)
    last =
        at_last h number (first_read t.reads) (find (is_put_above h (first_read t.reads)) t.writes) (compares_writes t.level)
        (λ is. is_none (is_put_above h (first_read t.reads)) (λ (w : Change). mod_of (key_now h (key_of w)) ≤ first_read t.reads) t.writes
        (λ w below. grind (arith, nat_tests, below)) (kept.unwritten is))

    by_level : (b : Bool) → is_comparing t.level ≡ b → NotBroken (option_or (stale_in h made number t) (overwritten_in h number t))
    by_level true e =
        then_rest (of_stale h made number t) (find (is_stale h) t.reads) (overwritten_in h number t)
        (is_none (is_stale h) (λ (a : CommittedRead). a.mod_rev ≡ mod_of (key_now h a.key)) t.reads (λ a same. grind (arith, nat_tests, same)) (kept.unchanged e)) last
    by_level false e = else_rest (of_stale h made number t) (find (is_stale h) t.reads) (overwritten_in h number t) (λ a. e) last
