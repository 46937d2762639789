-- The list of a program: when it is due, what is taken for it, and what going on makes of what an attempt knows.
use Rattle.std.proofs.Common.{◌≡◌, inl, inr, ◌⊎◌, ◌<◌, ◌≤◌, ℕ, zero, suc, Bool, true, false, cond, List, [], ◌∷◌, ◌++◌, length, map, refl, sym, ◌∙◌}
use Rattle.std.proofs.Common.{ap, subst, arith, append_assoc}
use Rattle.std.specs.Prelude.{bytes_eq, ◌||◌, nat_eq, nat_lt, Option, None, Some, IfSome, option_map, take}
use Rattle.std.specs.List.{AllByRecursion, list_any}
use Rattle.std.proofs.lemmas.List.Elements.{recursion_from_All}
use Rattle.std.proofs.lemmas.Slice.Eq.{bytes_eq-Decides}
use Rattle.std.proofs.lemmas.Bool.Decides.{nat_tests}
use Rattle.stm_history.specs.declared.key_state.ReadAnswer.{ReadAnswer}
use Rattle.stm_program.specs.Syntax.{ProgramTree}
use Rattle.stm_program.specs.declared.limits.TheConstants.{MAX_DEPTH, MAX_NODES, MAX_TEXT}
use Rattle.stm_program.specs.Limits.{BlockFits, is_no_key, has_repeat, Fits}
use Rattle.stm_program.specs.declared.level.Level.{Level}
use Rattle.stm_program.proofs.WriteLemmas.{bytes_eq-flip}
use Rattle.stm_program.proofs.ListLemmas.{list_parts, list_of_program}
use Rattle.stm_outcome.specs.Commits.{AreNamed}
use Rattle.stm_compile.specs.Answers.{answer_in}
use Rattle.stm_attempt.specs.declared.next.Next.{Next}
use Rattle.stm_attempt.specs.declared.wanted.Wanted.{Wanted}
use Rattle.stm_attempt.specs.Wanted.{next_wanted}
use Rattle.stm_attempt.specs.declared.next.Next.TheVariants.{FetchAll}
use Rattle.stm_attempt.specs.Known.{Known, known_of, HaveDistinctKeys}
use Rattle.stm_attempt.specs.Settled.{run_on, served, settled}
use Rattle.stm_attempt.specs.Entering.{is_due, with_first, answers_of_all, after_list, gone_on}
use Rattle.stm_attempt.specs.Fetches.{AllShow, ShowOneRevision, HaveOneBase}
use Rattle.stm_attempt.specs.Next.{next_after, next_settled, next_on, next_of}
use Rattle.stm_attempt.specs.AttemptState.{with_reads}
use Rattle.stm_attempt.specs.Progress.{Extends}
use Rattle.stm_attempt.specs.Laws.{AddsPrefetched, GoneOnIsGoneOn, BeginsWithList, ReadsBeginWithTheList, GoingOnKeepsTheBase}
use Rattle.stm_attempt.proofs.Unread.{found_key}
use Rattle.stm_attempt.proofs.SettleLemmas.{nothing_serves_the_settled, settled_is_settled, settling_adds_prefetched, found_is_one}
use Rattle.stm_attempt.proofs.BaseLemmas.{settling_keeps_the_base}

-- ---- when a list is due

-- once something was read, no list is due
pub not_due_before : (keys : List (List ℕ)) (reads more : List ReadAnswer) → is_due keys reads ≡ false → is_due keys (reads ++ more) ≡ false
not_due_before [] reads more not = refl
not_due_before (key ∷ keys) [] more not = absurd (cc)
not_due_before (key ∷ keys) (a ∷ reads) more not = refl

pub not_due_after : (keys : List (List ℕ)) (before after : List ReadAnswer) → is_due keys before ≡ false → Extends before after → is_due keys after ≡ false
not_due_after keys before after not more = ap (is_due keys) more.follow ∙ not_due_before keys before more.added not

pub not_due_whole : (keys : List (List ℕ)) (n : ℕ) (reads : List ReadAnswer) → is_due keys (take n reads) ≡ false → is_due keys reads ≡ false
not_due_whole [] n reads not = refl
not_due_whole (key ∷ keys) n [] not = absurd (empty n not)
  where
    empty : (m : ℕ) → is_due (key ∷ keys) (take m []) ≡ false → ⊥
    empty zero is = absurd (cc)
    empty (suc m) is = absurd (cc)
not_due_whole (key ∷ keys) n (a ∷ reads) not = refl

-- ---- what is taken for a list

pub taken_first : (one : Option ReadAnswer) (rest : Option (List ReadAnswer)) (answers : List ReadAnswer) → with_first one rest ≡ Some answers
    → (a : ReadAnswer) × (more : List ReadAnswer) × (one ≡ Some a) × (rest ≡ Some more) × (answers ≡ a ∷ more)
taken_first None rest answers is = absurd (cc)
taken_first (Some a) None answers is = absurd (cc)
taken_first (Some a) (Some more) answers is = (a, more, refl, refl, cc)

-- the list is not due then
pub taken_not_due : (keys : List (List ℕ)) (prefetched answers : List ReadAnswer) → answers_of_all keys prefetched ≡ Some answers → is_due keys answers ≡ false
taken_not_due [] prefetched answers is = refl
taken_not_due (key ∷ keys) prefetched answers is =
    let parts = taken_first (answer_in key prefetched) (answers_of_all keys prefetched) answers is in
    ap (is_due (key ∷ keys)) parts.4

-- its answers are of its keys, in their order
pub taken_keys : (keys : List (List ℕ)) (prefetched answers : List ReadAnswer) → answers_of_all keys prefetched ≡ Some answers
    → map (λ (a : ReadAnswer). a.key) answers ≡ keys
taken_keys [] prefetched answers is =
    let none : answers ≡ [] = cc in ap (λ (l : List ReadAnswer). map (λ (a : ReadAnswer). a.key) l) none
taken_keys (key ∷ keys) prefetched answers is =
    let parts = taken_first (answer_in key prefetched) (answers_of_all keys prefetched) answers is in
    let key_is : parts.0.key ≡ key = (bytes_eq-Decides parts.0.key key).0 (found_key key prefetched parts.0 parts.2) in
    let others : map (λ (a : ReadAnswer). a.key) parts.1 ≡ keys = taken_keys keys prefetched parts.1 parts.3 in
    ap (λ (l : List ReadAnswer). map (λ (a : ReadAnswer). a.key) l) parts.4 ∙ (λ i. key_is i ∷ others i)

-- and what holds of every prefetched answer holds of each of them
pub taken_are : (P : ReadAnswer → Type 0) (keys : List (List ℕ)) (prefetched answers : List ReadAnswer) → AllByRecursion P prefetched
    → answers_of_all keys prefetched ≡ Some answers → AllByRecursion P answers
taken_are P [] prefetched answers all is = let none : answers ≡ [] = cc in subst (AllByRecursion P) (sym none) tt
taken_are P (key ∷ keys) prefetched answers all is =
    let parts = taken_first (answer_in key prefetched) (answers_of_all keys prefetched) answers is in
    subst (AllByRecursion P) (sym parts.4)
    (found_is_one P key prefetched parts.0 all parts.2, taken_are P keys prefetched parts.1 all parts.3)

-- one key more, after those that were taken
pub take_none : (taken : List ReadAnswer) (key : List ℕ) (keys : List (List ℕ)) (prefetched : List ReadAnswer) → answer_in key prefetched ≡ None
    → option_map (λ more. taken ++ more) (answers_of_all (key ∷ keys) prefetched) ≡ None
take_none taken key keys prefetched none =
    ap (λ (o : Option ReadAnswer). option_map (λ more. taken ++ more) (with_first o (answers_of_all keys prefetched))) none

take_by : (taken : List ReadAnswer) (a : ReadAnswer) (rest : Option (List ReadAnswer))
    → option_map (λ more. taken ++ more) (with_first (Some a) rest) ≡ option_map (λ more. (taken ++ a ∷ []) ++ more) rest
take_by taken a None = refl
take_by taken a (Some more) = ap (λ (l : List ReadAnswer). Some l) (sym (append_assoc taken (a ∷ []) more))

pub take_some : (taken : List ReadAnswer) (key : List ℕ) (keys : List (List ℕ)) (prefetched : List ReadAnswer) (a : ReadAnswer)
    → answer_in key prefetched ≡ Some a
    → option_map (λ more. taken ++ more) (answers_of_all (key ∷ keys) prefetched) ≡ option_map (λ more. (taken ++ a ∷ []) ++ more) (answers_of_all keys prefetched)
take_some taken key keys prefetched a some =
    ap (λ (o : Option ReadAnswer). option_map (λ more. taken ++ more) (with_first o (answers_of_all keys prefetched))) some
    ∙ take_by taken a (answers_of_all keys prefetched)

pub take_all : (o : Option (List ReadAnswer)) → option_map (λ more. [] ++ more) o ≡ o
take_all None = refl
take_all (Some more) = refl

-- ---- distinct keys

neither : (b c : Bool) → (b || c) ≡ false → (b ≡ false) × (c ≡ false)
neither true c h = absurd (cc)
neither false c h = (refl, h)

unlisted : (key : List ℕ) (answers : List ReadAnswer) → list_any (bytes_eq key) (map (λ (a : ReadAnswer). a.key) answers) ≡ false → answer_in key answers ≡ None
unlisted key [] none = refl
unlisted key (a ∷ answers) none =
    let parts = neither (bytes_eq key a.key) (list_any (bytes_eq key) (map (λ (x : ReadAnswer). x.key) answers)) none in
    ap (λ (b : Bool). cond b (Some a) (answer_in key answers)) (bytes_eq-flip a.key key ∙ parts.0) ∙ unlisted key answers parts.1

pub once-have_distinct : (answers : List ReadAnswer) → has_repeat (map (λ (a : ReadAnswer). a.key) answers) ≡ false → HaveDistinctKeys answers
once-have_distinct [] once = tt
once-have_distinct (a ∷ answers) once =
    let parts = neither (list_any (bytes_eq a.key) (map (λ (x : ReadAnswer). x.key) answers)) (has_repeat (map (λ (x : ReadAnswer). x.key) answers)) once in
    (unlisted a.key answers parts.0, once-have_distinct answers parts.1)

-- a key after others, of which none stands twice, is none of them
pub key_is_new : (reads : List ReadAnswer) (key : List ℕ) (later : List (List ℕ)) → has_repeat (map (λ (a : ReadAnswer). a.key) reads ++ key ∷ later) ≡ false
    → answer_in key reads ≡ None
key_is_new [] key later once = refl
key_is_new (a ∷ reads) key later once =
    let keys : List (List ℕ) = map (λ (x : ReadAnswer). x.key) reads in
    let parts = neither (list_any (bytes_eq a.key) (keys ++ key ∷ later)) (has_repeat (keys ++ key ∷ later)) once in
    ap (λ (b : Bool). cond b (Some a) (answer_in key reads)) (apart a.key keys parts.0) ∙ key_is_new reads key later parts.1
  where
    apart : (k : List ℕ) (before : List (List ℕ)) → list_any (bytes_eq k) (before ++ key ∷ later) ≡ false → bytes_eq k key ≡ false
    apart k [] none = (neither (bytes_eq k key) (list_any (bytes_eq k) later) none).0
    apart k (x ∷ before) none = apart k before (neither (bytes_eq k x) (list_any (bytes_eq k) (before ++ key ∷ later)) none).1

-- no key of a program's list is empty
key_named : (key : List ℕ) → nat_eq (length key) 0 ≡ false → 0 < length key
key_named [] none = absurd (cc)
key_named (byte ∷ key) none = omega arith

all_named : (keys : List (List ℕ)) → list_any is_no_key keys ≡ false → AreNamed keys
all_named [] none = tt
all_named (key ∷ keys) none =
    let parts = neither (is_no_key key) (list_any is_no_key keys) none in
    (key_named key (neither (nat_eq (length key) 0) (nat_lt MAX_TEXT (length key)) parts.0).0, all_named keys parts.1)

pub list_named : (program : ProgramTree) → Fits program → AreNamed program.prefetch
list_named program fits =
    all_named program.prefetch
    (list_parts program.prefetch (list_of_program program.prefetch (BlockFits MAX_DEPTH MAX_NODES program.statements) fits)).named

-- ---- where an attempt comes to

pub gone_settled : (program : ProgramTree) (known : Known) → is_due program.prefetch known.reads ≡ false → gone_on program known ≡ settled program known
gone_settled program known not =
    ap (λ (b : Bool). cond b (after_list program known (answers_of_all program.prefetch known.prefetched)) (settled program known)) not

pub gone_after : (program : ProgramTree) (known : Known) (o : Option (List ReadAnswer)) → is_due program.prefetch known.reads ≡ true
    → answers_of_all program.prefetch known.prefetched ≡ o → gone_on program known ≡ after_list program known o
gone_after program known o due is =
    ap (λ (b : Bool). cond b (after_list program known (answers_of_all program.prefetch known.prefetched)) (settled program known)) due
    ∙ ap (after_list program known) is

-- the list is due still, and not all of it was prefetched
pub record StaysDue (program : ProgramTree) (known : Known) : Type 0 where
  pub due : is_due program.prefetch known.reads ≡ true
  pub none : answers_of_all program.prefetch known.prefetched ≡ None
  pub stays : gone_on program known ≡ known.reads

-- or the reads are settled, from these on: what was read, or the answers to the list
pub record Settles (program : ProgramTree) (known : Known) : Type 0 where
  pub start : List ReadAnswer
  pub settles : gone_on program known ≡ settled program (known_of start known.prefetched)
  pub not_due : is_due program.prefetch start ≡ false
  pub is_start : (known.reads ≡ start) ⊎ (answers_of_all program.prefetch known.prefetched ≡ Some start)

where_by : (program : ProgramTree) (known : Known) (b : Bool) (o : Option (List ReadAnswer)) → is_due program.prefetch known.reads ≡ b
    → answers_of_all program.prefetch known.prefetched ≡ o → StaysDue program known ⊎ Settles program known
where_by program known false o due is =
    inr (record { start = known.reads; settles = gone_settled program known due; not_due = due; is_start = inl refl })
where_by program known true None due is = inl (record { due = due; none = is; stays = gone_after program known None due is })
where_by program known true (Some answers) due is = inr (record {
  start = answers;
  settles = gone_after program known (Some answers) due is;
  not_due = taken_not_due program.prefetch known.prefetched answers is;
  is_start = inr is;
})

pub where_it_comes : (program : ProgramTree) (known : Known) → StaysDue program known ⊎ Settles program known
where_it_comes program known =
    where_by program known (is_due program.prefetch known.reads) (answers_of_all program.prefetch known.prefetched) refl refl

settled_extends : (program : ProgramTree) (known : Known) → Extends known.reads (settled program known)
settled_extends program known =
    let more : AddsPrefetched known (settled program known) = settling_adds_prefetched program known in
    record { added = more.added; follow = more.follow }

-- where the reads are settled, the list is not due
pub settles_not_due : (program : ProgramTree) (known : Known) (s : Settles program known) → is_due program.prefetch (gone_on program known) ≡ false
settles_not_due program known s =
    ap (is_due program.prefetch) s.settles
    ∙ not_due_after program.prefetch s.start (settled program (known_of s.start known.prefetched)) s.not_due
    (settled_extends program (known_of s.start known.prefetched))

-- and no prefetched answer serves
pub settles_none_served : (program : ProgramTree) (known : Known) (s : Settles program known) → served program known.prefetched (gone_on program known) ≡ None
settles_none_served program known s =
    ap (λ (l : List ReadAnswer). served program known.prefetched l) s.settles
    ∙ nothing_serves_the_settled program (known_of s.start known.prefetched)

again_settled : (program : ProgramTree) (known : Known) (s : Settles program known)
    → gone_on program (with_reads (gone_on program known) known) ≡ gone_on program known
again_settled program known s =
    gone_settled program (with_reads (gone_on program known) known) (settles_not_due program known s)
    ∙ ap (λ (l : List ReadAnswer). settled program (known_of l known.prefetched)) s.settles
    ∙ settled_is_settled program (known_of s.start known.prefetched)
    ∙ sym s.settles

pub gone_on_is_gone_on : GoneOnIsGoneOn
gone_on_is_gone_on program known = grind (arith, nat_tests, where_it_comes, again_settled, gone_after)

-- ---- what is answered

pub next_on_settled : (program : ProgramTree) (level : Level) (reads : List ReadAnswer) → is_due program.prefetch reads ≡ false
    → next_on program level reads ≡ next_after program level reads (run_on program reads)
next_on_settled program level reads not =
    ap (λ (b : Bool). cond b (FetchAll program.prefetch 0) (next_after program level reads (run_on program reads))) not

pub after_next : (program : ProgramTree) (level : Level) (before entered prefetched : List ReadAnswer) (next : Next)
    → gone_on program (known_of entered prefetched) ≡ gone_on program (known_of before prefetched) → is_due program.prefetch entered ≡ false
    → next ≡ next_settled program level (known_of entered prefetched) → next ≡ next_of program level (known_of before prefetched)
after_next program level before entered prefetched next gone not reported =
    let reads : List ReadAnswer = settled program (known_of entered prefetched) in
    let later : is_due program.prefetch reads ≡ false =
    not_due_after program.prefetch entered reads not (settled_extends program (known_of entered prefetched)) in
    reported ∙ sym (next_on_settled program level reads later) ∙ ap (next_on program level) (sym (gone_settled program (known_of entered prefetched) not) ∙ gone)

pub after_reads : (program : ProgramTree) (before entered prefetched after : List ReadAnswer)
    → gone_on program (known_of entered prefetched) ≡ gone_on program (known_of before prefetched) → is_due program.prefetch entered ≡ false
    → after ≡ settled program (known_of entered prefetched) → after ≡ gone_on program (known_of before prefetched)
after_reads program before entered prefetched after gone not settles =
    settles ∙ sym (gone_settled program (known_of entered prefetched) not) ∙ gone

-- the same after a call that was refused after the list
pub after_gone : (program : ProgramTree) (before entered prefetched after : List ReadAnswer)
    → gone_on program (known_of entered prefetched) ≡ gone_on program (known_of before prefetched) → is_due program.prefetch entered ≡ false
    → Extends entered after → settled program (known_of after prefetched) ≡ settled program (known_of entered prefetched)
    → gone_on program (known_of after prefetched) ≡ gone_on program (known_of before prefetched)
after_gone program before entered prefetched after gone not more settles =
    gone_settled program (known_of after prefetched) (not_due_after program.prefetch entered after not more)
    ∙ settles ∙ sym (gone_settled program (known_of entered prefetched) not) ∙ gone

-- what is waited for
pub after_wanted : (program : ProgramTree) (level : Level) (before entered prefetched : List ReadAnswer) (found : Option Wanted)
    → gone_on program (known_of entered prefetched) ≡ gone_on program (known_of before prefetched) → is_due program.prefetch entered ≡ false
    → IfSome found (λ w. next_wanted w ≡ next_settled program level (known_of entered prefetched))
    → IfSome found (λ w. next_wanted w ≡ next_of program level (known_of before prefetched))
after_wanted program level before entered prefetched None gone not reported = tt
after_wanted program level before entered prefetched (Some w) gone not reported =
    after_next program level before entered prefetched (next_wanted w) gone not reported

-- at the end of the run, which is the one that is reported
pub after_end : (program : ProgramTree) (level : Level) (before entered prefetched after : List ReadAnswer)
    → gone_on program (known_of entered prefetched) ≡ gone_on program (known_of before prefetched) → is_due program.prefetch entered ≡ false
    → after ≡ settled program (known_of entered prefetched)
    → next_of program level (known_of before prefetched) ≡ next_after program level after (run_on program after)
after_end program level before entered prefetched after gone not settles =
    sym (after_next program level before entered prefetched (next_after program level after (run_on program after)) gone not
    (ap (λ (l : List ReadAnswer). next_after program level l (run_on program l)) settles))

pub extends_further : (before entered after : List ReadAnswer) → Extends before entered → Extends entered after → Extends before after
extends_further before entered after first more = record {
  added = first.added ++ more.added;
  follow = more.follow ∙ ap (λ (l : List ReadAnswer). l ++ more.added) first.follow ∙ append_assoc before first.added more.added;
}

-- ---- the reads begin with the list

pub begins_more : (keys : List (List ℕ)) (before more : List ReadAnswer) → is_due keys before ≡ false → BeginsWithList keys before → BeginsWithList keys (before ++ more)
begins_more keys [] [] not begins = tt
begins_more [] [] (a ∷ more) not begins = record { others = map (λ (x : ReadAnswer). x.key) (a ∷ more); first = refl }
begins_more (key ∷ keys) [] (a ∷ more) not begins = absurd (cc)
begins_more keys (a ∷ before) more not begins = record {
  others = begins.others ++ map (λ (x : ReadAnswer). x.key) more;
  first = map_after (a ∷ before) more ∙ ap (λ (l : List (List ℕ)). l ++ map (λ (x : ReadAnswer). x.key) more) begins.first
      ∙ append_assoc keys begins.others (map (λ (x : ReadAnswer). x.key) more);
}
  where
    map_after : (xs ys : List ReadAnswer) → map (λ (x : ReadAnswer). x.key) (xs ++ ys) ≡ map (λ (x : ReadAnswer). x.key) xs ++ map (λ (x : ReadAnswer). x.key) ys
    map_after [] ys = refl
    map_after (x ∷ xs) ys = ap (λ (l : List (List ℕ)). x.key ∷ l) (map_after xs ys)

pub list_begins : (keys : List (List ℕ)) (answers : List ReadAnswer) → map (λ (a : ReadAnswer). a.key) answers ≡ keys → BeginsWithList keys answers
list_begins keys [] is = tt
list_begins keys (a ∷ answers) is = record { others = []; first = is ∙ sym (nothing_after keys) }
  where
    nothing_after : (l : List (List ℕ)) → l ++ [] ≡ l
    nothing_after [] = refl
    nothing_after (x ∷ l) = ap (λ (m : List (List ℕ)). x ∷ m) (nothing_after l)

start_begins : (program : ProgramTree) (known : Known) (start : List ReadAnswer) → BeginsWithList program.prefetch known.reads
    → (known.reads ≡ start) ⊎ (answers_of_all program.prefetch known.prefetched ≡ Some start) → BeginsWithList program.prefetch start
start_begins program known start begins (inl same) = subst (BeginsWithList program.prefetch) same begins
start_begins program known start begins (inr is) = list_begins program.prefetch start (taken_keys program.prefetch known.prefetched start is)

settled_begins : (program : ProgramTree) (known : Known) → Settles program known → BeginsWithList program.prefetch known.reads
    → BeginsWithList program.prefetch (gone_on program known)
settled_begins program known s begins =
    let more = settled_extends program (known_of s.start known.prefetched) in
    subst (BeginsWithList program.prefetch) (sym (s.settles ∙ more.follow))
    (begins_more program.prefetch s.start more.added s.not_due (start_begins program known s.start begins s.is_start))

pub reads_begin_with_the_list : ReadsBeginWithTheList
reads_begin_with_the_list program known begins = elim (where_it_comes program known) [
  | inl d ↦ subst (BeginsWithList program.prefetch) (sym d.stays) begins
  | inr s ↦ settled_begins program known s begins
]

-- ---- the base

all_show : (revision : ℕ) (answers : List ReadAnswer) → AllByRecursion (λ (a : ReadAnswer). a.of_rev ≡ revision) answers → AllShow revision answers
all_show revision [] all = tt
all_show revision (a ∷ answers) all = (all.0, all_show revision answers all.1)

shown_all : (revision : ℕ) (answers : List ReadAnswer) → AllShow revision answers → AllByRecursion (λ (a : ReadAnswer). a.of_rev ≡ revision) answers
shown_all revision [] show = tt
shown_all revision (a ∷ answers) show = (show.0, shown_all revision answers show.1)

-- answers of which all show one revision, and each a positive one
one_base : (revision : ℕ) (answers : List ReadAnswer) → AllByRecursion (λ (a : ReadAnswer). a.of_rev ≡ revision) answers
    → AllByRecursion (λ (a : ReadAnswer). 1 ≤ a.of_rev) answers → HaveOneBase answers
one_base revision [] all positive = tt
one_base revision (a ∷ answers) all positive =
    (positive.0, subst (λ (n : ℕ). AllShow n answers) (sym all.0) (all_show revision answers all.1))

list_base : (keys : List (List ℕ)) (prefetched answers : List ReadAnswer) → AllByRecursion (λ (a : ReadAnswer). 1 ≤ a.of_rev) prefetched
    → ShowOneRevision prefetched → answers_of_all keys prefetched ≡ Some answers → HaveOneBase answers
list_base keys [] answers positive one is =
    one_base 0 answers (taken_are (λ (a : ReadAnswer). a.of_rev ≡ 0) keys [] answers tt is) (taken_are (λ (a : ReadAnswer). 1 ≤ a.of_rev) keys [] answers tt is)
list_base keys (first ∷ rest) answers positive one is =
    one_base first.of_rev answers
    (taken_are (λ (a : ReadAnswer). a.of_rev ≡ first.of_rev) keys (first ∷ rest) answers (refl, shown_all first.of_rev rest one) is)
    (taken_are (λ (a : ReadAnswer). 1 ≤ a.of_rev) keys (first ∷ rest) answers positive is)

start_base : (program : ProgramTree) (known : Known) (start : List ReadAnswer) → AllByRecursion (λ (a : ReadAnswer). 1 ≤ a.of_rev) known.prefetched
    → ShowOneRevision known.prefetched → HaveOneBase known.reads
    → (known.reads ≡ start) ⊎ (answers_of_all program.prefetch known.prefetched ≡ Some start) → HaveOneBase start
start_base program known start positive one base (inl same) = subst HaveOneBase same base
start_base program known start positive one base (inr is) = list_base program.prefetch known.prefetched start positive one is

pub going_on_keeps_the_base : GoingOnKeepsTheBase
going_on_keeps_the_base program known positive one base =
    let all = recursion_from_All (λ (a : ReadAnswer). 1 ≤ a.of_rev) known.prefetched positive in
    elim (where_it_comes program known) [
      | inl d ↦ subst HaveOneBase (sym d.stays) base
      | inr s ↦ subst HaveOneBase (sym s.settles)
          (settling_keeps_the_base program (known_of s.start known.prefetched) positive (start_base program known s.start all one base s.is_start))
    ]
