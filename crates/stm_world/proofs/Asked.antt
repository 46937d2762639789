-- Answers that were added when their keys were wanted are of the keys that the run reads.
use Rattle.std.proofs.Common.{◌≡◌, ◌⊎◌, inl, inr, ℕ, zero, suc, ◌+◌, ◌≤◌, Bool, true, false, cond, List, [], ◌∷◌, ◌++◌, length, map, take, drop, Option}
use Rattle.std.proofs.Common.{Some, None, refl, sym, ◌∙◌, ap, subst, arith, length-append, append_assoc, append-nil}
use Rattle.std.specs.Prelude.{bytes_eq, is_some, option_map, ◌||◌}
use Rattle.std.specs.List.{list_any}
use Rattle.std.proofs.lemmas.List.{drop_all, take-append-le, length-map}
use Rattle.std.proofs.lemmas.Slice.Eq.{bytes_eq-Decides}
use Rattle.std.proofs.lemmas.Bool.Decides.{nat_tests}
use Rattle.stm_history.specs.declared.key_state.ReadAnswer.{ReadAnswer}
use Rattle.stm_history.specs.History.{History}
use Rattle.stm_program.specs.Syntax.{ProgramTree}
use Rattle.stm_history.specs.declared.change.Change.{Change}
use Rattle.stm_program.specs.Limits.{has_repeat}
use Rattle.stm_program.proofs.WriteLemmas.{bytes_eq-flip}
use Rattle.stm_steps.specs.declared.stop.Stop.TheVariants.{Wants as WantsStop}
use Rattle.stm_steps.specs.Answer.{Answer}
use Rattle.stm_steps.specs.Session.{Session, fresh}
use Rattle.stm_steps.specs.Outcome.{Outcome, Stops}
use Rattle.stm_steps.specs.declared.trace_item.TraceItem.{TraceItem}
use Rattle.stm_steps.specs.declared.run.Run.{Run}
use Rattle.stm_steps.specs.declared.run.Answered.TheVariants.{Ended, Wants}
use Rattle.stm_meaning.specs.Meaning.{get_of, get_key, rev_key, answered, run_block, run_over}
use Rattle.stm_meaning.proofs.KeepLemmas.{session_of, StepsKeep, kept_by_run}
use Rattle.stm_compile.specs.Answers.{answer_in, answer_now, said, look_up}
use Rattle.stm_compile.specs.CommitTxn.{reread_keys}
use Rattle.stm_attempt.specs.Known.{HaveDistinctKeys, Known, known_of, serving}
use Rattle.stm_attempt.specs.Settled.{run_on, wanted, answer_for, settled}
use Rattle.stm_attempt.specs.Entering.{is_due, answers_of_all, gone_on}
use Rattle.stm_attempt.specs.Laws.{BeginsWithList}
use Rattle.stm_attempt.proofs.SettleLemmas.{wanted_is_new, settled_keeps}
use Rattle.stm_attempt.proofs.EnteringLemmas.{once-have_distinct, taken_keys, where_it_comes, begins_more, list_begins, reads_begin_with_the_list}
use Rattle.stm_attempt.proofs.Unread.{found_key, same_bytes}
use Rattle.stm_world.specs.Task.{Task, answer_at, after_list, after_fetch, after_conflict}
use Rattle.stm_events.specs.FirstReads.{keys_first_read}
use Rattle.stm_world.specs.Asked.{AskedAfter, AreAsked, keys_read, AnswersAreTheReads}
use Rattle.stm_world.proofs.ReadOrder.{reads_of, OneKeyMore, wanted_is_read}
use Rattle.stm_world.proofs.FirstReads.{first_none, first_adds, first_stays}

-- ---- one more answer ----

more_by : (b : Bool) (x : ReadAnswer) (few many : Option ReadAnswer) (s : Answer) → (option_map said few ≡ Some s → option_map said many ≡ Some s) →
    option_map said (cond b (Some x) few) ≡ Some s → option_map said (cond b (Some x) many) ≡ Some s
more_by b x few many s rest is = grind (arith, nat_tests)

still_known : (key : List ℕ) (reads : List ReadAnswer) (a : ReadAnswer) (s : Answer) → look_up reads key ≡ Some s → look_up (reads ++ a ∷ []) key ≡ Some s
still_known key [] a s is = absurd (cc)
still_known key (x ∷ reads) a s is = grind (arith, nat_tests, more_by, still_known key reads a s)

known_by : (b : Bool) (x : ReadAnswer) (rest : Option ReadAnswer) → (s : Answer) × (option_map said rest ≡ Some s) →
    (s : Answer) × (option_map said (cond b (Some x) rest) ≡ Some s)
known_by true x rest known = (said x, refl)
known_by false x rest known = known

last_known : (reads : List ReadAnswer) (a : ReadAnswer) → (s : Answer) × (look_up (reads ++ a ∷ []) a.key ≡ Some s)
last_known [] a = (said a, ap (λ b. option_map said (cond b (Some a) None)) (same_bytes a.key))
last_known (x ∷ reads) a = known_by (bytes_eq x.key a.key) x (answer_in a.key (reads ++ a ∷ [])) (last_known reads a)

-- a key stands among those of the answers where the look-up knows it
any_by : (b c : Bool) (x : ReadAnswer) (o : Option ReadAnswer) → c ≡ is_some (option_map said o) → (b || c) ≡ is_some (option_map said (cond b (Some x) o))
any_by b c x o is = grind (arith, nat_tests)

any_key : (key : List ℕ) (reads : List ReadAnswer) → list_any (bytes_eq key) (keys_read reads) ≡ is_some (look_up reads key)
any_key key [] = refl
any_key key (x ∷ reads) = grind (arith, nat_tests, bytes_eq-flip, any_by, any_key key reads)

keys_more : (reads : List ReadAnswer) (a : ReadAnswer) → keys_read reads ++ a.key ∷ [] ≡ keys_read (reads ++ a ∷ [])
keys_more [] a = refl
keys_more (x ∷ reads) a = ap (λ (keys : List (List ℕ)). x.key ∷ keys) (keys_more reads a)

-- the keys that a run has read are, after those of a list, those of the answers
abbrev IsFirst : List (List ℕ) → List ReadAnswer → List (List ℕ) → Type 0
IsFirst keys answers reads = keys_first_read keys reads ≡ keys_read answers

unknown_among : (keys : List (List ℕ)) (answers : List ReadAnswer) (reads : List (List ℕ)) (key : List ℕ) → IsFirst keys answers reads →
    answer_in key answers ≡ None → list_any (bytes_eq key) (keys_first_read keys reads) ≡ false
unknown_among keys answers reads key is none = grind (arith, nat_tests, any_key)

known_among : (keys : List (List ℕ)) (answers : List ReadAnswer) (reads : List (List ℕ)) (key : List ℕ) (a : Answer) → IsFirst keys answers reads →
    look_up answers key ≡ Some a → list_any (bytes_eq key) (keys_first_read keys reads) ≡ true
known_among keys answers reads key a is found = grind (arith, nat_tests, any_key)

one_key_more : (keys : List (List ℕ)) (reads : List ReadAnswer) (a : ReadAnswer) → answer_in a.key reads ≡ None →
    OneKeyMore (look_up reads) (look_up (reads ++ a ∷ [])) (IsFirst keys reads) (IsFirst keys (reads ++ a ∷ [])) a.key
one_key_more keys reads a none =
    let last : (s : Answer) × (look_up (reads ++ a ∷ []) a.key ≡ Some s) = last_known reads a in
    record {
      agrees = λ key. still_known key reads a;
      answer = last.0;
      knows = last.1;
      adds = λ rs is.
          first_adds keys rs a.key (unknown_among keys reads rs a.key is none) ∙ ap (λ (l : List (List ℕ)). l ++ a.key ∷ []) is ∙ keys_more reads a;
      is_all = λ key s rs found is. first_stays keys rs key (known_among keys (reads ++ a ∷ []) rs key s is found) ∙ is;
    }

-- ---- runs ----

abbrev run_with : ProgramTree → List ReadAnswer → Outcome (Unit {0})
run_with program reads = run_block (look_up reads) program.statements fresh

wanting : (o : Outcome (Unit {0})) (key : List ℕ) → wanted (answered o) ≡ Some key → (s : Session) × (o ≡ Stops (WantsStop key) s)
wanting o key is = grind (arith, nat_tests)

ended_reads : (o : Outcome (Unit {0})) (run : Run) → answered o ≡ Ended run → run.reads ≡ reads_of o
ended_reads o run is = grind (arith, nat_tests)

one_more_read : (keys : List (List ℕ)) (program : ProgramTree) (reads : List ReadAnswer) (a : ReadAnswer) → wanted (run_on program reads) ≡ Some a.key →
    IsFirst keys reads (reads_of (run_with program reads)) → IsFirst keys (reads ++ a ∷ []) (reads_of (run_with program (reads ++ a ∷ [])))
unfolding run_over
one_more_read keys program reads a wants is =
    let stopped : (s : Session) × (run_with program reads ≡ Stops (WantsStop a.key) s) = wanting (run_with program reads) a.key wants in
    wanted_is_read (look_up reads) (look_up (reads ++ a ∷ [])) (IsFirst keys reads) (IsFirst keys (reads ++ a ∷ [])) a.key
    (one_key_more keys reads a (wanted_is_new program reads a.key wants)) program.statements stopped.0 stopped.1
    (subst (IsFirst keys reads) (ap (λ (o : Outcome (Unit {0})). reads_of o) stopped.1) is)

get_of-listed : (keys : List (List ℕ)) (answers : List ReadAnswer) (key : List ℕ) (w : Option Change) (s : Session) → IsFirst keys answers s.reads →
    IsFirst keys answers (session_of (get_of (look_up answers) key w s)).reads
get_of-listed keys answers key w s is = grind (arith, nat_tests, first_stays, known_among)

steps_read_listed : (keys : List (List ℕ)) (answers : List ReadAnswer) → StepsKeep (look_up answers) (λ s. IsFirst keys answers s.reads)
unfolding get_key rev_key
steps_read_listed keys answers = grind (arith, nat_tests, get_of-listed, first_stays, known_among)

listed_read : (keys : List (List ℕ)) (program : ProgramTree) (answers : List ReadAnswer) → keys_read answers ≡ keys →
    IsFirst keys answers (reads_of (run_with program answers))
unfolding fresh
listed_read keys program answers are =
    kept_by_run (look_up answers) (λ s. IsFirst keys answers s.reads) (steps_read_listed keys answers) program.statements (first_none keys ∙ sym are)

reads_after : (keys : List (List ℕ)) (program : ProgramTree) (before reads : List ReadAnswer) → AskedAfter program before reads →
    IsFirst keys before (reads_of (run_with program before)) → IsFirst keys (before ++ reads) (reads_of (run_with program (before ++ reads)))
reads_after keys program before [] asked is =
    subst (λ (l : List ReadAnswer). IsFirst keys l (reads_of (run_with program l))) (sym (append-nil before)) is
reads_after keys program before (a ∷ reads) asked is =
    subst (λ (l : List ReadAnswer). IsFirst keys l (reads_of (run_with program l))) (append_assoc before (a ∷ []) reads)
    (reads_after keys program (before ++ a ∷ []) reads asked.1 (one_more_read keys program before a asked.0 is))

-- ---- no key is asked for twice ----

apart_by : (b : Bool) (x : ReadAnswer) (o : Option ReadAnswer) → cond b (Some x) o ≡ None → (b ≡ false) × (o ≡ None)
apart_by b x o none = grind (arith, nat_tests)

still_none : (key : List ℕ) (reads : List ReadAnswer) (a : ReadAnswer) → answer_in key reads ≡ None → bytes_eq a.key key ≡ false →
    answer_in key (reads ++ a ∷ []) ≡ None
still_none key [] a none other = ap (λ b. cond b (Some a) None) other
still_none key (x ∷ reads) a none other =
    let apart : (bytes_eq x.key key ≡ false) × (answer_in key reads ≡ None) = apart_by (bytes_eq x.key key) x (answer_in key reads) none in
    ap (λ b. cond b (Some x) (answer_in key (reads ++ a ∷ []))) apart.0 ∙ still_none key reads a apart.1 other

distinct_more : (reads : List ReadAnswer) (a : ReadAnswer) → HaveDistinctKeys reads → answer_in a.key reads ≡ None → HaveDistinctKeys (reads ++ a ∷ [])
distinct_more [] a distinct new = (refl, tt)
distinct_more (x ∷ reads) a distinct new =
    let apart : (bytes_eq x.key a.key ≡ false) × (answer_in a.key reads ≡ None) = apart_by (bytes_eq x.key a.key) x (answer_in a.key reads) new in
    (still_none x.key reads a distinct.0 (bytes_eq-flip a.key x.key ∙ apart.0), distinct_more reads a distinct.1 apart.1)

distinct_after : (program : ProgramTree) (before reads : List ReadAnswer) → AskedAfter program before reads → HaveDistinctKeys before →
    HaveDistinctKeys (before ++ reads)
distinct_after program before [] asked distinct = subst HaveDistinctKeys (sym (append-nil before)) distinct
distinct_after program before (a ∷ reads) asked distinct =
    subst HaveDistinctKeys (append_assoc before (a ∷ []) reads)
    (distinct_after program (before ++ a ∷ []) reads asked.1 (distinct_more before a distinct (wanted_is_new program before a.key asked.0)))

-- ---- what an attempt has read was asked for ----

asked_after : (program : ProgramTree) (before reads : List ReadAnswer) (a : ReadAnswer) → AskedAfter program before reads →
    wanted (run_on program (before ++ reads)) ≡ Some a.key → AskedAfter program before (reads ++ a ∷ [])
asked_after program before [] a asked wants = grind (arith, nat_tests, append-nil)
asked_after program before (x ∷ reads) a asked wants =
    grind (arith, nat_tests, asked_after program (before ++ x ∷ []) reads a asked.1 (subst (λ (l : List ReadAnswer). wanted (run_on program l) ≡ Some a.key) (sym (append_assoc before (x ∷ []) reads)) wants))

-- ---- after the list

rejoined : (n : ℕ) (reads : List ReadAnswer) → take n reads ++ drop n reads ≡ reads
rejoined zero reads = refl
rejoined (suc n) [] = refl
rejoined (suc n) (x ∷ reads) = ap (λ (l : List ReadAnswer). x ∷ l) (rejoined n reads)

dropped_more : (n : ℕ) (reads : List ReadAnswer) (a : ReadAnswer) → n ≤ length reads → drop n (reads ++ a ∷ []) ≡ drop n reads ++ a ∷ []
dropped_more zero reads a within = refl
dropped_more (suc n) [] a within = absurd (omega (arith, within))
dropped_more (suc n) (x ∷ reads) a within = dropped_more n reads a (omega (arith, within))

-- reads that begin with a list which is not due have all of it
list_within : (keys : List (List ℕ)) (reads : List ReadAnswer) → BeginsWithList keys reads → is_due keys reads ≡ false → length keys ≤ length reads
list_within keys reads begins not = grind (arith, nat_tests, length-append, length-map)

pub none_asked : (program : ProgramTree) → AreAsked program []
none_asked program = grind (arith, nat_tests)

-- the answers to a list alone
all_listed : (program : ProgramTree) (answers : List ReadAnswer) → map (λ (a : ReadAnswer). a.key) answers ≡ program.prefetch → AreAsked program answers
all_listed program answers is = grind (arith, nat_tests, length-map, drop_all)

one_more_asked : (program : ProgramTree) (reads : List ReadAnswer) (a : ReadAnswer) → length program.prefetch ≤ length reads → AreAsked program reads →
    wanted (run_on program reads) ≡ Some a.key → AreAsked program (reads ++ a ∷ [])
one_more_asked program reads a within asked wants = grind (arith, nat_tests, rejoined, dropped_more, take-append-le, asked_after)

is_for : (o : Option (List ℕ)) (answers : List ReadAnswer) (a : ReadAnswer) → answer_for o answers ≡ Some a → o ≡ Some a.key
is_for None answers a is = absurd (cc)
is_for (Some key) answers a is = ap (λ (k : List ℕ). Some k) (sym ((bytes_eq-Decides a.key key).0 (found_key key answers a is)))

abbrev IsAskedOn : ProgramTree → List ReadAnswer → Type 0
IsAskedOn program reads = (length program.prefetch ≤ length reads) × AreAsked program reads

longer : (reads : List ReadAnswer) (a : ReadAnswer) (n : ℕ) → n ≤ length reads → n ≤ length (reads ++ a ∷ [])
longer reads a n within = let count : length (reads ++ a ∷ []) ≡ length reads + 1 = length-append reads (a ∷ []) in omega (arith, within, count)

settled_asked : (program : ProgramTree) (known : Known) → length program.prefetch ≤ length known.reads → AreAsked program known.reads →
    AreAsked program (settled program known)
settled_asked program known within asked =
    (settled_keeps (IsAskedOn program) program known
    (λ reads a is before. (
      longer reads a (length program.prefetch) before.0,
      one_more_asked program reads a before.0 before.1 (is_for (wanted (run_on program reads)) (serving reads known.prefetched) a is),
    )) (within, asked)).1

start_asked : (program : ProgramTree) (known : Known) (start : List ReadAnswer) → AreAsked program known.reads →
    (known.reads ≡ start) ⊎ (answers_of_all program.prefetch known.prefetched ≡ Some start) → AreAsked program start
start_asked program known start asked h5 = grind (arith, nat_tests, all_listed, taken_keys)

start_listed : (program : ProgramTree) (known : Known) (start : List ReadAnswer) → BeginsWithList program.prefetch known.reads →
    (known.reads ≡ start) ⊎ (answers_of_all program.prefetch known.prefetched ≡ Some start) → BeginsWithList program.prefetch start
start_listed program known start begins h5 = grind (arith, nat_tests, list_begins, taken_keys)

-- what was asked for, or is the list, goes on so
gone_asked : (program : ProgramTree) (known : Known) → BeginsWithList program.prefetch known.reads → AreAsked program known.reads →
    AreAsked program (gone_on program known)
gone_asked program known begins asked = elim (where_it_comes program known) [
  | inl d ↦ subst (AreAsked program) (sym d.stays) asked
  | inr s ↦ subst (AreAsked program) (sym s.settles)
      (settled_asked program (known_of s.start known.prefetched)
      (list_within program.prefetch s.start (start_listed program known s.start begins s.is_start) s.not_due)
      (start_asked program known s.start asked s.is_start))
]

-- ---- a fetch, a list and a conflict

pub fetch_listed : (task : Task) (h : History) (key : List ℕ) (r : ℕ) (known : Known) → is_due task.program.prefetch known.reads ≡ false →
    BeginsWithList task.program.prefetch known.reads → BeginsWithList task.program.prefetch (after_fetch task (answer_at h key r) known).reads
fetch_listed task h key r known not begins =
    reads_begin_with_the_list task.program (known_of (known.reads ++ answer_at h key r ∷ []) known.prefetched)
    (begins_more task.program.prefetch known.reads (answer_at h key r ∷ []) not begins)

pub fetch_asked : (task : Task) (h : History) (key : List ℕ) (r : ℕ) (trace : List TraceItem) (known : Known) →
    is_due task.program.prefetch known.reads ≡ false → run_on task.program known.reads ≡ Wants key trace →
    BeginsWithList task.program.prefetch known.reads → AreAsked task.program known.reads →
    AreAsked task.program (after_fetch task (answer_at h key r) known).reads
fetch_asked task h key r trace known not wants begins asked =
    gone_asked task.program (known_of (known.reads ++ answer_at h key r ∷ []) known.prefetched)
    (begins_more task.program.prefetch known.reads (answer_at h key r ∷ []) not begins)
    (one_more_asked task.program known.reads (answer_at h key r) (list_within task.program.prefetch known.reads begins not) asked (ap wanted wants))

keys_now : (h : History) (keys : List (List ℕ)) → map (λ (a : ReadAnswer). a.key) (map (answer_now h) keys) ≡ keys
keys_now h [] = refl
keys_now h (key ∷ keys) = ap (λ (l : List (List ℕ)). key ∷ l) (keys_now h keys)

pub list_listed : (task : Task) (h : History) (known : Known) → BeginsWithList task.program.prefetch (after_list task h known).reads
list_listed task h known =
    reads_begin_with_the_list task.program (known_of (map (answer_now h) task.program.prefetch) known.prefetched)
    (list_begins task.program.prefetch (map (answer_now h) task.program.prefetch) (keys_now h task.program.prefetch))

pub list_asked : (task : Task) (h : History) (known : Known) → AreAsked task.program (after_list task h known).reads
list_asked task h known =
    gone_asked task.program (known_of (map (answer_now h) task.program.prefetch) known.prefetched)
    (list_begins task.program.prefetch (map (answer_now h) task.program.prefetch) (keys_now h task.program.prefetch))
    (all_listed task.program (map (answer_now h) task.program.prefetch) (keys_now h task.program.prefetch))

pub conflict_listed : (task : Task) (h : History) (known : Known) → BeginsWithList task.program.prefetch (after_conflict task h known).reads
conflict_listed task h known =
    reads_begin_with_the_list task.program (known_of [] (map (answer_now h) (reread_keys task.level known.reads))) tt

pub conflict_asked : (task : Task) (h : History) (known : Known) → AreAsked task.program (after_conflict task h known).reads
conflict_asked task h known =
    gone_asked task.program (known_of [] (map (answer_now h) (reread_keys task.level known.reads))) tt (none_asked task.program)

-- ---- no key is read twice

taken_keys_of : (n : ℕ) (reads : List ReadAnswer) → map (λ (a : ReadAnswer). a.key) (take n reads) ≡ take n (map (λ (a : ReadAnswer). a.key) reads)
taken_keys_of zero reads = refl
taken_keys_of (suc n) [] = refl
taken_keys_of (suc n) (x ∷ reads) = ap (λ (l : List (List ℕ)). x.key ∷ l) (taken_keys_of n reads)

front_of : (keys others : List (List ℕ)) → take (length keys) (keys ++ others) ≡ keys
front_of [] others = refl
front_of (key ∷ keys) others = ap (λ (l : List (List ℕ)). key ∷ l) (front_of keys others)

pub asked_are_distinct : (program : ProgramTree) (reads : List ReadAnswer) → has_repeat program.prefetch ≡ false → BeginsWithList program.prefetch reads →
    AreAsked program reads → HaveDistinctKeys reads
asked_are_distinct program reads once begins asked = grind (arith, nat_tests, taken_keys_of, front_of, once-have_distinct, rejoined, distinct_after)

-- ---- what was read is what the run reads

front_keys : (keys : List (List ℕ)) (reads : List ReadAnswer) → BeginsWithList keys reads → is_due keys reads ≡ false →
    map (λ (a : ReadAnswer). a.key) (take (length keys) reads) ≡ keys
front_keys keys reads begins not = grind (arith, nat_tests, taken_keys_of, front_of)

pub answers_are_the_reads : AnswersAreTheReads
unfolding run_over
answers_are_the_reads program reads run begins listed asked is =
    let keys : List (List ℕ) = program.prefetch in
    let n : ℕ = length keys in
    let whole : IsFirst keys (take n reads ++ drop n reads) (reads_of (run_with program (take n reads ++ drop n reads))) =
    reads_after keys program (take n reads) (drop n reads) asked
    (listed_read keys program (take n reads) (front_keys keys reads begins listed)) in
    ap (keys_first_read keys) (ended_reads (run_with program reads) run is)
    ∙ subst (λ (l : List ReadAnswer). IsFirst keys l (reads_of (run_with program l))) (rejoined n reads) whole
