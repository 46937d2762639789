-- Answers of distinct keys.
use Rattle.std.proofs.Common.{◌≡◌, ℕ, Bool, true, false, cond, List, [], ◌∷◌, ◌++◌, filter, refl, sym, ◌∙◌, ap, subst}
use Rattle.std.specs.Prelude.{bytes_eq, Option, None, Some}
use Rattle.std.proofs.lemmas.Slice.Eq.{bytes_eq-Decides}
use Rattle.stm_program.proofs.WriteLemmas.{bytes_eq-flip}
use Rattle.stm_history.specs.declared.key_state.ReadAnswer.{ReadAnswer}
use Rattle.stm_compile.specs.Answers.{answer_in}
use Rattle.stm_attempt.specs.Known.{is_of_base, serving, HaveDistinctKeys}

-- an answer that passes a test
pub passing : (ReadAnswer → Bool) → Option ReadAnswer → Option ReadAnswer
passing test None = None
passing test (Some a) = cond (test a) (Some a) None

-- the head is of the key: no later one is
head_by : (test : ReadAnswer → Bool) (key : List ℕ) (p : ReadAnswer) (rest : List ReadAnswer) (kept : Bool) → test p ≡ kept → bytes_eq p.key key ≡ true →
    answer_in key rest ≡ None → answer_in key (cond kept (p ∷ rest) rest) ≡ cond kept (Some p) None
head_by test key p rest true is same none = ap (λ (b : Bool). cond b (Some p) (answer_in key rest)) same
head_by test key p rest false is same none = none

tail_by : (test : ReadAnswer → Bool) (key : List ℕ) (p : ReadAnswer) (rest : List ReadAnswer) (kept : Bool) (o : Option ReadAnswer) →
    bytes_eq p.key key ≡ false →
    answer_in key rest ≡ o → answer_in key (cond kept (p ∷ rest) rest) ≡ o
tail_by test key p rest true o other later = ap (λ (b : Bool). cond b (Some p) (answer_in key rest)) other ∙ later
tail_by test key p rest false o other later = later

found_by : (test : ReadAnswer → Bool) (key : List ℕ) (p : ReadAnswer) (ps rest : List ReadAnswer) (b : Bool) → bytes_eq p.key key ≡ b →
    answer_in p.key ps ≡ None →
    answer_in key rest ≡ passing test (answer_in key ps) →
    answer_in key (cond (test p) (p ∷ rest) rest) ≡ passing test (cond b (Some p) (answer_in key ps))
unfolding passing
found_by test key p ps rest true is none later =
    let key_is : p.key ≡ key = (bytes_eq-Decides p.key key).0 is in
    let gone : answer_in key ps ≡ None = subst (λ (k : List ℕ). answer_in k ps ≡ None) key_is none in
    head_by test key p rest (test p) refl is (later ∙ ap (passing test) gone)
found_by test key p ps rest false is none later = tail_by test key p rest (test p) (passing test (answer_in key ps)) is later

-- where no two answers are of one key, the answer among those that pass a test is the answer, where it passes
pub answer_in-filter : (test : ReadAnswer → Bool) (key : List ℕ) (answers : List ReadAnswer) → HaveDistinctKeys answers →
    answer_in key (filter test answers) ≡ passing test (answer_in key answers)
unfolding passing
answer_in-filter test key [] distinct = refl
answer_in-filter test key (p ∷ ps) distinct =
    found_by test key p ps (filter test ps) (bytes_eq p.key key) refl distinct.0 (answer_in-filter test key ps distinct.1)

-- what serves a key, by what was prefetched for it
pub serving_none : (key : List ℕ) (reads prefetched : List ReadAnswer) → HaveDistinctKeys prefetched → answer_in key prefetched ≡ None →
    answer_in key (serving reads prefetched) ≡ None
unfolding passing
serving_none key reads prefetched distinct none =
    answer_in-filter (is_of_base reads) key prefetched distinct ∙ ap (passing (is_of_base reads)) none

pub serving_some : (key : List ℕ) (reads prefetched : List ReadAnswer) (a : ReadAnswer) (b : Bool) → HaveDistinctKeys prefetched →
    answer_in key prefetched ≡ Some a → is_of_base reads a ≡ b → answer_in key (serving reads prefetched) ≡ cond b (Some a) None
unfolding passing
serving_some key reads prefetched a b distinct some is =
    answer_in-filter (is_of_base reads) key prefetched distinct ∙ ap (passing (is_of_base reads)) some ∙ ap (λ (c : Bool). cond c (Some a) None) is

-- what serves a key, by what the code has at hand
pub serves_none : (reads prefetched : List ReadAnswer) (key other : List ℕ) (o : Option ReadAnswer) → other ≡ key → HaveDistinctKeys prefetched →
    None ≡ answer_in other prefetched → o ≡ None → o ≡ answer_in key (serving reads prefetched)
serves_none reads prefetched key other o same distinct none is =
    is ∙ sym (serving_none key reads prefetched distinct (ap (λ (k : List ℕ). answer_in k prefetched) (sym same) ∙ sym none))

pub serves_some : (reads prefetched : List ReadAnswer) (key other : List ℕ) (a : ReadAnswer) (b : Bool) → other ≡ key → HaveDistinctKeys prefetched →
    Some a ≡ answer_in other prefetched → is_of_base reads a ≡ b → cond b (Some a) None ≡ answer_in key (serving reads prefetched)
serves_some reads prefetched key other a b same distinct some is =
    sym (serving_some key reads prefetched a b distinct (ap (λ (k : List ℕ). answer_in k prefetched) (sym same) ∙ sym some) is)

-- ---- one after another

apart_by : (b : Bool) (x : ReadAnswer) (o : Option ReadAnswer) → cond b (Some x) o ≡ None → (b ≡ false) × (o ≡ None)
apart_by true x o none = absurd (cc)
apart_by false x o none = (refl, none)

-- the answers before one of a list of distinct keys have no answer of its key
apart_in : (key : List ℕ) (before after : List ReadAnswer) (a : ReadAnswer) → answer_in key (before ++ a ∷ after) ≡ None → bytes_eq a.key key ≡ false
apart_in key [] after a none = (apart_by (bytes_eq a.key key) a (answer_in key after) none).0
apart_in key (x ∷ before) after a none = apart_in key before after a ((apart_by (bytes_eq x.key key) x (answer_in key (before ++ a ∷ after)) none).1)

pub distinct-new : (before after : List ReadAnswer) (a : ReadAnswer) → HaveDistinctKeys (before ++ a ∷ after) → answer_in a.key before ≡ None
distinct-new [] after a distinct = refl
distinct-new (x ∷ before) after a distinct =
    let other : bytes_eq x.key a.key ≡ false = bytes_eq-flip x.key a.key ∙ apart_in x.key before after a distinct.0 in
    ap (λ (b : Bool). cond b (Some x) (answer_in a.key before)) other ∙ distinct-new before after a distinct.1

-- the next one of a list of distinct keys that all fit, of which these went before
pub next_is_new : (before left after all : List ReadAnswer) (a : ReadAnswer) → before ++ left ≡ all → left ≡ a ∷ after → HaveDistinctKeys all →
    answer_in a.key before ≡ None
next_is_new before left after all a whole first distinct =
    distinct-new before after a (subst HaveDistinctKeys (sym whole ∙ ap (λ (l : List ReadAnswer). before ++ l) first) distinct)
