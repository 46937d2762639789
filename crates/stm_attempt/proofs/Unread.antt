-- How many of the prefetched answers are of keys that were not read yet.
use Rattle.std.proofs.Common.{◌≡◌, ◌≤◌, ℕ, ◌+◌, Bool, true, false, cond, List, [], ◌∷◌, ◌++◌, length, filter, refl, sym, ◌∙◌, ap, arith}
use Rattle.std.specs.Prelude.{bytes_eq, Option, None, Some}
use Rattle.std.proofs.lemmas.Slice.Eq.{bytes_eq-Decides}
use Rattle.stm_history.specs.declared.key_state.ReadAnswer.{ReadAnswer}
use Rattle.stm_compile.specs.Answers.{answer_in}
use Rattle.stm_attempt.specs.Known.{is_of_base, serving}

weight : Option ReadAnswer → ℕ
weight None = 1
weight (Some a) = 0

pub unread : List ReadAnswer → List ReadAnswer → ℕ
unread reads [] = 0
unread reads (p ∷ ps) = weight (answer_in p.key reads) + unread reads ps

weight_small : (o : Option ReadAnswer) → weight o ≤ 1
unfolding weight
weight_small None = omega arith
weight_small (Some a) = omega arith

pub unread_small : (reads ps : List ReadAnswer) → unread reads ps ≤ length ps
unfolding unread
unread_small reads [] = omega arith
unread_small reads (p ∷ ps) =
    let head = weight_small (answer_in p.key reads) in
    let tail = unread_small reads ps in
    omega arith

-- ---- one more answer

either : (b : Bool) (x : ReadAnswer) (o p : Option ReadAnswer) → weight o ≤ weight p → weight (cond b (Some x) o) ≤ weight (cond b (Some x) p)
unfolding weight
either true x o p h = omega arith
either false x o p h = h

weight_push : (key : List ℕ) (reads : List ReadAnswer) (a : ReadAnswer) → weight (answer_in key (reads ++ a ∷ [])) ≤ weight (answer_in key reads)
unfolding weight
weight_push key [] a = weight_small (answer_in key (a ∷ []))
weight_push key (x ∷ reads) a = either (bytes_eq x.key key) x (answer_in key (reads ++ a ∷ [])) (answer_in key reads) (weight_push key reads a)

none_by : (b : Bool) (x : ReadAnswer) (o : Option ReadAnswer) → weight o ≡ 0 → weight (cond b (Some x) o) ≡ 0
unfolding weight
none_by true x o h = refl
none_by false x o h = h

weight_found : (key : List ℕ) (reads : List ReadAnswer) (a : ReadAnswer) → bytes_eq a.key key ≡ true → weight (answer_in key (reads ++ a ∷ [])) ≡ 0
unfolding weight
weight_found key [] a same = ap (λ (b : Bool). weight (cond b (Some a) None)) same
weight_found key (x ∷ reads) a same = none_by (bytes_eq x.key key) x (answer_in key (reads ++ a ∷ [])) (weight_found key reads a same)

unread_push : (reads ps : List ReadAnswer) (a : ReadAnswer) → unread (reads ++ a ∷ []) ps ≤ unread reads ps
unfolding unread
unread_push reads [] a = omega arith
unread_push reads (p ∷ ps) a =
    let head = weight_push p.key reads a in
    let tail = unread_push reads ps a in
    omega arith

-- ---- an answer that is found

-- a found answer is of its key
found_by : (key : List ℕ) (a x : ReadAnswer) (b : Bool) (rest : Option ReadAnswer) → bytes_eq x.key key ≡ b → (rest ≡ Some a → bytes_eq a.key key ≡ true) →
    cond b (Some x) rest ≡ Some a → bytes_eq a.key key ≡ true
found_by key a x true rest is others found = let same : x ≡ a = cc in ap (λ (y : ReadAnswer). bytes_eq y.key key) (sym same) ∙ is
found_by key a x false rest is others found = others found

pub found_key : (key : List ℕ) (answers : List ReadAnswer) (a : ReadAnswer) → answer_in key answers ≡ Some a → bytes_eq a.key key ≡ true
found_key key [] a found = absurd (cc)
found_key key (x ∷ answers) a found = found_by key a x (bytes_eq x.key key) (answer_in key answers) refl (found_key key answers a) found

pub same_bytes : (key : List ℕ) → bytes_eq key key ≡ true
same_bytes key = (bytes_eq-Decides key key).1 refl

-- what is found among the answers that pass a test was not read, and is read once it is added
head_found : (reads ps : List ReadAnswer) (key : List ℕ) (a p : ReadAnswer) → p ≡ a → bytes_eq p.key key ≡ true → answer_in key reads ≡ None →
    unread (reads ++ a ∷ []) (p ∷ ps) + 1 ≤ unread reads (p ∷ ps)
unfolding unread weight
head_found reads ps key a p same is new =
    let key_is : p.key ≡ key = (bytes_eq-Decides p.key key).0 is in
    let before : weight (answer_in p.key reads) ≡ 1 = ap (λ k. weight (answer_in k reads)) key_is ∙ ap weight new in
    let is_its : bytes_eq a.key p.key ≡ true = ap (λ (y : ReadAnswer). bytes_eq y.key p.key) (sym same) ∙ same_bytes p.key in
    let after : weight (answer_in p.key (reads ++ a ∷ [])) ≡ 0 = weight_found p.key reads a is_its in
    let tail = unread_push reads ps a in
    omega arith

tail_found : (reads ps : List ReadAnswer) (a p : ReadAnswer) → unread (reads ++ a ∷ []) ps + 1 ≤ unread reads ps →
    unread (reads ++ a ∷ []) (p ∷ ps) + 1 ≤ unread reads (p ∷ ps)
unfolding unread
tail_found reads ps a p tail =
    let head = weight_push p.key reads a in
    omega arith

either_found : (reads ps rest : List ReadAnswer) (key : List ℕ) (a p : ReadAnswer) (b : Bool) → bytes_eq p.key key ≡ b → answer_in key reads ≡ None →
    (answer_in key rest ≡ Some a → unread (reads ++ a ∷ []) ps + 1 ≤ unread reads ps) → cond b (Some p) (answer_in key rest) ≡ Some a →
    unread (reads ++ a ∷ []) (p ∷ ps) + 1 ≤ unread reads (p ∷ ps)
either_found reads ps rest key a p true is new later found = head_found reads ps key a p (cc) is new
either_found reads ps rest key a p false is new later found = tail_found reads ps a p (later found)

kept_found : (reads ps rest : List ReadAnswer) (key : List ℕ) (a p : ReadAnswer) (kept : Bool) → answer_in key reads ≡ None →
    (answer_in key rest ≡ Some a → unread (reads ++ a ∷ []) ps + 1 ≤ unread reads ps) → answer_in key (cond kept (p ∷ rest) rest) ≡ Some a →
    unread (reads ++ a ∷ []) (p ∷ ps) + 1 ≤ unread reads (p ∷ ps)
kept_found reads ps rest key a p true new later found = either_found reads ps rest key a p (bytes_eq p.key key) refl new later found
kept_found reads ps rest key a p false new later found = tail_found reads ps a p (later found)

fewer_kept : (test : ReadAnswer → Bool) (reads ps : List ReadAnswer) (key : List ℕ) (a : ReadAnswer) → answer_in key reads ≡ None →
    answer_in key (filter test ps) ≡ Some a → unread (reads ++ a ∷ []) ps + 1 ≤ unread reads ps
fewer_kept test reads [] key a new found = absurd (cc)
fewer_kept test reads (p ∷ ps) key a new found =
    kept_found reads ps (filter test ps) key a p (test p) new (fewer_kept test reads ps key a new) found

-- an answer that serves an unread key makes the unread ones fewer
pub fewer : (reads ps : List ReadAnswer) (key : List ℕ) (a : ReadAnswer) → answer_in key reads ≡ None →
    answer_in key (serving reads ps) ≡ Some a → unread (reads ++ a ∷ []) ps + 1 ≤ unread reads ps
fewer reads ps key a new found = fewer_kept (is_of_base reads) reads ps key a new found
