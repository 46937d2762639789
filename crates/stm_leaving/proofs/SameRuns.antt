-- What goes alike with one variable set: expressions, conditions and statements without blocks, over the variable and over its value.
use Rattle.std.proofs.Common.{◌≡◌, ◌<◌, ℕ, Bool, true, false, refl, ◌∙◌, ap, subst, List, length, nat_eq, ◌||◌, slice_index_or, slice_set, arith}
use Rattle.std.specs.Prelude.{if◌then◌else◌, pos, Result}
use Rattle.std.proofs.lemmas.Bool.{eqb-true, Decides.nat_tests}
use Rattle.std.proofs.lemmas.Bool.Decides.{eqb_tells}
use Rattle.std.proofs.lemmas.List.{set-set, set_comm, get_or-set_same, get_or-set_other}
use Rattle.stm_program.specs.Syntax.{Expression, Statement}
use Rattle.stm_program.specs.Syntax.{Text, Number, Variable, Get, Rev, Arithmetic, Cat, TextOf, NumOf, Set, Put, Del, If, For, Emit, Abort}
use Rattle.stm_history.specs.declared.change.Change.{Change as Write}
use Rattle.stm_steps.specs.declared.value.Value.{Value}
use Rattle.stm_steps.specs.declared.value.Value.TheVariants.{Number as NumberValue}
use Rattle.stm_steps.specs.declared.fault.Fault.{Fault}
use Rattle.stm_steps.specs.Answer.{Lookup}
use Rattle.stm_steps.specs.Values.{text_in, key_in, arithmetic, concatenated, text_of, num_of, put_of, del_of}
use Rattle.stm_steps.specs.Session.{Session, with_variable, with_output, with_write, variable_in}
use Rattle.stm_steps.specs.Outcome.{Outcome, Gives, Stops, and_then, given}
use Rattle.stm_steps.specs.Meaning.{get_key, rev_key, evaluate, aborts, run_statement}
use Rattle.stm_leaving.specs.Elses.{literal, fill, mentions, fill_plain, is_plain, but_for}

pub set_again : (v : ℕ) (x y : Value) (s : Session) → with_variable v x (with_variable v y s) ≡ with_variable v x s
set_again v x y s = ap (λ l. record s { variables = l }) (set-set s.variables v y x)

pub set_behind : (v w : ℕ) (x y z : Value) (s : Session) → with_variable v z (with_variable w x (with_variable v y s)) ≡ with_variable v z (with_variable w x s)
set_behind v w x y z s = grind (arith, nat_tests, eqb_tells, set-set, set_comm)

fill_none : (v : ℕ) (x : Value) (e : Expression) → mentions v e ≡ false → fill v x e ≡ e
unfolding fill mentions
fill_none v x (Text t) h = refl
fill_none v x (Number n) h = refl
fill_none v x (Variable w) h = rw h refl
fill_none v x (Get e) h = ap (λ e. Get e) (fill_none v x e h)
fill_none v x (Rev e) h = ap (λ e. Rev e) (fill_none v x e h)
fill_none v x (Arithmetic operator e f) h =
    let p : mentions v e ≡ false = grind arith in
    let q : mentions v f ≡ false = grind arith in
    rw (fill_none v x e p, fill_none v x f q) refl
fill_none v x (Cat e f) h =
    let p : mentions v e ≡ false = grind arith in
    let q : mentions v f ≡ false = grind arith in
    rw (fill_none v x e p, fill_none v x f q) refl
fill_none v x (TextOf e) h = ap (λ e. TextOf e) (fill_none v x e h)
fill_none v x (NumOf e) h = ap (λ e. NumOf e) (fill_none v x e h)

pub or_none : (x y : Bool) → (x || y) ≡ false → (x ≡ false) × (y ≡ false)
or_none x y h = grind (arith, nat_tests)

-- `Fit` is what is known of the variables
module _ (look : Lookup) (v : ℕ) (y : Value) (Fit : List Value → Type 0) where
  abbrev Hits : Type 0
  Hits = (l : List Value) → Fit l → slice_index_or (slice_set l v y) v (NumberValue (pos 0)) ≡ y

  hits_left : (a b : Bool) → ((a || b) ≡ true → Hits) → a ≡ true → Hits
  hits_left a b h e = grind (arith, nat_tests)

  hits_right : (a b : Bool) → ((a || b) ≡ true → Hits) → b ≡ true → Hits
  hits_right a b h e = grind (arith, nat_tests)

  abbrev pub Sized : {X : Type 0} → Outcome X → Type 0
  Sized (Gives x s) = Fit s.variables
  Sized (Stops stop s) = Fit s.variables

  -- the same, with the variable set
  abbrev pub carried : {X : Type 0} → Outcome X → Outcome X
  carried (Gives x s) = Gives x (with_variable v y s)
  carried (Stops stop s) = Stops stop (with_variable v y s)

  -- the second, begun with the variable set, does what the first does
  pub record Same {X : Type 0} (f g : Session → Outcome X) : Type 0 where
    pub goes : (s : Session) → Fit s.variables → g (with_variable v y s) ≡ carried (f s)
    pub sized : (s : Session) → Fit s.variables → Sized (f s)

  pub sized_then : {X Y : Type 0} (o : Outcome X) (h : X → Session → Outcome Y) → Sized o → ((x : X) (s : Session) → Fit s.variables → Sized (h x s)) →
      Sized (and_then o h)
  sized_then o h n more = grind (arith, nat_tests)

  pub same_then : {X Y : Type 0} (f g : Session → Outcome X) (h k : X → Session → Outcome Y) → Same f g → ((x : X) → Same (h x) (k x)) →
      Same (λ s. and_then (f s) h) (λ s. and_then (g s) k)
  same_then f g h k first second = grind (arith, nat_tests, sized_then)

  pub same_given : {X : Type 0} (r : Result X Fault) → Same (given r) (given r)
  same_given r = grind (arith, nat_tests)

  same_get : (key : List ℕ) → Same (get_key look key) (get_key look key)
  unfolding get_key
  same_get key = grind (arith, nat_tests)

  same_rev : (key : List ℕ) → Same (rev_key look key) (rev_key look key)
  unfolding rev_key
  same_rev key = grind (arith, nat_tests)

  same_variable : (w : ℕ) (b : Bool) → nat_eq w v ≡ b → (b ≡ true → Hits) → Same (evaluate look (if b then literal y else Variable w)) (λ s. Gives (variable_in s w) s)
  unfolding evaluate
  same_variable w b e h = grind (arith, nat_tests, eqb-true, get_or-set_other)

  pub same_evaluate : (e : Expression) → (mentions v e ≡ true → Hits) → Same (evaluate look (fill v y e)) (evaluate look e)
  unfolding evaluate fill mentions
  same_evaluate (Text t) h = record { goes = λ s n. refl; sized = λ s n. n }
  same_evaluate (Number t) h = record { goes = λ s n. refl; sized = λ s n. n }
  same_evaluate (Variable w) h = same_variable w (nat_eq w v) refl h
  same_evaluate (Get e) h =
      same_then (evaluate look (fill v y e)) (evaluate look e) (λ x t. and_then (given (key_in x) t) (get_key look))
      (λ x t. and_then (given (key_in x) t) (get_key look)) (same_evaluate e h)
      (λ x. same_then (given (key_in x)) (given (key_in x)) (get_key look) (get_key look) (same_given (key_in x)) same_get)
  same_evaluate (Rev e) h =
      same_then (evaluate look (fill v y e)) (evaluate look e) (λ x t. and_then (given (key_in x) t) (rev_key look))
      (λ x t. and_then (given (key_in x) t) (rev_key look)) (same_evaluate e h)
      (λ x. same_then (given (key_in x)) (given (key_in x)) (rev_key look) (rev_key look) (same_given (key_in x)) same_rev)
  same_evaluate (Arithmetic operator e f) h =
      same_then (evaluate look (fill v y e)) (evaluate look e) (λ x t. and_then (evaluate look (fill v y f) t) (λ z. given (arithmetic operator x z)))
      (λ x t. and_then (evaluate look f t) (λ z. given (arithmetic operator x z))) (same_evaluate e (hits_left (mentions v e) (mentions v f) h))
      (λ x. same_then (evaluate look (fill v y f)) (evaluate look f) (λ z. given (arithmetic operator x z)) (λ z. given (arithmetic operator x z))
      (same_evaluate f (hits_right (mentions v e) (mentions v f) h)) (λ z. same_given (arithmetic operator x z)))
  same_evaluate (Cat e f) h =
      same_then (evaluate look (fill v y e)) (evaluate look e) (λ x t. and_then (evaluate look (fill v y f) t) (λ z. given (concatenated x z)))
      (λ x t. and_then (evaluate look f t) (λ z. given (concatenated x z))) (same_evaluate e (hits_left (mentions v e) (mentions v f) h))
      (λ x. same_then (evaluate look (fill v y f)) (evaluate look f) (λ z. given (concatenated x z)) (λ z. given (concatenated x z))
      (same_evaluate f (hits_right (mentions v e) (mentions v f) h)) (λ z. same_given (concatenated x z)))
  same_evaluate (TextOf e) h =
      same_then (evaluate look (fill v y e)) (evaluate look e) (λ x. given (text_of x)) (λ x. given (text_of x)) (same_evaluate e h)
      (λ x. same_given (text_of x))
  same_evaluate (NumOf e) h =
      same_then (evaluate look (fill v y e)) (evaluate look e) (λ x. given (num_of x)) (λ x. given (num_of x)) (same_evaluate e h)
      (λ x. same_given (num_of x))

  -- an expression that does not name the variable
  pub same_own : (e : Expression) → mentions v e ≡ false → Same (evaluate look e) (evaluate look e)
  same_own e h = subst (λ (f : Expression). Same (evaluate look f) (evaluate look e)) (fill_none v y e h) (same_evaluate e (λ t. cc))

  pub but_for_carried : {X : Type 0} (o : Outcome X) → but_for v (carried o) ≡ but_for v o
  but_for_carried o = grind (arith, nat_tests, set_again)

  abbrev pub writing : Write → Session → Outcome (Unit {0})
  writing w s = Gives tt (with_write w s)

  pub same_write : (r : Result Write Fault) → Same (λ t. and_then (given r t) writing) (λ t. and_then (given r t) writing)
  same_write r = same_then (given r) (given r) writing writing (same_given r) (λ w. record { goes = λ s n. refl; sized = λ s n. n })

  abbrev pub setting : ℕ → Value → Session → Outcome (Unit {0})
  setting w x s = Gives tt (with_variable w x s)

  set_goes : (w : ℕ) (o : Outcome Value) → but_for v (and_then (carried o) (setting w)) ≡ but_for v (and_then o (setting w))
  set_goes w o = grind (arith, nat_tests, set_behind, set_again)

  -- a statement without blocks, over the variable and over its value
  pub plain_same : Hits → (p : Statement) → is_plain p ≡ true → (s : Session) → Fit s.variables →
      but_for v (run_statement look p (with_variable v y s)) ≡ but_for v (run_statement look (fill_plain v y p) s)
  unfolding run_statement
  plain_same hits (Set w e) h s n =
      ap (λ o. but_for v (and_then o (setting w))) ((same_evaluate e (λ _. hits)).goes s n) ∙ set_goes w (evaluate look (fill v y e) s)
  plain_same hits (Put e f lease) h s n =
      ap (λ o. but_for v o) ((same_then (evaluate look (fill v y e)) (evaluate look e)
      (λ x t. and_then (evaluate look (fill v y f) t) (λ z u. and_then (given (put_of x z lease) u) writing))
      (λ x t. and_then (evaluate look f t) (λ z u. and_then (given (put_of x z lease) u) writing)) (same_evaluate e (λ _. hits))
      (λ x. same_then (evaluate look (fill v y f)) (evaluate look f) (λ z u. and_then (given (put_of x z lease) u) writing)
      (λ z u. and_then (given (put_of x z lease) u) writing) (same_evaluate f (λ _. hits)) (λ z. same_write (put_of x z lease)))).goes s n)
      ∙ but_for_carried (run_statement look (Put (fill v y e) (fill v y f) lease) s)
  plain_same hits (Del e) h s n =
      ap (λ o. but_for v o) ((same_then (evaluate look (fill v y e)) (evaluate look e) (λ x t. and_then (given (del_of x) t) writing)
      (λ x t. and_then (given (del_of x) t) writing) (same_evaluate e (λ _. hits)) (λ x. same_write (del_of x))).goes s n)
      ∙ but_for_carried (run_statement look (Del (fill v y e)) s)
  plain_same hits (If c a b) h s n = cc
  plain_same hits (For w e limit body) h s n = cc
  plain_same hits (Emit e) h s n =
      ap (λ o. but_for v o) ((same_then (evaluate look (fill v y e)) (evaluate look e) (λ x t. Gives tt (with_output x t)) (λ x t. Gives tt (with_output x t))
      (same_evaluate e (λ _. hits)) (λ x. record { goes = λ s n. refl; sized = λ s n. n })).goes s n)
      ∙ but_for_carried (run_statement look (Emit (fill v y e)) s)
  plain_same hits (Abort e) h s n =
      ap (λ o. but_for v o) ((same_then (evaluate look (fill v y e)) (evaluate look e) (λ x t. and_then (given (text_in x) t) aborts)
      (λ x t. and_then (given (text_in x) t) aborts) (same_evaluate e (λ _. hits))
      (λ x. same_then (given (text_in x)) (given (text_in x)) aborts aborts (same_given (text_in x))
      (λ t. record { goes = λ s n. refl; sized = λ s n. n }))).goes s n)
      ∙ but_for_carried (run_statement look (Abort (fill v y e)) s)

abbrev pub Sizes : ℕ → List Value → Type 0
Sizes v l = v < length l

pub hits : (v : ℕ) (y : Value) (l : List Value) → v < length l → slice_index_or (slice_set l v y) v (NumberValue (pos 0)) ≡ y
hits v y l n = get_or-set_same l v y (NumberValue (pos 0)) n
