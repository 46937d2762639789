-- The one induction over the runs of a program: a relation between two computations, side by side, which each step keeps, holds of the program's runs over two
-- look-ups. A new expression, condition or statement has its case here, and a field of `Steps` where it does what none of them did.
use Rattle.std.proofs.Common.{◌≡◌, ℕ, suc, zero, ◌+◌, ◌<◌, ◌≤◌, Bool, true, false, not, List, [], ◌∷◌, length, ℤ, refl, arith}
use Rattle.std.specs.Prelude.{Result, Ok, Err}
use Rattle.std.specs.List.{AllByRecursion}
use Rattle.std.proofs.lemmas.Bool.{leb-true, Decides.nat_tests}
use Rattle.stm_program.specs.declared.operator.Operator.{Operator}
use Rattle.stm_program.specs.Syntax.{Expression, Condition, Statement, Block, Text, Number, Variable, Get, Rev, Arithmetic, Cat, TextOf, NumOf, Equal}
use Rattle.stm_program.specs.Syntax.{Less, Not, And, Or, Set, Put, Del, If, For, Emit, Abort, End, Then}
use Rattle.stm_history.specs.declared.change.Change.{Change}
use Rattle.stm_history.specs.declared.change.Change.TheVariants.{Put as PutChange, Del as DelChange}
use Rattle.stm_steps.specs.declared.value.Value.{Value}
use Rattle.stm_steps.specs.declared.value.Value.TheVariants.{Text as TextValue, Number as NumberValue}
use Rattle.stm_steps.specs.declared.fault.Fault.{Fault}
use Rattle.stm_steps.specs.declared.fault.Fault.TheVariants.{Kind, EmptyKey}
use Rattle.stm_steps.specs.declared.stop.Stop.TheVariants.{Faulted}
use Rattle.stm_steps.specs.Answer.{Lookup}
use Rattle.stm_steps.specs.Values.{text_in, key_in, arithmetic, concatenated, text_of, num_of, equal, less, put_of, del_of, turns_of}
use Rattle.stm_steps.specs.Session.{Session, variable_in, with_variable, with_output, with_write}
use Rattle.stm_steps.specs.Outcome.{Outcome, Gives, Stops, and_then, given, begin_turn}
use Rattle.stm_steps.specs.Meaning.{get_key, rev_key, evaluate, unless_false, unless_true, holds, branch, repeat, aborts, run_statement, run_block}

-- ---- parts of a program

pub data Part : Type 0 where
  OfExpression : Expression → Part
  OfCondition : Condition → Part
  OfStatement : Statement → Part
  OfBlock : Block → Part

-- the parts that a part is made of
abbrev pub parts_of : Part → List Part
parts_of (OfExpression (Get e)) = OfExpression e ∷ []
parts_of (OfExpression (Rev e)) = OfExpression e ∷ []
parts_of (OfExpression (Arithmetic operator e f)) = OfExpression e ∷ OfExpression f ∷ []
parts_of (OfExpression (Cat e f)) = OfExpression e ∷ OfExpression f ∷ []
parts_of (OfExpression (TextOf e)) = OfExpression e ∷ []
parts_of (OfExpression (NumOf e)) = OfExpression e ∷ []
parts_of (OfCondition (Equal e f)) = OfExpression e ∷ OfExpression f ∷ []
parts_of (OfCondition (Less e f)) = OfExpression e ∷ OfExpression f ∷ []
parts_of (OfCondition (Not c)) = OfCondition c ∷ []
parts_of (OfCondition (And c d)) = OfCondition c ∷ OfCondition d ∷ []
parts_of (OfCondition (Or c d)) = OfCondition c ∷ OfCondition d ∷ []
parts_of (OfStatement (Set v e)) = OfExpression e ∷ []
parts_of (OfStatement (Put e f lease)) = OfExpression e ∷ OfExpression f ∷ []
parts_of (OfStatement (Del e)) = OfExpression e ∷ []
parts_of (OfStatement (If c a b)) = OfCondition c ∷ OfBlock a ∷ OfBlock b ∷ []
parts_of (OfStatement (For v e limit body)) = OfExpression e ∷ OfBlock body ∷ []
parts_of (OfStatement (Emit e)) = OfExpression e ∷ []
parts_of (OfStatement (Abort e)) = OfExpression e ∷ []
parts_of (OfBlock (Then first rest)) = OfStatement first ∷ OfBlock rest ∷ []
parts_of _ = []

-- ---- what they give

pub data Gift : Type 0 where
  ValueOf : Expression → Gift
  Truth : Gift
  Nothing : Gift

abbrev pub Given : Gift → Type 0
Given (ValueOf e) = Value
Given Truth = Bool
Given Nothing = Unit {0}

-- a relation between two computations that give such a thing
abbrev pub Relation : Type 1
Relation = (a : Gift) → (Session → Outcome (Given a)) → (Session → Outcome (Given a)) → Type 0

-- what is told of the value of an expression
abbrev pub Tells : (Expression → Value → Type 0) → (a : Gift) → Given a → Type 0
Tells told (ValueOf e) x = told e x
Tells told Truth x = Unit {0}
Tells told Nothing x = Unit {0}

abbrev pub setting : ℕ → Value → Session → Outcome (Unit {0})
setting v x s = Gives tt (with_variable v x s)

abbrev pub emitting : Value → Session → Outcome (Unit {0})
emitting x s = Gives tt (with_output x s)

abbrev pub writing : Change → Session → Outcome (Unit {0})
writing w s = Gives tt (with_write w s)

-- Each step keeps the relation. What is known of a part is known of those that it is made of, and what is told of values holds where they are given.
pub record Steps (one other : Lookup) (Known : Part → Type 0) (told : Expression → Value → Type 0) (Alike : Relation) : Type 0 where
  pub within : (part : Part) → Known part → AllByRecursion Known (parts_of part)
  pub gives : (a : Gift) (x : Given a) → Tells told a x → Alike a (λ s. Gives x s) (λ s. Gives x s)
  pub faults : (a : Gift) (fault : Fault) → Alike a (λ s. Stops (Faulted fault) s) (λ s. Stops (Faulted fault) s)
  pub joins : (a b : Gift) (f g : Session → Outcome (Given a)) (h k : Given a → Session → Outcome (Given b)) → Alike a f g →
      ((x : Given a) → Tells told a x → Alike b (h x) (k x)) → Alike b (λ s. and_then (f s) h) (λ s. and_then (g s) k)
  pub text : (t : List ℕ) → told (Text t) (TextValue t)
  pub number : (n : ℤ) → Known (OfExpression (Number n)) → told (Number n) (NumberValue n)
  pub variable : (v : ℕ) → Alike (ValueOf (Variable v)) (λ s. Gives (variable_in s v) s) (λ s. Gives (variable_in s v) s)
  pub get : (e : Expression) (key : List ℕ) → Known (OfExpression (Get e)) → told e (TextValue key) → 0 < length key →
      Alike (ValueOf (Get e)) (get_key one key) (get_key other key)
  pub rev : (e : Expression) (key : List ℕ) → Known (OfExpression (Rev e)) → told e (TextValue key) → 0 < length key →
      Alike (ValueOf (Rev e)) (rev_key one key) (rev_key other key)
  pub calculated : (operator : Operator) (e f : Expression) (x y z : Value) → told e x → told f y → arithmetic operator x y ≡ Ok z →
      told (Arithmetic operator e f) z
  pub cat : (e f : Expression) (x y z : Value) → told e x → told f y → concatenated x y ≡ Ok z → told (Cat e f) z
  pub spelled : (e : Expression) (x z : Value) → told e x → text_of x ≡ Ok z → told (TextOf e) z
  pub counted : (e : Expression) (x z : Value) → told e x → num_of x ≡ Ok z → told (NumOf e) z
  pub set : (v : ℕ) (e : Expression) (x : Value) → told e x → Alike Nothing (setting v x) (setting v x)
  pub put : (e f : Expression) (lease : ℕ) (key value : List ℕ) → Known (OfStatement (Put e f lease)) → told e (TextValue key) → 0 < length key →
      Alike Nothing (writing (PutChange key value lease)) (writing (PutChange key value lease))
  pub del : (e : Expression) (key : List ℕ) → Known (OfStatement (Del e)) → told e (TextValue key) → 0 < length key →
      Alike Nothing (writing (DelChange key)) (writing (DelChange key))
  pub turn : (v i : ℕ) (e : Expression) (limit : ℕ) (body : Block) → Known (OfStatement (For v e limit body)) → i < limit →
      Alike Nothing (begin_turn v i) (begin_turn v i)
  pub emit : (e : Expression) (x : Value) → told e x → Alike Nothing (emitting x) (emitting x)
  pub abort : (t : List ℕ) → Alike Nothing (aborts t) (aborts t)

-- ---- the induction

turns_within : (x : Value) (limit n : ℕ) → turns_of x limit ≡ Ok n → n ≤ limit
unfolding turns_of
turns_within x limit n is = grind (arith, nat_tests, leb-true)

module _ (one other : Lookup) (Known : Part → Type 0) (told : Expression → Value → Type 0) (Alike : Relation)
    (steps : Steps one other Known told Alike) where
  -- a fault, or what follows what was computed
  given_then : {X : Type 0} (b : Gift) (r : Result X Fault) (h k : X → Session → Outcome (Given b)) → ((x : X) → r ≡ Ok x → Alike b (h x) (k x)) →
      Alike b (λ t. and_then (given r t) h) (λ t. and_then (given r t) k)
  given_then b (Ok x) h k goes = goes x refl
  given_then b (Err fault) h k goes = steps.faults b fault

  computed : (a : Gift) (r : Result (Given a) Fault) → ((x : Given a) → r ≡ Ok x → Tells told a x) → Alike a (given r) (given r)
  computed a r tells = grind (arith, nat_tests)

  after : (e : Expression) (b : Gift) (h k : Value → Session → Outcome (Given b)) → Alike (ValueOf e) (evaluate one e) (evaluate other e) →
      ((x : Value) → told e x → Alike b (h x) (k x)) → Alike b (λ s. and_then (evaluate one e s) h) (λ s. and_then (evaluate other e s) k)
  after e b h k = steps.joins (ValueOf e) b (evaluate one e) (evaluate other e) h k

  of_two : (e f : Expression) (b : Gift) (g : Value → Value → Result (Given b) Fault) → Alike (ValueOf e) (evaluate one e) (evaluate other e) →
      Alike (ValueOf f) (evaluate one f) (evaluate other f) → ((x y : Value) (z : Given b) → told e x → told f y → g x y ≡ Ok z → Tells told b z) →
      Alike b (λ s. and_then (evaluate one e s) (λ x t. and_then (evaluate one f t) (λ y. given (g x y))))
      (λ s. and_then (evaluate other e s) (λ x t. and_then (evaluate other f t) (λ y. given (g x y))))
  of_two e f b g left right tells =
      after e b (λ x t. and_then (evaluate one f t) (λ y. given (g x y))) (λ x t. and_then (evaluate other f t) (λ y. given (g x y))) left
      (λ x p. after f b (λ y. given (g x y)) (λ y. given (g x y)) right (λ y q. computed b (g x y) (λ z. tells x y z p q)))

  -- a key that is no text or is empty is a fault
  keyed : (e : Expression) (b : Gift) (h k : List ℕ → Session → Outcome (Given b)) →
      ((key : List ℕ) → told e (TextValue key) → 0 < length key → Alike b (h key) (k key)) → (x : Value) → told e x →
      Alike b (λ t. and_then (given (key_in x) t) h) (λ t. and_then (given (key_in x) t) k)
  unfolding key_in
  keyed e b h k goes (TextValue []) p = steps.faults b EmptyKey
  keyed e b h k goes (TextValue (c ∷ cs)) p = goes (c ∷ cs) p (omega arith)
  keyed e b h k goes (NumberValue n) p = steps.faults b Kind

  put : (e f : Expression) (lease : ℕ) (x y : Value) → Known (OfStatement (Put e f lease)) → told e x →
      Alike Nothing (λ t. and_then (given (put_of x y lease) t) writing) (λ t. and_then (given (put_of x y lease) t) writing)
  unfolding put_of
  put e f lease (NumberValue a) y h p = steps.faults Nothing Kind
  put e f lease (TextValue t) (NumberValue b) h p = steps.faults Nothing Kind
  put e f lease (TextValue []) (TextValue u) h p = steps.faults Nothing EmptyKey
  put e f lease (TextValue (c ∷ cs)) (TextValue u) h p = steps.put e f lease (c ∷ cs) u h p (omega arith)

  del : (e : Expression) (x : Value) → Known (OfStatement (Del e)) → told e x →
      Alike Nothing (λ t. and_then (given (del_of x) t) writing) (λ t. and_then (given (del_of x) t) writing)
  unfolding del_of
  del e (NumberValue a) h p = steps.faults Nothing Kind
  del e (TextValue []) h p = steps.faults Nothing EmptyKey
  del e (TextValue (c ∷ cs)) h p = steps.del e (c ∷ cs) h p (omega arith)

  expression : (e : Expression) → Known (OfExpression e) → Alike (ValueOf e) (evaluate one e) (evaluate other e)
  unfolding evaluate
  expression (Text t) h = steps.gives (ValueOf (Text t)) (TextValue t) (steps.text t)
  expression (Number n) h = steps.gives (ValueOf (Number n)) (NumberValue n) (steps.number n h)
  expression (Variable v) h = steps.variable v
  expression (Get e) h =
      after e (ValueOf (Get e)) (λ x t. and_then (given (key_in x) t) (get_key one)) (λ x t. and_then (given (key_in x) t) (get_key other))
      (expression e (steps.within (OfExpression (Get e)) h).0)
      (keyed e (ValueOf (Get e)) (get_key one) (get_key other) (λ key. steps.get e key h))
  expression (Rev e) h =
      after e (ValueOf (Rev e)) (λ x t. and_then (given (key_in x) t) (rev_key one)) (λ x t. and_then (given (key_in x) t) (rev_key other))
      (expression e (steps.within (OfExpression (Rev e)) h).0)
      (keyed e (ValueOf (Rev e)) (rev_key one) (rev_key other) (λ key. steps.rev e key h))
  expression (Arithmetic operator e f) h =
      let parts = steps.within (OfExpression (Arithmetic operator e f)) h in
      of_two e f (ValueOf (Arithmetic operator e f)) (arithmetic operator) (expression e parts.0) (expression f parts.1.0) (steps.calculated operator e f)
  expression (Cat e f) h =
      let parts = steps.within (OfExpression (Cat e f)) h in
      of_two e f (ValueOf (Cat e f)) concatenated (expression e parts.0) (expression f parts.1.0) (steps.cat e f)
  expression (TextOf e) h =
      after e (ValueOf (TextOf e)) (λ x. given (text_of x)) (λ x. given (text_of x)) (expression e (steps.within (OfExpression (TextOf e)) h).0)
      (λ x p. computed (ValueOf (TextOf e)) (text_of x) (λ z. steps.spelled e x z p))
  expression (NumOf e) h =
      after e (ValueOf (NumOf e)) (λ x. given (num_of x)) (λ x. given (num_of x)) (expression e (steps.within (OfExpression (NumOf e)) h).0)
      (λ x p. computed (ValueOf (NumOf e)) (num_of x) (λ z. steps.counted e x z p))

  unless_false_alike : (f g : Session → Outcome Bool) → Alike Truth f g → (b : Bool) → Alike Truth (unless_false f b) (unless_false g b)
  unless_false_alike f g h true = h
  unless_false_alike f g h false = steps.gives Truth false tt

  unless_true_alike : (f g : Session → Outcome Bool) → Alike Truth f g → (b : Bool) → Alike Truth (unless_true f b) (unless_true g b)
  unless_true_alike f g h true = steps.gives Truth true tt
  unless_true_alike f g h false = h

  condition : (c : Condition) → Known (OfCondition c) → Alike Truth (holds one c) (holds other c)
  unfolding holds
  condition (Equal e f) h =
      let parts = steps.within (OfCondition (Equal e f)) h in
      of_two e f Truth equal (expression e parts.0) (expression f parts.1.0) (λ x y z p q is. tt)
  condition (Less e f) h =
      let parts = steps.within (OfCondition (Less e f)) h in
      of_two e f Truth less (expression e parts.0) (expression f parts.1.0) (λ x y z p q is. tt)
  condition (Not c) h =
      steps.joins Truth Truth (holds one c) (holds other c) (λ b. Gives (not b)) (λ b. Gives (not b)) (condition c (steps.within (OfCondition (Not c)) h).0)
      (λ b p. steps.gives Truth (not b) tt)
  condition (And c d) h =
      let parts = steps.within (OfCondition (And c d)) h in
      steps.joins Truth Truth (holds one c) (holds other c) (unless_false (holds one d)) (unless_false (holds other d)) (condition c parts.0)
      (λ b p. unless_false_alike (holds one d) (holds other d) (condition d parts.1.0) b)
  condition (Or c d) h =
      let parts = steps.within (OfCondition (Or c d)) h in
      steps.joins Truth Truth (holds one c) (holds other c) (unless_true (holds one d)) (unless_true (holds other d)) (condition c parts.0)
      (λ b p. unless_true_alike (holds one d) (holds other d) (condition d parts.1.0) b)

  abbrev Runs : (f g : Session → Outcome (Unit {0})) → Type 0
  Runs = Alike Nothing

  branch_alike : (f g h k : Session → Outcome (Unit {0})) → Runs f g → Runs h k → (b : Bool) → Runs (branch f h b) (branch g k b)
  branch_alike f g h k first second b = grind (arith, nat_tests)

  turns : (v limit : ℕ) (f g : Session → Outcome (Unit {0})) → ((i : ℕ) → i < limit → Runs (begin_turn v i) (begin_turn v i)) → Runs f g →
      (left i : ℕ) → left + i ≤ limit → Runs (repeat v f left i) (repeat v g left i)
  unfolding repeat
  turns v limit f g begins inner zero i few = steps.gives Nothing tt tt
  turns v limit f g begins inner (suc left) i few =
      steps.joins Nothing Nothing (begin_turn v i) (begin_turn v i) (λ _ t. and_then (f t) (λ _. repeat v f left (suc i)))
      (λ _ t. and_then (g t) (λ _. repeat v g left (suc i))) (begins i (omega (arith, few)))
      (λ _ _. steps.joins Nothing Nothing f g (λ _. repeat v f left (suc i)) (λ _. repeat v g left (suc i)) inner
      (λ _ _. turns v limit f g begins inner left (suc i) (omega (arith, few))))

  mutual
    unfolding run_statement

    statement : (p : Statement) → Known (OfStatement p) → Runs (run_statement one p) (run_statement other p)
    statement (Set v e) h =
        after e Nothing (setting v) (setting v) (expression e (steps.within (OfStatement (Set v e)) h).0) (steps.set v e)
    statement (Put e f lease) h =
        let parts = steps.within (OfStatement (Put e f lease)) h in
        after e Nothing (λ x t. and_then (evaluate one f t) (λ y u. and_then (given (put_of x y lease) u) writing))
        (λ x t. and_then (evaluate other f t) (λ y u. and_then (given (put_of x y lease) u) writing)) (expression e parts.0)
        (λ x p. after f Nothing (λ y u. and_then (given (put_of x y lease) u) writing) (λ y u. and_then (given (put_of x y lease) u) writing)
        (expression f parts.1.0) (λ y q. put e f lease x y h p))
    statement (Del e) h =
        after e Nothing (λ x t. and_then (given (del_of x) t) writing) (λ x t. and_then (given (del_of x) t) writing)
        (expression e (steps.within (OfStatement (Del e)) h).0) (λ x p. del e x h p)
    statement (If c a b) h =
        let parts = steps.within (OfStatement (If c a b)) h in
        steps.joins Truth Nothing (holds one c) (holds other c) (branch (run_block one a) (run_block one b)) (branch (run_block other a) (run_block other b))
        (condition c parts.0)
        (λ x p. branch_alike (run_block one a) (run_block other a) (run_block one b) (run_block other b) (block a parts.1.0) (block b parts.1.1.0) x)
    statement (For v e limit body) h =
        let parts = steps.within (OfStatement (For v e limit body)) h in
        after e Nothing (λ x t. and_then (given (turns_of x limit) t) (λ n. repeat v (run_block one body) n 0))
        (λ x t. and_then (given (turns_of x limit) t) (λ n. repeat v (run_block other body) n 0)) (expression e parts.0)
        (λ x p. given_then Nothing (turns_of x limit) (λ n. repeat v (run_block one body) n 0) (λ n. repeat v (run_block other body) n 0)
        (λ n is. turns v limit (run_block one body) (run_block other body) (λ i few. steps.turn v i e limit body h few) (block body parts.1.0) n 0
        (omega (arith, turns_within x limit n is))))
    statement (Emit e) h =
        after e Nothing emitting emitting (expression e (steps.within (OfStatement (Emit e)) h).0) (steps.emit e)
    statement (Abort e) h =
        after e Nothing (λ x t. and_then (given (text_in x) t) aborts) (λ x t. and_then (given (text_in x) t) aborts)
        (expression e (steps.within (OfStatement (Abort e)) h).0)
        (λ x p. given_then Nothing (text_in x) aborts aborts (λ t is. steps.abort t))

    pub block : (b : Block) → Known (OfBlock b) → Runs (run_block one b) (run_block other b)
    block End h = steps.gives Nothing tt tt
    block (Then first rest) h =
        let parts = steps.within (OfBlock (Then first rest)) h in
        steps.joins Nothing Nothing (run_statement one first) (run_statement other first) (λ _. run_block one rest) (λ _. run_block other rest)
        (statement first parts.0) (λ _ _. block rest parts.1.0)
