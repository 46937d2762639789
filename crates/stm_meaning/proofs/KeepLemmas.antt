-- What holds of a run at its end, since each of its steps keeps it, and what a run has in common with the run over a look-up that has its answers and more.
use Rattle.std.proofs.Common.{◌≡◌, ℕ, ◌<◌, Bool, cond, List, [], ◌∷◌, length, Option, None, refl, arith}
use Rattle.std.specs.Prelude.{pos, nat_lt}
use Rattle.std.specs.List.{AllByRecursion}
use Rattle.std.proofs.lemmas.Bool.Decides.{nat_tests}
use Rattle.stm_program.specs.Syntax.{Expression, Block}
use Rattle.stm_program.specs.Writes.{last_write}
use Rattle.stm_history.specs.declared.change.Change.{Change}
use Rattle.stm_history.specs.declared.change.Change.TheVariants.{Put as PutChange, Del as DelChange}
use Rattle.stm_history.specs.History.{key_of}
use Rattle.stm_steps.specs.declared.value.Value.{Value}
use Rattle.stm_steps.specs.declared.value.Value.TheVariants.{Number as NumberValue}
use Rattle.stm_steps.specs.declared.fault.Fault.TheVariants.{TurnLimit}
use Rattle.stm_steps.specs.declared.stop.Stop.{Stop}
use Rattle.stm_steps.specs.declared.stop.Stop.TheVariants.{Aborted, Faulted, Wants}
use Rattle.stm_steps.specs.Answer.{Answer, Lookup, AgreesWith}
use Rattle.stm_steps.specs.Session.{Session, fresh, with_variable, with_output, with_write, with_turn}
use Rattle.stm_steps.specs.Outcome.{Outcome, Gives, Stops, and_then, turn_limit, begin_turn}
use Rattle.stm_steps.specs.Meaning.{get_answered, rev_answered, get_of, get_key, rev_key, run_block}
use Rattle.stm_meaning.proofs.RunInduction.{Part, parts_of, Gift, ValueOf, Truth, Nothing, Given, Tells, Steps, block}

-- what the run has come to
abbrev pub session_of : {X : Type 0} → Outcome X → Session
session_of (Gives x s) = s
session_of (Stops stop s) = s

-- the steps keep a property
pub record StepsKeep (look : Lookup) (P : Session → Type 0) : Type 0 where
  pub set : (v : ℕ) (x : Value) (s : Session) → P s → P (with_variable v x s)
  pub turn : (s : Session) → P s → P (with_turn s)
  pub emit : (x : Value) (s : Session) → P s → P (with_output x s)
  pub write : (w : Change) (s : Session) → 0 < length (key_of w) → P s → P (with_write w s)
  pub get : (key : List ℕ) (s : Session) → 0 < length key → P s → P (session_of (get_key look key s))
  pub rev : (key : List ℕ) (s : Session) → 0 < length key → P s → P (session_of (rev_key look key s))

-- The second look-up has the answers of the first. Where the first run stops at `s` since its look-up knows nothing of a key, the second looks the key up, and
-- what holds of it then goes on to hold.
pub record HasMore (one other : Lookup) (Since : List ℕ → Session → Session → Type 0) : Type 0 where
  pub agrees : AgreesWith one other
  pub keeps : (key : List ℕ) (s : Session) → StepsKeep other (Since key s)
  pub get : (key : List ℕ) (s : Session) → 0 < length key → last_write key s.writes ≡ None → one key ≡ None →
      Since key s (session_of (get_answered key (other key) s))
  pub rev : (key : List ℕ) (s : Session) → 0 < length key → one key ≡ None → Since key s (session_of (rev_answered key (other key) s))

-- the second run comes to the same, or goes on where the first one stops for a key
module _ (Since : List ℕ → Session → Session → Type 0) where
  abbrev pub StopGoes : {X : Type 0} → Stop → Session → Outcome X → Type 0
  StopGoes (Aborted t) s second = second ≡ Stops (Aborted t) s
  StopGoes (Faulted fault) s second = second ≡ Stops (Faulted fault) s
  StopGoes (Wants key) s second = Since key s (session_of second)

  abbrev pub Goes : {X : Type 0} → Outcome X → Outcome X → Type 0
  Goes (Gives x s) second = second ≡ Gives x s
  Goes (Stops stop s) second = StopGoes stop s second

  record Beside {X : Type 0} (f g : Session → Outcome X) : Type 0 where
    keeps : (key : List ℕ) (s t : Session) → Since key s t → Since key s (session_of (g t))
    goes : (s : Session) → Goes (f s) (g s)

  then_keeps : {X Y : Type 0} (key : List ℕ) (s : Session) (o : Outcome X) (k : X → Session → Outcome Y) → Since key s (session_of o) →
      ((x : X) (t : Session) → Since key s t → Since key s (session_of (k x t))) → Since key s (session_of (and_then o k))
  then_keeps key s o k is keeps = grind (arith, nat_tests)

  then_goes : {X Y : Type 0} (first second : Outcome X) (h k : X → Session → Outcome Y) → Goes first second → ((x : X) → Beside (h x) (k x)) →
      Goes (and_then first h) (and_then second k)
  then_goes first second h k e next = grind (arith, nat_tests, then_keeps)

  beside_then : {X Y : Type 0} (f g : Session → Outcome X) (h k : X → Session → Outcome Y) → Beside f g → ((x : X) → Beside (h x) (k x)) →
      Beside (λ s. and_then (f s) h) (λ s. and_then (g s) k)
  beside_then f g h k first next = grind (arith, nat_tests, then_keeps, then_goes)

  abbrev turn : Bool → ℕ → ℕ → Session → Outcome (Unit {0})
  turn b v i s = cond b (Gives tt (with_variable v (NumberValue (pos i)) (with_turn s))) (Stops (Faulted TurnLimit) s)

  turn_keeps : (look : Lookup) (key : List ℕ) (s : Session) → StepsKeep look (Since key s) → (b : Bool) (v i : ℕ) (t : Session) → Since key s t →
      Since key s (session_of (turn b v i t))
  turn_keeps look key s steps b v i t is = grind (arith, nat_tests)

  turn_goes : (b : Bool) (v i : ℕ) (s : Session) → Goes (turn b v i s) (turn b v i s)
  turn_goes b v i s = grind (arith, nat_tests)

-- nothing is known of parts, and nothing is told of values
all_known : (parts : List Part) → AllByRecursion (λ (part : Part). Unit {0}) parts
all_known [] = tt
all_known (part ∷ parts) = (tt, all_known parts)

nothing_told : (a : Gift) (x : Given a) → Tells (λ (e : Expression) (y : Value). Unit {0}) a x
nothing_told a x = grind (arith, nat_tests, ValueOf, Truth, Nothing)

module _ (one other : Lookup) (Since : List ℕ → Session → Session → Type 0) (more : HasMore one other Since) where
  rev_answered-goes : (key : List ℕ) (a : Option Answer) (s : Session) → one key ≡ a → 0 < length key →
      Goes Since (rev_answered key a s) (rev_answered key (other key) s)
  rev_answered-goes key a s is long = grind (arith, nat_tests)

  get_of-goes : (key : List ℕ) (w : Option Change) (s : Session) → last_write key s.writes ≡ w → 0 < length key →
      Goes Since (get_of one key w s) (get_of other key w s)
  get_of-goes key w s is long = grind (arith, nat_tests)

  steps_beside : Steps one other (λ part. Unit {0}) (λ e x. Unit {0}) (λ a f g. Beside Since f g)
  unfolding get_key rev_key begin_turn
  steps_beside = record {
    within = λ part h. all_known (parts_of part);
    gives = λ a x p. record { keeps = λ key s t is. is; goes = λ s. refl };
    faults = λ a fault. record { keeps = λ key s t is. is; goes = λ s. refl };
    joins = λ a b f g h k first next. beside_then Since f g h k first (λ x. next x (nothing_told a x));
    text = λ t. tt;
    number = λ n h. tt;
    variable = λ v. record { keeps = λ key s t is. is; goes = λ s. refl };
    get = λ e key h p long.
        record { keeps = λ k s t. (more.keeps k s).get key t long; goes = λ s. get_of-goes key (last_write key s.writes) s refl long };
    rev = λ e key h p long. record { keeps = λ k s t. (more.keeps k s).rev key t long; goes = λ s. rev_answered-goes key (one key) s refl long };
    calculated = λ operator e f x y z p q is. tt;
    cat = λ e f x y z p q is. tt;
    spelled = λ e x z p is. tt;
    counted = λ e x z p is. tt;
    set = λ v e x p. record { keeps = λ key s t. (more.keeps key s).set v x t; goes = λ s. refl };
    put = λ e f lease key value h p long.
        record { keeps = λ k s t. (more.keeps k s).write (PutChange key value lease) t long; goes = λ s. refl };
    del = λ e key h p long. record { keeps = λ k s t. (more.keeps k s).write (DelChange key) t long; goes = λ s. refl };
    turn = λ v i e limit body h few. record {
      keeps = λ key s t. turn_keeps Since other key s (more.keeps key s) (nat_lt t.turns turn_limit) v i t;
      goes = λ s. turn_goes Since (nat_lt s.turns turn_limit) v i s;
    };
    emit = λ e x p. record { keeps = λ key s t. (more.keeps key s).emit x t; goes = λ s. refl };
    abort = λ t. record { keeps = λ key s u is. is; goes = λ s. refl };
  }

  beside : (program : Block) → Beside Since (run_block one program) (run_block other program)
  beside program = block one other (λ part. Unit {0}) (λ e x. Unit {0}) (λ a f g. Beside Since f g) steps_beside program tt

  pub run_goes : (program : Block) → Goes Since (run_block one program fresh) (run_block other program fresh)
  run_goes program = (beside program).goes fresh

module _ (look : Lookup) (P : Session → Type 0) (steps : StepsKeep look P) where
  kept_since : HasMore look look (λ key s t. P s → P t)
  unfolding rev_key get_key
  kept_since = grind (arith, nat_tests)

  -- where it held at the beginning
  pub kept_by_run : (program : Block) → P fresh → P (session_of (run_block look program fresh))
  kept_by_run program = (beside look look (λ key s t. P s → P t) kept_since program).keeps [] fresh fresh (λ p. p)
