-- A run that wants a key, beside the run where the look-up knows that key too: the second looks it up next.
use Rattle.std.proofs.Common.{◌≡◌, ℕ, List, refl, subst, arith}
use Rattle.std.specs.Prelude.{Option, Some}
use Rattle.std.proofs.lemmas.Bool.Decides.{nat_tests}
use Rattle.stm_program.specs.Syntax.{Block}
use Rattle.stm_history.specs.declared.change.Change.{Change}
use Rattle.stm_steps.specs.declared.stop.Stop.TheVariants.{Wants}
use Rattle.stm_steps.specs.Answer.{Answer, Lookup}
use Rattle.stm_steps.specs.Session.{Session, fresh, with_key}
use Rattle.stm_steps.specs.Outcome.{Outcome, Stops}
use Rattle.stm_meaning.specs.Meaning.{get_answered, rev_answered, get_of, get_key, rev_key, run_block}
use Rattle.stm_meaning.proofs.KeepLemmas.{session_of, HasMore, Goes, run_goes}

-- the keys that the run has read
abbrev pub reads_of : {X : Type 0} → Outcome X → List (List ℕ)
reads_of o = (session_of o).reads

-- One look-up, and another that knows more: how the reads were before, the key that is wanted then, and how the reads are after it, which
-- no key that the second look-up knows changes.
pub record OneKeyMore (known whole : Lookup) (Before After : List (List ℕ) → Type 0) (next : List ℕ) : Type 0 where
  pub agrees : (key : List ℕ) (a : Answer) → known key ≡ Some a → whole key ≡ Some a
  pub answer : Answer
  pub knows : whole next ≡ Some answer
  pub adds : (reads : List (List ℕ)) → Before reads → After (with_key next reads)
  pub is_all : (key : List ℕ) (a : Answer) (reads : List (List ℕ)) → whole key ≡ Some a → After reads → After (with_key key reads)

module _ (known whole : Lookup) (Before After : List (List ℕ) → Type 0) (next : List ℕ) (more : OneKeyMore known whole Before After next) where
  -- where the first run stops for the key, the second has read the key too, and nothing else since
  abbrev HasRead : List ℕ → Session → Session → Type 0
  HasRead key s t = key ≡ next → Before s.reads → After t.reads

  get_of-stays : (key : List ℕ) (w : Option Change) (s : Session) → After s.reads → After (reads_of (get_of whole key w s))
  get_of-stays key w s is = grind (arith, nat_tests)

  get_answered-next : (key : List ℕ) (s : Session) → HasRead key s (session_of (get_answered key (whole key) s))
  get_answered-next key s same is = grind (arith, nat_tests)

  rev_answered-next : (key : List ℕ) (s : Session) → HasRead key s (session_of (rev_answered key (whole key) s))
  rev_answered-next key s same is = grind (arith, nat_tests)

  reads_on : HasMore known whole HasRead
  unfolding get_key rev_key
  reads_on = grind (arith, nat_tests, get_of-stays, get_answered-next, rev_answered-next)

  -- a run that wants the key has read it, and nothing else since, where the key is known
  pub wanted_is_read : (program : Block) (s : Session) → run_block known program fresh ≡ Stops (Wants next) s → Before s.reads →
      After (reads_of (run_block whole program fresh))
  wanted_is_read program s is read =
      let stopped : Goes HasRead (Stops (Wants next) s) (run_block whole program fresh) =
      subst (λ (o : Outcome (Unit {0})). Goes HasRead o (run_block whole program fresh)) is (run_goes known whole HasRead reads_on program) in
      stopped refl read
