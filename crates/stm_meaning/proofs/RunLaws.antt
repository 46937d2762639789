-- Laws of a run on answers, beside the run over a look-up that these agree with.
use Rattle.std.proofs.Common.{◌≡◌, ℕ, ◌<◌, List, [], ◌∷◌, ◌++◌, length, Option, None, Some, refl, ◌∙◌, ap, subst, append_assoc, append-nil, arith}
use Rattle.std.specs.Prelude.{IsSome}
use Rattle.std.proofs.lemmas.Bool.Decides.{nat_tests}
use Rattle.stm_program.specs.Syntax.{Block}
use Rattle.stm_history.specs.declared.change.Change.{Change}
use Rattle.stm_steps.specs.declared.stop.Stop.TheVariants.{Aborted, Faulted, Wants}
use Rattle.stm_steps.specs.Session.{Session, fresh}
use Rattle.stm_steps.specs.declared.trace_item.TraceItem.{TraceItem}
use Rattle.stm_steps.specs.declared.trace_item.TraceItem.TheVariants.{Get as GetItem, Rev as RevItem}
use Rattle.stm_steps.specs.declared.run.Run.{Run}
use Rattle.stm_steps.specs.declared.run.Answered.TheVariants.{Ended, Wants as WantsKey}
use Rattle.stm_steps.specs.Answer.{Answer, Lookup}
use Rattle.stm_history.specs.History.{value_written}
use Rattle.stm_steps.specs.Outcome.{Outcome, Gives, Stops}
use Rattle.stm_steps.specs.Meaning.{get_answered, rev_answered, get_of, get_key, rev_key, run_block, answered, run_over}
use Rattle.stm_meaning.specs.Laws.{KnowsEachKey, IsPrefix, IsContinuedBy, AnswersGiveTheRun, WholeLookupsEnd, WantedKeysAreUnknown}
use Rattle.stm_meaning.proofs.KeepLemmas.{session_of, StepsKeep, Goes, run_goes}

-- ---- what was seen before is the beginning of what is seen now

IsPrefix-more : (t u : List TraceItem) (item : TraceItem) → IsPrefix t u → IsPrefix t (u ++ item ∷ [])
IsPrefix-more t u item p = (p.0 ++ item ∷ [], ap (λ l. l ++ item ∷ []) p.1 ∙ append_assoc t p.0 (item ∷ []))

abbrev Sees : List TraceItem → Session → Type 0
Sees t s = IsPrefix t s.trace

get_answered-sees : (t : List TraceItem) (key : List ℕ) (a : Option Answer) (s : Session) → Sees t s → Sees t (session_of (get_answered key a s))
get_answered-sees t key None s is = is
get_answered-sees t key (Some a) s is = IsPrefix-more t s.trace (GetItem key a.value) is

rev_answered-sees : (t : List TraceItem) (key : List ℕ) (a : Option Answer) (s : Session) → Sees t s → Sees t (session_of (rev_answered key a s))
rev_answered-sees t key None s is = is
rev_answered-sees t key (Some a) s is = IsPrefix-more t s.trace (RevItem key a.mod_rev) is

get_of-sees : (t : List TraceItem) (look : Lookup) (key : List ℕ) (w : Option Change) (s : Session) → Sees t s → Sees t (session_of (get_of look key w s))
get_of-sees t look key (Some w) s is = IsPrefix-more t s.trace (GetItem key (value_written w)) is
get_of-sees t look key None s is = get_answered-sees t key (look key) s is

steps_see : (t : List TraceItem) (look : Lookup) → StepsKeep look (Sees t)
unfolding get_key rev_key
steps_see t look = grind (arith, nat_tests, get_of-sees, rev_answered-sees)

-- ---- a run on answers is continued by the other run

abbrev Continues : List ℕ → Session → Session → Type 0
Continues key s = Sees s.trace

answered-goes : (o other : Outcome (Unit {0})) → Goes Continues o other → IsContinuedBy (answered o) (answered other)
answered-goes o other h = grind (arith, nat_tests)

pub answers_give_the_run : AnswersGiveTheRun
unfolding run_over
answers_give_the_run answers whole program agree =
    grind (arith, nat_tests, answered-goes, run_goes, steps_see, get_answered-sees, append-nil, rev_answered-sees)

-- ---- a run stops for a key only where its look-up knows nothing of it

abbrev IsUnknown : Lookup → List ℕ → Type 0
IsUnknown look key = (look key ≡ None) × (0 < length key)

-- the run beside itself
stops_rightly : (look : Lookup) (program : Block) → Goes (λ key s t. IsUnknown look key) (run_block look program fresh) (run_block look program fresh)
stops_rightly look = run_goes look look (λ key s t. IsUnknown look key) (record {
  agrees = λ key a is. is;
  keeps = λ key s. record {
    set = λ v x t is. is;
    turn = λ t is. is;
    emit = λ x t is. is;
    write = λ w t long is. is;
    get = λ k t long is. is;
    rev = λ k t long is. is;
  };
  get = λ key s long new none. (none, long);
  rev = λ key s long none. (none, long);
})

answered-ends : (whole : Lookup) → KnowsEachKey whole → (o : Outcome (Unit {0})) → Goes (λ key s t. IsUnknown whole key) o o →
    (run : Run) × (answered o ≡ Ended run)
answered-ends whole knows (Gives x s) h = (_, refl)
answered-ends whole knows (Stops (Aborted t) s) h = (_, refl)
answered-ends whole knows (Stops (Faulted fault) s) h = (_, refl)
answered-ends whole knows (Stops (Wants key) s) h = (let unknown : IsSome {T = Answer} None = subst (λ a. IsSome a) h.0 (knows key) in cc)

pub whole_lookups_end : WholeLookupsEnd
unfolding run_over
whole_lookups_end whole program knows = answered-ends whole knows (run_block whole program fresh) (stops_rightly whole program)

answered-wants : (answers : Lookup) (o : Outcome (Unit {0})) (key : List ℕ) (trace : List TraceItem) → answered o ≡ WantsKey key trace →
    Goes (λ k s t. IsUnknown answers k) o o → IsUnknown answers key
answered-wants answers o key trace e h = grind (arith, nat_tests)

pub wanted_keys_are_unknown : WantedKeysAreUnknown
unfolding run_over
wanted_keys_are_unknown answers program key trace e = answered-wants answers (run_block answers program fresh) key trace e (stops_rightly answers program)
