-- Runs over look-ups that say the same of the keys that a program keeps to.
use Rattle.std.proofs.Common.{◌≡◌, ℕ, Bool, true, cond, List, Option, None, refl, sym, ◌∙◌, ap, subst, arith}
use Rattle.std.specs.Prelude.{IsSome}
use Rattle.std.proofs.lemmas.Bool.Decides.{nat_tests}
use Rattle.stm_steps.specs.declared.run.Answered.{Answered}
use Rattle.stm_steps.specs.declared.run.Answered.TheVariants.{Ended, Wants}
use Rattle.stm_meaning.specs.Answer.{Answer, Lookup}
use Rattle.stm_meaning.specs.Laws.{AgreesWith, IsContinuedBy}
use Rattle.stm_meaning.specs.Meaning.{run_over}
use Rattle.stm_meaning.proofs.RunLaws.{answers_give_the_run, wanted_keys_are_unknown}
use Rattle.stm_narrow.specs.Touching.{SayTheSame, SameRuns}

-- what a look-up says of touched keys, and nothing of others
abbrev narrowed : (List ℕ → Bool) → Lookup → Lookup
narrowed touched look key = cond (touched key) (look key) None

narrowed_agrees : (touched : List ℕ → Bool) (look other : Lookup) → SayTheSame touched look other → AgreesWith (narrowed touched look) other
narrowed_agrees touched look other same key a is = grind (arith, nat_tests)

some_is_some : (o : Option Answer) → IsSome o → o ≡ None → ⊥
some_is_some o known none = grind (arith, nat_tests)

pub same_runs : SameRuns
same_runs touched leased program keeps one other whole same = by (run_over (narrowed touched one) program.statements) refl
  where
    by : (answered : Answered) → run_over (narrowed touched one) program.statements ≡ answered → run_over one program.statements ≡ run_over other program.statements
    by (Ended run) is =
        subst (λ (a : Answered). IsContinuedBy a (run_over one program.statements)) is
        (answers_give_the_run (narrowed touched one) one program.statements (narrowed_agrees touched one one (λ key t. refl)))
        ∙ sym (subst (λ (a : Answered). IsContinuedBy a (run_over other program.statements)) is
        (answers_give_the_run (narrowed touched one) other program.statements (narrowed_agrees touched one other same)))
    by (Wants key trace) is =
        let touches : touched key ≡ true = keeps.wanted (narrowed touched one) key trace is in
        let unknown : cond (touched key) (one key) None ≡ None = (wanted_keys_are_unknown (narrowed touched one) program.statements key trace is).0 in
        absurd (some_is_some (one key) (whole key) (sym (ap (λ b. cond b (one key) None) touches) ∙ unknown))
