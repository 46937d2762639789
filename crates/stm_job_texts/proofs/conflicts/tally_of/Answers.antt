use Rattle.std.proofs.Common.{◌≡◌, ◌+◌, ◌++◌, ◌∷◌, [], ℕ, suc, List, take, sym, ap, subst, ◌∙◌, arith}
use Rattle.std.proofs.Math.Seq.{take-suc}
use Rattle.std.proofs.lemmas.List.{length-take-le, take_all}
use Rattle.stm_job_texts.specs.Tallies.{Tally, Counts}
use Rattle.stm_job_texts.proofs.TallyLemmas.{no_text}
use Rattle.stm_job_texts.proofs.conflicts.tally_of.Goals as goal

pub loop-before-init : goal.loop-before-init
loop-before-init c = subst (λ (t : Tally). Counts [] t) (sym c.new-tally.ensures.empty) no_text

-- as many were counted as there are before this one
pub count_one-requires-clause-total : goal.count_one-requires-clause-total
count_one-requires-clause-total c =
    c.loop-before.invariant.total ∙ length-take-le c.loop-before.before c.args.texts.now (omega (arith, c.loop-before-test.true))

pub loop-before-preserved : goal.loop-before-preserved
loop-before-preserved c =
    let texts = c.args.texts.now in
    let i = c.loop-before.before in
    let step : i + 1 ≡ suc i = omega arith in
    let grown : take (i + 1) texts ≡ take i texts ++ c.in_ok-text.text ∷ [] =
    ap (λ (n : ℕ). take n texts) step
    ∙ take-suc texts i c.index-texts-before.result c.loop-before-test.true
    ∙ ap (λ (t : List ℕ). take i texts ++ t ∷ []) (sym c.index-texts-before.is ∙ sym c.in_ok-text.ensures.cases) in
    subst (λ (ts : List (List ℕ)). Counts ts c.count_one.new.tally.entries) (sym grown) (c.in_ok-count_one.ensures (take i texts) c.loop-before.invariant)

pub returns : goal.returns
returns c =
    subst (λ (ts : List (List ℕ)). Counts ts c.loop-before.tally.entries)
    (take_all c.loop-before.before c.args.texts.now (omega (arith, c.loop-before-test.false))) c.loop-before.invariant
