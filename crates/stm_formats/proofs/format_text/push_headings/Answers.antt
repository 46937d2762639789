use Rattle.std.proofs.Common.{◌≡◌, ℕ, suc, ◌+◌, List, ◌++◌, sym, ap, ◌∙◌, append_assoc, arith}
use Rattle.stm_formats.specs.FormatText.{heading, headings}
use Rattle.stm_formats.proofs.format_text.push_headings.Goals as goal

pub loop-before-preserved : goal.loop-before-preserved
loop-before-preserved c =
    let out = c.args.out.now.items in
    let places = c.args.places.now in
    let k = c.loop-before.before in
    let step : k + 1 ≡ suc k = omega arith in
    c.in_ok-push_heading.ensures
    ∙ ap (λ (text : List ℕ). text ++ heading c.args.labels.now places (k + 1)) c.loop-before.invariant
    ∙ append_assoc out (headings c.args.labels.now places k) (heading c.args.labels.now places (k + 1))
    ∙ ap (λ (n : ℕ). out ++ (headings c.args.labels.now places k ++ heading c.args.labels.now places n)) step
    ∙ ap (λ (n : ℕ). out ++ headings c.args.labels.now places n) (sym step)
