-- Lines of explanation, one after another.
use Rattle.std.proofs.Common.{◌≡◌, ◌++◌, ◌∷◌, ◌∙◌, ℕ, List, [], sym, ap, subst, append-nil}
use Rattle.std.proofs.lemmas.List.Elements.{All-nil, All-push}
use Rattle.std.proofs.lemmas.List.Folds.{concat-append}
use Rattle.std.specs.List.{concat}
use Rattle.stm_explain.specs.Explaining.{AreExplanations, IsExplanation}

-- one line
pub one : (name text line : List ℕ) → IsExplanation name text line → AreExplanations name text line
one name text line is = (line ∷ [], All-push (IsExplanation name text) [] line (All-nil (IsExplanation name text)) is, sym (append-nil line))

-- and one more
one_more : (name text said line : List ℕ) → AreExplanations name text said → IsExplanation name text line → AreExplanations name text (said ++ line)
one_more name text said line (lines, all, said_is) is = (
  lines ++ line ∷ [],
  All-push (IsExplanation name text) lines line all is,
  ap (λ (s : List ℕ). s ++ line) said_is ∙ (ap (λ (l : List ℕ). concat lines ++ l) (sym (append-nil line)) ∙ sym (concat-append lines (line ∷ []))),
)

pub grown : (name text old line new : List ℕ) → AreExplanations name text old → IsExplanation name text line → new ≡ old ++ line
    → AreExplanations name text new
grown name text old line new said is now = subst (λ (s : List ℕ). AreExplanations name text s) (sym now) (one_more name text old line said is)
