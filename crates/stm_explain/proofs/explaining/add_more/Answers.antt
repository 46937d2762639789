use Rattle.std.proofs.Common.{◌≡◌, List, ℕ, rules, subst, sym, string_bytes}
use Rattle.stm_explain.specs.Explaining.{AreExplanations}
use Rattle.stm_explain.proofs.explaining.add_more.Goals as goal

pub add_others-requires : goal.add_others-requires
add_others-requires c =
    let same : c.in-Ok.readable.now ≡ c.args.text.now = search rules in
    subst (λ (text : List ℕ). AreExplanations c.args.name.now text (string_bytes c.args.said.now)) (sym same) c.requires

pub returns : goal.returns
returns c =
    let same : c.in-Ok.readable.now ≡ c.args.text.now = search rules in
    subst (λ (text : List ℕ). AreExplanations c.args.name.now text (string_bytes c.add_others.new.said)) same c.in_ok-add_others.ensures
