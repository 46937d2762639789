use Rattle.std.proofs.Common.{◌∙◌, ap, sym}
use Rattle.std.specs.List.{list_any}
use Rattle.std.proofs.lemmas.List.Sorted.{list_any-IsPermutation}
use Rattle.stm_keys.proofs.run.run_of.Goals as goal

-- the keys in order pass the tests that they passed
pub returns-clause-keys : goal.returns-clause-keys
returns-clause-keys c = λ passes.
    ap (λ v. list_any passes v.items) c.in_ok-keys.ensures.ok
    ∙ ap (list_any passes) c.shrink_to_fit.ensures.items
    ∙ sym (list_any-IsPermutation passes c.args.keys.items c.sort_unstable.new.self.items c.sort_unstable.ensures.permutation)
