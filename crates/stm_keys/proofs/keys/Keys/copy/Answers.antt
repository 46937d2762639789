use Rattle.std.proofs.Common.{◌≡◌, ◌∙◌, List, ap, sym, subst}
use Rattle.std.specs.List.{AllByRecursion}
use Rattle.indexmap.specs.IndexMap.{get_by_text}
use Rattle.stm_history.specs.Opening.{Opening}
use Rattle.stm_keys.specs.declared.event.Event.{Event}
use Rattle.stm_keys.specs.Runs.{SumsUp}
use Rattle.stm_keys.specs.Chains.{Versions, names_of, opening_of}
use Rattle.stm_keys.proofs.Copied.{fields_copied, contents_copied}
use Rattle.stm_keys.proofs.Walked.{opening_kept}
use Rattle.stm_keys.proofs.keys.Keys.copy.Goals as goal

pub invariant_of-result : goal.invariant_of-result
invariant_of-result c =
    let opening : Opening = opening_of c.self.inside.below c.self.inside.chains in
    let next : Opening = opening_of c.self.inside.below c.in_ok-chains.chains in
    let alike : next ≡ opening =
    opening_kept c.self.inside.chains c.in_ok-chains.chains c.self.inside.below (λ key. ap (λ (v : Versions). v.before) (c.in_ok-chains.ensures.versions key)) in
    let kept = fields_copied opening next c.self.inside.floor c.self.inside.present c.self.inside.revisions.items c.in_ok-revisions.revisions.items
    (get_by_text c.self.inside.chains) (get_by_text c.in_ok-chains.chains) (names_of c.self.inside.chains) (names_of c.in_ok-chains.chains)
    alike c.in_ok-revisions.ensures c.in_ok-chains.ensures.versions c.in_ok-chains.ensures.names
    (c.self.invariant.0, c.self.invariant.1, c.self.invariant.2) in (
      kept.0,
      kept.1,
      kept.2,
      subst (AllByRecursion (SumsUp c.self.inside.below c.in_ok-revisions.revisions.items)) (sym c.in_ok-runs.ensures)
          (subst (λ (l : List (List Event)). AllByRecursion (SumsUp c.self.inside.below l) c.self.inside.runs) (sym c.in_ok-revisions.ensures) c.self.invariant.3),
    )

pub returns : goal.returns
returns c =
    let opening : Opening = opening_of c.self.inside.below c.self.inside.chains in
    let next : Opening = opening_of c.self.inside.below c.in_ok-chains.chains in
    let alike : next ≡ opening =
    opening_kept c.self.inside.chains c.in_ok-chains.chains c.self.inside.below (λ key. ap (λ (v : Versions). v.before) (c.in_ok-chains.ensures.versions key)) in
    contents_copied opening next c.self.inside.floor c.self.inside.present c.self.inside.revisions.items c.in_ok-revisions.revisions.items
    (get_by_text c.self.inside.chains) (get_by_text c.in_ok-chains.chains) (names_of c.self.inside.chains) (names_of c.in_ok-chains.chains)
    alike c.in_ok-revisions.ensures c.in_ok-chains.ensures.versions c.in_ok-chains.ensures.names c.self.inside.opened
    ∙ c.self.view_is
