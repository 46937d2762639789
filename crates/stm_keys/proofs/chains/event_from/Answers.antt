use Rattle.std.proofs.Common.{◌≡◌, ◌<◌, ◌-◌, ◌∙◌, [], Some, IfSome, ℕ, List, Option, length, sym, subst, arith, rules}
use Rattle.std.proofs.lemmas.List.{get_or_default}
use Rattle.stm_keys.specs.declared.event.Event.{Event}
use Rattle.stm_keys.specs.declared.chain.Version.{Version}
use Rattle.stm_keys.specs.Events.{AreApart}
use Rattle.stm_keys.specs.Chains.{number_of, IsKeptNumber}
use Rattle.stm_keys.proofs.chains.event_from.Goals as goal

pub find_event_at-requires : goal.find_event_at-requires
find_event_at-requires c =
    let xs : List (List Event) = c.args.revisions.now.items in
    let place : ℕ = number_of c.in_ok-version.version - c.args.below - 1 in
    let found = c.index in
    let some : c.args.version ≡ Some c.in_ok-version.version = search rules in
    let kept : IsKeptNumber c.args.below (length xs) (number_of c.in_ok-version.version) =
    subst (λ (o : Option Version). IfSome o (λ v. IsKeptNumber c.args.below (length xs) (number_of v))) some c.requires.within in
    let within : place < length xs = omega (arith, kept.0, kept.1) in
    subst AreApart (sym (c.as_slice.ensures ∙ found.ensures ∙ get_or_default xs place found.result.now [] within)) (c.requires.apart place within)
