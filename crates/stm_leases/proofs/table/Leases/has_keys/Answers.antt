use Rattle.std.proofs.Common.{ap, sym, ◌∙◌, option_map, is_some}
use Rattle.std.specs.Option.{option_copied}
use Rattle.indexmap.specs.IndexMap.{get_by_text}
use Rattle.stm_leases.specs.Kept.{list_in}
use Rattle.stm_leases.proofs.Ordered.{list-has_keys, none-attach}
use Rattle.stm_leases.proofs.Seen.{lease_of-now}
use Rattle.stm_leases.proofs.table.Leases.has_keys.Goals as goal

pub front-requires : goal.front-requires
front-requires c =
    let found = sym c.get.ensures.value ∙ ap option_copied c.in-Some.is in
    c.self.invariant.in_step.listed c.args.id c.in-Some.lease.now.keys (ap (option_map (λ l. l.keys)) found)

pub returns-in-None : goal.returns-in-None
returns-in-None c =
    let none = sym c.get.ensures.value ∙ ap option_copied c.in-None.is in (
      λ never. absurd (cc),
      λ has. absurd
          (none-attach c.args.self.now (list_in c.self.inside.leases) (get_by_text c.self.inside.attached) c.self.inside.keys c.args.id c.self.invariant.in_step
          (lease_of-now c.self.inside.leases c.self.inside.attached _ _ c.self.view_is) (ap (option_map (λ l. l.keys)) none) has),
    )

pub returns-in-Some : goal.returns-in-Some
returns-in-Some c =
    let found = sym c.get.ensures.value ∙ ap option_copied c.in-Some.is in
    let both = list-has_keys c.args.self.now (list_in c.self.inside.leases)
    (get_by_text c.self.inside.attached) c.self.inside.keys c.args.id c.in-Some.lease.now.keys c.self.invariant.in_step
    (lease_of-now c.self.inside.leases c.self.inside.attached _ _ c.self.view_is) (ap (option_map (λ l. l.keys)) found) in
    let is = c.is_some.ensures ∙ ap is_some c.front.ensures in
    (λ some. both.0 (sym is ∙ some), λ has. is ∙ both.1 has)
