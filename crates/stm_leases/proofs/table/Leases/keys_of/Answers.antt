use Rattle.std.proofs.Common.{ap, sym, ◌∙◌, option_map}
use Rattle.std.specs.Option.{option_copied}
use Rattle.indexmap.specs.IndexMap.{get_by_text}
use Rattle.stm_leases.specs.Kept.{list_in}
use Rattle.stm_leases.specs.Leases.{lease_of}
use Rattle.stm_leases.proofs.KeyLaws.{keys_on_are_keys, one_list_of_keys}
use Rattle.stm_leases.proofs.Ordered.{sorted-keys}
use Rattle.stm_leases.proofs.Seen.{live-absent, live-found, lease_of-now}
use Rattle.stm_leases.proofs.table.Leases.keys_of.Goals as goal

pub returns-in_default-clause-live : goal.returns-in_default-clause-live
returns-in_default-clause-live c =
    λ live. absurd (live-absent c.self.inside.leases c.self.inside.attached _ _ c.self.view_is c.args.id
    (sym c.get.ensures.value ∙ ap option_copied c.in_default.is) live)

pub texts-requires : goal.texts-requires
texts-requires c =
    let found = sym c.get.ensures.value ∙ ap option_copied c.in-Some.is in
    c.self.invariant.in_step.listed c.args.id c.in-Some.lease.now.keys (ap (option_map (λ l. l.keys)) found)

pub returns-in_err-keys-clause-not_live : goal.returns-in_err-keys-clause-not_live
returns-in_err-keys-clause-not_live c =
    let found = sym c.get.ensures.value ∙ ap option_copied c.in-Some.is in
    λ not. absurd (not (live-found c.self.inside.leases c.self.inside.attached _ _ c.self.view_is c.args.id c.in-Some.lease.now found))

pub returns-in_err-sort-clause-not_live : goal.returns-in_err-sort-clause-not_live
returns-in_err-sort-clause-not_live c =
    let found = sym c.get.ensures.value ∙ ap option_copied c.in-Some.is in
    λ not. absurd (not (live-found c.self.inside.leases c.self.inside.attached _ _ c.self.view_is c.args.id c.in-Some.lease.now found))

pub returns-clause-not_live : goal.returns-clause-not_live
returns-clause-not_live c =
    let found = sym c.get.ensures.value ∙ ap option_copied c.in-Some.is in
    λ not. absurd (not (live-found c.self.inside.leases c.self.inside.attached _ _ c.self.view_is c.args.id c.in-Some.lease.now found))

pub returns-clause-ok : goal.returns-clause-ok
returns-clause-ok c =
    let found = sym c.get.ensures.value ∙ ap option_copied c.in-Some.is in
    one_list_of_keys (lease_of c.args.self.now) c.args.id _ _
    (sorted-keys c.args.self.now (list_in c.self.inside.leases)
    (get_by_text c.self.inside.attached) c.self.inside.keys c.args.id c.in-Some.lease.now.keys c.in_ok-keys.keys.items c.sort.new.self.items
    c.self.invariant.in_step (lease_of-now c.self.inside.leases c.self.inside.attached _ _ c.self.view_is) (ap (option_map (λ l. l.keys)) found)
    (c.stands_once.ensures.apart c.in-Some.lease.now.keys) c.in_ok-keys.ensures c.sort.ensures.permutation c.in_ok-sort.ensures.sorted)
    (keys_on_are_keys c.args.self.now.attached c.args.id)
