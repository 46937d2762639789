use Rattle.std.proofs.Common.{arith, nat_eq, None, ap, sym, ◌∙◌, option_map}
use Rattle.indexmap.specs.IndexMap.{get, get_by_text}
use Rattle.stm_leases.specs.Tournament.{slot_of}
use Rattle.stm_leases.specs.Kept.{list_in}
use Rattle.stm_leases.proofs.InStep.{removed, no_entries}
use Rattle.stm_leases.proofs.Seen.{left-lease, live-absent, removed-view, removed-log, none-placed, list-updates}
use Rattle.stm_leases.proofs.Timed.{retimed, own_slot}
use Rattle.stm_leases.proofs.table.Leases.remove.Goals as goal

pub unreachable-requires : goal.unreachable-requires
unreachable-requires c = live-absent c.self.inside.leases c.self.inside.attached _ _ c.self.view_is c.args.id
    (sym c.swap_remove.ensures.value ∙ c.in_default.is) c.requires.live

pub drop_list-requires-clause-there : goal.drop_list-requires-clause-there
drop_list-requires-clause-there c =
    let found = sym c.swap_remove.ensures.value ∙ c.in-Some.is in
    c.self.invariant.in_step.listed c.args.id c.in-Some.lease.keys (ap (option_map (λ l. l.keys)) found)

pub drop_list-requires-clause-empty : goal.drop_list-requires-clause-empty
drop_list-requires-clause-empty c =
    let found = sym c.swap_remove.ensures.value ∙ c.in-Some.is in
    no_entries (list_in c.self.inside.leases) (list_in c.self.inside.leases) (get_by_text c.self.inside.attached)
    (get_by_text c.self.inside.attached) c.self.inside.keys c.self.inside.keys c.self.invariant.in_step c.args.id c.in-Some.lease.keys
    (ap (option_map (λ l. l.keys)) found)
    (none-placed c.self.inside.leases c.self.inside.attached _ _ c.self.view_is c.args.id (λ key is. c.requires.no_keys (key, is)))

pub invariant_of-self : goal.invariant_of-self
invariant_of-self c =
    let found = sym c.swap_remove.ensures.value ∙ c.in-Some.is in
    record {
      in_step = removed (list_in c.self.inside.leases) (list_in c.swap_remove.new.self) (get_by_text c.self.inside.attached)
          (get_by_text c.self.inside.attached) c.self.inside.keys c.drop_list.new.self c.self.invariant.in_step c.args.id c.in-Some.lease.keys
          (ap (option_map (λ l. l.keys)) found)
          (none-placed c.self.inside.leases c.self.inside.attached _ _ c.self.view_is c.args.id (λ key is. c.requires.no_keys (key, is)))
          c.drop_list.ensures.dropped (list-updates c.self.inside.leases c.swap_remove.new.self c.args.id _ c.swap_remove.ensures.updates.0);
      in_range = λ q l is. c.self.invariant.in_range q l
          (left-lease c.self.inside.leases c.swap_remove.new.self c.args.id q l c.swap_remove.ensures.updates.0 is);
      timed = retimed (get nat_eq c.self.inside.leases) (get nat_eq c.swap_remove.new.self) c.self.inside.due c.set.new.self c.args.id c.in-Some.lease.keys
          None c.self.invariant.timed c.set.ensures.played
          (omega (arith, c.self.invariant.timed.within c.args.id c.in-Some.lease found, c.set.ensures.slots)) (omega (arith, c.set.ensures.slots))
          c.swap_remove.ensures.updates.0 (λ lease is. absurd (cc)) (ap (slot_of c.set.new.self) (sym c.index.ensures) ∙ c.set.ensures.written)
          (λ other differs. c.set.ensures.kept other (λ same. differs (same ∙ c.index.ensures)))
          (own_slot c.self.inside.leases (get_by_text c.self.inside.attached) c.self.inside.keys c.args.id c.in-Some.lease c.self.invariant.in_step found);
      table_room = c.self.invariant.table_room;
      list_room = omega (arith, c.self.invariant.list_room, c.drop_list.ensures.spare);
    }

pub returns-clause-ok : goal.returns-clause-ok
returns-clause-ok c = removed-view c.self.inside.leases c.self.inside.attached _ _ c.self.view_is c.swap_remove.new.self c.args.id
    c.swap_remove.ensures.updates.0

pub returns-clause-revoked : goal.returns-clause-revoked
returns-clause-revoked c =
    λ log stands. removed-log c.self.inside.leases c.self.inside.attached _ _ c.self.view_is c.swap_remove.new.self c.args.id c.swap_remove.ensures.updates.0
    log stands

pub returns-clause-expired : goal.returns-clause-expired
returns-clause-expired c =
    λ log stands. removed-log c.self.inside.leases c.self.inside.attached _ _ c.self.view_is c.swap_remove.new.self c.args.id c.swap_remove.ensures.updates.0
    log stands
