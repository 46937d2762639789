use Rattle.std.proofs.Common.{arith, ap, sym, ◌∙◌, option_map, Some}
use Rattle.indexmap.specs.IndexMap.{get_by_text}
use Rattle.stm_leases.specs.Kept.{list_in}
use Rattle.stm_leases.proofs.InStep.{key-place, detached}
use Rattle.stm_leases.proofs.Seen.{lease_of-now, detached-view, detached-loose}
use Rattle.stm_leases.proofs.table.Leases.detach.Goals as goal

pub returns-in_err-place-clause-id : goal.returns-in_err-place-clause-id
returns-in_err-place-clause-id c =
    let none = sym c.take_out.ensures.place ∙ c.in_err-place.was in
    c.from_residual.ensures ∙ sym
    (lease_of-now c.self.inside.leases c.self.inside.attached _ _ c.self.view_is c.args.key.now ∙ ap (option_map (λ p. p.lease)) none)

pub returns-in_err-place-clause-detached : goal.returns-in_err-place-clause-detached
returns-in_err-place-clause-detached c =
    detached-view c.self.inside.leases c.self.inside.attached _ _ c.self.view_is c.take_out.new.attached c.args.key.now
    c.take_out.ensures.updates

pub unlink-requires : goal.unlink-requires
unlink-requires c =
    let found = sym c.take_out.ensures.place ∙ c.in_ok-place.was in
    let had = c.self.invariant.in_step.placed c.args.key.now c.in_ok-place.place found in
    let place = key-place c.self.inside.keys had.0 c.in_ok-place.place.node c.args.key.now
    (c.self.invariant.in_step.listed c.in_ok-place.place.lease had.0 had.1) had.2 in
    (place.place, place.stands)

pub invariant_of-self-2 : goal.invariant_of-self-2
invariant_of-self-2 c =
    let found = sym c.take_out.ensures.place ∙ c.in_ok-place.was in
    let had = c.self.invariant.in_step.placed c.args.key.now c.in_ok-place.place found in
    let place = key-place c.self.inside.keys had.0 c.in_ok-place.place.node c.args.key.now
    (c.self.invariant.in_step.listed c.in_ok-place.place.lease had.0 had.1) had.2 in
    record {
      in_step = detached (list_in c.self.inside.leases) (list_in c.self.inside.leases) (get_by_text c.self.inside.attached)
          (get_by_text c.take_out.new.attached) c.self.inside.keys c.unlink.new.self c.self.invariant.in_step c.in_ok-place.place.lease c.in_ok-place.place.node
          c.args.key.now found place.place place.stands (had.1 ∙ ap Some (sym place.here)) place.text
          (c.unlink.ensures.unlinked place.place place.stands) c.unlink.ensures.gone
          c.take_out.ensures.updates;
      in_range = c.self.invariant.in_range;
      timed = c.self.invariant.timed;
      table_room = omega (arith, c.self.invariant.table_room, c.take_out.ensures.room);
      list_room = omega (arith, c.self.invariant.list_room, c.unlink.ensures.spare);
    }

pub returns-clause-id : goal.returns-clause-id
returns-clause-id c =
    let found = sym c.take_out.ensures.place ∙ c.in_ok-place.was in
    sym (lease_of-now c.self.inside.leases c.self.inside.attached _ _ c.self.view_is c.args.key.now ∙ ap (option_map (λ p. p.lease)) found)

pub returns-clause-detached : goal.returns-clause-detached
returns-clause-detached c =
    detached-view c.self.inside.leases c.self.inside.attached _ _ c.self.view_is c.take_out.new.attached c.args.key.now
    c.take_out.ensures.updates

pub returns-in_err-place-clause-loose : goal.returns-in_err-place-clause-loose
returns-in_err-place-clause-loose c =
    detached-loose c.self.inside.leases c.self.inside.attached _ _ c.self.view_is c.take_out.new.attached c.args.key.now
    c.take_out.ensures.updates

pub returns-clause-loose : goal.returns-clause-loose
returns-clause-loose c =
    detached-loose c.self.inside.leases c.self.inside.attached _ _ c.self.view_is c.take_out.new.attached c.args.key.now
    c.take_out.ensures.updates
