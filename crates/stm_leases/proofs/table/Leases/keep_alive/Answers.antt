use Rattle.std.proofs.Common.{arith, nat_eq, Some, refl, ap, sym, ◌∙◌}
use Rattle.std.specs.FinMap as finmap
use Rattle.std.specs.Option.{option_copied}
use Rattle.indexmap.specs.IndexMap.{get, get_by_text}
use Rattle.stm_leases.specs.LeaseLog.{Term}
use Rattle.std.proofs.lemmas.Option.{same_Some}
use Rattle.stm_leases.specs.declared.lease.Lease.{Lease}
use Rattle.stm_leases.specs.Tournament.{slot_of}
use Rattle.stm_leases.specs.Kept.{list_in}
use Rattle.stm_leases.proofs.InStep.{same_lists}
use Rattle.stm_leases.proofs.Seen.{one-more, live-absent, live-found, term-found, inserted-view, renewed-log, list-renewed}
use Rattle.stm_leases.proofs.Timed.{retimed, own_slot}
use Rattle.stm_leases.proofs.table.Leases.keep_alive.Goals as goal

pub returns-in_default-clause-found : goal.returns-in_default-clause-found
returns-in_default-clause-found c = (
  λ ok. absurd (cc),
  λ live. absurd (live-absent c.self.inside.leases c.self.inside.attached _ _ c.self.view_is c.args.id
      (sym c.get.ensures.value ∙ ap option_copied c.in_default.is) live),
)

pub returns-in_default-clause-ok : goal.returns-in_default-clause-ok
returns-in_default-clause-ok c =
    λ term is.
    absurd (live-absent c.self.inside.leases c.self.inside.attached _ _ c.self.view_is c.args.id (sym c.get.ensures.value ∙ ap option_copied c.in_default.is)
    (rw is refl))

pub invariant_of-self : goal.invariant_of-self
invariant_of-self c =
    let found = sym c.get.ensures.value ∙ ap option_copied c.in-Some.is in
    record {
      in_step = same_lists (list_in c.self.inside.leases) (list_in c.insert.new.self) (get_by_text c.self.inside.attached)
          (get_by_text c.self.inside.attached) c.self.inside.keys c.self.inside.keys c.self.invariant.in_step
          (list-renewed c.self.inside.leases c.insert.new.self c.args.id c.in-Some.lease.now
          (record { ttl = c.in-Some.lease.now.ttl; renewed = c.args.now; keys = c.in-Some.lease.now.keys }) found refl c.in-Ok.ensures.updates.0);
      in_range = λ q l is. one-more c.self.inside.leases c.insert.new.self c.args.id
          (record { ttl = c.in-Some.lease.now.ttl; renewed = c.args.now; keys = c.in-Some.lease.now.keys }) c.in-Ok.ensures.updates.0 c.self.invariant.in_range
          (c.self.invariant.in_range c.args.id c.in-Some.lease.now found) q l is;
      timed = retimed (get nat_eq c.self.inside.leases) (get nat_eq c.insert.new.self) c.self.inside.due c.set.new.self c.args.id c.in-Some.lease.now.keys
          (Some (record { ttl = c.in-Some.lease.now.ttl; renewed = c.args.now; keys = c.in-Some.lease.now.keys })) c.self.invariant.timed c.set.ensures.played
          (omega (arith, c.self.invariant.timed.within c.args.id c.in-Some.lease.now found, c.set.ensures.slots)) (omega (arith, c.set.ensures.slots))
          c.in-Ok.ensures.updates.0 (λ lease is. ap (λ (l : Lease). l.keys) (sym (same_Some _ lease is)))
          (ap (slot_of c.set.new.self) (sym c.index.ensures) ∙ c.set.ensures.written ∙ c.due_at.ensures)
          (λ other differs. c.set.ensures.kept other (λ same. differs (same ∙ c.index.ensures)))
          (own_slot c.self.inside.leases (get_by_text c.self.inside.attached) c.self.inside.keys c.args.id c.in-Some.lease.now c.self.invariant.in_step found);
      table_room = c.self.invariant.table_room;
      list_room = c.self.invariant.list_room;
    }

pub returns-clause-found : goal.returns-clause-found
returns-clause-found c =
    let found = sym c.get.ensures.value ∙ ap option_copied c.in-Some.is in
    (λ ok. live-found c.self.inside.leases c.self.inside.attached _ _ c.self.view_is c.args.id c.in-Some.lease.now found, λ live. refl)

pub returns-clause-ok : goal.returns-clause-ok
returns-clause-ok c =
    let found = sym c.get.ensures.value ∙ ap option_copied c.in-Some.is in
    λ term is.
    let terms = term-found c.self.inside.leases c.self.inside.attached _ _ c.self.view_is c.args.id c.in-Some.lease.now term found is in
    inserted-view c.self.inside.leases c.self.inside.attached _ _ c.self.view_is c.insert.new.self c.args.id
    (record { ttl = c.in-Some.lease.now.ttl; renewed = c.args.now; keys = c.in-Some.lease.now.keys }) c.in-Ok.ensures.updates.0
    ∙ ap (λ (t : Term). record c.args.self.now { live = finmap.insert c.args.self.now.live c.args.id (record { ttl = t.ttl; renewed = c.args.now }) }) terms

pub returns-clause-log : goal.returns-clause-log
returns-clause-log c =
    let found = sym c.get.ensures.value ∙ ap option_copied c.in-Some.is in
    λ log stands.
    renewed-log c.self.inside.leases c.self.inside.attached _ _ c.self.view_is c.insert.new.self c.args.id c.args.now
    (record { ttl = c.in-Some.lease.now.ttl; renewed = c.args.now; keys = c.in-Some.lease.now.keys }) c.in-Some.lease.now found refl
    c.in-Ok.ensures.updates.0 log stands
