use Rattle.std.proofs.Common.{◌≡◌, Option, Some, None, refl, arith, ap, sym, ◌∙◌, option_map, string_bytes}
use Rattle.std.proofs.lemmas.Map.Text.{hash_map_updates_text}
use Rattle.indexmap.specs.IndexMap.{get_by_text}
use Rattle.stm_leases.specs.declared.lease.Attachment.{Attachment}
use Rattle.stm_leases.specs.Kept.{list_in}
use Rattle.stm_leases.proofs.InStep.{attached}
use Rattle.stm_leases.proofs.Seen.{table-has, lease_of-now, attached-view}
use Rattle.stm_leases.proofs.table.Leases.attach.Goals as goal

-- a key that is attached to no lease has no place
by_place : (o : Option Attachment) → option_map (λ (p : Attachment). p.lease) o ≡ None → o ≡ None
by_place None none = refl
by_place (Some p) none = absurd (cc)

pub index-requires : goal.index-requires
index-requires c = table-has c.self.inside.leases c.self.inside.attached _ _ c.self.view_is c.args.id c.requires.live

pub push_back-requires : goal.push_back-requires
push_back-requires c = c.self.invariant.in_step.listed c.args.id c.index.result.now.keys (ap (option_map (λ l. l.keys)) c.index.ensures)

pub invariant_of-self : goal.invariant_of-self
invariant_of-self c =
    let loose = by_place (get_by_text c.self.inside.attached (string_bytes c.args.key))
    (sym (lease_of-now c.self.inside.leases c.self.inside.attached _ _ c.self.view_is (string_bytes c.args.key)) ∙ c.requires.loose) in
    record {
      in_step = attached (list_in c.self.inside.leases) (list_in c.self.inside.leases) (get_by_text c.self.inside.attached)
          (get_by_text c.insert.new.self) c.self.inside.keys c.push_back.new.self c.self.invariant.in_step c.args.id c.index.result.now.keys c.in-Ok.node
          (string_bytes c.args.key) c.args.copy (ap (option_map (λ l. l.keys)) c.index.ensures) loose (sym c.requires.same_text) c.in-Ok.ensures.ok
          (λ q. hash_map_updates_text (string_bytes c.args.key) c.self.inside.attached c.insert.new.self _ c.in-Ok-insert.ensures.updates q);
      in_range = c.self.invariant.in_range;
      timed = c.self.invariant.timed;
      table_room = omega (arith, c.self.invariant.table_room, c.in-Ok-insert.ensures.spare);
      list_room = omega (arith, c.self.invariant.list_room, c.in-Ok.ensures.spare);
    }

pub returns : goal.returns
returns c =
    attached-view c.self.inside.leases c.self.inside.attached _ _ c.self.view_is c.insert.new.self (string_bytes c.args.key)
    (record { lease = c.args.id; node = c.in-Ok.node })
    (λ q. hash_map_updates_text (string_bytes c.args.key) c.self.inside.attached c.insert.new.self _ c.in-Ok-insert.ensures.updates q)
