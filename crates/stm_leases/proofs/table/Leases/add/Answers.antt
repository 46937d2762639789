use Rattle.std.proofs.Common.{◌≡◌, Option, Some, None, false, cond, is_some, ℕ, List, String, Global, nat_eq, option_map, subst, arith, refl, ap}
use Rattle.std.proofs.Common.{sym, ◌∙◌}
use Rattle.std.specs.Map.{lookup}
use Rattle.indexmap.specs.IndexMap.{get, get_by_text}
use Rattle.stm_leases.specs.declared.lease.Lease.{Lease}
use Rattle.stm_lists.specs.Lists.{Lists}
use Rattle.std.proofs.lemmas.Option.{same_Some}
use Rattle.stm_leases.specs.Tournament.{slot_of}
use Rattle.stm_leases.specs.Kept.{list_in, AreInStep}
use Rattle.stm_leases.proofs.InStep.{dropped_again, granted, lists_stay}
use Rattle.stm_leases.proofs.Seen.{may-grant, same-range, one-more, contains-now, inserted-view, granted-log, list-updates}
use Rattle.stm_leases.proofs.Timed.{on_ok, retimed, same_timed, still_timed, fresh_slot}
use Rattle.stm_leases.proofs.table.Leases.add.Goals as goal

-- an id that the table lacks has no list
no_list : (o : Option Lease) → is_some o ≡ false → option_map (λ (l : Lease). l.keys) o ≡ None
no_list None none = refl
no_list (Some l) none = absurd (cc)

pub invariant_of-self : goal.invariant_of-self
invariant_of-self c = record {
  in_step = subst (λ (es : List (ℕ × Lease)). AreInStep (λ q. option_map (λ (l : Lease). l.keys) (lookup (nat_eq q) es))
      (get_by_text c.self.inside.attached) c.self.inside.keys) (sym c.reserve.ensures.entries) c.self.invariant.in_step;
  timed = same_timed (get nat_eq c.self.inside.leases) (get nat_eq c.reserve.new.self) _
      (λ q. ap (lookup (nat_eq q)) c.reserve.ensures.entries) c.self.invariant.timed;
  in_range = same-range c.self.inside.leases c.reserve.new.self c.reserve.ensures.entries c.self.invariant.in_range;
  table_room = c.self.invariant.table_room;
  list_room = c.self.invariant.list_room;
}

pub invariant_of-self-in_default : goal.invariant_of-self-in_default
invariant_of-self-in_default c =
    let same = c.in_default.ensures.err in
    record {
      in_step = subst (λ (k : Lists (String Global)). AreInStep (list_in c.reserve.new.self) (get_by_text c.self.inside.attached) k) (sym same)
          (subst (λ (es : List (ℕ × Lease)). AreInStep (λ q. option_map (λ (l : Lease). l.keys) (lookup (nat_eq q) es))
          (get_by_text c.self.inside.attached) c.self.inside.keys) (sym c.reserve.ensures.entries) c.self.invariant.in_step);
      timed = same_timed (get nat_eq c.self.inside.leases) (get nat_eq c.reserve.new.self) _
          (λ q. ap (lookup (nat_eq q)) c.reserve.ensures.entries) c.self.invariant.timed;
      in_range = same-range c.self.inside.leases c.reserve.new.self c.reserve.ensures.entries c.self.invariant.in_range;
      table_room = c.self.invariant.table_room;
      list_room = omega (arith, c.self.invariant.list_room, ap (λ (k : Lists (String Global)). k.spare) same);
    }

pub invariant_of-self-then-is_err-2 : goal.invariant_of-self-then-is_err-2
invariant_of-self-then-is_err-2 c =
    let kept : AreInStep (list_in c.reserve.new.self) (get_by_text c.self.inside.attached) c.self.inside.keys =
    subst (λ (es : List (ℕ × Lease)). AreInStep (λ q. option_map (λ (l : Lease). l.keys) (lookup (nat_eq q) es))
    (get_by_text c.self.inside.attached) c.self.inside.keys)
    (sym c.reserve.ensures.entries) c.self.invariant.in_step in
    record {
      in_step = lists_stay (list_in c.reserve.new.self) (list_in c.reserve.new.self) (get_by_text c.self.inside.attached) (get_by_text c.self.inside.attached)
          c.self.inside.keys c.drop_list.new.self kept
          (dropped_again c.self.inside.keys c.new_list.new.self c.drop_list.new.self c.in-Ok.keys c.in-Ok.ensures.fresh c.in-Ok.ensures.ok
          c.drop_list.ensures.dropped);
      in_range = same-range c.self.inside.leases c.reserve.new.self c.reserve.ensures.entries c.self.invariant.in_range;
      timed = still_timed (get nat_eq c.reserve.new.self) c.self.inside.due c.reserve-2.new.self
          (same_timed (get nat_eq c.self.inside.leases) (get nat_eq c.reserve.new.self) _
          (λ q. ap (lookup (nat_eq q)) c.reserve.ensures.entries) c.self.invariant.timed)
          c.reserve-2.ensures.played c.reserve-2.ensures.more c.reserve-2.ensures.kept;
      table_room = c.self.invariant.table_room;
      list_room = omega (arith, c.self.invariant.list_room, c.in-Ok.ensures.spare, c.drop_list.ensures.spare);
    }

pub invariant_of-self-2 : goal.invariant_of-self-2
invariant_of-self-2 c =
    let free = may-grant c.args.self.now.live c.args.id c.args.ttl c.requires in
    let unknown : is_some (get nat_eq c.self.inside.leases c.args.id) ≡ false =
    sym (contains-now c.self.inside.leases c.self.inside.attached _ _ c.self.view_is c.args.id) ∙ free.1 in
    record {
      in_step = granted (list_in c.self.inside.leases) (list_in c.insert.new.self) (get_by_text c.self.inside.attached)
          (get_by_text c.self.inside.attached) c.self.inside.keys c.new_list.new.self c.self.invariant.in_step c.args.id c.in-Ok.keys
          (no_list (get nat_eq c.self.inside.leases c.args.id) unknown) c.in-Ok.ensures.fresh c.in-Ok.ensures.ok
          (list-updates c.self.inside.leases c.insert.new.self c.args.id (Some (record { ttl = c.args.ttl; renewed = c.args.now; keys = c.in-Ok.keys }))
          (λ q. c.in-Ok-insert.ensures.updates.0 q
          ∙ ap (λ es. cond (nat_eq c.args.id q) (Some (record { ttl = c.args.ttl; renewed = c.args.now; keys = c.in-Ok.keys })) (lookup (nat_eq q) es))
          c.reserve.ensures.entries));
      timed = retimed (get nat_eq c.self.inside.leases) (get nat_eq c.insert.new.self) c.self.inside.due c.set.new.self c.args.id c.in-Ok.keys
          (Some (record { ttl = c.args.ttl; renewed = c.args.now; keys = c.in-Ok.keys })) c.self.invariant.timed c.set.ensures.played
          (omega (
            arith,
            on_ok c.reserve-2.result c.reserve-2.ensures.ok (sym c.is_err-2.ensures.value ∙ c.if-is_err-2.false),
            c.set.ensures.slots,
            c.index.ensures,
          ))
          (omega (arith, c.reserve-2.ensures.more, c.set.ensures.slots))
          (λ q. c.in-Ok-insert.ensures.updates.0 q
          ∙ ap (λ es. cond (nat_eq c.args.id q) (Some (record { ttl = c.args.ttl; renewed = c.args.now; keys = c.in-Ok.keys })) (lookup (nat_eq q) es))
          c.reserve.ensures.entries)
          (λ lease is. ap (λ (l : Lease). l.keys) (sym (same_Some _ lease is)))
          (ap (slot_of c.set.new.self) (sym c.index-2.ensures) ∙ c.set.ensures.written ∙ c.due_at.ensures)
          (λ other differs. c.set.ensures.kept other (λ same. differs (same ∙ c.index-2.ensures)) ∙ c.reserve-2.ensures.kept other)
          (fresh_slot c.self.inside.leases
          (get_by_text c.self.inside.attached) c.self.inside.keys c.args.id c.in-Ok.keys c.self.invariant.in_step unknown c.in-Ok.ensures.fresh);
      in_range = λ q l is. one-more c.self.inside.leases c.insert.new.self c.args.id (record { ttl = c.args.ttl; renewed = c.args.now; keys = c.in-Ok.keys })
          (λ n. c.in-Ok-insert.ensures.updates.0 n
          ∙ ap (λ es. cond (nat_eq c.args.id n) (Some (record { ttl = c.args.ttl; renewed = c.args.now; keys = c.in-Ok.keys })) (lookup (nat_eq n) es))
          c.reserve.ensures.entries) c.self.invariant.in_range
          free.0 q l is;
      table_room = c.self.invariant.table_room;
      list_room = omega (arith, c.self.invariant.list_room, c.in-Ok.ensures.spare);
    }

pub returns-clause-ok : goal.returns-clause-ok
returns-clause-ok c =
    inserted-view c.self.inside.leases c.self.inside.attached _ _ c.self.view_is c.insert.new.self c.args.id
    (record { ttl = c.args.ttl; renewed = c.args.now; keys = c.in-Ok.keys })
    (λ q. c.in-Ok-insert.ensures.updates.0 q
    ∙ ap (λ es. cond (nat_eq c.args.id q) (Some (record { ttl = c.args.ttl; renewed = c.args.now; keys = c.in-Ok.keys })) (lookup (nat_eq q) es))
    c.reserve.ensures.entries)

pub returns-clause-log : goal.returns-clause-log
returns-clause-log c =
    λ log stands.
    granted-log c.self.inside.leases c.self.inside.attached _ _ c.self.view_is c.insert.new.self c.args.id
    (record { ttl = c.args.ttl; renewed = c.args.now; keys = c.in-Ok.keys })
    (λ q. c.in-Ok-insert.ensures.updates.0 q
    ∙ ap (λ es. cond (nat_eq c.args.id q) (Some (record { ttl = c.args.ttl; renewed = c.args.now; keys = c.in-Ok.keys })) (lookup (nat_eq q) es))
    c.reserve.ensures.entries) log stands
