use Rattle.std.proofs.Common.{List, ℕ, ap, sym, ◌∙◌, arith, nat_eq, option_map}
use Rattle.std.specs.Map.{lookup}
use Rattle.indexmap.specs.IndexMap.{get, get_by_text}
use Rattle.stm_leases.specs.declared.lease.Lease.{Lease}
use Rattle.stm_leases.specs.Kept.{list_in}
use Rattle.stm_leases.proofs.Copied.{place_copied, view_copied, in_step_copied, timed_copied}
use Rattle.stm_leases.proofs.table.Leases.copy.Goals as goal

pub invariant_of-result : goal.invariant_of-result
invariant_of-result c =
    let was = c.self.inside in
    let same = c.in_ok-leases.ensures in
    record {
      in_step = in_step_copied (list_in was.leases) (list_in c.in_ok-leases.leases) (get_by_text was.attached) (get_by_text c.in_ok-attached.attached)
          was.keys c.in_ok-keys.keys (λ id. ap (λ (es : List (ℕ × Lease)). option_map (λ (l : Lease). l.keys) (lookup (nat_eq id) es)) same)
          (place_copied was.leases c.in_ok-leases.leases was.attached c.in_ok-attached.attached same c.in_ok-attached.ensures)
          c.in_ok-keys.ensures.cases c.self.invariant.in_step;
      in_range = λ id lease is.
          c.self.invariant.in_range id lease (ap (λ (es : List (ℕ × Lease)). lookup (nat_eq id) es) (sym same) ∙ is);
      timed = timed_copied was.due c.in_ok-due.due c.in_ok-due.ensures.nodes c.in_ok-due.ensures.slots (get nat_eq was.leases)
          (get nat_eq c.in_ok-leases.leases) (λ id. ap (λ (es : List (ℕ × Lease)). lookup (nat_eq id) es) same) c.self.invariant.timed;
      table_room = omega arith;
      list_room = omega arith;
    }

pub returns : goal.returns
returns c =
    view_copied c.self.inside.leases c.in_ok-leases.leases c.self.inside.attached c.in_ok-attached.attached c.in_ok-leases.ensures c.in_ok-attached.ensures
    c.self.inside.spare _ c.self.view_is
