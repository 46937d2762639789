use Rattle.std.proofs.Common.{◌≡◌, ℕ, ◌+◌, ◌&&◌, List, ◌∷◌, ◌++◌, [], take, drop, Some, true, refl, sym, ap, ◌∙◌}
use Rattle.std.specs.Prelude.{slice_get}
use Rattle.std.specs.Ordering.{nat_cmp}
use Rattle.std.specs.Cmp.Lexicographic.{slice_cmp}
use Rattle.std.specs.FinMap as finmap
use Rattle.std.proofs.lemmas.List.{take_more, drop_more}
use Rattle.std.proofs.lemmas.Option.{slice_get-get_or}
use Rattle.stm_history.specs.declared.key_state.KeyState.{KeyState}
use Rattle.stm_history.specs.Opening.{States}
use Rattle.stm_keys.proofs.OpeningLaws.{not_before}
use Rattle.stm_leases.specs.Leases.{lease_of}
use Rattle.stm_leases.specs.Live.{Live}
use Rattle.stm_txn.specs.Leasing.{attaching}
use Rattle.stm_txn.specs.Restored.{is_attached_in, are_attached_in}
use Rattle.stm_txn.proofs.RestoredLemmas.{attached_next}
use Rattle.stm_txn.proofs.restored.attach_all.Goals as goal

pub loop-entry-init : goal.loop-entry-init
loop-entry-init c = record {
  same = refl;
  attached = λ key.
      ap (λ (m : finmap.FinMap (slice_cmp nat_cmp) ℕ). finmap.get m key) c.requires.loose ∙ finmap.get-empty (slice_cmp nat_cmp) key;
  live = refl;
}

pub attach_one-requires : goal.attach_one-requires
attach_one-requires c =
    let states : States = c.args.states.now in
    let i : ℕ = c.loop-entry.entry-index in
    let e : List ℕ × KeyState = c.entry-item.result in
    let at : slice_get states i ≡ Some e = slice_get-get_or states i e c.loop-entry-test.true ∙ ap Some (sym c.entry-item.is) in
    record { loose = c.loop-entry.invariant.attached e.0 ∙ ap attaching (not_before states i e c.requires.sorted at) }

pub loop-entry-preserved : goal.loop-entry-preserved
loop-entry-preserved c =
    let states : States = c.args.states.now in
    let i : ℕ = c.loop-entry.entry-index in
    let e : List ℕ × KeyState = c.entry-item.result in
    let live : Live = c.args.leases.now.live in
    let at : slice_get states i ≡ Some e = slice_get-get_or states i e c.loop-entry-test.true ∙ ap Some (sym c.entry-item.is) in
    let more : take (i + 1) states ≡ take i states ++ e ∷ [] =
    take_more states i e c.loop-entry-test.true ∙ ap (λ (x : List ℕ × KeyState). take i states ++ x ∷ []) (sym c.entry-item.is) in
    let rest : drop i states ≡ e ∷ drop (i + 1) states =
    drop_more states i e c.loop-entry-test.true ∙ ap (λ (x : List ℕ × KeyState). x ∷ drop (i + 1) states) (sym c.entry-item.is) in
    let held : is_attached_in live e.1 ≡ true =
    ap (λ (l : Live). is_attached_in l e.1) (sym c.loop-entry.invariant.live) ∙ sym c.in_ok-attach_one.ensures.same ∙ c.if-not-branch.false in
    record {
      same =
          c.loop-entry.invariant.same
          ∙ ap (are_attached_in live) rest
          ∙ ap (λ b. b && are_attached_in live (drop (i + 1) states)) held;
      attached =
          attached_next (take i states) (take (i + 1) states) e (lease_of c.loop-entry.leases) (lease_of c.attach_one.new.leases) more
          (not_before states i e c.requires.sorted at) c.loop-entry.invariant.attached (c.in_ok-attach_one.ensures.attached c.if-not-branch.false);
      live = c.attach_one.ensures.live ∙ c.loop-entry.invariant.live;
    }
