-- Writes of distinct keys, made with nothing compared.
use Rattle.std.proofs.Common.{◌≡◌, ℕ, Bool, false, cond, List, map, Some, None, Ok, ◌∙◌, ap, subst, arith}
use Rattle.std.specs.Prelude.{Result, IfOk, IfErr}
use Rattle.std.specs.List.{list_any}
use Rattle.std.proofs.lemmas.Bool.Decides.{nat_tests}
use Rattle.stm_history.specs.declared.change.Change.{Change}
use Rattle.stm_history.specs.History.{History, HasDistinctKeys}
use Rattle.stm_keys.specs.Keys.{DeletePresent}
use Rattle.stm_leases.specs.Live.{is_live_in}
use Rattle.stm_outcome.specs.declared.refusal.Refusal.{Refusal}
use Rattle.stm_outcome.specs.declared.refusal.Refusal.TheVariants.{LeaseNotFound}
use Rattle.stm_outcome.specs.Branches.{branch_refusal}
use Rattle.stm_outcome.specs.Commits.{is_on_dead_lease, effective}
use Rattle.stm_outcome.specs.Effect.{op_of}
use Rattle.stm_txn.specs.Leasing.{attached_of, AttachedToLive}
use Rattle.stm_txn.specs.Standing.{Standing, IsRefusalOf, Returns, write_step, written, made, terms_of}
use Rattle.stm_outcome.specs.Terms.{Terms}
use Rattle.stm_outcome.proofs.Applying.{branch_applies, writes_apart, dead_refusal}
use Rattle.stm_outcome.proofs.Branching.{changes_are_distinct, effect_copied}
use Rattle.stm_txn.proofs.Running.{attaches_live, deletes_present}

-- ---- what a revision of the writes wants

pub effective_distinct : (h : History) (ws : List Change) → HasDistinctKeys ws → HasDistinctKeys (effective h ws)
effective_distinct h ws distinct =
    subst (λ (cs : List Change). HasDistinctKeys cs) (effect_copied h ws distinct) (changes_are_distinct h (map op_of ws) (writes_apart ws distinct))

none_refused : (terms : Terms) (ws : List Change) → list_any (is_on_dead_lease terms.is_live) ws ≡ false →
    branch_refusal terms (map op_of ws) ≡ None
none_refused terms ws alive = dead_refusal terms ws ∙ ap (λ (b : Bool). cond b (Some LeaseNotFound) None) alive

pub effective_live : (s : Standing) (ws : List Change) → HasDistinctKeys ws → list_any (is_on_dead_lease (is_live_in s.live)) ws ≡ false →
    AttachedToLive s.live (attached_of (effective s.history ws))
effective_live s ws distinct alive =
    subst (λ (cs : List Change). AttachedToLive s.live (attached_of cs)) (effect_copied s.history ws distinct)
    (attaches_live s (map op_of ws) (none_refused (terms_of s) ws alive))

pub effective_present : (h : History) (ws : List Change) → HasDistinctKeys ws → DeletePresent h (effective h ws)
effective_present h ws distinct =
    subst (λ (cs : List Change). DeletePresent h cs) (effect_copied h ws distinct) (deletes_present h (map op_of ws) (writes_apart ws distinct))

-- ---- what comes of them

as_made : (s : Standing) (ws : List Change) → HasDistinctKeys ws → written s ws ≡ made s ws
as_made s ws distinct = ap (write_step s) (branch_applies (terms_of s) ws distinct)

pub come : (s next : Standing) (ws : List Change) (r : Result ℕ Refusal) → HasDistinctKeys ws →
    IfOk r (λ revision. made s ws ≡ Ok record { answer = revision; next = next }) → IfErr r (IsRefusalOf (made s ws)) → Returns (written s ws) r next
come s next ws r distinct ok refused = grind (arith, nat_tests, as_made)
