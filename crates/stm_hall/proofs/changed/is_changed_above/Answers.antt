use Rattle.std.proofs.Common.{◌≡◌, ◌∙◌, ◌||◌, sym, ap, arith, ℕ, List, Option, is_some}
use Rattle.std.specs.Prelude.{nat_lt, option_copied}
use Rattle.stm_history.specs.declared.key_state.KeyState.{KeyState}
use Rattle.stm_history.specs.Opening.{opened_state}
use Rattle.stm_history.specs.History.{History, key_at, mod_of}
use Rattle.stm_keys.specs.NextChange.{next_change}
use Rattle.stm_hall.proofs.ChangedAbove.{at_the_opening, by_next}
use Rattle.stm_hall.proofs.changed.is_changed_above.Goals as goal

pub look_back-requires : goal.look_back-requires
look_back-requires c = omega (arith, c.below.ensures)

-- the state at the opening was modified above
pub returns-then-is_modified_above : goal.returns-then-is_modified_above
returns-then-is_modified_above c =
    let h : History = c.args.keys.now.history in
    let key : List ℕ = c.args.key.now in
    let state : option_copied c.look_back.result ≡ opened_state h.opening key =
    c.look_back.ensures ∙ ap (λ (n : ℕ). key_at h key n) c.below.ensures ∙ at_the_opening h key in
    sym (by_next h.opening c.args.since key h.revisions
    ∙ ap (λ b. b || is_some (next_change h key c.args.since))
    (ap (λ (o : Option KeyState). nat_lt c.args.since (mod_of o)) (sym state) ∙ sym c.is_modified_above.ensures ∙ c.if-is_modified_above.true))

-- or it was not, and a later revision changes the key or none does
pub returns : goal.returns
returns c =
    let h : History = c.args.keys.now.history in
    let key : List ℕ = c.args.key.now in
    let state : option_copied c.look_back.result ≡ opened_state h.opening key =
    c.look_back.ensures ∙ ap (λ (n : ℕ). key_at h key n) c.below.ensures ∙ at_the_opening h key in
    c.is_some.ensures ∙ ap is_some c.next_change.ensures
    ∙ sym (by_next h.opening c.args.since key h.revisions
    ∙ ap (λ b. b || is_some (next_change h key c.args.since))
    (ap (λ (o : Option KeyState). nat_lt c.args.since (mod_of o)) (sym state) ∙ sym c.is_modified_above.ensures ∙ c.if-is_modified_above.false))
