use Rattle.std.proofs.Common.{◌≡◌, ◌∙◌, ap, sym, subst, cond, Some, List, ℕ, slice_get}
use Rattle.std.specs.Prelude.{bytes_eq}
use Rattle.stm_keys.specs.Events.{is_put, key_of_event}
use Rattle.stm_keys.specs.Chains.{StandFirst, names_of}
use Rattle.stm_keys.proofs.chains.add_version_at.Goals as goal

pub returns-in-Put-clause-first : goal.returns-in-Put-clause-first
returns-in-Put-clause-first c = λ is_present first.
    let count : ℕ = c.bring_in.new.present in
    let names : List (List ℕ) = names_of c.bring_in.new.chains in
    let at : slice_get (names_of c.push_at.new.chains) c.args.index ≡ Some (key_of_event c.args.event.now) =
    ap (λ (l : List (List ℕ)). slice_get l c.args.index) c.push_at.ensures.names ∙ c.requires.named in
    subst (λ b. StandFirst (λ k. cond (bytes_eq (key_of_event c.args.event.now) k) b (is_present k)) count names) (sym (ap is_put c.in-Put.is))
    (c.bring_in.ensures.first (key_of_event c.args.event.now) is_present at
    (subst (StandFirst is_present c.args.present.now) (sym c.push_at.ensures.names) first))

pub returns-in-Delete-clause-first : goal.returns-in-Delete-clause-first
returns-in-Delete-clause-first c = λ is_present first.
    let count : ℕ = c.take_out.new.present in
    let names : List (List ℕ) = names_of c.take_out.new.chains in
    let at : slice_get (names_of c.push_at.new.chains) c.args.index ≡ Some (key_of_event c.args.event.now) =
    ap (λ (l : List (List ℕ)). slice_get l c.args.index) c.push_at.ensures.names ∙ c.requires.named in
    subst (λ b. StandFirst (λ k. cond (bytes_eq (key_of_event c.args.event.now) k) b (is_present k)) count names) (sym (ap is_put c.in-Delete.is))
    (c.take_out.ensures.first (key_of_event c.args.event.now) is_present at
    (subst (StandFirst is_present c.args.present.now) (sym c.push_at.ensures.names) first))
