-- Runs of jobs over the store of a world.
use Rattle.std.proofs.Common.{◌≡◌, ⊎_elim, ℕ, ◌+◌, ◌<◌, ◌≤◌, sym, ap, ◌∙◌, subst, arith}
use Rattle.std.proofs.lemmas.Bool.{cases_order}
use Rattle.stm_history.specs.History.{History, now}
use Rattle.stm_keys.specs.Events.{events_of}
use Rattle.stm_txn.specs.Standing.{Standing}
use Rattle.stm_storing.specs.Jobs.{AreAlikeSince}

-- the same has happened up to a revision
abbrev pub AreSameUpTo : ℕ → ℕ → History → History → Type 0
AreSameUpTo since last h g = (r : ℕ) → since < r → r ≤ last → events_of h r ≡ events_of g r

-- none is looked at yet
pub none_yet : (since : ℕ) (h g : History) → AreSameUpTo since since h g
none_yet since h g r above within = absurd (omega (arith, above, within))

-- one revision more
pub one_more : (since last : ℕ) (h g : History) → AreSameUpTo since last h g → events_of h (last + 1) ≡ events_of g (last + 1) → AreSameUpTo since (last + 1) h g
one_more since last h g so_far same r above within =
    ⊎_elim
    (λ (eq : r ≡ last + 1). subst (λ (k : ℕ). events_of h k ≡ events_of g k) (sym eq) same)
    (λ other. ⊎_elim
    (λ (less : r < last + 1). so_far r above (omega (arith, less)))
    (λ (more : last + 1 < r). absurd (omega (arith, within, more)))
    other)
    (cases_order r (last + 1))

-- two stores whose histories are these
pub alike : (since : ℕ) (s t : Standing) (h g : History) → h ≡ s.history → g ≡ t.history → now h ≡ now g → AreSameUpTo since (now h) h g → s.moment ≡ t.moment
    → AreAlikeSince since s t
alike since s t h g is_h is_g reached events moment = record {
  reached = sym (ap now is_h) ∙ reached ∙ ap now is_g;
  events =
      subst (λ (k : History). AreSameUpTo since (now s.history) s.history k) is_g
      (subst (λ (k : History). AreSameUpTo since (now k) k g) is_h events);
  moment = moment;
}
