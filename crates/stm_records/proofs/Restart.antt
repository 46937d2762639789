use Rattle.std.proofs.Common.{◌≡◌, inl, inr, ⊎_elim, ℕ, ◌+◌, ◌^◌, ◌<◌, List, [], ◌∷◌, ◌++◌, length, take, drop, sym, ◌∙◌, ap, subst, take-append-drop, drop-drop, zero-add}
use Rattle.std.proofs.lemmas.List.{append_cancel_left}
use Rattle.stm_frames.specs.Frame.{frame, log, NoFrame, NoneIn, Opens, IsDamaged}
use Rattle.stm_frames.proofs.Unique.{opens_one, unique, none_first}
use Rattle.stm_records.specs.Laws.{ServesTheAcknowledged, TellsDamage}

pub serves : ServesTheAcknowledged
serves file payload c acknowledged served short is left no_chance opens =
    ⊎_elim
    (λ without. inl (opens_one c served acknowledged short opens without))
    (λ with_it. inr (opens_one c served (acknowledged ++ payload ∷ []) short opens with_it))
    (left acknowledged is no_chance)

module _ (c : List ℕ) (before behind : List (List ℕ)) (at size : ℕ) (next : List ℕ) (short : length c < 2 ^ 64) (at_is : at ≡ length (log 0 before)) (front : take at c ≡ log 0 before) (broken : NoFrame at (drop at c)) (rest : drop (at + size) c ≡ log (at + size) (next ∷ behind)) where
  split : c ≡ log 0 before ++ drop at c
  split = sym (take-append-drop at c) ∙ ap (λ (l : List ℕ). l ++ drop at c) front

  stands : drop size (drop at c) ≡ frame (at + size) next ++ log (at + size + 24 + length next) behind
  stands = drop-drop size at c ∙ rest

  pub is_damaged : IsDamaged c at
  is_damaged = record {
    payloads = before;
    end = drop at c;
    split = split;
    place = at_is;
    broken = broken;
    behind = record { behind = size; payload = next; tail = log (at + size + 24 + length next) behind; stands = stands };
  }

  same : (qs : List (List ℕ)) (f : List ℕ) → c ≡ log 0 qs ++ f → NoFrame (0 + length (log 0 qs)) f → before ≡ qs
  same qs f is no_f =
      unique 0 before qs (drop at c) f (sym split ∙ is) (subst (λ (l : List ℕ). length l < 2 ^ 64) split short) (subst (λ (m : ℕ). NoFrame m (drop at c)) (at_is ∙ sym (zero-add (length (log 0 before)))) broken) no_f

  end_same : (qs : List (List ℕ)) (f : List ℕ) → c ≡ log 0 qs ++ f → before ≡ qs → f ≡ drop at c
  end_same qs f is are =
      append_cancel_left (log 0 qs) f (drop at c) (sym is ∙ split ∙ ap (λ (ls : List (List ℕ)). log 0 ls ++ drop at c) are)

  pub none_served : (served : List (List ℕ)) → Opens c served → ⊥
  none_served served opens =
      let are = same served opens.end opens.split (none_first (length (log 0 served)) opens.end opens.none) in
      let end_is = end_same served opens.end opens.split are in
      let place : length (log 0 served) ≡ at = ap (λ (ls : List (List ℕ)). length (log 0 ls)) (sym are) ∙ sym at_is in
      let none : NoneIn at (drop at c) = subst (λ (l : List ℕ). NoneIn at l) end_is (subst (λ (m : ℕ). NoneIn m opens.end) place opens.none) in
      none size next (log (at + size + 24 + length next) behind) stands

  pub one_place : (told : ℕ) → IsDamaged c told → told ≡ at
  one_place told damage =
      let no_f = subst (λ (m : ℕ). NoFrame m damage.end) (damage.place ∙ sym (zero-add (length (log 0 damage.payloads)))) damage.broken in
      damage.place ∙ ap (λ (ls : List (List ℕ)). length (log 0 ls)) (sym (same damage.payloads damage.end damage.split no_f)) ∙ sym at_is

pub tells : TellsDamage
tells c before behind at size next short at_is front broken rest =
    (is_damaged c before behind at size next short at_is front broken rest, none_served c before behind at size next short at_is front broken rest, one_place c before behind at size next short at_is front broken rest)
