-- How a file begins that a crash has left.
use Rattle.std.proofs.Common.{◌≡◌, inl, inr, ℕ, zero, suc, ◌+◌, List, [], ◌∷◌, ◌++◌, length, take, drop, refl, sym, ◌∙◌, ap, arith, append_assoc, take-append-drop}
use Rattle.stm_frames.specs.Frame.{frame, log, NoFrame, Opens}
use Rattle.stm_records.specs.Head.{BeginsWhole}

take_none : (n : ℕ) (bytes : List ℕ) → bytes ≡ [] → take n bytes ≡ []
take_none zero [] is = refl
take_none (suc n) [] is = refl
take_none n (b ∷ bytes) is = absurd (omega (arith, ap length is))

-- frames alone
pub log_head : (file : List ℕ) (qs : List (List ℕ)) → file ≡ log 0 qs → BeginsWhole file
log_head file [] is = inl is
log_head file (q ∷ qs) is = inr (q, log (0 + 24 + length q) qs, is)

-- a file that begins whole and has no frame has nothing
end_alone : (file end : List ℕ) → file ≡ end → NoFrame 0 end → BeginsWhole file → end ≡ []
end_alone file end is no_frame (inl none) = sym is ∙ none
end_alone file end is no_frame (inr head) = absurd (no_frame head.0 head.1 (sym is ∙ head.2))

-- its frames, and a front of what stood behind them
pub cut_head : (qs : List (List ℕ)) (file c : List ℕ) (n : ℕ) → (found : Opens file qs) → c ≡ log 0 qs ++ take n found.end → BeginsWhole file → BeginsWhole c
cut_head [] file c n found is head = inl (is ∙ take_none n found.end (end_alone file found.end found.split (found.none 0) head))
cut_head (q ∷ qs) file c n found is head =
    inr (q, log (0 + 24 + length q) qs ++ take n found.end, is ∙ append_assoc (frame 0 q) (log (0 + 24 + length q) qs) (take n found.end))

-- the file, and anything behind it
pub front_head : (file c : List ℕ) → take (length file) c ≡ file → (file ≡ [] → ⊥) → BeginsWhole file → BeginsWhole c
front_head file c front some (inl none) = absurd (some none)
front_head file c front some (inr head) = inr (
  head.0,
  head.1 ++ drop (length file) c,
  sym (take-append-drop (length file) c) ∙ ap (λ (l : List ℕ). l ++ drop (length file) c) (front ∙ head.2)
      ∙ append_assoc (frame 0 head.0) head.1 (drop (length file) c),
)
