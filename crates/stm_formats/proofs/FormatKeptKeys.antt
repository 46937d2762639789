-- What a store has kept of a history shows the present as the whole does, and so do its notes.
use Rattle.std.proofs.Common.{◌≡◌, ℕ, ◌-◌, ◌≤◌, List, [], ◌∷◌, ◌++◌, length, Option, Result, refl, ◌∙◌, ap}
use Rattle.stm_history.specs.declared.key_state.KeyState.{KeyState}
use Rattle.stm_history.specs.History.{History, now, key_now}
use Rattle.stm_history.specs.Cut.{cut}
use Rattle.stm_history.proofs.CutLaws.{cut_keeps_keys_now}
use Rattle.stm_events.specs.declared.reply.Reply.{Reply}
use Rattle.stm_events.specs.declared.refusal.Denied.{Denied}
use Rattle.stm_formats.specs.FormatNotes.{notes_of_key, key_notes, noted_above, left_out_notes, noted_keys}

pub same_notes : (most above : ℕ) (h : History) (number : ℕ) → number ≤ now h → (keys : List (List ℕ))
    → key_notes most above (cut number h) keys ≡ key_notes most above h keys
same_notes most above h number reached [] = refl
same_notes most above h number reached (key ∷ keys) =
    ap (λ (o : Option KeyState). notes_of_key most above key o ++ key_notes most above (cut number h) keys) (cut_keeps_keys_now h number reached key)
    ∙ ap (λ (notes : List (List ℕ)). notes_of_key most above key (key_now h key) ++ notes) (same_notes most above h number reached keys)

pub same_noted : (most since : ℕ) (replies : List (Result Reply Denied)) (h : History) (number : ℕ) → number ≤ now h → (keys : List (List ℕ))
    → noted_keys most since replies (cut number h) keys ≡ noted_keys most since replies h keys
unfolding noted_keys
same_noted most since replies h number reached keys =
    let above : ℕ = noted_above (length keys) since replies in
    ap (λ (notes : List (List ℕ)). notes ++ left_out_notes above (length keys - length notes)) (same_notes most above h number reached keys)
