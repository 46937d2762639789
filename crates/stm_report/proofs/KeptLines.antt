-- What a store has kept of a history shows the present as the whole does, and so do the lines of it.
use Rattle.std.proofs.Common.{◌≡◌, ℕ, ◌≤◌, List, [], ◌∷◌, ◌++◌, Option, refl, ◌∙◌, ap}
use Rattle.stm_history.specs.declared.key_state.KeyState.{KeyState}
use Rattle.stm_history.specs.History.{History, now, key_now}
use Rattle.stm_history.specs.Cut.{cut}
use Rattle.stm_history.proofs.CutLaws.{cut_keeps_keys_now}
use Rattle.stm_events.specs.declared.line.ReportLine.{ReportLine}
use Rattle.stm_check.specs.StoreLines.{key_lines_of, key_lines}

pub same_lines : (h : History) (number : ℕ) → number ≤ now h → (keys : List (List ℕ)) → key_lines (cut number h) keys ≡ key_lines h keys
same_lines h number reached [] = refl
same_lines h number reached (key ∷ keys) =
    ap (λ (o : Option KeyState). key_lines_of key o ++ key_lines (cut number h) keys) (cut_keeps_keys_now h number reached key)
    ∙ ap (λ (lines : List ReportLine). key_lines_of key (key_now h key) ++ lines) (same_lines h number reached keys)
