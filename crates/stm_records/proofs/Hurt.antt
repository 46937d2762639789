-- A file that is hurt opens to nothing.
use Rattle.std.proofs.Common.{◌≡◌, inl, inr, ⊎_elim, ℕ, ◌+◌, ◌^◌, ◌<◌, List, ◌++◌, length, sym, ◌∙◌, ap, subst, zero-add}
use Rattle.std.proofs.lemmas.List.{append_cancel_left}
use Rattle.stm_frames.specs.Frame.{log, NoFrame, NoneIn, Opens, IsDamaged}
use Rattle.stm_frames.proofs.Unique.{unique, none_first}
use Rattle.stm_records.specs.Laws.{LeavesTheHurt}

none_opens : (file : List ℕ) (at : ℕ) → length file < 2 ^ 64 → (d : IsDamaged file at) → (served : List (List ℕ)) → Opens file served → ⊥
none_opens file at short d served opens =
    let no_frame = subst (λ (m : ℕ). NoFrame m d.end) (d.place ∙ sym (zero-add (length (log 0 d.payloads)))) d.broken in
    let are : d.payloads ≡ served =
    unique 0 d.payloads served d.end opens.end (sym d.split ∙ opens.split) (subst (λ (l : List ℕ). length l < 2 ^ 64) d.split short) no_frame
    (none_first (length (log 0 served)) opens.end opens.none) in
    let end_is : opens.end ≡ d.end =
    append_cancel_left (log 0 served) opens.end d.end (sym opens.split ∙ d.split ∙ ap (λ (ls : List (List ℕ)). log 0 ls ++ d.end) are) in
    let place : length (log 0 served) ≡ at = ap (λ (ls : List (List ℕ)). length (log 0 ls)) (sym are) ∙ sym d.place in
    let none : NoneIn at d.end = subst (λ (l : List ℕ). NoneIn at l) end_is (subst (λ (m : ℕ). NoneIn m opens.end) place opens.none) in
    none d.behind.behind d.behind.payload d.behind.tail d.behind.stands

pub leaves : LeavesTheHurt
leaves file c at short (inl damaged) alike = alike.untouched (λ payloads whole opens. none_opens file at short damaged payloads opens)
leaves file c at short (inr headless) alike =
    alike.untouched (λ payloads whole opens. ⊎_elim headless.1 (λ head. headless.2 head.0 head.1 head.2) whole)
