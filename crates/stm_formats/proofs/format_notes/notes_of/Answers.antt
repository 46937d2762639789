use Rattle.std.proofs.Common.{◌≡◌, ◌++◌, ◌∷◌, [], ◌≤◌, ◌-◌, ℕ, List, length, map, refl, ap, ◌∙◌, string_bytes, append_assoc, arith}
use Rattle.stm_history.specs.History.{History, now}
use Rattle.stm_history.specs.Cut.{cut}
use Rattle.stm_history.proofs.CutLaws.{cut_keeps_now}
use Rattle.stm_txn.specs.Standing.{Standing}
use Rattle.stm_txn.specs.PresentKeys.{keys_present}
use Rattle.stm_compaction.proofs.Present.{present_in_cut}
use Rattle.stm_formats.specs.FormatNotes.{noted_keys, end_note, ended_after, unfinished_notes}
use Rattle.stm_formats.proofs.FormatKeptKeys.{same_noted}
use Rattle.stm_formats.proofs.format_notes.notes_of.Goals as goal

pub returns : goal.returns
returns c =
    let w = c.args.world.now in
    let h : History = w.standing.history in
    let number : ℕ = w.standing.floor - 1 in
    let reached : number ≤ now h = omega (arith, c.store.ensures.reached) in
    let kept : History = cut number h in
    let entries : ℕ = length w.entries in
    let unfinished : List (List ℕ) = unfinished_notes c.args.labels.now 1 (ended_after [] c.args.replies.now) in
    let listed : List (List ℕ) = map string_bytes c.in_ok-present.present.items in
    let noted : History → List (List ℕ) → List (List ℕ) = noted_keys c.args.most c.args.since c.args.replies.now in
    let same : c.keys.result.now.history ≡ kept = c.keys.ensures.history ∙ ap (λ (s : Standing). s.history) c.store.ensures.standing in
    let present : listed ≡ keys_present h = c.in_ok-present.ensures.computed ∙ ap keys_present same ∙ present_in_cut h number reached in
    let notes : c.push_unfinished.new.notes.items ≡ (noted kept listed ++ end_note (now kept) entries ∷ []) ++ unfinished =
    rw (
      c.in_ok-push_unfinished.ensures,
      c.as_slice-2.ensures.value,
      c.in_ok-ended.ensures,
      c.in_ok-push.ensures.items,
      c.in_ok-end_note.ensures,
      c.in_ok-notes.ensures,
      c.store-2.ensures.standing,
      c.as_slice.ensures.value,
      c.revision-revision.ensures.value,
      c.keys-2.ensures.history,
      c.store-3.ensures.standing,
      c.history.ensures.entries,
    ) refl in
    notes
    ∙ ap (λ (ks : List (List ℕ)). (ks ++ end_note (now kept) entries ∷ []) ++ unfinished) (same_noted c.args.most c.args.since c.args.replies.now h number reached listed)
    ∙ ap (λ (n : ℕ). (noted h listed ++ end_note n entries ∷ []) ++ unfinished) (cut_keeps_now h number reached)
    ∙ ap (λ (keys : List (List ℕ)). (noted h keys ++ end_note (now h) entries ∷ []) ++ unfinished) present
    ∙ append_assoc (noted h (keys_present h)) (end_note (now h) entries ∷ []) unfinished
