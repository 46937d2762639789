use Rattle.std.proofs.Common.{List, ap, ◌∙◌, subst}
use Rattle.stm_history.specs.Opening.{Opening}
use Rattle.stm_leases.specs.Live.{Live}
use Rattle.stm_entries.specs.declared.entry.Entry.{Entry}
use Rattle.stm_entries.specs.LiveLeases.{HasLeases}
use Rattle.stm_entries.specs.Replayed.{Replayed, opened_with}
use Rattle.stm_entries.specs.Replay.{replay}
use Rattle.stm_storing.proofs.CompactLemmas.{same_live}
use Rattle.stm_storing.proofs.compacting.have_same_leases.Goals as goal

-- each has the leases to which its entries lead from what it opened with
pub returns : goal.returns
returns c = λ same.
    let left = c.args.left.now.standing in
    let right = c.args.right.now.standing in
    let o : Opening = left.history.opening in
    let p : Opening = right.history.opening in
    let has : HasLeases c.in_ok-leases.leases left.live =
    subst (λ (l : Live). HasLeases c.in_ok-leases.leases l)
    (ap (λ (es : List Entry). (replay es (opened_with o)).live) c.history.ensures.entries ∙ ap (λ (r : Replayed). r.live) c.history.ensures.replays)
    (c.in_ok-leases.ensures o) in
    let have : HasLeases c.in_ok-others.others right.live =
    subst (λ (l : Live). HasLeases c.in_ok-others.others l)
    (ap (λ (es : List Entry). (replay es (opened_with p)).live) c.history-2.ensures.entries ∙ ap (λ (r : Replayed). r.live) c.history-2.ensures.replays)
    (c.in_ok-others.ensures p) in
    same_live c.in_ok-leases.leases c.in_ok-others.others left.live right.live (c.are_same_leases.ensures same) has have
