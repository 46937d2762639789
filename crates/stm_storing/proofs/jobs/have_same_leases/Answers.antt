use Rattle.std.proofs.Common.{◌≡◌, ap, sym, ◌∙◌}
use Rattle.stm_history.specs.Opening.{Opening}
use Rattle.stm_entries.specs.Replayed.{Replayed, opened_with}
use Rattle.stm_entries.specs.Replay.{replay}
use Rattle.stm_storing.proofs.jobs.have_same_leases.Goals as goal

-- both are what their entries lead to, from the same opening
pub returns : goal.returns
returns c = λ same.
    let left = c.args.left.now in
    let right = c.args.right.now in
    let o : Opening = left.standing.history.opening in
    let leave : (replay left.entries (opened_with o)).live ≡ (replay right.entries (opened_with o)).live =
    ap (λ es. (replay es (opened_with o)).live) (sym c.history.ensures.entries) ∙ c.leave_same_leases.ensures same (opened_with o)
    ∙ ap (λ es. (replay es (opened_with o)).live) c.history-2.ensures.entries in
    sym (ap (λ (r : Replayed). r.live) c.history.ensures.replays) ∙ leave
    ∙ ap (λ (p : Opening). (replay right.entries (opened_with p)).live) (c.opens_alike.ensures c.if-not-opens_alike.false)
    ∙ ap (λ (r : Replayed). r.live) c.history-2.ensures.replays
