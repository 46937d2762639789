use Rattle.std.proofs.Common.{◌≡◌, ◌+◌, suc, List, take, ap, sym, subst, ◌∙◌, arith}
use Rattle.stm_entries.specs.declared.entry.Entry.{Entry}
use Rattle.stm_entries.specs.Replayed.{Replayed, opened_with}
use Rattle.stm_entries.specs.Replay.{replay}
use Rattle.stm_entries.specs.LiveLeases.{HasLeases}
use Rattle.stm_entries.proofs.LeaseLemmas.{no_leases}
use Rattle.stm_report.proofs.LeaseLemmas.{replay_next}
use Rattle.stm_report.proofs.leases.live_leases.Goals as goal

pub loop-entry-init : goal.loop-entry-init
loop-entry-init c start = no_leases c.new-leases.result c.new-leases.ensures.empty

pub loop-entry-preserved : goal.loop-entry-preserved
loop-entry-preserved c start =
    let entries : List Entry = c.args.entries.now in
    let i = c.loop-entry.entry-index in
    let count : i + 1 ≡ suc i = omega arith in
    let next = replay_next entries i c.entry-item.result (opened_with start) c.loop-entry-test.true c.entry-item.is in
    subst (λ (r : Replayed). HasLeases c.take_entry.new.leases r.live) (sym next ∙ ap (λ n. replay (take n entries) (opened_with start)) (sym count))
    (c.in_ok-take_entry.ensures (replay (take i entries) (opened_with start)) (c.loop-entry.invariant start))
