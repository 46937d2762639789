use Rattle.std.proofs.Common.{◌≤◌, ℕ, length, sym, ◌∙◌, ap, arith}
use Rattle.std.proofs.lemmas.List.{take_all}
use Rattle.std.proofs.lemmas.Option.{get_or_from_slice_get, slice_get_within}
use Rattle.stm_program.specs.Writes.{latest_writes}
use Rattle.stm_program.proofs.LatestLemmas.{latest_writes-none}
use Rattle.stm_compile.proofs.BufferLemmas.{buffer_taken}
use Rattle.stm_journal.proofs.copying.copy_writes.Goals as goal

pub loop-place-init : goal.loop-place-init
loop-place-init c = c.new-copy.ensures ∙ sym latest_writes-none

pub loop-place-preserved : goal.loop-place-preserved
loop-place-preserved c =
    let ws = c.args.writes.now in
    let i : ℕ = c.loop-place.place in
    let w = c.at.result.now in
    buffer_taken ws i w c.in_ok-clone.field-0 c.loop-place.copy c.write.new.self (slice_get_within ws i w c.at.ensures)
    (sym (get_or_from_slice_get ws i w w c.at.ensures)) c.in_ok-clone.ensures.cases c.in_ok-write.ensures.ok c.loop-place.invariant

pub returns : goal.returns
returns c =
    let all : length c.args.writes.now ≤ c.loop-place.place = omega arith in
    c.loop-place.invariant ∙ ap latest_writes (take_all c.loop-place.place c.args.writes.now all)
