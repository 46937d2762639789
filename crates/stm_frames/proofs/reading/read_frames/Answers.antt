use Rattle.std.proofs.Common.{◌≡◌, ◌+◌, ◌++◌, ◌≤◌, take, drop, length, sym, ◌∙◌, ap, subst, arith, length-drop, List, ℕ}
use Rattle.std.proofs.lemmas.List.{map_push}
use Rattle.stm_frames.specs.Frame.{frame, log, at_places}
use Rattle.stm_frames.proofs.Frames.{one_more}
use Rattle.stm_frames.proofs.reading.read_frames.Goals as goal

pub loop-len-preserved : goal.loop-len-preserved
loop-len-preserved c =
    let bytes = c.args.bytes.now in
    let end = c.loop-len.end in
    let n = c.in-Some.len in
    let fits : 24 + n ≤ length (drop end bytes) = subst (λ (r : List ℕ). 24 + n ≤ length r) c.behind.ensures c.in-Some.ensures.room in
    let is = subst (λ (r : List ℕ). r ≡ frame end (take n (drop 24 r)) ++ drop (24 + n) r) c.behind.ensures c.in-Some.ensures.whole in
    record {
      room = omega (arith, c.loop-len.invariant.room, fits, length-drop end bytes);
      frames = one_more bytes (at_places bytes c.loop-len.payloads.items) end n c.loop-len.invariant.room c.loop-len.invariant.frames fits is
          ∙ ap (λ (l : List (List ℕ)). log 0 l) (sym (ap (at_places bytes) c.in_ok-push.ensures.items ∙ map_push (λ (p : ℕ × ℕ). take p.1 (drop p.0 bytes)) c.loop-len.payloads.items (end + 24, n)));
    }
