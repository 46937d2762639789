use Rattle.std.proofs.Common.{◌≡◌, ◌+◌, ◌-◌, ◌++◌, ℕ, List, string_bytes, arith, ap, ◌∙◌}
use Rattle.std.specs.List.{flat_map, range_with_len}
use Rattle.stm_keys.specs.declared.event.Event.{Event}
use Rattle.stm_storing.specs.Past.{event_text, revision_text}
use Rattle.stm_storing.proofs.Texts.{next_number}
use Rattle.stm_storing.proofs.past.events_text.Goals as goal

pub loop-revision-preserved : goal.loop-revision-preserved
loop-revision-preserved c =
    let from = c.args.from in
    let now = c.loop-revision.revision in
    let piece = revision_text c.args.wanted.now c.args.keys.now.history in
    let le = c.loop-revision.invariant.0 in
    let more : (now - from) + 1 ≡ (now + 1) - from = omega (arith, le) in (
      omega (arith, le),
      omega (arith, le, c.loop-revision-test.true),
      next_number piece _ _ from (now - from) now (omega (arith, le)) c.loop-revision.invariant.2
          (c.in_ok-push_events.ensures ∙ ap (λ (es : List Event). string_bytes c.loop-revision.text ++ flat_map (event_text c.args.wanted.now) es) c.events_at.ensures)
          ∙ ap (λ (n : ℕ). flat_map piece (range_with_len from n)) more,
    )

pub returns : goal.returns
returns c =
    let from = c.args.from in
    let at = c.loop-revision.revision in
    let piece = revision_text c.args.wanted.now c.args.keys.now.history in
    c.loop-revision.invariant.2 ∙ ap (λ (n : ℕ). flat_map piece (range_with_len from n)) (omega (arith, c.loop-revision.invariant.0, c.loop-revision.invariant.1, c.loop-revision-test.false))
