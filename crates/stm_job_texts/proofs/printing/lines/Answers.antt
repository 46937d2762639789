use Rattle.std.proofs.Common.{◌≡◌, refl, string_bytes}
use Rattle.stm_history.specs.History.{now}
use Rattle.stm_job_texts.specs.Lines.{text_of}
use Rattle.stm_job_texts.proofs.printing.lines.Goals as goal

pub returns : goal.returns
returns c =
    let h = c.args.gathered.now.hall.standing.history in
    let state = c.in_ok-state.state in
    let shown = rw (c.as_slice.ensures.value, c.as_slice-2.ensures.value) at c.in_ok-push_shown.ensures in
    let text : string_bytes c.push_count-3.new.text ≡ text_of c.args.jobs c.args.gathered.now.committed shown.0 state (now h) =
    rw (
      c.in_ok-push_count-3.ensures,
      c.in_ok-push_values.ensures.text,
      shown.2,
      c.in_ok-push_count-2.ensures,
      c.in_ok-push_count.ensures,
      c.new-text.ensures.bytes,
      c.revision.ensures,
    ) refl in
    (state, c.in_ok-state.ensures, c.in_ok-push_values.ensures.ascending, shown.0, shown.1, text)
