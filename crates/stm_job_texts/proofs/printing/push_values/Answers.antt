use Rattle.std.proofs.Common.{◌++◌, string_bytes, refl, arith}
use Rattle.stm_report_lines.specs.Text.{lines_text}
use Rattle.stm_job_texts.specs.Lines.{value_lines}
use Rattle.stm_job_texts.proofs.LineLemmas.{next_value, all_values, ascends}
use Rattle.stm_job_texts.proofs.printing.push_values.Goals as goal

pub loop-i-init : goal.loop-i-init
loop-i-init c = record { reported = refl; rises = λ some. absurd (omega (arith, some)) }

pub loop-i-preserved : goal.loop-i-preserved
loop-i-preserved c = record {
  reported =
      rw (c.in_ok-push_value.ensures, c.as_str.ensures, c.as_str-in-loop-i.ensures) (next_value (string_bytes c.loop-i.text)
      (string_bytes c.args.text.now ++ lines_text (value_lines c.args.state.now)) c.args.state.now c.loop-i.i c.at-entry.result.now c.at-entry.ensures.entry
      c.loop-i.invariant.reported);
  rises = λ some. c.at-entry.ensures.ascending;
}

pub returns-clause-text : goal.returns-clause-text
returns-clause-text c =
    all_values (string_bytes c.args.text.now) (string_bytes c.loop-i.text) c.args.state.now c.loop-i.i (omega (arith, c.len-i-end.ensures))
    c.loop-i.invariant.reported

pub returns-clause-ascending : goal.returns-clause-ascending
returns-clause-ascending c = ascends c.args.state.now c.loop-i.i (omega (arith, c.len-i-end.ensures)) c.loop-i.invariant.rises
