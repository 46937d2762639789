use Rattle.std.proofs.Common.{List, map, refl, arith, ap, ◌∙◌}
use Rattle.serde_json.specs.Data.{Data}
use Rattle.serde_json.specs.View.{view}
use Rattle.serde_json.proofs.Views.{view-Array}
use Rattle.stm_report_lines.specs.LineData.{list}
use Rattle.stm_job_texts.specs.Outcomes.{pairs}
use Rattle.stm_job_texts.proofs.LineLemmas.{next_pair, all_pairs, ascends}
use Rattle.stm_job_texts.proofs.outcome.state_json.Goals as goal

pub loop-i-init : goal.loop-i-init
loop-i-init c = record { reported = rw c.new-values.ensures.items refl; rises = λ some. absurd (omega (arith, some)) }

pub loop-i-preserved : goal.loop-i-preserved
loop-i-preserved c = record {
  reported =
      rw (c.in_ok-push_pair.ensures, c.as_str.ensures, c.as_str-in-loop-i.ensures) (next_pair (map view c.loop-i.values.items) (pairs c.args.state.now)
      c.args.state.now c.loop-i.i c.at-entry.result.now c.at-entry.ensures.entry c.loop-i.invariant.reported);
  rises = λ some. c.at-entry.ensures.ascending;
}

pub returns-clause-data : goal.returns-clause-data
returns-clause-data c =
    view-Array c.loop-i.values
    ∙ ap (λ (ds : List Data). list ds)
    (all_pairs (map view c.loop-i.values.items) c.args.state.now c.loop-i.i (omega (arith, c.len-i-end.ensures)) c.loop-i.invariant.reported)

pub returns-clause-ascending : goal.returns-clause-ascending
returns-clause-ascending c = ascends c.args.state.now c.loop-i.i (omega (arith, c.len-i-end.ensures)) c.loop-i.invariant.rises
