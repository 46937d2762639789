use Rattle.stm_report.proofs.WholeJudgingLemmas.{judged}
use Rattle.stm_report.proofs.whole_judging.check_whole.Goals as goal

pub returns-clause-judged : goal.returns-clause-judged
returns-clause-judged g c =
    let reported = rw (c.as_slice.ensures.value, c.as_slice-2.ensures.value) at c.judge_text.ensures in
    judged (record {
      scenario = g.S.Source.left c.args.scenario.now;
      report = g.R.Source.left c.args.report.now;
      scenario_failed = g.S.Source.failed c.expected_of.new.scenario;
      report_failed = g.R.Source.failed c.read_all.new.source;
    }) c.in_ok-expected.expected.items c.in_ok-given.given.items c.judge_text.result
    (c.in_ok-expected.ensures.report.0, c.in_ok-given.ensures.bytes.0) c.in_ok-expected.ensures.report.1 c.in_ok-given.ensures.bytes.1 reported
