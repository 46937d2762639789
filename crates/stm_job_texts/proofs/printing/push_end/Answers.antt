use Rattle.std.proofs.Common.{◌≡◌, ◌++◌, ℕ, List, OnOk, codes, string_bytes, sym, subst}
use Rattle.serde_json.specs.Data.{string}
use Rattle.stm_report_lines.specs.Text.{line_text}
use Rattle.stm_job.specs.declared.job_end.JobEnd.{JobEnd}
use Rattle.stm_job_texts.specs.Lines.{job_line, end_of_job}
use Rattle.stm_job_texts.proofs.printing.push_end.Goals as goal

pub returns-in-Committed : goal.returns-in-Committed
returns-in-Committed c =
    subst (λ (e : JobEnd). OnOk c.push_number.result (string_bytes c.push_number.new.text
    ≡ string_bytes c.args.text.now ++ line_text (end_of_job c.args.job e c.args.attempts)))
    (sym c.in-Committed.is) c.push_number.ensures

pub returns-in-Aborted : goal.returns-in-Aborted
returns-in-Aborted c =
    subst (λ (e : JobEnd). OnOk c.push_text.result (string_bytes c.push_text.new.text
    ≡ string_bytes c.args.text.now ++ line_text (end_of_job c.args.job e c.args.attempts)))
    (sym c.in-Aborted.is)
    (subst (λ (reported : List ℕ). OnOk c.push_text.result (string_bytes c.push_text.new.text
    ≡ string_bytes c.args.text.now ++ line_text (job_line c.args.job (codes "aborted") (string reported) c.args.attempts)))
    c.as_str.ensures c.push_text.ensures)

pub returns-in-Faulted : goal.returns-in-Faulted
returns-in-Faulted c =
    subst (λ (e : JobEnd). OnOk c.push_text-in-Faulted.result (string_bytes c.push_text-in-Faulted.new.text
    ≡ string_bytes c.args.text.now ++ line_text (end_of_job c.args.job e c.args.attempts)))
    (sym c.in-Faulted.is)
    (subst (λ (reported : List ℕ). OnOk c.push_text-in-Faulted.result (string_bytes c.push_text-in-Faulted.new.text
    ≡ string_bytes c.args.text.now ++ line_text (job_line c.args.job (codes "faulted") (string reported) c.args.attempts)))
    c.name.ensures c.push_text-in-Faulted.ensures)

pub returns-in-GaveUp : goal.returns-in-GaveUp
returns-in-GaveUp c =
    subst (λ (e : JobEnd). OnOk c.push_text-in-GaveUp.result (string_bytes c.push_text-in-GaveUp.new.text
    ≡ string_bytes c.args.text.now ++ line_text (end_of_job c.args.job e c.args.attempts)))
    (sym c.in-GaveUp.is)
    (subst (λ (reported : List ℕ). OnOk c.push_text-in-GaveUp.result (string_bytes c.push_text-in-GaveUp.new.text
    ≡ string_bytes c.args.text.now ++ line_text (job_line c.args.job (codes "gaveup") (string reported) c.args.attempts)))
    c.as_str-in-GaveUp.ensures c.push_text-in-GaveUp.ensures)
