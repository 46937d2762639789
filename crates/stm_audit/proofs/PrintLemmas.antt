-- What is printed, line after line, and what is answered of an input.
use Rattle.std.proofs.Common.{◌≡◌, ℕ, ◌+◌, ◌<◌, List, [], ◌++◌, length, take, drop, get_or, IfSome, Some, None, Bool, false, Option, Result, Ok, Err}
use Rattle.std.proofs.Common.{subst, append_assoc, inl, inr}
use Rattle.std.proofs.lemmas.List.{append-nil}
use Rattle.stm_devices.specs.declared.transfer.TheConstants.{MOST_READ}
use Rattle.stm_json.specs.declared.read_error.BadInput.{BadInput}
use Rattle.stm_report_lines.specs.Text.{line_text}
use Rattle.stm_audit.specs.declared.command.Printed.{Printed}
use Rattle.stm_audit.specs.declared.command.AuditFault.{AuditFault}
use Rattle.stm_audit.specs.declared.command.AuditFault.TheVariants.{OutOfMemory, Bad, Device}
use Rattle.stm_audit.specs.declared.finding.Finding.{Finding}
use Rattle.stm_audit.specs.declared.auditing.Audited.{Audited}
use Rattle.stm_audit.specs.declared.trace.Trace.{Trace}
use Rattle.stm_audit.specs.Audit.{audited}
use Rattle.stm_audit.specs.Command.{IsMisfit, Prints, Answers, Gives}
use Rattle.stm_audit.specs.Lines.{finding_line, findings_text, audit_text, audit_status}
use Rattle.stm_audit.specs.Reading.{trace_in}
use Rattle.stm_audit.proofs.AuditLemmas.{left_at}

-- ---- the lines of findings

pub one_line_more : (fs : List Finding) (i : ℕ) (f : Finding) (text next total : List ℕ) → i < length fs → f ≡ get_or fs i f
    → next ≡ text ++ line_text (finding_line f) → text ++ findings_text (drop i fs) ≡ total → next ++ findings_text (drop (i + 1) fs) ≡ total
one_line_more fs i f text next total within at is so_far =
    rw (is, append_assoc text (line_text (finding_line f)) (findings_text (drop (i + 1) fs))) (rw (left_at fs i f within at) at so_far)

pub all_lines : (fs : List Finding) (i : ℕ) (text total : List ℕ) → drop i fs ≡ [] → text ++ findings_text (drop i fs) ≡ total → text ≡ total
all_lines fs i text total none so_far = rw (none, append-nil) at so_far

-- ---- traces

pub prints_of : (t : Trace) (a : Audited) (p : Printed) → audited t ≡ Some a
    → (p.text ≡ audit_text a (length t.commits)) × (p.status ≡ audit_status a) → Prints t (Ok p)
prints_of t a p is print = (a, is, print.0, print.1)

pub prints_none : (t : Trace) (fault : AuditFault) → audited t ≡ None → IsMisfit fault → Prints t (Err fault)
prints_none t OutOfMemory none is = tt
prints_none t (Bad bad) none is = (none, is)
prints_none t Device none is = is

pub answers_of : (bytes : List ℕ) (t : Trace) (result : Result Printed AuditFault) → trace_in bytes ≡ Ok t → Prints t result → Answers bytes result
answers_of bytes t (Ok p) is prints = (t, is, prints)
answers_of bytes t (Err OutOfMemory) is prints = tt
answers_of bytes t (Err (Bad bad)) is prints = inr (t, is, prints.0, prints.1)
answers_of bytes t (Err Device) is prints = prints

pub answers_bad : (bytes : List ℕ) (bad : BadInput) → trace_in bytes ≡ Err bad → Answers bytes (Err (Bad bad))
answers_bad bytes bad is = inl is

-- ---- inputs

of_input : (input : Option (List ℕ)) (bytes : List ℕ) (P : List ℕ → Type 0) → IfSome input (λ all. bytes ≡ take MOST_READ all) → P bytes
    → IfSome input (λ all. P (take MOST_READ all))
of_input None bytes P read holds = tt
of_input (Some all) bytes P read holds = subst P read holds

pub Gives-from_Answers : (input : Option (List ℕ)) (failed : Bool) (bytes : List ℕ) (result : Result Printed AuditFault) → failed ≡ false
    → IfSome input (λ all. bytes ≡ take MOST_READ all) → Answers bytes result → Gives input failed result
Gives-from_Answers input failed bytes (Ok p) works read answers = (works, of_input input bytes (λ b. Answers b (Ok p)) read answers)
Gives-from_Answers input failed bytes (Err OutOfMemory) works read answers = works
Gives-from_Answers input failed bytes (Err (Bad bad)) works read answers = (works, of_input input bytes (λ b. Answers b (Err (Bad bad))) read answers)
Gives-from_Answers input failed bytes (Err Device) works read answers = absurd answers
