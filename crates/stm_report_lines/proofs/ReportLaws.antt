-- Reports: the first fault is that which reading answers, what was read is spelled, and what is spelled is read.
use Rattle.std.proofs.Common.{◌≡◌, ℕ, suc, List, [], ◌∷◌, length, Bool, cond, ltb, Option, Some, None, Ok, refl, ap, subst, ◌∙◌, arith}
use Rattle.std.proofs.lemmas.Bool.Decides.{nat_tests}
use Rattle.serde_json.specs.Data.{Data}
use Rattle.stm_json.specs.declared.cause.Cause.TheVariants.{Shape, TooLong}
use Rattle.stm_json.specs.Outcome.{bad, ◌>>=◌, within, step}
use Rattle.stm_json.proofs.OutcomeLemmas.{bind_ok, within_ok}
use Rattle.stm_json.specs.Faults.{first_of}
use Rattle.stm_json.proofs.FaultLemmas.{fault_of, wrong_is, part_then, made}
use Rattle.stm_events.specs.declared.line.ReportLine.{ReportLine}
use Rattle.stm_json.specs.declared.limits.TheConstants.{MOST_BYTES}
use Rattle.stm_events.specs.declared.line.Report.{Report}
use Rattle.stm_json.specs.Bytes.{data_of}
use Rattle.stm_report_lines.specs.Bytes.{parts_of}
use Rattle.stm_report_lines.specs.FirstFault.{json_faults, rest_faults, lines_faults, first_fault}
use Rattle.stm_report_lines.specs.Grammar.{SpellsLine, SpellsParts, SpellsReport}
use Rattle.stm_report_lines.specs.Reading.{line_read, line_in, rest_of, lines_from, report_with, report_in}
use Rattle.stm_report_lines.proofs.CutLemmas.{parts_start}
use Rattle.stm_report_lines.proofs.LineLaws.{line_reported, line_means, line_reads}

-- ---- the first fault

part_reported : (p part : List ℕ) → first_of (json_faults p (data_of part)) ≡ fault_of p (line_in part)
unfolding line_in
part_reported p part = grind (arith, nat_tests, wrong_is, line_reported)

-- what comes after the last line feed
rest_reported : (index : ℕ) (rest : List ℕ) → first_of (rest_faults (step index) rest) ≡ fault_of [] (within index (rest_of rest))
rest_reported index [] = refl
rest_reported index (b ∷ bs) = wrong_is {A = List ReportLine} (step index) Shape (bad Shape) refl

lines_reported : (index : ℕ) (parts : List (List ℕ)) → first_of (lines_faults index parts) ≡ fault_of [] (lines_from index parts)
lines_reported index [] = refl
lines_reported index (rest ∷ []) = rest_reported index rest
lines_reported index (part ∷ next ∷ more) =
    part_then [] index (line_in part) _ (json_faults (step index) (data_of part)) (lines_faults (suc index) (next ∷ more)) (part_reported (step index) part)
    (λ (l : ReportLine). made [] (lines_from (suc index) (next ∷ more)) (λ (ls : List ReportLine). l ∷ ls) (lines_faults (suc index) (next ∷ more))
    (lines_reported (suc index) (next ∷ more)))

-- the first fault is that which reading answers, if it does
pub first_fault-is : (bytes : List ℕ) → first_fault bytes ≡ fault_of [] (report_in bytes)
unfolding first_fault report_in
first_fault-is bytes = grind (arith, nat_tests, made, lines_reported)

-- ---- what was read is spelled

json_means : (part : List ℕ) (o : Option Data) (l : ReportLine) → data_of part ≡ o → line_read o ≡ Ok l
    → (d : Data) × (data_of part ≡ Some d) × SpellsLine d l
json_means part None l e h = cc
json_means part (Some d) l e h = (d, e, line_means d l h)

part_means : (part : List ℕ) (l : ReportLine) → line_in part ≡ Ok l → (d : Data) × (data_of part ≡ Some d) × SpellsLine d l
unfolding line_in
part_means part l h = json_means part (data_of part) l refl h

rest_means : (index : ℕ) (rest : List ℕ) (ls : List ReportLine) → within index (rest_of rest) ≡ Ok ls → SpellsParts (rest ∷ []) ls
rest_means index rest ls h = grind (arith, nat_tests)

lines_means : (index : ℕ) (part : List ℕ) (more : List (List ℕ)) (ls : List ReportLine) → lines_from index (part ∷ more) ≡ Ok ls → SpellsParts (part ∷ more) ls
lines_means index rest [] ls h = rest_means index rest ls h
lines_means index part (next ∷ more) ls h =
    let one = bind_ok (within index (line_in part)) _ ls h in
    let others = bind_ok (lines_from (suc index) (next ∷ more)) _ ls one.2 in
    let is : one.0 ∷ others.0 ≡ ls = cc others.2 in
    subst (λ (xs : List ReportLine). SpellsParts (part ∷ next ∷ more) xs) is
    (part, next ∷ more, refl, part_means part one.0 (within_ok index _ _ one.1), lines_means (suc index) next more others.0 others.1)

parts_mean : (parts : List (List ℕ)) (ls : List ReportLine) → (p : List ℕ) × (ps : List (List ℕ)) × (parts ≡ p ∷ ps) → lines_from 0 parts ≡ Ok ls
    → SpellsParts parts ls
parts_mean parts ls h3 h = grind (arith, nat_tests, lines_means)

tested : (bytes : List ℕ) (r : Report) (b : Bool) → ltb MOST_BYTES (length bytes) ≡ b
    → cond b (bad TooLong) (lines_from 0 (parts_of bytes) >>= λ ls. Ok (report_with ls)) ≡ Ok r → SpellsReport bytes r
tested bytes r b t h = grind (arith, nat_tests, bind_ok, parts_mean, parts_start)

pub report_means : (bytes : List ℕ) (r : Report) → report_in bytes ≡ Ok r → SpellsReport bytes r
unfolding report_in
report_means bytes r h = tested bytes r (ltb MOST_BYTES (length bytes)) refl h

-- ---- what is spelled is read

part_reads : (part : List ℕ) (d : Data) (l : ReportLine) → data_of part ≡ Some d → SpellsLine d l → line_in part ≡ Ok l
unfolding line_in
part_reads part d l is s = ap line_read is ∙ line_reads d l s

lines_read : (index : ℕ) (parts : List (List ℕ)) (ls : List ReportLine) → SpellsParts parts ls → lines_from index parts ≡ Ok ls
lines_read index parts [] is = rw is refl
lines_read index parts (l ∷ []) (part, rest, is, (d, json, s), last) = grind (arith, nat_tests, part_reads)
lines_read index parts (l ∷ k ∷ ls) (part, rest, is, (d, json, s), (next, more, follows, one_more, others)) =
    grind (arith, nat_tests, part_reads, lines_read (suc index) rest (k ∷ ls) (next, more, follows, one_more, others))

pub report_reads : (bytes : List ℕ) (r : Report) → SpellsReport bytes r → report_in bytes ≡ Ok r
unfolding report_in
report_reads bytes r h3 = grind (arith, nat_tests, lines_read)
