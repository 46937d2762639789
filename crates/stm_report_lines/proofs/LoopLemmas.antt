-- Reading lines one after the other, as a loop does.
use Rattle.std.proofs.Common.{◌≡◌, ℕ, suc, List, [], ◌∷◌, ◌++◌, length, Ok, refl, arith, length-append}
use Rattle.std.proofs.lemmas.Bool.Decides.{nat_tests}
use Rattle.stm_json.specs.declared.read_error.ReadError.{ReadError}
use Rattle.stm_json.specs.Outcome.{Outcome, ◌>>=◌, within}
use Rattle.stm_json.specs.Returns.{ReturnsFault}
use Rattle.stm_json.proofs.ListLemmas.{with_front, regroup}
use Rattle.stm_events.specs.declared.line.ReportLine.{ReportLine}
use Rattle.stm_report_lines.specs.Bytes.{parts_of}
use Rattle.stm_report_lines.specs.Reading.{line_in, rest_of, lines_from}
use Rattle.stm_report_lines.proofs.CutLemmas.{parts_start}

-- the lines so far, and then what is read of the rest
abbrev pub so_far : List ReportLine → List ℕ → Outcome (List ReportLine)
so_far lines rest = with_front lines (lines_from (length lines) (parts_of rest))

stepped : (index : ℕ) (part : List ℕ) (parts : List (List ℕ)) → (p : List ℕ) × (ps : List (List ℕ)) × (parts ≡ p ∷ ps)
    → lines_from index (part ∷ parts) ≡ (within index (line_in part) >>= λ l. lines_from (suc index) parts >>= λ ls. Ok (l ∷ ls))
stepped index part parts (p, ps, is) = rw is refl

pub goes_on : (lines : List ReportLine) (rest part after : List ℕ) (l : ReportLine) (total : Outcome (List ReportLine)) (n : ℕ) → n ≡ length lines
    → parts_of rest ≡ part ∷ parts_of after → within n (line_in part) ≡ Ok l → so_far lines rest ≡ total → so_far (lines ++ l ∷ []) after ≡ total
goes_on lines rest part after l total n many cut reported whole = grind (arith, nat_tests, length-append, with_front, stepped, parts_start, regroup)

pub ends : (e : ReadError) (lines : List ReportLine) (rest part after : List ℕ) (total : Outcome (List ReportLine)) (n : ℕ) → n ≡ length lines
    → parts_of rest ≡ part ∷ parts_of after → ReturnsFault e (within n (line_in part)) → so_far lines rest ≡ total → ReturnsFault e total
ends e lines rest part after total n many cut reported whole = grind (arith, nat_tests, with_front, stepped, parts_start)

pub is_bad : (e : ReadError) (lines : List ReportLine) (rest : List ℕ) (total : Outcome (List ReportLine)) (n : ℕ) → n ≡ length lines
    → parts_of rest ≡ rest ∷ [] → ReturnsFault e (within n (rest_of rest)) → so_far lines rest ≡ total → ReturnsFault e total
is_bad e lines rest total n many none reported whole = grind (arith, nat_tests, with_front)
