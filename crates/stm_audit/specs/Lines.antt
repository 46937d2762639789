-- What is printed of an audit.
use Rattle.std.specs.Prelude.{ℕ, Bool, List, [], ◌∷◌, ◌++◌, Option, Some, None, is_some, ◌||◌, if◌then◌else◌, codes}
use Rattle.std.specs.List.{list_any}
use Rattle.serde_json.specs.Data.{Data, string}
use Rattle.stm_report_lines.specs.LineData.{list, whole, word}
use Rattle.stm_report_lines.specs.Text.{line_text}
use Rattle.stm_audit.specs.declared.auditing.Audited.{Audited}
use Rattle.stm_audit.specs.declared.finding.Finding.{Finding}
use Rattle.stm_audit.specs.AnomalyNames.{anomaly_name}

abbrev pub finding_word : Bool → List ℕ
finding_word is_broken = if is_broken then codes "broken" else codes "found"

-- the number of the commit, the anomaly, the key, what was seen of it and what it was then
abbrev pub finding_line : Finding → Data
finding_line f =
    list (word (finding_word f.is_broken) ∷ whole f.commit ∷ word (anomaly_name f.anomaly) ∷ string f.key ∷ whole f.seen ∷ whole f.held ∷ [])

abbrev pub findings_text : List Finding → List ℕ
findings_text [] = []
findings_text (f ∷ fs) = line_text (finding_line f) ++ findings_text fs

-- the first commit whose revision is another one, or how many commits there are
abbrev pub end_line : Option ℕ → ℕ → Data
end_line (Some number) commits = list (word (codes "off") ∷ whole number ∷ [])
end_line None commits = list (word (codes "commits") ∷ whole commits ∷ [])

abbrev pub audit_text : Audited → ℕ → List ℕ
audit_text a commits = findings_text a.findings ++ line_text (end_line a.off commits)

-- 0 where every promise is kept, else 1
abbrev pub audit_status : Audited → ℕ
audit_status a = if is_some a.off || list_any (λ (f : Finding). f.is_broken) a.findings then 1 else 0
