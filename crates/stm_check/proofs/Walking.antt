-- A walk along the events' lines, and along those of the end.
use Rattle.std.proofs.Common.{◌≡◌, inr, ℕ, ◌+◌, ◌<◌, ◌≤◌, suc, List, [], ◌∷◌, length, drop, get_or, Ok, Err, refl, sym, subst, arith}
use Rattle.std.specs.Prelude.{Result, IfOk}
use Rattle.std.specs.declared.alloc.AllocError.{AllocError}
use Rattle.std.proofs.lemmas.List.{drop_all, length-drop}
use Rattle.stm_events.specs.declared.event.WorldEvent.{WorldEvent}
use Rattle.stm_events.specs.declared.line.ReportLine.{ReportLine}
use Rattle.stm_check.specs.declared.cause.WrongCause.{WrongCause}
use Rattle.stm_check.specs.declared.cause.WrongCause.TheVariants.{Count}
use Rattle.stm_check.specs.declared.checking.Checked.{Checked}
use Rattle.stm_check.specs.declared.checking.Checked.TheVariants.{Yes, No}
use Rattle.stm_check.specs.Point.{Point, after_line}
use Rattle.stm_check.specs.StoreLines.{final_lines}
use Rattle.stm_check.specs.Wrong.{IsRight, AreRight, IsOff, IsFirstWrong, point_after}
use Rattle.stm_check.specs.Judged.{IsJudgedFrom, IsJudgedEnd, AreRightEvents}
use Rattle.stm_check.proofs.Fronts.{left_at}

-- ---- events

-- What is judged from where a walk has come to is judged of the whole.
pub record HasWalked (n : ℕ) (p : Point) (events : List WorldEvent) (lines : List ReportLine)
    (m : ℕ) (q : Point) (events_left : List WorldEvent) (lines_left : List ReportLine) : Type 0 where
  pub right : AreRightEvents m q events_left lines_left → AreRightEvents n p events lines
  pub wrong : (line : ℕ) (cause : WrongCause) → IsFirstWrong m q events_left lines_left line cause → IsFirstWrong n p events lines line cause
  pub point : point_after q events_left lines_left ≡ point_after p events lines

pub walked_one : (n : ℕ) (p : Point) (events : List WorldEvent) (lines : List ReportLine) (m : ℕ) (q : Point) (event : WorldEvent)
    (events_left : List WorldEvent) (l : ReportLine) (lines_left : List ReportLine) →
    HasWalked n p events lines m q (event ∷ events_left) (l ∷ lines_left) → IsRight m q event l →
    HasWalked n p events lines (suc m) (after_line q event l) events_left lines_left
walked_one n p events lines m q event events_left l lines_left so_far right = record {
  right = λ rest. so_far.right (right, rest);
  wrong = λ line cause rest. so_far.wrong line cause (inr (right, rest));
  point = so_far.point;
}

-- one line further, where the line of this event is right
pub walked_more : (p : Point) (events : List WorldEvent) (lines : List ReportLine) (i : ℕ) (q next : Point) (event : WorldEvent) (l : ReportLine) →
    i < length events → event ≡ get_or events i event → i < length lines → l ≡ get_or lines i l →
    HasWalked 1 p events lines (i + 1) q (drop i events) (drop i lines) → IsRight (i + 1) q event l → next ≡ after_line q event l →
    HasWalked 1 p events lines (i + 1 + 1) next (drop (i + 1) events) (drop (i + 1) lines)
walked_more p events lines i q next event l within is within_lines is_line so_far right reached =
    let here : HasWalked 1 p events lines (i + 1) q (event ∷ drop (i + 1) events) (l ∷ drop (i + 1) lines) =
    subst (λ (ls : List ReportLine). HasWalked 1 p events lines (i + 1) q (event ∷ drop (i + 1) events) ls) (left_at lines i l within_lines is_line)
    (subst (λ (es : List WorldEvent). HasWalked 1 p events lines (i + 1) q es (drop i lines)) (left_at events i event within is) so_far) in
    let one = walked_one 1 p events lines (i + 1) q event (drop (i + 1) events) l (drop (i + 1) lines) here right in
    let count : suc (i + 1) ≡ i + 1 + 1 = omega arith in
    subst (λ (r : Point). HasWalked 1 p events lines (i + 1 + 1) r (drop (i + 1) events) (drop (i + 1) lines)) (sym reached)
    (subst (λ (m : ℕ). HasWalked 1 p events lines m (after_line q event l) (drop (i + 1) events) (drop (i + 1) lines)) count one)

-- ---- both parts

pub joined_yes : (n : ℕ) (p : Point) (events : List WorldEvent) (lines : List ReportLine) → AreRightEvents n p events lines →
    drop (length events) lines ≡ final_lines (point_after p events lines) → AreRight n p events lines
joined_yes n p [] lines right same = same
joined_yes n p (event ∷ events) [] right same = absurd right
joined_yes n p (event ∷ events) (l ∷ lines) right same = (right.0, joined_yes (suc n) (after_line p event l) events lines right.1 same)

pub joined_no : (n : ℕ) (p : Point) (events : List WorldEvent) (lines : List ReportLine) (wrong : ℕ) (cause : WrongCause) →
    AreRightEvents n p events lines → IsOff (n + length events) (final_lines (point_after p events lines)) (drop (length events) lines) wrong cause →
    IsFirstWrong n p events lines wrong cause
joined_no n p [] lines wrong cause right off =
    let same : n + 0 ≡ n = omega arith in
    subst (λ (m : ℕ). IsOff m (final_lines p) lines wrong cause) same off
joined_no n p (event ∷ events) [] wrong cause right off = absurd right
joined_no n p (event ∷ events) (l ∷ lines) wrong cause right off =
    let q : Point = after_line p event l in
    let same : n + suc (length events) ≡ suc n + length events = omega arith in
    inr (
      right.0,
      joined_no (suc n) q events lines wrong cause right.1
          (subst (λ (m : ℕ). IsOff m (final_lines (point_after q events lines)) (drop (length events) lines) wrong cause) same off),
    )

-- a report whose events' lines are right is judged by the lines of the end
pub joined : (n : ℕ) (p : Point) (events : List WorldEvent) (lines : List ReportLine) (checked : Checked) → AreRightEvents n p events lines →
    IsJudgedEnd (n + length events) (final_lines (point_after p events lines)) (drop (length events) lines) checked →
    IsJudgedFrom n p events lines checked
joined n p events lines Yes right same = joined_yes n p events lines right same
joined n p events lines (No wrong cause) right off = joined_no n p events lines wrong cause right off

-- ---- the end

-- What is off from where the lines agree so far is off in the whole.
pub record HasAgreed (finals lines : List ReportLine) (count : ℕ) (finals_left lines_left : List ReportLine) : Type 0 where
  pub same : lines_left ≡ finals_left → lines ≡ finals
  pub off : (n wrong : ℕ) (cause : WrongCause) → IsOff (n + count) finals_left lines_left wrong cause → IsOff n finals lines wrong cause

-- a line that is missing after those that agree
head_missing : (finals_left lines_left : List ReportLine) (m wrong : ℕ) → 0 < length finals_left → lines_left ≡ [] → wrong ≡ m →
    IsOff m finals_left lines_left wrong Count
head_missing [] lines_left m wrong some none is = absurd (omega (arith, some))
head_missing (final ∷ finals_left) [] m wrong some none is = (is, refl)
head_missing (final ∷ finals_left) (l ∷ lines_left) m wrong some none is = absurd (cc)

pub agreed_short : (finals lines : List ReportLine) (count : ℕ) → HasAgreed finals lines count (drop count finals) (drop count lines) →
    length lines ≤ count → count ≤ length lines → length lines < length finals → (n : ℕ) → IsOff n finals lines (n + length lines) Count
agreed_short finals lines count so_far end within short n =
    so_far.off n (n + length lines) Count
    (head_missing (drop count finals) (drop count lines) (n + count) (n + length lines) (omega (arith, length-drop count finals))
    (drop_all count lines end) (omega arith))

-- events whose lines are right have lines
pub fewer : (n : ℕ) (p : Point) (events : List WorldEvent) (lines : List ReportLine) → AreRightEvents n p events lines → length events ≤ length lines
fewer n p [] lines right = omega arith
fewer n p (event ∷ events) [] right = absurd right
fewer n p (event ∷ events) (l ∷ lines) right = omega (arith, fewer (suc n) (after_line p event l) events lines right.1)

pub joined_result : (r : Result Checked AllocError) (n : ℕ) (p : Point) (events : List WorldEvent) (lines left : List ReportLine) (q : Point) (m : ℕ) →
    AreRightEvents n p events lines → q ≡ point_after p events lines → left ≡ drop (length events) lines → m ≡ n + length events →
    IfOk r (IsJudgedEnd m (final_lines q) left) → IfOk r (IsJudgedFrom n p events lines)
joined_result (Ok checked) n p events lines left q m right point rest next judged =
    joined n p events lines checked right
    (subst (λ (k : ℕ). IsJudgedEnd k (final_lines (point_after p events lines)) (drop (length events) lines) checked) next
    (subst (λ (x : Point). IsJudgedEnd m (final_lines x) (drop (length events) lines) checked) point
    (subst (λ (ls : List ReportLine). IsJudgedEnd m (final_lines q) ls checked) rest judged)))
joined_result (Err e) n p events lines left q m right point rest next judged = tt

-- what is judged from a point is judged from the same point
pub judged_from : (p q : Point) (events all : List WorldEvent) (lines reported : List ReportLine) (checked : Checked) → p ≡ q → events ≡ all → lines ≡ reported →
    IsJudgedFrom 1 p events lines checked → IsJudgedFrom 1 q all reported checked
judged_from p q events all lines reported checked here same are judged =
    subst (λ (ls : List ReportLine). IsJudgedFrom 1 q all ls checked) are
    (subst (λ (es : List WorldEvent). IsJudgedFrom 1 q es lines checked) same (subst (λ (r : Point). IsJudgedFrom 1 r events lines checked) here judged))
