-- A check has one answer.
use Rattle.std.proofs.Common.{◌≡◌, inl, inr, ℕ, suc, Bool, true, false, List, [], ◌∷◌, refl, sym, ◌∙◌, subst}
use Rattle.stm_events.specs.declared.event.WorldEvent.{WorldEvent}
use Rattle.stm_events.specs.declared.line.ReportLine.{ReportLine}
use Rattle.stm_check.specs.declared.cause.WrongCause.{WrongCause}
use Rattle.stm_check.specs.declared.cause.WrongCause.TheVariants.{Count, Event, Replay, Final}
use Rattle.stm_check.specs.declared.checking.Checked.{Checked}
use Rattle.stm_check.specs.declared.checking.Checked.TheVariants.{Yes, No}
use Rattle.stm_check.specs.Point.{Point, after_line}
use Rattle.stm_check.specs.StoreLines.{final_lines}
use Rattle.stm_check.specs.Wrong.{IsRight, IsWrong, AreRight, IsOff, IsFirstWrong, opens_at}
use Rattle.stm_check.specs.Judged.{IsJudgedFrom}
use Rattle.stm_check.specs.Laws.{JudgedOnce}

-- one wrong line, and one cause
abbrev IsSame : ℕ → WrongCause → ℕ → WrongCause → Type 0
IsSame wrong cause line other = (wrong ≡ line) × (cause ≡ other)

both_values : (b : Bool) → b ≡ true → b ≡ false → ⊥
both_values b yes_is no_is = let never : true ≡ false = sym yes_is ∙ no_is in absurd (cc)

-- ---- the lines of the end

never_off : (n : ℕ) (lines : List ReportLine) (wrong : ℕ) (cause : WrongCause) → IsOff n lines lines wrong cause → ⊥
never_off n [] wrong cause off = off
never_off n (l ∷ lines) wrong cause (inl here) = here.2 refl
never_off n (l ∷ lines) wrong cause (inr later) = never_off (suc n) lines wrong cause later.1

off_once : (n : ℕ) (finals lines : List ReportLine) (wrong line : ℕ) (cause other : WrongCause) → IsOff n finals lines wrong cause →
    IsOff n finals lines line other → IsSame wrong cause line other
off_once n [] [] wrong line cause other one two = absurd one
off_once n [] (l ∷ lines) wrong line cause other one two = (one.0 ∙ sym two.0, one.1 ∙ sym two.1)
off_once n (final ∷ finals) [] wrong line cause other one two = (one.0 ∙ sym two.0, one.1 ∙ sym two.1)
off_once n (final ∷ finals) (l ∷ lines) wrong line cause other (inl one) (inl two) = (one.0 ∙ sym two.0, one.1 ∙ sym two.1)
off_once n (final ∷ finals) (l ∷ lines) wrong line cause other (inl one) (inr two) = absurd (one.2 two.0)
off_once n (final ∷ finals) (l ∷ lines) wrong line cause other (inr one) (inl two) = absurd (two.2 one.0)
off_once n (final ∷ finals) (l ∷ lines) wrong line cause other (inr one) (inr two) =
    off_once (suc n) finals lines wrong line cause other one.1 two.1

-- ---- one line of an event

never_both : (n : ℕ) (p : Point) (event : WorldEvent) (l : ReportLine) (cause : WrongCause) → IsRight n p event l → IsWrong n p event l cause → ⊥
never_both n p event l Event right wrong = both_values _ right.0 wrong
never_both n p event l Replay right wrong = wrong.1 right.1
never_both n p event l Count right wrong = wrong
never_both n p event l Final right wrong = wrong

cause_once : (n : ℕ) (p : Point) (event : WorldEvent) (l : ReportLine) (cause other : WrongCause) → IsWrong n p event l cause →
    IsWrong n p event l other → cause ≡ other
cause_once n p event l Event Event one two = refl
cause_once n p event l Event Replay one two = absurd (both_values _ two.0 one)
cause_once n p event l Event Count one two = absurd two
cause_once n p event l Event Final one two = absurd two
cause_once n p event l Replay Event one two = absurd (both_values _ one.0 two)
cause_once n p event l Replay Replay one two = refl
cause_once n p event l Replay Count one two = absurd two
cause_once n p event l Replay Final one two = absurd two
cause_once n p event l Count other one two = absurd one
cause_once n p event l Final other one two = absurd one

-- ---- whole reports

right_or_wrong : (n : ℕ) (p : Point) (events : List WorldEvent) (lines : List ReportLine) (wrong : ℕ) (cause : WrongCause) →
    AreRight n p events lines → IsFirstWrong n p events lines wrong cause → ⊥
right_or_wrong n p [] lines wrong cause right off =
    never_off n (final_lines p) wrong cause (subst (λ (ls : List ReportLine). IsOff n (final_lines p) ls wrong cause) right off)
right_or_wrong n p (event ∷ events) [] wrong cause right first = right
right_or_wrong n p (event ∷ events) (l ∷ lines) wrong cause right (inl here) = never_both n p event l cause right.0 here.1
right_or_wrong n p (event ∷ events) (l ∷ lines) wrong cause right (inr later) =
    right_or_wrong (suc n) (after_line p event l) events lines wrong cause right.1 later.1

wrong_once : (n : ℕ) (p : Point) (events : List WorldEvent) (lines : List ReportLine) (wrong line : ℕ) (cause other : WrongCause) →
    IsFirstWrong n p events lines wrong cause → IsFirstWrong n p events lines line other → IsSame wrong cause line other
wrong_once n p [] lines wrong line cause other one two = off_once n (final_lines p) lines wrong line cause other one two
wrong_once n p (event ∷ events) [] wrong line cause other one two = (one.0 ∙ sym two.0, one.1 ∙ sym two.1)
wrong_once n p (event ∷ events) (l ∷ lines) wrong line cause other (inl one) (inl two) =
    (one.0 ∙ sym two.0, cause_once n p event l cause other one.1 two.1)
wrong_once n p (event ∷ events) (l ∷ lines) wrong line cause other (inl one) (inr two) = absurd (never_both n p event l cause two.0 one.1)
wrong_once n p (event ∷ events) (l ∷ lines) wrong line cause other (inr one) (inl two) = absurd (never_both n p event l other one.0 two.1)
wrong_once n p (event ∷ events) (l ∷ lines) wrong line cause other (inr one) (inr two) =
    wrong_once (suc n) (after_line p event l) events lines wrong line cause other one.1 two.1

judged_by : (n : ℕ) (p : Point) (events : List WorldEvent) (lines : List ReportLine) (one other : Checked) →
    IsJudgedFrom n p events lines one → IsJudgedFrom n p events lines other → one ≡ other
judged_by n p events lines Yes Yes a b = refl
judged_by n p events lines Yes (No line cause) a b = absurd (right_or_wrong n p events lines line cause a b)
judged_by n p events lines (No line cause) Yes a b = absurd (right_or_wrong n p events lines line cause b a)
judged_by n p events lines (No wrong cause) (No line other) a b =
    let same : IsSame wrong cause line other = wrong_once n p events lines wrong line cause other a b in
    λ k. No (same.0 k) (same.1 k)

pub judged_once : JudgedOnce
judged_once s r one other a b = judged_by 1 (opens_at s) s.events r.lines one other a b
