-- Answers about several rules, each at the place of its rule.
use Rattle.std.proofs.Common.{◌≡◌, ◌<◌, ◌≤◌, ℕ, zero, suc, ◌+◌, ◌-◌, List, [], ◌∷◌, ◌++◌, length, map, take, drop, get_or, slice_set, All, sym, ap, ap₂, ◌∙◌, subst, append_assoc, arith}
use Rattle.std.specs.List.{AllZip}
use Rattle.std.specs.Option.{option_to_list}
use Rattle.std.specs.Prelude.{IfSome, Option, None, Some}
use Rattle.std.proofs.Math.Seq.{drop-cons, take-add, take-suc}
use Rattle.std.proofs.lemmas.List.{get_or-drop, get_or-take, length-drop, length-take-le, map-append}
use Rattle.std.proofs.lemmas.List.Elements.{All-push}
use Rattle.stm_program.specs.Syntax.{ProgramTree}
use Rattle.stm_schedules.specs.Outcomes.{Ends}
use Rattle.stm_schedules.specs.Places.{Place}
use Rattle.stm_explore.specs.Explored.{IsExplored, MergesAreKept}
use Rattle.stm_explore.specs.Waiting.{IsExploredPatiently}
use Rattle.stm_explore.specs.declared.asking.When.{When}
use Rattle.stm_explore.specs.declared.asking.When.TheVariants.{Each, Last}
use Rattle.stm_explore.specs.declared.exploring.Explored.{Explored}
use Rattle.stm_explore.specs.declared.waits.Wait.{Wait}
use Rattle.stm_exploring.specs.declared.judging.Answer.{Answer}
use Rattle.stm_exploring.specs.declared.judging.Answer.TheVariants.{BySchedules}
use Rattle.stm_exploring.specs.declared.rules.Rule.{Rule}
use Rattle.stm_exploring.specs.declared.rules.RuleAnswer.{RuleAnswer}
use Rattle.stm_exploring.specs.Judging.{AreAnswers, AreFoundEach, AreFoundFrom, AreFoundWhen, IsAnswer, IsFoundPatiently, IsFoundWhen}

-- ---- lists

zip_map : {A B C : Type 0} (R : A → B → Type 0) (S : A → C → Type 0) (f : B → C) (xs : List A) (ys : List B) → ((x : A) (y : B) → R x y → S x (f y)) →
    AllZip R xs ys → AllZip S xs (map f ys)
zip_map R S f [] [] step all = all
zip_map R S f [] (y ∷ ys) step all = absurd all
zip_map R S f (x ∷ xs) [] step all = absurd all
zip_map R S f (x ∷ xs) (y ∷ ys) step all = (step x y all.0, zip_map R S f xs ys step all.1)

zip_both : {A B : Type 0} (R S : A → B → Type 0) (xs : List A) (ys : List B) → AllZip R xs ys → AllZip S xs ys → AllZip (λ x y. R x y × S x y) xs ys
zip_both R S [] [] one other = one
zip_both R S [] (y ∷ ys) one other = absurd one
zip_both R S (x ∷ xs) [] one other = absurd one
zip_both R S (x ∷ xs) (y ∷ ys) one other = ((one.0, other.0), zip_both R S xs ys one.1 other.1)

-- one of them is put into each of two lists, of which it is so where it was so before
pub zip_put_both : {A B C : Type 0} (R : A → B → Type 0) (S : A → C → Type 0) (xs : List A) (ys : List B) (zs : List C) (i : ℕ) (d y : B) (e z : C) →
    i < length ys → i < length zs → d ≡ get_or ys i d → e ≡ get_or zs i e → ((x : A) → R x d → S x e → R x y) → ((x : A) → S x e → S x z) →
    AllZip R xs ys → AllZip S xs zs → AllZip R xs (slice_set ys i y) × AllZip S xs (slice_set zs i z)
zip_put_both R S [] [] zs i d y e z within in_other at other more further all both = absurd (omega (arith, within))
zip_put_both R S [] (b ∷ ys) zs i d y e z within in_other at other more further all both = absurd all
zip_put_both R S (x ∷ xs) [] zs i d y e z within in_other at other more further all both = absurd all
zip_put_both R S (x ∷ xs) (b ∷ ys) [] i d y e z within in_other at other more further all both = absurd both
zip_put_both R S (x ∷ xs) (b ∷ ys) (c ∷ zs) zero d y e z within in_other at other more further all both =
    let before : R x d = subst (R x) (sym at) all.0 in
    let judged : S x e = subst (S x) (sym other) both.0 in
    ((more x before judged, all.1), (further x judged, both.1))
zip_put_both R S (x ∷ xs) (b ∷ ys) (c ∷ zs) (suc i) d y e z within in_other at other more further all both =
    let rest = zip_put_both R S xs ys zs i d y e z (omega (arith, within)) (omega (arith, in_other)) at other more further all.1 both.1 in
    ((all.0, rest.0), (both.0, rest.1))

-- ---- what a search through schedules came to

pub are_answers : (rules : List ProgramTree) (p : Place) (all : List Explored) → AllZip (λ rule. IsExplored rule p) rules all → AllZip (λ rule. MergesAreKept rule p) rules all →
    AreAnswers rules p (map BySchedules all)
are_answers rules p all explored merges =
    zip_map (λ rule e. IsExplored rule p e × MergesAreKept rule p e) (λ rule. IsAnswer rule p) BySchedules rules all (λ rule e is. is)
    (zip_both (λ rule. IsExplored rule p) (λ rule. MergesAreKept rule p) rules all explored merges)

pub are_patient : (waits : List Wait) (when : When) (rules : List ProgramTree) (p : Place) (ends : Ends) (all : List Explored) →
    AllZip (λ rule. IsExploredPatiently waits when rule p ends) rules all → AllZip (λ rule. IsFoundPatiently waits when rule p ends) rules (map BySchedules all)
are_patient waits when rules p ends all found =
    zip_map (λ rule. IsExploredPatiently waits when rule p ends) (λ rule. IsFoundPatiently waits when rule p ends) BySchedules rules all (λ rule e is. is) found

-- what one search says of each of the rules
pub each_found : (when : When) (waits : List Wait) (rules : List ProgramTree) (p : Place) (ends : Ends) (answers : List Answer) → AreFoundWhen when waits rules p ends answers →
    AreFoundEach when waits rules p ends answers
each_found Each [] rules p ends answers found = found
each_found Each (w ∷ ws) rules p ends answers found = found
each_found Last waits rules p ends answers found = found

-- the answer about one rule
only_one : (rule : ProgramTree) (p : Place) (left : List Answer) (answer : Answer) → AreAnswers (rule ∷ []) p (left ++ answer ∷ []) → IsAnswer rule p answer
only_one rule p [] answer all = all.0
only_one rule p (a ∷ []) answer all = absurd all.1
only_one rule p (a ∷ b ∷ left) answer all = absurd all.1

pub last_is : (answers left : List Answer) (last : Option Answer) → answers ≡ left ++ option_to_list last →
    IfSome last (λ answer. (rule : ProgramTree) (p : Place) → AreAnswers (rule ∷ []) p answers → IsAnswer rule p answer)
last_is answers left None is = tt
last_is answers left (Some a) is = λ rule p all. only_one rule p left a (subst (AreAnswers (rule ∷ []) p) is all)

-- ---- the answers about rules that are asked at the same places

module _ (when : When) (waits : List Wait) (p : Place) (ends : Ends) where
  abbrev program : Rule → ProgramTree
  program rule = rule.program

  abbrev Holds : RuleAnswer → Type 0
  Holds a = IsFoundWhen a.rule.when waits a.rule.program p ends a.answer

  -- one rule more has its answer
  pub push_one : (before : List Rule) (answers : List RuleAnswer) (rule : Rule) (a : RuleAnswer) → a.rule ≡ rule → rule.when ≡ when → IsFoundWhen when waits rule.program p ends a.answer →
      AreFoundFrom waits before p ends answers → AreFoundFrom waits (before ++ rule ∷ []) p ends (answers ++ a ∷ [])
  push_one before answers rule a is asked found all = (
    map-append (λ (x : RuleAnswer). x.rule) answers (a ∷ []) ∙ ap₂ (λ (xs : List Rule) (x : Rule). xs ++ x ∷ []) all.0 is,
    All-push Holds answers a all.1
        (subst (λ (r : Rule). IsFoundWhen r.when waits r.program p ends a.answer) (sym is)
        (subst (λ (w : When). IsFoundWhen w waits rule.program p ends a.answer) (sym asked) found)),
  )

  -- the answers that are left are those of the rules that are left
  abbrev pub AreLeft : List Rule → List Answer → Type 0
  AreLeft rules left = AllZip (λ rule. IsFoundWhen when waits rule p ends) (map program rules) left

  -- the next rule and the next answer
  rest_is : (rules : List Rule) (i : ℕ) (rule : Rule) → i < length rules → rule ≡ get_or rules i rule → drop i rules ≡ rule ∷ drop (i + 1) rules
  rest_is rules i rule within is =
      let step : i + 1 ≡ suc i = omega arith in
      drop-cons rules i rule within ∙ ap (λ (x : Rule). x ∷ drop (suc i) rules) (sym is) ∙ ap (λ n. rule ∷ drop n rules) (sym step)

  next_both : (rules : List Rule) (i : ℕ) (rule : Rule) (answer : Answer) (left next : List Answer) → i < length rules → rule ≡ get_or rules i rule →
      left ≡ answer ∷ next → AreLeft (drop i rules) left → IsFoundWhen when waits rule.program p ends answer × AreLeft (drop (i + 1) rules) next
  next_both rules i rule answer left next within is taken found =
      subst (λ (rest : List Rule). AreLeft rest (answer ∷ next)) (rest_is rules i rule within is) (subst (AreLeft (drop i rules)) taken found)

  pub next_left : (rules : List Rule) (i : ℕ) (rule : Rule) (answer : Answer) (left next : List Answer) → i < length rules → rule ≡ get_or rules i rule →
      left ≡ answer ∷ next → AreLeft (drop i rules) left → AreLeft (drop (i + 1) rules) next
  next_left rules i rule answer left next within is taken found = (next_both rules i rule answer left next within is taken found).1

  pub next_found : (rules : List Rule) (i : ℕ) (rule : Rule) (a : RuleAnswer) (left next : List Answer) (answers : List RuleAnswer) (before : List Rule) → i < length rules →
      rule ≡ get_or rules i rule → a.rule ≡ rule → All (λ (r : Rule). r.when ≡ when) rules → left ≡ a.answer ∷ next → AreLeft (drop i rules) left →
      AreFoundFrom waits (before ++ take i rules) p ends answers → AreFoundFrom waits (before ++ take (i + 1) rules) p ends (answers ++ a ∷ [])
  next_found rules i rule a left next answers before within is same asked taken found so_far =
      let step : i + 1 ≡ suc i = omega arith in
      let more : (before ++ take i rules) ++ rule ∷ [] ≡ before ++ take (i + 1) rules =
      append_assoc before (take i rules) (rule ∷ [])
      ∙ ap (λ (xs : List Rule). before ++ xs)
      (ap (λ (x : Rule). take i rules ++ x ∷ []) is ∙ sym (take-suc rules i rule within) ∙ ap (λ n. take n rules) (sym step)) in
      subst (λ (xs : List Rule). AreFoundFrom waits xs p ends (answers ++ a ∷ [])) more
      (push_one (before ++ take i rules) answers rule a same (subst (λ (r : Rule). r.when ≡ when) (sym is) (asked i rule within))
      (next_both rules i rule a.answer left next within is taken found).0 so_far)

-- ---- counts and parts of lists

pub one_further : (i all left next : ℕ) → left ≡ suc next → i + left ≡ all → (i + 1) + next ≡ all
one_further i all left next is each = omega (arith, is, each)

-- the first of these, and those behind them up to another one
pub joined_parts : {A : Type 0} (xs : List A) (i j : ℕ) → i ≤ j → take i xs ++ take (j - i) (drop i xs) ≡ take j xs
joined_parts xs i j within = let e : i + (j - i) ≡ j = omega (arith, within) in sym (take-add i (j - i) xs) ∙ ap (λ n. take n xs) e

-- those from one up to another one, of each of which it is so
pub group_asked : (when : When) (rules : List Rule) (i j : ℕ) → j ≤ length rules → ((k : ℕ) → k < j → (d : Rule) → i ≤ k → (get_or rules k d).when ≡ when) →
    All (λ (r : Rule). r.when ≡ when) (take (j - i) (drop i rules))
group_asked when rules i j within asked = λ k d there.
    let short : length (take (j - i) (drop i rules)) ≡ j - i =
    length-take-le (j - i) (drop i rules) (let left = length-drop i rules in omega (arith, left, within)) in
    let below : k < j - i = omega (arith, short, there) in
    ap (λ (r : Rule). r.when) (get_or-take (j - i) (drop i rules) k d below ∙ get_or-drop i rules k d) ∙ asked (i + k) (omega (arith, below)) d (omega arith)
