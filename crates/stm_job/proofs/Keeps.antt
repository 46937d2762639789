-- Each step keeps the rule, and establishes what its contract says.
use Rattle.std.proofs.Common.{◌≡◌, ◌≢◌, ℕ, zero, suc, ◌+◌, ◌-◌, ◌%◌, ◌^◌, ◌<◌, ◌≤◌, min, Bool, true, false, cond, ltb, eqb}
use Rattle.std.proofs.Common.{List, [], ◌∷◌, ◌++◌, length, set, get_or}
use Rattle.std.proofs.Common.{sum_by, refl, sym, ap, ap₂, ◌∙◌, subst, ⊎_elim, arith, add-zero, length-set, get_or-set_same, lt-ltb, le-ltb, mod-eq_of_lt}
use Rattle.std.proofs.Math.Nat.{min-eq_left, min-eq_right}
use Rattle.std.proofs.lemmas.List.Sums.{sum_by_push, sum_by-le-sum_by}
use Rattle.std.proofs.lemmas.Bool.{cases_lt, cond-true, cond-false}
use mathlib.Core.Option.{none, some, some-injective, some-ne-none}
use lib.ListN.{get_elem?}
use Rattle.atomic_table.specs.Table.{State, Me, step, keeps, Allows, Splits, Joins, opening}
use Rattle.atomic_table.proofs.Lists.{at_set, at_snoc, set_here, set_again}
use Rattle.stm_job.specs.declared.drawing.view.Size.{Size}
use Rattle.stm_job.specs.declared.drawing.view.View.{View}
use Rattle.stm_job.specs.Draw.{times, once_below, EachOnce, counter, Dealt, newcomer, drew, passed, after_draw, kept, given, joined, spent}
use Rattle.stm_job.specs.Draw.{IsWhole, Knows, Draws, Looks}
use Rattle.stm_job.proofs.Sums.{grown, in_range, sum_changed, at_most_all, alone, times_push, times_both, one_more}

-- facts of plain numbers
some_are_left : (past left : ℕ) → 0 < left → past + left ≡ 0 → ⊥
some_are_left past left h e = omega arith

one_is_used : (past left : ℕ) → (past + 1) + left ≡ 0 → ⊥
one_is_used past left e = omega arith

one_is_left : (left : ℕ) → left ≡ 1 → left ≡ 0 → ⊥
one_is_left left one no_passes = omega arith

a_part : (past left : ℕ) → past ≤ past + left
a_part past left = omega arith

unchanged : (old now part : ℕ) → now + part ≡ old + part → now ≡ old
unchanged old now part e = omega arith

abbrev St : Type 0
St = State (Unit {0}) View

abbrev drawn_of : ℕ → View → ℕ
drawn_of x v = times x v.drawn

abbrev past_of : View → ℕ
past_of v = v.past

abbrev passes_of : View → ℕ
passes_of v = v.past + v.left

abbrev IdleIsEmpty : List View → Type 0
IdleIsEmpty views = (id : ℕ) (v : View) → get_elem? views id ≡ some v → passes_of v ≡ 0 → v.drawn ≡ []

-- a view is replaced by one that keeps the fact
idle_set : (views : List View) (id : ℕ) (w : View) → (passes_of w ≡ 0 → w.drawn ≡ []) → IdleIsEmpty views → IdleIsEmpty (set views id w)
idle_set views id w mine idle j u there = ⊎_elim
    (λ (t : (j ≡ id) × (w ≡ u)). subst (λ (y : View). passes_of y ≡ 0 → y.drawn ≡ []) t.1 mine)
    (λ (t : (j ≢ id) × (get_elem? views j ≡ some u)). idle j u t.1)
    (at_set views id j w u there)

idle_push : (views : List View) (w : View) → (passes_of w ≡ 0 → w.drawn ≡ []) → IdleIsEmpty views → IdleIsEmpty (views ++ w ∷ [])
idle_push views w mine idle j u there = ⊎_elim
    (λ (before : get_elem? views j ≡ some u). idle j u before)
    (λ (same : w ≡ u). subst (λ (y : View). passes_of y ≡ 0 → y.drawn ≡ []) same mine)
    (at_snoc views w u j there)

-- the state in which the counter is n
abbrev now_at : St → ℕ → List View → St
now_at s n views = record { words = set s.words 0 n; homes = s.homes; views = views }

dealt_at : (size : Size) (s : St) (n : ℕ) (views : List View) → length s.words ≡ 1
    → ((x : ℕ) → sum_by (drawn_of x) views ≡ once_below (min n size.jobs) x)
    → sum_by past_of views ≡ n - min n size.jobs
    → sum_by passes_of views ≡ size.seats
    → IdleIsEmpty views
    → Dealt size (now_at s n views)
dealt_at size s n views one drawn past passes idle =
    let is : n ≡ get_or (set s.words 0 n) 0 0 = sym (get_or-set_same s.words 0 n 0 (omega arith)) in record {
      one_word = length-set s.words 0 n ∙ one;
      each_once = λ x. drawn x ∙ ap (λ (k : ℕ). once_below (min k size.jobs) x) is;
      used = past ∙ ap (λ (k : ℕ). k - min k size.jobs) is;
      all_passes = passes;
      idle = idle;
    }

-- the rule at the start
pub begins : (size : Size) → Dealt size (opening (0 ∷ []) [] (newcomer size))
begins size = record {
  one_word = refl;
  each_once = λ x. sym (ap (λ (b : Bool). cond b 1 0) (le-ltb x (min 0 size.jobs) (below_none x size.jobs)));
  used = none_past size.jobs;
  all_passes = all_left size.seats;
  idle = first_idle;
}
  where
    all_left : (seats : ℕ) → 0 + (0 + seats) ≡ seats
    all_left seats = omega arith

    below_none : (x jobs : ℕ) → min 0 jobs ≤ x
    below_none x jobs = omega arith

    none_past : (jobs : ℕ) → 0 ≡ 0 - min 0 jobs
    none_past jobs = omega arith

    first_idle : IdleIsEmpty (newcomer size ∷ [])
    first_idle zero v there no_passes = ap (λ (y : View). y.drawn) (sym (some-injective (newcomer size) v there))
    first_idle (suc id) v there no_passes = absurd (some-ne-none v (sym there))

-- what the rule says of the counter
past_whole : (n jobs past : ℕ) → past ≡ n - min n jobs → 0 < past → jobs ≤ n
past_whole n jobs past is some_past = omega arith

-- the law: a seat with all passes that has used one has drawn every job, each once
pub whole_has_all : (size : Size) (s : St) (id : ℕ) (v : View) → Dealt size s → get_elem? s.views id ≡ some v → passes_of v ≡ size.seats → 0 < v.past
    → EachOnce size.jobs v.drawn
whole_has_all size s id v rule at all used x =
    let n : ℕ = counter s in
    let total : ℕ = sum_by past_of s.views in
    let more : v.past ≤ total = at_most_all past_of s.views id v at in
    let reached : size.jobs ≤ n = past_whole n size.jobs total rule.used (omega arith) in
    sym (alone (drawn_of x) passes_of s.views id v at (rule.all_passes ∙ sym all) (λ j u there no_passes. ap (times x) (rule.idle j u there no_passes)))
    ∙ rule.each_once x ∙ ap (λ (k : ℕ). once_below k x) (min-eq_right reached)

pub knows : (size : Size) (s : St) (id : ℕ) (v : View) → Dealt size s → get_elem? s.views id ≡ some v → v.size ≡ size → Knows v
knows size s id v rule at same = (
  subst (λ (k : ℕ). passes_of v ≤ k) (rule.all_passes ∙ ap (λ (z : Size). z.seats) (sym same)) (at_most_all passes_of s.views id v at),
  λ (whole : IsWhole v). subst (λ (z : Size). EachOnce z.jobs v.drawn) (sym same)
      (whole_has_all size s id v rule at (whole.0 ∙ ap (λ (z : Size). z.seats) same) whole.1),
)

-- a draw that finds a job
finds : (size : Size) (s : St) (id : ℕ) (v : View) → Dealt size s → get_elem? s.views id ≡ some v → 0 < v.left → counter s < size.jobs
    → Dealt size (now_at s (counter s + 1) (set s.views id (drew v (counter s))))
finds size s id v rule at some_left low =
    let n : ℕ = counter s in
    let w : View = drew v n in
    let m : min n size.jobs ≡ n = min-eq_left (omega arith) in
    let m' : min (n + 1) size.jobs ≡ n + 1 = min-eq_left (omega arith) in
    dealt_at size s (n + 1) (set s.views id w) rule.one_word
    (λ x. grown (sum_by (drawn_of x) s.views) (sum_by (drawn_of x) (set s.views id w)) (drawn_of x v) (drawn_of x w) (cond (eqb n x) 1 0)
    (sum_changed (drawn_of x) s.views id v w at) (times_push x n v.drawn)
    ∙ ap (λ (k : ℕ). k + cond (eqb n x) 1 0) (rule.each_once x ∙ ap (λ (k : ℕ). once_below k x) m)
    ∙ sym (one_more n x) ∙ ap (λ (k : ℕ). once_below k x) (sym m'))
    (none_past n (min n size.jobs) (min (n + 1) size.jobs) (sum_by past_of s.views) (sum_by past_of (set s.views id w)) v.past m m' rule.used
    (sum_changed past_of s.views id v w at))
    (unchanged (sum_by passes_of s.views) (sum_by passes_of (set s.views id w)) (passes_of v) (sum_changed passes_of s.views id v w at) ∙ rule.all_passes)
    (idle_set s.views id w (λ (no_passes : passes_of w ≡ 0). absurd (some_are_left v.past v.left some_left no_passes)) rule.idle)
  where
    none_past : (n m m' old new part : ℕ) → m ≡ n → m' ≡ n + 1 → old ≡ n - m → new + part ≡ old + part → new ≡ (n + 1) - m'
    none_past n m m' old new part a b c e = omega arith

-- a draw that finds none
passes_on : (size : Size) (s : St) (id : ℕ) (v : View) → Dealt size s → get_elem? s.views id ≡ some v → 0 < v.left → size.jobs ≤ counter s
    → Dealt size (now_at s (counter s + 1) (set s.views id (passed v)))
passes_on size s id v rule at some_left high =
    let n : ℕ = counter s in
    let w : View = passed v in
    let m : min n size.jobs ≡ size.jobs = min-eq_right high in
    let m' : min (n + 1) size.jobs ≡ size.jobs = min-eq_right (omega arith) in
    dealt_at size s (n + 1) (set s.views id w) rule.one_word
    (λ x. unchanged (sum_by (drawn_of x) s.views) (sum_by (drawn_of x) (set s.views id w)) (drawn_of x v) (sum_changed (drawn_of x) s.views id v w at)
    ∙ rule.each_once x ∙ ap (λ (k : ℕ). once_below k x) (m ∙ sym m'))
    (one_past n size.jobs (min n size.jobs) (min (n + 1) size.jobs) (sum_by past_of s.views) (sum_by past_of (set s.views id w)) v.past high m m' rule.used
    (sum_changed past_of s.views id v w at))
    (one_less (sum_by passes_of s.views) (sum_by passes_of (set s.views id w)) v.past v.left some_left (sum_changed passes_of s.views id v w at)
    ∙ rule.all_passes)
    (idle_set s.views id w (λ (no_passes : passes_of w ≡ 0). absurd (one_is_used v.past (v.left - 1) no_passes)) rule.idle)
  where
    one_past : (n jobs m m' old new part : ℕ) → jobs ≤ n → m ≡ jobs → m' ≡ jobs → old ≡ n - m → new + part ≡ old + (part + 1) → new ≡ (n + 1) - m'
    one_past n jobs m m' old new part h a b c e = omega arith

    one_less : (old new past left : ℕ) → 0 < left → new + (past + left) ≡ old + ((past + 1) + (left - 1)) → new ≡ old
    one_less old new past left h e = omega arith

after : (size : Size) (s : St) (id : ℕ) (v : View) → Dealt size s → get_elem? s.views id ≡ some v → 0 < v.left → v.size ≡ size
    → Dealt size (now_at s (counter s + 1) (set s.views id (after_draw v (counter s))))
after size s id v rule at some_left same = ⊎_elim
    (λ (low : counter s < size.jobs). subst Next (sym (cond-true (ltb (counter s) v.size.jobs) (drew v (counter s)) (passed v)
    (lt-ltb (counter s) v.size.jobs (subst (λ (z : Size). counter s < z.jobs) (sym same) low)))) (finds size s id v rule at some_left low))
    (λ (high : size.jobs ≤ counter s). subst Next (sym (cond-false (ltb (counter s) v.size.jobs) (drew v (counter s)) (passed v)
    (le-ltb (counter s) v.size.jobs (subst (λ (z : Size). z.jobs ≤ counter s) (sym same) high)))) (passes_on size s id v rule at some_left high))
    (cases_lt (counter s) size.jobs)
  where
    Next : View → Type 0
    Next w = Dealt size (now_at s (counter s + 1) (set s.views id w))

-- the counter does not wrap
no_wrap : (n jobs seats past passes : ℕ) → jobs < 9223372036854775808 → seats < 9223372036854775808 → past ≡ n - min n jobs → past ≤ passes → passes ≡ seats
    → (n + 1) % 18446744073709551616 ≡ n + 1
no_wrap n jobs seats past passes few_jobs few_seats is part all = mod-eq_of_lt (omega arith)

pub draws : (size : Size) (slots id : ℕ) (me : Me (Unit {0}) View) → size.jobs < 2 ^ 63 → size.seats < 2 ^ 63 → me.0.size ≡ size → 0 < me.0.left
    → Allows (Dealt size) slots id me 0 (λ n. (n + 1) % 2 ^ 64) (Draws (step slots 0 1 0 none) me)
draws size slots id me few_jobs few_seats same some_left s rule _ at _ =
    let n : ℕ = counter s in
    let w : View = after_draw me.0 n in
    let new : Dealt size (now_at s (n + 1) (set s.views id w)) = after size s id me.0 rule at some_left same in
    let fits : (n + 1) % 2 ^ 64 ≡ n + 1 =
    no_wrap n size.jobs size.seats (sum_by past_of s.views) (sum_by passes_of s.views) few_jobs few_seats rule.used (past_part s.views) rule.all_passes in (
      w,
      keeps,
      tt,
      subst (λ (k : ℕ). Dealt size (now_at s k (set s.views id w))) (sym fits) new,
      (refl, knows size (now_at s (n + 1) (set s.views id w)) id w new (set_here s.views id w (in_range s.views id me.0 at)) (size_kept n ∙ same)),
    )
  where
    past_part : (views : List View) → sum_by past_of views ≤ sum_by passes_of views
    past_part views = sum_by-le-sum_by past_of passes_of views (λ (v : View). a_part v.past v.left)

    either : (n : ℕ) (b : Bool) → (cond b (drew me.0 n) (passed me.0)).size ≡ me.0.size
    either n true = refl
    either n false = refl

    size_kept : (n : ℕ) → (after_draw me.0 n).size ≡ me.0.size
    size_kept n = either n (ltb n me.0.size.jobs)

pub looks : (size : Size) (slots id : ℕ) (me : Me (Unit {0}) View) → me.0.size ≡ size
    → Allows (Dealt size) slots id me 0 (λ n. n) (Looks (step slots 0 0 0 none) me)
looks size slots id me same s rule _ at _ = (
  me.0,
  keeps,
  tt,
  subst (λ (views : List View). Dealt size (now_at s (counter s) views)) (sym (set_again s.views id me.0 at))
      (dealt_at size s (counter s) s.views rule.one_word rule.each_once rule.used rule.all_passes rule.idle),
  (refl, knows size s id me.0 rule at same),
)

-- the rule depends on the words and the views alone
with_views : (size : Size) (s : St) (views : List View) → Dealt size s
    → ((x : ℕ) → sum_by (drawn_of x) views ≡ sum_by (drawn_of x) s.views) → sum_by past_of views ≡ sum_by past_of s.views
    → sum_by passes_of views ≡ sum_by passes_of s.views → IdleIsEmpty views → Dealt size record { words = s.words; homes = s.homes; views = views }
with_views size s views rule drawn past passes idle = record {
  one_word = rule.one_word;
  each_once = λ x. drawn x ∙ rule.each_once x;
  used = past ∙ rule.used;
  all_passes = passes ∙ rule.all_passes;
  idle = idle;
}

-- a term is cut in two, and the second part is put at the end
cut : (f : View → ℕ) (views : List View) (id : ℕ) (v left right : View) → get_elem? views id ≡ some v → f v ≡ f left + f right
    → sum_by f (set views id left ++ right ∷ []) ≡ sum_by f views
cut f views id v left right at parts = sum_by_push f (set views id left) right
    ∙ settles (sum_by f views) (sum_by f (set views id left)) (f v) (f left) (f right) (sum_changed f views id v left at) parts
  where
    settles : (old new v left right : ℕ) → new + v ≡ old + left → v ≡ left + right → new + right ≡ old
    settles old new v left right change parts = omega arith

pub splits : (size : Size) (id : ℕ) (v : View) → 2 ≤ v.left → Splits (Dealt size) id v (kept v) (given v)
splits size id v enough s rule at = with_views size s (set s.views id (kept v) ++ given v ∷ []) rule
    (λ x. cut (drawn_of x) s.views id v (kept v) (given v) at (sym (add-zero (drawn_of x v))))
    (cut past_of s.views id v (kept v) (given v) at (sym (add-zero v.past)))
    (cut passes_of s.views id v (kept v) (given v) at (one_over v.past v.left enough))
    (idle_push (set s.views id (kept v)) (given v) (λ no_passes. absurd (one_is_left 1 refl no_passes))
    (idle_set s.views id (kept v) (λ no_passes. absurd (still v.past v.left enough no_passes)) rule.idle))
  where
    one_over : (past left : ℕ) → 2 ≤ left → past + left ≡ (past + (left - 1)) + (0 + 1)
    one_over past left h = omega arith

    still : (past left : ℕ) → 2 ≤ left → past + (left - 1) ≡ 0 → ⊥
    still past left h e = omega arith

-- two terms become one, and what is left in the place of the second counts nothing
merged : (f : View → ℕ) (views : List View) (id other : ℕ) (v w both : View) → get_elem? views id ≡ some v → get_elem? (set views id both) other ≡ some w
    → f both ≡ f v + f w → f spent ≡ 0 → sum_by f (set (set views id both) other spent) ≡ sum_by f views
merged f views id other v w both at there sums nothing =
    settles (sum_by f views) (sum_by f (set views id both)) (sum_by f (set (set views id both) other spent)) (f v) (f w) (f both) (f spent)
    (sum_changed f views id v both at) (sum_changed f (set views id both) other w spent there) sums nothing
  where
    settles : (old mid new v w both spent : ℕ) → mid + v ≡ old + both → new + w ≡ mid + spent → both ≡ v + w → spent ≡ 0 → new ≡ old
    settles old mid new v w both spent first second sums nothing = omega arith

pub joins : (size : Size) (id : ℕ) (v : View) (other : ℕ) (w : View) → Joins (Dealt size) id v other w (joined v w) spent
joins size id v other w s rule at apart there = with_views size s (set (set s.views id (joined v w)) other spent) rule
    (λ x. merged (drawn_of x) s.views id other v w (joined v w) at there (times_both x v.drawn w.drawn) refl)
    (merged past_of s.views id other v w (joined v w) at there refl refl)
    (merged passes_of s.views id other v w (joined v w) at there (four v.past w.past v.left w.left) refl)
    (idle_set (set s.views id (joined v w)) other spent (λ no_passes. refl) (idle_set s.views id (joined v w) (λ no_passes. both_empty no_passes) rule.idle))
  where
    four : (a b c d : ℕ) → (a + b) + (c + d) ≡ (a + c) + (b + d)
    four a b c d = omega arith

    none_first : (a b c d : ℕ) → (a + b) + (c + d) ≡ 0 → a + c ≡ 0
    none_first a b c d e = omega arith

    none_second : (a b c d : ℕ) → (a + b) + (c + d) ≡ 0 → b + d ≡ 0
    none_second a b c d e = omega arith

    theirs : get_elem? s.views other ≡ some w
    theirs = ⊎_elim
        (λ (t : (other ≡ id) × (joined v w ≡ w)). absurd (apart t.0))
        (λ (t : (other ≢ id) × (get_elem? s.views other ≡ some w)). t.1)
        (at_set s.views id other (joined v w) w there)

    both_empty : passes_of (joined v w) ≡ 0 → v.drawn ++ w.drawn ≡ []
    both_empty no_passes = ap₂ (λ (l m : List ℕ). l ++ m)
        (rule.idle id v at (none_first v.past w.past v.left w.left no_passes))
        (rule.idle other w theirs (none_second v.past w.past v.left w.left no_passes))
