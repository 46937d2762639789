-- What workers have drawn, and the ends of what they drew.
use Rattle.std.proofs.Common.{◌≡◌, ℕ, zero, suc, ◌+◌, ◌<◌, ◌≤◌, Bool, eqb, List, [], ◌∷◌, ◌++◌, length, cond, refl, sym, ◌∙◌, ap, subst, arith, Option}
use Rattle.std.proofs.Common.{None, Some, All, slice_get, slice_index_or, ⊎_elim, eq-eqb, ne_eqb, lt-ltb, le-ltb, count_by, sum_by}
use Rattle.std.proofs.lemmas.Bool.{cases_eq, cases_lt}
use Rattle.std.proofs.lemmas.List.{map-append}
use Rattle.std.proofs.lemmas.List.Sums.{sum_by-cons, sum_by-append, sum_by_push}
use Rattle.std.specs.List.Sorted.{IsPermutation, IsNonDecreasingBy}
use Rattle.std.proofs.lemmas.List.Sorted.{sum_by-IsPermutation, length_permutation, All-permutation, IsPermutation-sym, IsNonDecreasingBy-drop}
use Rattle.stm_job.specs.declared.drawing.view.Size.{Size}
use Rattle.stm_job.specs.declared.drawing.view.View.{View}
use Rattle.stm_job.specs.declared.drawing.table.JobSeat.{JobSeat}
use Rattle.atomic_table.specs.Seated.{TableId}
use Rattle.stm_job.specs.Seats.{IsSeatAt, seat_view}
use Rattle.stm_job.specs.Draw.{EachOnce, Knows, times, once_below, fresh, given, drew, joined, after_none}
use Rattle.stm_job.proofs.Counted.{as_many}
use Rattle.stm_journal.specs.JournalState.{JournalState}
use Rattle.stm_job.specs.declared.job_end.JobEnd.{JobEnd}
use Rattle.stm_job.specs.declared.job.Job.{Job}
use Rattle.stm_workers.specs.Attempts.{HasCome, HasSomeRun}
use Rattle.stm_workers.specs.Runs.{HasItsRun, HaveTheirRuns}
use Rattle.stm_workers.specs.declared.worker.EndOf.{EndOf}
use Rattle.stm_job.specs.Ends.{is_committed}
use Rattle.stm_workers.specs.Drawn.{jobs_of, committed_in, lost_in, ends_in, drawing, used_up, EachAtItsPlace, HasDrawnAll}
use Rattle.stm_workers.specs.Calls.{counted_end}

-- ---- seats

-- a seat of this table is one of that table, where they are the same
pub seat_at : (id other : TableId) (size more : Size) (seat : JobSeat) → id ≡ other → size ≡ more → IsSeatAt id size seat → IsSeatAt other more seat
seat_at id other size more seat same as_large is = (is.0 ∙ same, is.1 ∙ as_large)

-- a new worker has drawn nothing
pub newly_equipped : (size : Size) (ended : List EndOf) (before after : View) → before.size ≡ size → ended ≡ [] → after ≡ given before →
    after ≡ drawing size (jobs_of ended)
newly_equipped size ended before after same none split =
    split ∙ ap (λ (s : Size). fresh s) same ∙ ap (λ (es : List EndOf). drawing size (jobs_of es)) (sym none)

-- ---- a worker

-- a job was drawn, and it has its end
pub one_more : (size : Size) (ended : List EndOf) (last : EndOf) (before after : View) → before ≡ drawing size (jobs_of ended) →
    after ≡ drew before last.job → after ≡ drawing size (jobs_of (ended ++ last ∷ []))
one_more size ended last before after was drawn =
    drawn
    ∙ ap (λ (v : View). drew v last.job) was
    ∙ ap (λ (numbers : List ℕ). drawing size numbers) (sym (map-append (λ (e : EndOf). e.job) ended (last ∷ [])))

-- none was left
pub none_left : (size : Size) (ended : List EndOf) (before after : View) → before ≡ drawing size (jobs_of ended) → after ≡ after_none before →
    after ≡ used_up size (jobs_of ended)
none_left size ended before after was passed = passed ∙ ap after_none was

-- what it has committed counts the end
pub one_counted : (ended : List EndOf) (last : EndOf) (before after : ℕ) → before ≡ committed_in ended → after ≡ before + counted_end last.end →
    after ≡ committed_in (ended ++ last ∷ [])
one_counted ended last before after was counted =
    counted
    ∙ ap (λ (n : ℕ). n + counted_end last.end) was
    ∙ sym (sum_by_push (λ (e : EndOf). cond (is_committed e.end) 1 0) ended last)

-- ---- who takes in what they hand back

pub drawn_together : (ended more : List EndOf) (mine theirs both : View) (size : Size) → mine.drawn ≡ jobs_of ended →
    theirs ≡ used_up size (jobs_of more) → both ≡ joined mine theirs → both.drawn ≡ jobs_of (ended ++ more)
drawn_together ended more mine theirs both size mine_is theirs_are together =
    ap (λ (v : View). v.drawn) together
    ∙ ap (λ (numbers : List ℕ). numbers ++ theirs.drawn) mine_is
    ∙ ap (λ (v : View). jobs_of ended ++ v.drawn) theirs_are
    ∙ sym (map-append (λ (e : EndOf). e.job) ended more)

pub counted_together : (ended more : List EndOf) (mine theirs both : ℕ) → mine ≡ committed_in ended → theirs ≡ committed_in more →
    both ≡ mine + theirs → both ≡ committed_in (ended ++ more)
counted_together ended more mine theirs both mine_is theirs_are together =
    together
    ∙ ap (λ (n : ℕ). n + theirs) mine_is
    ∙ ap (λ (n : ℕ). committed_in ended + n) theirs_are
    ∙ sym (sum_by-append (λ (e : EndOf). cond (is_committed e.end) 1 0) ended more)

-- each pass that comes back comes with a part
pub even_together : (mine theirs both : View) (size : Size) (numbers : List ℕ) (parts part all : ℕ) → mine.past + mine.left ≡ parts →
    theirs ≡ used_up size numbers → both ≡ joined mine theirs → part ≡ 1 → all ≡ parts + part → both.past + both.left ≡ all
even_together mine theirs both size numbers parts part all even theirs_are together one sum =
    let past : both.past ≡ mine.past + 1 = ap (λ (v : View). v.past) together ∙ ap (λ (v : View). mine.past + v.past) theirs_are in
    let left : both.left ≡ mine.left + 0 = ap (λ (v : View). v.left) together ∙ ap (λ (v : View). mine.left + v.left) theirs_are in
    omega (arith, past, left, even, one, sum)

pub past_together : (mine theirs both : View) (size : Size) (numbers : List ℕ) → theirs ≡ used_up size numbers → both ≡ joined mine theirs →
    both.past ≡ mine.past + 1
past_together mine theirs both size numbers theirs_are together =
    ap (λ (v : View). v.past) together ∙ ap (λ (v : View). mine.past + v.past) theirs_are

-- who has everything back has drawn every job once
pub all_drawn : (size : Size) (ended : List EndOf) (seat : JobSeat) (parts : ℕ) → (seat_view seat).size ≡ size → (seat_view seat).drawn ≡ jobs_of ended →
    (seat_view seat).past + (seat_view seat).left ≡ parts → parts ≡ size.seats → 0 < (seat_view seat).past → Knows (seat_view seat) →
    HasDrawnAll size seat
all_drawn size ended seat parts same drawn even all some knows =
    let v : View = seat_view seat in
    let seats : v.size.seats ≡ size.seats = ap (λ (s : Size). s.seats) same in
    let whole : v.past + v.left ≡ v.size.seats = even ∙ all ∙ sym seats in
    record {
      of_size = same;
      whole = (whole, some);
      each_once = subst (λ (s : Size). EachOnce s.jobs v.drawn) same (knows.1 (whole, some));
    }

-- these are the jobs whose ends it has
pub all_ended : (size : Size) (ended : List EndOf) (seat : JobSeat) → (seat_view seat).drawn ≡ jobs_of ended → HasDrawnAll size seat →
    EachOnce size.jobs (jobs_of ended)
all_ended size ended seat drawn all = subst (λ (numbers : List ℕ). EachOnce size.jobs numbers) drawn all.each_once

-- ---- the ends in their places

pub an_end_each : (n : ℕ) (ended : List EndOf) → EachOnce n (jobs_of ended) → length ended ≡ n
an_end_each n ended once = sym (lengths ended) ∙ as_many n (jobs_of ended) once
  where
    lengths : (es : List EndOf) → length (jobs_of es) ≡ length es
    lengths [] = refl
    lengths (e ∷ es) = ap (λ (k : ℕ). suc k) (lengths es)

ends_length : (ended : List EndOf) → length (ends_in ended) ≡ length ended
ends_length [] = refl
ends_length (e ∷ es) = ap (λ (k : ℕ). suc k) (ends_length es)

lost_length : (ended : List EndOf) → length (lost_in ended) ≡ length ended
lost_length [] = refl
lost_length (e ∷ es) = ap (λ (k : ℕ). suc k) (lost_length es)

ends_counted : (ended : List EndOf) → count_by is_committed (ends_in ended) ≡ committed_in ended
ends_counted [] = refl
ends_counted (e ∷ es) =
    sum_by-cons (λ (j : JobEnd). cond (is_committed j) 1 0) e.end (ends_in es)
    ∙ ap (λ (n : ℕ). cond (is_committed e.end) 1 0 + n) (ends_counted es)
    ∙ sym (sum_by-cons (λ (x : EndOf). cond (is_committed x.end) 1 0) e es)

pub sorted_length : (ended sorted : List EndOf) (ends : List JobEnd) → IsPermutation ended sorted → ends ≡ ends_in sorted → length ends ≡ length ended
sorted_length ended sorted ends moved are =
    ap (λ (l : List JobEnd). length l) are ∙ ends_length sorted ∙ length_permutation ended sorted moved

pub sorted_lost_length : (ended sorted : List EndOf) (lost : List (List (List ℕ))) → IsPermutation ended sorted → lost ≡ lost_in sorted →
    length lost ≡ length ended
sorted_lost_length ended sorted lost moved are =
    ap (λ (l : List (List (List ℕ))). length l) are ∙ lost_length sorted ∙ length_permutation ended sorted moved

pub sorted_counted : (ended sorted : List EndOf) (ends : List JobEnd) → IsPermutation ended sorted → ends ≡ ends_in sorted →
    count_by is_committed ends ≡ committed_in ended
sorted_counted ended sorted ends moved are =
    ap (λ (l : List JobEnd). count_by is_committed l) are
    ∙ ends_counted sorted
    ∙ sum_by-IsPermutation (λ (e : EndOf). cond (is_committed e.end) 1 0) ended sorted moved

pub each_of_many : (n : ℕ) (ended : List EndOf) → EachOnce n (jobs_of ended) → EachOnce (length ended) (jobs_of ended)
each_of_many n ended once = subst (λ (k : ℕ). EachOnce k (jobs_of ended)) (sym (an_end_each n ended once)) once

-- ---- which place is which job's

abbrev bit : Bool → ℕ
bit b = cond b 1 0

-- how often a job stands there, counted from the first
counted_first : (x : ℕ) (e : EndOf) (es : List EndOf) → times x (jobs_of (e ∷ es)) ≡ bit (eqb e.job x) + times x (jobs_of es)
counted_first x e es = sum_by-cons (λ (y : ℕ). cond (eqb y x) 1 0) e.job (jobs_of es)

own_counted : (x : ℕ) (e : EndOf) (es : List EndOf) → e.job ≡ x → times x (jobs_of (e ∷ es)) ≡ 1 + times x (jobs_of es)
own_counted x e es same = counted_first x e es ∙ ap (λ (b : Bool). bit b + times x (jobs_of es)) (eq-eqb e.job x same)

other_counted : (x : ℕ) (e : EndOf) (es : List EndOf) → (e.job ≡ x → ⊥) → times x (jobs_of (e ∷ es)) ≡ times x (jobs_of es)
other_counted x e es other =
    let none : bit (eqb e.job x) ≡ 0 = ap bit (ne_eqb e.job x other) in
    let sum : times x (jobs_of (e ∷ es)) ≡ bit (eqb e.job x) + times x (jobs_of es) = counted_first x e es in
    omega (arith, sum, none)

-- a job that stands there stands somewhere
record Found (x : ℕ) (es : List EndOf) : Type 0 where
  pub place : ℕ
  pub low : place < length es
  pub is : (d : EndOf) → (slice_index_or es place d).job ≡ x

found : (x : ℕ) (es : List EndOf) → 0 < times x (jobs_of es) → Found x es
found x [] some_there = absurd (omega arith)
found x (e ∷ es) some_there = ⊎_elim
    (λ (same : e.job ≡ x). record { place = zero; low = omega arith; is = λ d. same })
    (λ (other : e.job ≡ x → ⊥).
    let behind : times x (jobs_of (e ∷ es)) ≡ times x (jobs_of es) = other_counted x e es other in
    let r : Found x es = found x es (omega (arith, some_there, behind)) in
    record { place = suc r.place; low = omega (arith, r.low); is = r.is })
    (cases_eq e.job x)

-- the jobs from one number on, up to another, each once
record AreFrom (a m : ℕ) (es : List EndOf) : Type 0 where
  pub within : (x : ℕ) → 0 < times x (jobs_of es) → (a ≤ x) × (x < m)
  pub once : (x : ℕ) → a ≤ x → x < m → times x (jobs_of es) ≡ 1

first_is : (e : EndOf) (es : List EndOf) (a m : ℕ) → IsNonDecreasingBy (λ (f : EndOf). f.job) (e ∷ es) → AreFrom a m (e ∷ es) → e.job ≡ a
first_is e es a m rises are = ⊎_elim
    (λ (same : e.job ≡ a). same)
    (λ (other : e.job ≡ a → ⊥).
    let own : times e.job (jobs_of (e ∷ es)) ≡ 1 + times e.job (jobs_of es) = own_counted e.job e es refl in
    let range : (a ≤ e.job) × (e.job < m) = are.within e.job (omega (arith, own)) in
    let there : times a (jobs_of (e ∷ es)) ≡ 1 = are.once a (omega arith) (omega (arith, range.0, range.1)) in
    let behind : times a (jobs_of (e ∷ es)) ≡ times a (jobs_of es) = other_counted a e es other in
    let later : Found a es = found a es (omega (arith, there, behind)) in
    let is : (slice_index_or es later.place e).job ≡ a = later.is e in
    let most : e.job ≤ (slice_index_or es later.place e).job = rises zero (suc later.place) e (omega arith) (omega (arith, later.low)) in
    absurd (other (omega (arith, range.0, most, is))))
    (cases_eq e.job a)

rest_are : (e : EndOf) (es : List EndOf) (a m : ℕ) → e.job ≡ a → AreFrom a m (e ∷ es) → AreFrom (suc a) m es
rest_are e es a m first are = record { within = in_rest; once = once_in_rest }
  where
    range : (a ≤ e.job) × (e.job < m)
    range =
        let own : times e.job (jobs_of (e ∷ es)) ≡ 1 + times e.job (jobs_of es) = own_counted e.job e es refl in
        are.within e.job (omega (arith, own))

    none_again : times a (jobs_of es) ≡ 0
    none_again =
        let there : times a (jobs_of (e ∷ es)) ≡ 1 = are.once a (omega arith) (omega (arith, range.1, first)) in
        let own : times a (jobs_of (e ∷ es)) ≡ 1 + times a (jobs_of es) = own_counted a e es first in
        omega (arith, there, own)

    above : (x : ℕ) → (e.job ≡ x → ⊥) → a ≤ x → suc a ≤ x
    above x other low = ⊎_elim
        (λ (same : e.job ≡ x). absurd (other same))
        (λ (different : e.job ≡ x → ⊥). ⊎_elim
        (λ (less : a < x). omega arith)
        (λ (more : x ≤ a). absurd (other (omega (arith, first, more, low))))
        (cases_lt a x))
        (cases_eq e.job x)

    in_rest : (x : ℕ) → 0 < times x (jobs_of es) → (suc a ≤ x) × (x < m)
    in_rest x some_there = ⊎_elim
        (λ (same : e.job ≡ x).
        let here : times a (jobs_of es) ≡ times x (jobs_of es) = ap (λ (k : ℕ). times k (jobs_of es)) (sym first ∙ same) in
        absurd (omega (arith, some_there, none_again, here)))
        (λ (other : e.job ≡ x → ⊥).
        let whole : times x (jobs_of (e ∷ es)) ≡ times x (jobs_of es) = other_counted x e es other in
        let ranged : (a ≤ x) × (x < m) = are.within x (omega (arith, some_there, whole)) in
        (above x other ranged.0, ranged.1))
        (cases_eq e.job x)

    once_in_rest : (x : ℕ) → suc a ≤ x → x < m → times x (jobs_of es) ≡ 1
    once_in_rest x low high =
        let other : e.job ≡ x → ⊥ = λ same. absurd (omega (arith, same, first, low)) in
        sym (other_counted x e es other) ∙ are.once x (omega (arith, low)) high

-- sorted by their jobs, the ends of such jobs stand one after the other
in_order : (es : List EndOf) (a m : ℕ) → IsNonDecreasingBy (λ (e : EndOf). e.job) es → AreFrom a m es → (k : ℕ) (d : EndOf) → k < length es →
    (slice_index_or es k d).job ≡ a + k
in_order [] a m rises are k d low = absurd (omega arith)
in_order (e ∷ es) a m rises are zero d low = let none : a ≡ a + zero = omega arith in first_is e es a m rises are ∙ none
in_order (e ∷ es) a m rises are (suc k) d low =
    let first : e.job ≡ a = first_is e es a m rises are in
    let one : suc a + k ≡ a + suc k = omega arith in
    in_order es (suc a) m (IsNonDecreasingBy-drop (λ (f : EndOf). f.job) 1 (e ∷ es) rises) (rest_are e es a m first are) k d (omega arith) ∙ one

-- the jobs below a number, each once
below_once : (n x t : ℕ) → t ≡ once_below n x → 0 < t → x < n
below_once n x t is some_there = ⊎_elim
    (λ (low : x < n). low)
    (λ (high : n ≤ x). let none : once_below n x ≡ 0 = ap bit (le-ltb x n high) in absurd (omega (arith, is, none, some_there)))
    (cases_lt x n)

are_from_zero : (n : ℕ) (ended sorted : List EndOf) → EachOnce n (jobs_of ended) → IsPermutation ended sorted → AreFrom 0 n sorted
are_from_zero n ended sorted each moved = record {
  within = λ x some_there. (omega arith, below_once n x (times x (jobs_of sorted)) (moved_times x) some_there);
  once = λ x low high. moved_times x ∙ ap bit (lt-ltb x n high);
}
  where
    as_sum : (x : ℕ) (es : List EndOf) → times x (jobs_of es) ≡ sum_by (λ (e : EndOf). bit (eqb e.job x)) es
    as_sum x [] = refl
    as_sum x (e ∷ es) =
        counted_first x e es ∙ ap (λ (n : ℕ). bit (eqb e.job x) + n) (as_sum x es) ∙ sym (sum_by-cons (λ (f : EndOf). bit (eqb f.job x)) e es)

    moved_times : (x : ℕ) → times x (jobs_of sorted) ≡ once_below n x
    moved_times x =
        as_sum x sorted ∙ sum_by-IsPermutation (λ (e : EndOf). bit (eqb e.job x)) ended sorted moved ∙ sym (as_sum x ended) ∙ each x

end_there : (es : List EndOf) (k : ℕ) (d : EndOf) → k < length es → slice_get (ends_in es) k ≡ Some (slice_index_or es k d).end
end_there [] k d low = absurd (omega arith)
end_there (e ∷ es) zero d low = refl
end_there (e ∷ es) (suc k) d low = end_there es k d (omega arith)

-- so each end stands at the place of its job
pub sorted_places : (ended sorted : List EndOf) (ends : List JobEnd) → EachOnce (length ended) (jobs_of ended) → IsPermutation ended sorted →
    IsNonDecreasingBy (λ (e : EndOf). e.job) sorted → ends ≡ ends_in sorted → EachAtItsPlace ended ends
sorted_places ended sorted ends each moved rises are =
    All-permutation (λ (e : EndOf). slice_get ends e.job ≡ Some e.end) sorted ended (IsPermutation-sym ended sorted moved)
    (λ k d low.
    let found = in_order sorted 0 (length ended) rises (are_from_zero (length ended) ended sorted each moved) k d low in
    let job : (slice_index_or sorted k d).job ≡ k = omega (arith, found) in
    ap (λ (l : List JobEnd). slice_get l (slice_index_or sorted k d).job) are
    ∙ ap (λ (n : ℕ). slice_get (ends_in sorted) n) job
    ∙ end_there sorted k d low)

ended_at : (es : List EndOf) (k : ℕ) (end : JobEnd) → slice_get (ends_in es) k ≡ Some end →
    (k < length es) × ((d : EndOf) → (slice_index_or es k d).end ≡ end)
ended_at [] k end is = absurd (cc)
ended_at (e ∷ es) zero end is = (omega arith, λ d. same e.end end is)
  where
    end_or : JobEnd → Option JobEnd → JobEnd
    end_or other None = other
    end_or other (Some x) = x

    same : (x y : JobEnd) → Some x ≡ Some y → x ≡ y
    same x y both = ap (end_or x) both
ended_at (e ∷ es) (suc k) end is = let r = ended_at es k end is in (let low = r.0 in omega (arith, low), r.1)

lost_at : (es : List EndOf) (k : ℕ) (keys : List (List ℕ)) → slice_get (lost_in es) k ≡ Some keys → (d : EndOf) → (slice_index_or es k d).lost ≡ keys
lost_at [] k keys is d = absurd (cc)
lost_at (e ∷ es) zero keys is d = same e.lost keys is
  where
    keys_or : List (List ℕ) → Option (List (List ℕ)) → List (List ℕ)
    keys_or other None = other
    keys_or other (Some x) = x

    same : (x y : List (List ℕ)) → Some x ≡ Some y → x ≡ y
    same x y both = ap (keys_or x) both
lost_at (e ∷ es) (suc k) keys is d = lost_at es k keys is d

-- so each job has come to the end at its place
pub sorted_ran : (ended sorted : List EndOf) (ends : List JobEnd) (lost : List (List (List ℕ))) → EachOnce (length ended) (jobs_of ended) →
    IsPermutation ended sorted → IsNonDecreasingBy (λ (e : EndOf). e.job) sorted → ends ≡ ends_in sorted → lost ≡ lost_in sorted →
    (handed : JournalState) (jobs : List Job) → All (HasItsRun handed jobs) ended → HaveTheirRuns handed jobs ends lost
sorted_ran ended sorted ends lost each moved rises are were handed jobs ran place job end keys job_is end_is keys_are =
    let here = ended_at sorted place end (ap (λ (l : List JobEnd). slice_get l place) (sym are) ∙ end_is) in
    let own : EndOf = record { job = place; end = end; lost = keys } in
    let noted : (slice_index_or sorted place own).lost ≡ keys =
    lost_at sorted place keys (ap (λ (l : List (List (List ℕ))). slice_get l place) (sym were) ∙ keys_are) own in
    let found : (slice_index_or sorted place own).job ≡ 0 + place =
    in_order sorted 0 (length ended) rises (are_from_zero (length ended) ended sorted each moved) place own here.0 in
    let its : (slice_index_or sorted place own).job ≡ place = omega (arith, found) in
    subst (λ (e : JobEnd). HasSomeRun handed job e keys) (here.1 own)
    (subst (λ (ks : List (List ℕ)). HasSomeRun handed job (slice_index_or sorted place own).end ks) noted
    (All-permutation (HasItsRun handed jobs) ended sorted moved ran place own here.0 job (ap (λ (n : ℕ). slice_get jobs n) its ∙ job_is)))

-- ---- a job that a worker brought to its end

-- the same of the job at its place
pub come_there : (handed : JournalState) (jobs : List Job) (place : ℕ) (job : Job) (seen : ℕ) (end : JobEnd) (after : ℕ) (lost : List (List ℕ)) → slice_get jobs place ≡ Some job →
    HasCome handed job seen end after lost → (other : Job) → slice_get jobs place ≡ Some other → HasCome handed other seen end after lost
come_there handed jobs place job seen end after lost at came other is =
    subst (λ (j : Job). HasCome handed j seen end after lost) (same job other (sym at ∙ is)) came
  where
    job_or : Job → Option Job → Job
    job_or default None = default
    job_or default (Some j) = j

    same : (x y : Job) → Some x ≡ Some y → x ≡ y
    same x y e = ap (job_or x) e

-- and so has the run of which it is one
pub some_run : (handed : JournalState) (jobs its : List Job) (job : Job) (ended : EndOf) (seen after : ℕ) → jobs ≡ its → slice_get jobs ended.job ≡ Some job →
    HasCome handed job seen ended.end after ended.lost → HasItsRun handed its ended
some_run handed jobs its job ended seen after are at came other is =
    ∣ (
      seen,
      after,
      come_there handed jobs ended.job job seen ended.end after ended.lost at came other (ap (λ (js : List Job). slice_get js ended.job) are ∙ is),
    ) ∣₁
