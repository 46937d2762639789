-- When an audit finds something.
use Rattle.std.proofs.Common.{◌≡◌, ℕ, zero, suc, ◌+◌, ◌<◌, ◌≤◌, ◌||◌, ◌==◌, List, [], ◌∷◌, length, Bool, true, false, Option, None, Some, option_and_then}
use Rattle.std.proofs.Common.{slice_get, get_or, set, ◌↔◌, refl, sym, ◌∙◌, ap, subst, ⊎_elim, arith, eq-eqb, eqb-true}
use Rattle.std.proofs.lemmas.Bool.{cases_lt}
use Rattle.std.proofs.lemmas.List.{get_or-set_same, get_or-set_other}
use Rattle.stm_entries.specs.declared.entry.Entry.{Entry}
use Rattle.stm_history.specs.declared.key_state.ReadAnswer.{ReadAnswer}
use Rattle.stm_history.specs.History.{History, now}
use Rattle.stm_journal.specs.JournalState.{JournalState}
use Rattle.stm_hall.specs.Showing.{IsShown, AreShownAt}
use Rattle.stm_workers.specs.declared.start_point.StartPoint.{StartPoint}
use Rattle.stm_job.specs.declared.job.Job.{Job}
use Rattle.stm_job.specs.declared.job_end.JobEnd.{JobEnd}
use Rattle.stm_job.specs.declared.job_end.JobEnd.TheVariants.{Committed, Aborted}
use Rattle.stm_workers.specs.Ends.{AreOfOneState, entry_named, names_entry, IsCommitOf, IsBorneOut, BorneOutAt, IsNew, StandsAt, AllStand}
use Rattle.stm_workers.specs.Marks.{NamesWithin, IsNewAt, is_marked, is_named_before, revision_of}
use Rattle.stm_workers.proofs.EndLaws.{named, there, within}

-- ---- the entry that an end names

abbrev index_or_none : ℕ → Option ℕ → ℕ
index_or_none other None = other
index_or_none other (Some index) = index

pub names_it : (index : ℕ) (end : JobEnd) → entry_named end ≡ Some index → names_entry index end ≡ true
names_it index (Committed own revision) is = eq-eqb own index (ap (index_or_none own) is)
names_it index _ is = absurd (cc)

pub is_named : (index : ℕ) (end : JobEnd) → names_entry index end ≡ true → entry_named end ≡ Some index
is_named index (Committed own revision) is = ap (λ (n : ℕ). Some n) (eqb-true own index is)
is_named index _ is = absurd (cc)

-- ---- one of the first n ends names it

either_parts : (a b : Bool) → (a || b) ≡ false → (a ≡ false) × (b ≡ false)
either_parts true b is = absurd (cc)
either_parts false b is = (refl, is)

either_swaps : (a b c : Bool) → (a || (b || c)) ≡ (b || (a || c))
either_swaps true true c = refl
either_swaps true false c = refl
either_swaps false true c = refl
either_swaps false false c = refl

same_end : (x y : JobEnd) → Some x ≡ Some y → x ≡ y
same_end x y is = ap (end_or x) is
  where
    end_or : JobEnd → Option JobEnd → JobEnd
    end_or other None = other
    end_or other (Some end) = end

-- the next end is one more
pub one_end_more : (index place : ℕ) (ends : List JobEnd) (end : JobEnd) → slice_get ends place ≡ Some end →
    is_named_before index (suc place) ends ≡ (names_entry index end || is_named_before index place ends)
one_end_more index place [] end is = absurd (cc)
one_end_more index zero (e ∷ ends) end is =
    ap (λ (x : JobEnd). names_entry index x || false) (same_end e end is)
one_end_more index (suc n) (e ∷ ends) end is =
    ap (λ b. names_entry index e || b) (one_end_more index n ends end is)
    ∙ either_swaps (names_entry index e) (names_entry index end) (is_named_before index n ends)

-- none does, so it is new
pub none_named : (index place : ℕ) (ends : List JobEnd) → is_named_before index place ends ≡ false → IsNew ends place index
none_named index zero ends is k less names = absurd (omega arith)
none_named index (suc n) [] is k less names = absurd (cc)
none_named index (suc n) (e ∷ ends) is zero less names =
    let parts = either_parts (names_entry index e) (is_named_before index n ends) is in
    let both : false ≡ true = sym parts.0 ∙ names_it index e names in absurd (cc)
none_named index (suc n) (e ∷ ends) is (suc k) less names =
    let parts = either_parts (names_entry index e) (is_named_before index n ends) is in
    none_named index n ends parts.1 k (omega arith) names

-- one does, so it is not
pub some_named : (index place : ℕ) (ends : List JobEnd) → is_named_before index place ends ≡ true → IsNew ends place index → ⊥
some_named index zero ends is new = absurd (cc)
some_named index (suc n) [] is new = absurd (cc)
some_named index (suc n) (e ∷ ends) is new =
    by_first (names_entry index e) refl (λ rest. some_named index n ends rest (λ k less names. new (suc k) (omega arith) names))
  where
    by_first : (b : Bool) → names_entry index e ≡ b → (is_named_before index n ends ≡ true → ⊥) → ⊥
    by_first true own later = new zero (omega arith) (is_named index e own)
    by_first false own later = later (sym (ap (λ c. c || is_named_before index n ends) own) ∙ is)

-- ---- what two looks say of an end

-- an end that is borne out, and whose entry is new, stands
pub both_stand : (begun : StartPoint) (hall : JournalState) (jobs : List Job) (ends : List JobEnd) →
    ((place : ℕ) → BorneOutAt begun hall jobs ends place) → ((place : ℕ) → IsNewAt ends place) → AllStand begun hall jobs ends
both_stand begun hall jobs ends borne new place job end job_is end_is = record {
  borne_out = borne place job end job_is end_is;
  is_new = λ index names. new place index (ap (λ (o : Option JobEnd). option_and_then entry_named o) end_is ∙ names);
}

-- one that is not borne out does not
pub unborne_falls : (begun : StartPoint) (hall : JournalState) (jobs : List Job) (ends : List JobEnd) (place : ℕ) →
    (BorneOutAt begun hall jobs ends place → ⊥) → StandsAt begun hall jobs ends place → ⊥
unborne_falls begun hall jobs ends place not stands = not (λ job end job_is end_is. (stands job end job_is end_is).borne_out)

-- nor one whose entry an earlier end names
pub repeated_falls : (begun : StartPoint) (hall : JournalState) (jobs : List Job) (ends : List JobEnd) (place : ℕ) → length ends ≡ length jobs →
    place < length ends → (IsNewAt ends place → ⊥) → StandsAt begun hall jobs ends place → ⊥
repeated_falls begun hall jobs ends place same short not stands =
    let j = there jobs place (subst (λ (m : ℕ). place < m) same short) in
    not (λ index names.
    let n = named (slice_get ends place) index names in
    (stands j.item n.end j.is n.is).is_new index n.names)

-- what is borne out names an entry of the hall
commit_is_there : (job : Job) (revision : ℕ) (o : Option Entry) (entries : List Entry) (index : ℕ) → slice_get entries index ≡ o →
    IsCommitOf job revision o → index < length entries
commit_is_there job revision None entries index is commit = absurd commit
commit_is_there job revision (Some e) entries index is commit = within entries index e is

named_is_there : (begun : StartPoint) (hall : JournalState) (job : Job) (end : JobEnd) (index : ℕ) → IsBorneOut begun hall job end → entry_named end ≡ Some index →
    index < length hall.entries
named_is_there begun hall job (Committed own revision) index borne names =
    let same : own ≡ index = ap (index_or_none own) names in
    subst (λ (n : ℕ). n < length hall.entries) same
    (commit_is_there job revision (slice_get hall.entries own) hall.entries own refl borne.1)
named_is_there begun hall job (Aborted text reads) index borne names = absurd (cc)
named_is_there begun hall job _ index borne names = absurd (cc)

pub names_within : (begun : StartPoint) (hall : JournalState) (jobs : List Job) (ends : List JobEnd) → length ends ≡ length jobs →
    ((place : ℕ) → BorneOutAt begun hall jobs ends place) → NamesWithin ends (length hall.entries)
names_within begun hall jobs ends same borne place index names =
    let n = named (slice_get ends place) index names in
    let j = there jobs place (subst (λ (m : ℕ). place < m) same (within ends place n.end n.is)) in
    named_is_there begun hall j.item n.end index (borne place j.item n.end j.is n.is) n.names

-- ---- one end

same_some : {A : Type 0} (x y : A) → Some x ≡ Some y → x ≡ y
same_some {A} x y is = ap (some_or x) is
  where
    some_or : A → Option A → A
    some_or other None = other
    some_or other (Some z) = z

-- the end at a place is borne out where this one is, which stands there
pub borne_there : (begun : StartPoint) (hall : JournalState) (jobs : List Job) (ends : List JobEnd) (place : ℕ) (job : Job) (end : JobEnd) →
    slice_get jobs place ≡ Some job → slice_get ends place ≡ Some end → IsBorneOut begun hall job end ↔ BorneOutAt begun hall jobs ends place
borne_there begun hall jobs ends place job end job_is end_is = (
  (λ borne other another other_is another_is.
      subst (λ (e : JobEnd). IsBorneOut begun hall other e) (same_some end another (sym end_is ∙ another_is))
      (subst (λ (j : Job). IsBorneOut begun hall j end) (same_some job other (sym job_is ∙ other_is)) borne)),
  (λ at. at job end job_is end_is),
)

pub reported_through : (A B : Type 0) (b : Bool) → (b ≡ true) ↔ A → A ↔ B → (b ≡ true) ↔ B
reported_through A B b first second = ((λ yes. second.0 (first.0 yes)), (λ x. first.1 (second.1 x)))

-- it is not, where a test of it fails
pub not_reported : (A : Type 0) (b : Bool) → (b ≡ true) ↔ A → b ≡ false → A → ⊥
not_reported A false test failed x = let yes : false ≡ true = test.1 x in absurd (cc)
not_reported A true test failed x = absurd (cc)

-- where all places below a number are fine, and the next one is, all below the next number are
pub next_place : (P : ℕ → Type 0) (n : ℕ) → ((p : ℕ) → p < n → P p) → P n → (p : ℕ) → p < n + 1 → P p
next_place P n before here p below = ⊎_elim
    (λ (less : p < n). before p less)
    (λ (above : n ≤ p). subst P (omega (arith, below, above)) here)
    (cases_lt p n)

-- a place without an end or a job says nothing
pub all_places : (begun : StartPoint) (hall : JournalState) (jobs : List Job) (ends : List JobEnd) →
    ((p : ℕ) → p < length ends → BorneOutAt begun hall jobs ends p) → (place : ℕ) → BorneOutAt begun hall jobs ends place
all_places begun hall jobs ends below place job end job_is end_is = below place (within ends place end end_is) job end job_is end_is

pub all_new : (ends : List JobEnd) → ((p : ℕ) → p < length ends → IsNewAt ends p) → (place : ℕ) → IsNewAt ends place
all_new ends below place index names =
    let n = named (slice_get ends place) index names in below place (within ends place n.end n.is) index names

-- ---- marks

-- an end whose entry is not marked names a new one
pub new_there : (ends : List JobEnd) (place entries : ℕ) (end : JobEnd) (marks : List Bool) → slice_get ends place ≡ Some end →
    ((index : ℕ) → index < entries → get_or marks index false ≡ is_named_before index place ends) → NamesWithin ends entries →
    is_marked marks (entry_named end) ≡ false → IsNewAt ends place
new_there ends place entries end marks is marked few unmarked index names =
    let own : entry_named end ≡ Some index = ap (λ (o : Option JobEnd). option_and_then entry_named o) (sym is) ∙ names in
    let here : get_or marks index false ≡ false = sym (ap (is_marked marks) own) ∙ unmarked in
    none_named index place ends (sym (marked index (few place index names)) ∙ here)

-- one whose entry is marked does not
pub not_new_there : (ends : List JobEnd) (place entries : ℕ) (end : JobEnd) (marks : List Bool) → slice_get ends place ≡ Some end →
    ((index : ℕ) → index < entries → get_or marks index false ≡ is_named_before index place ends) → NamesWithin ends entries →
    is_marked marks (entry_named end) ≡ true → IsNewAt ends place → ⊥
not_new_there ends place entries end marks is marked few was new = by_name (entry_named end) refl
  where
    by_name : (o : Option ℕ) → entry_named end ≡ o → ⊥
    by_name None own = let none : false ≡ true = sym (ap (is_marked marks) own) ∙ was in absurd (cc)
    by_name (Some index) own =
        let names : option_and_then entry_named (slice_get ends place) ≡ Some index =
        ap (λ (o : Option JobEnd). option_and_then entry_named o) is ∙ own in
        let here : get_or marks index false ≡ true = sym (ap (is_marked marks) own) ∙ was in
        some_named index place ends (sym (marked index (few place index names)) ∙ here) (new index names)

one_further : (place : ℕ) → suc place ≡ place + 1
one_further place = omega arith

-- the marks after one end more
pub marked_more : (ends : List JobEnd) (place entries : ℕ) (end : JobEnd) (before after : List Bool) → slice_get ends place ≡ Some end →
    length before ≡ entries → ((index : ℕ) → index < entries → get_or before index false ≡ is_named_before index place ends) →
    ((index : ℕ) → index < length before → get_or after index false ≡ (names_entry index end || get_or before index false)) →
    (index : ℕ) → index < entries → get_or after index false ≡ is_named_before index (place + 1) ends
marked_more ends place entries end before after is many marked adds index low =
    adds index (subst (λ (n : ℕ). index < n) (sym many) low)
    ∙ ap (λ b. names_entry index end || b) (marked index low)
    ∙ sym (one_end_more index place ends end is)
    ∙ ap (λ (n : ℕ). is_named_before index n ends) (one_further place)

-- ---- what an end says of the hall, test by test

-- the first of three facts fails, or the second, or the last
pub first_fails : (b : Bool) (A B C : Type 0) → (b ≡ true) ↔ A → b ≡ false → (false ≡ true) ↔ (A × B × C)
first_fails b A B C test failed = ((λ yes. absurd (cc)), (λ all. sym failed ∙ test.1 all.0))

pub second_fails : (b : Bool) (A B C : Type 0) → (b ≡ true) ↔ B → b ≡ false → (false ≡ true) ↔ (A × B × C)
second_fails b A B C test failed = ((λ yes. absurd (cc)), (λ all. sym failed ∙ test.1 all.1))

pub third_fails : (b : Bool) (A B C : Type 0) → (b ≡ true) ↔ C → b ≡ false → (false ≡ true) ↔ (A × B × C)
third_fails b A B C test failed = ((λ yes. absurd (cc)), (λ all. sym failed ∙ test.1 all.2))

pub level_fails : (b c : Bool) (B C : Type 0) → b ≡ c → b ≡ false → (false ≡ true) ↔ ((c ≡ true) × B × C)
level_fails b c B C is failed = ((λ yes. absurd (cc)), (λ all. sym failed ∙ is ∙ all.0))

-- two of them hold, so the other one decides
pub second_decides : (b c : Bool) (A C : Type 0) → b ≡ c → A → C → (b ≡ true) ↔ (A × (c ≡ true) × C)
second_decides b c A C is first third = ((λ yes. (first, sym is ∙ yes, third)), (λ all. is ∙ all.1))

pub first_of_two_fails : (A B : Type 0) → (A → ⊥) → (false ≡ true) ↔ (A × B)
first_of_two_fails A B not = ((λ yes. absurd (cc)), (λ both. absurd (not both.0)))

pub second_of_two_fails : (A B : Type 0) → (B → ⊥) → (false ≡ true) ↔ (A × B)
second_of_two_fails A B not = ((λ yes. absurd (cc)), (λ both. absurd (not both.1)))

pub second_of_two_decides : (b : Bool) (A B : Type 0) → A → (b ≡ true) ↔ B → (b ≡ true) ↔ (A × B)
second_of_two_decides b A B first test = ((λ yes. (first, test.0 yes)), (λ both. test.1 both.1))

-- no commit stands after the last entry
pub nothing_after : (job : Job) (revision : ℕ) (entries : List Entry) (index : ℕ) → length entries ≤ index →
    IsCommitOf job revision (slice_get entries index) → ⊥
nothing_after job revision entries index behind commit =
    let there : index < length entries = commit_is_there job revision (slice_get entries index) entries index refl commit in omega arith

-- ---- one mark more

pub set_marks : (marks : List Bool) (own index : ℕ) → own < length marks →
    get_or (set marks own true) index false ≡ (own == index || get_or marks index false)
set_marks marks own index low = by_test (own == index) refl
  where
    by_test : (b : Bool) → (own == index) ≡ b → get_or (set marks own true) index false ≡ (own == index || get_or marks index false)
    by_test true is =
        let same : own ≡ index = eqb-true own index is in
        subst (λ (n : ℕ). get_or (set marks own true) n false ≡ true) same (get_or-set_same marks own true false low)
        ∙ sym (ap (λ b. b || get_or marks index false) is)
    by_test false is =
        get_or-set_other marks own index true false
        (λ (same : index ≡ own). let both : false ≡ true = sym is ∙ eq-eqb own index (sym same) in absurd (cc))
        ∙ sym (ap (λ b. b || get_or marks index false) is)

-- ---- what was read

abbrev pub ShownAt : History → ℕ → ReadAnswer → Type 0
ShownAt h r read = (read.of_rev ≡ r) × IsShown h read

-- the answer at a place is shown
abbrev pub ShownThere : History → ℕ → List ReadAnswer → ℕ → Type 0
ShownThere h r reads place = (read : ReadAnswer) → slice_get reads place ≡ Some read → ShownAt h r read

same_answer : (x y : ReadAnswer) → Some x ≡ Some y → x ≡ y
same_answer x y is = ap (answer_or x) is
  where
    answer_or : ReadAnswer → Option ReadAnswer → ReadAnswer
    answer_or other None = other
    answer_or other (Some a) = a

pub shown_there : (h : History) (r : ℕ) (reads : List ReadAnswer) (place : ℕ) (read : ReadAnswer) → slice_get reads place ≡ Some read → ShownAt h r read →
    ShownThere h r reads place
shown_there h r reads place read at shown other is = subst (λ (a : ReadAnswer). ShownAt h r a) (same_answer read other (sym at ∙ is)) shown

-- each is, so all are
pub all_shown : (h : History) (r : ℕ) (reads : List ReadAnswer) → ((place : ℕ) → place < length reads → ShownThere h r reads place) → AreShownAt h r reads
all_shown h r [] each = tt
all_shown h r (a ∷ reads) each = (each 0 (omega arith) a refl, all_shown h r reads (λ place low. each (suc place) (omega arith)))

pub each_shown : (h : History) (r : ℕ) (reads : List ReadAnswer) (place : ℕ) (read : ReadAnswer) → AreShownAt h r reads → slice_get reads place ≡ Some read →
    ShownAt h r read
each_shown h r [] place read shown at = absurd (cc)
each_shown h r (a ∷ reads) zero read shown at = subst (λ (x : ReadAnswer). ShownAt h r x) (same_answer a read at) shown.0
each_shown h r (a ∷ reads) (suc place) read shown at = each_shown h r reads place read shown.1 at

-- the revision that reads of one state are of
pub of_its_revision : (begun : StartPoint) (hall : JournalState) (reads : List ReadAnswer) → AreOfOneState begun hall reads →
    (begun.revision ≤ revision_of begun.revision reads) × (revision_of begun.revision reads ≤ now hall.standing.history)
    × AreShownAt hall.standing.history (revision_of begun.revision reads) reads
of_its_revision begun hall [] one =
    let low = one.begins in let high = one.reached in (omega arith, omega (arith, low, high), tt)
of_its_revision begun hall (a ∷ reads) one =
    subst (λ (r : ℕ). (begun.revision ≤ r) × (r ≤ now hall.standing.history) × AreShownAt hall.standing.history r (a ∷ reads)) (sym one.shown.0.0)
    (one.begins, one.reached, one.shown)

-- what the tests say of it
pub before_the_run : (begun : StartPoint) (hall : JournalState) (reads : List ReadAnswer) (revision : ℕ) → revision ≡ revision_of begun.revision reads →
    revision < begun.revision → (false ≡ true) ↔ AreOfOneState begun hall reads
before_the_run begun hall reads revision is early = (
  (λ yes. absurd (cc)),
  (λ one. let low = (of_its_revision begun hall reads one).0 in absurd (omega (arith, low, is, early))),
)

pub above_the_counter : (begun : StartPoint) (hall : JournalState) (reads : List ReadAnswer) (revision counter : ℕ) → revision ≡ revision_of begun.revision reads →
    counter ≡ now hall.standing.history → counter < revision → (false ≡ true) ↔ AreOfOneState begun hall reads
above_the_counter begun hall reads revision counter is counts late = (
  (λ yes. absurd (cc)),
  (λ one. let high = (of_its_revision begun hall reads one).1 in absurd (omega (arith, high, is, counts, late))),
)

pub shown_at_its_revision : (begun : StartPoint) (hall : JournalState) (reads : List ReadAnswer) (revision counter : ℕ) (b : Bool) →
    revision ≡ revision_of begun.revision reads → counter ≡ now hall.standing.history → begun.revision ≤ revision → revision ≤ counter →
    (b ≡ true) ↔ AreShownAt hall.standing.history revision reads → (b ≡ true) ↔ AreOfOneState begun hall reads
shown_at_its_revision begun hall reads revision counter b is counts low high test = (
  (λ yes. record { revision = revision; begins = low; reached = omega (arith, counts, high); shown = test.0 yes }),
  (λ one. test.1 (subst (λ (r : ℕ). AreShownAt hall.standing.history r reads) (sym is) (of_its_revision begun hall reads one).2)),
)
