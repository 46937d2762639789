-- Where no compare of true answers fails, at a level that compares, each of them says the value that its key has now.
use Rattle.std.proofs.Common.{◌≡◌, List, [], ◌∷◌, Bool, true, false, cond, not, Option, None, Some, refl, ◌∙◌, ap}
use Rattle.std.specs.Prelude.{bytes_eq}
use Rattle.std.specs.List.{find, AllByRecursion}
use Rattle.std.proofs.lemmas.List.Elements.{recursion_from_All}
use Rattle.stm_history.specs.declared.key_state.ReadAnswer.{ReadAnswer}
use Rattle.stm_history.specs.History.{History, key_now, value_of}
use Rattle.stm_program.specs.declared.level.Level.{Level}
use Rattle.stm_program.specs.declared.level.Level.TheVariants.{SerializableSnapshot, Serializable, RepeatableReads, ReadCommitted}
use Rattle.stm_history.specs.declared.change.Change.{Change}
use Rattle.stm_program.proofs.WriteLemmas.{bytes_eq-self}
use Rattle.stm_meaning.specs.Answer.{Answer}
use Rattle.stm_program.specs.Levels.{is_comparing}
use Rattle.stm_compile.specs.Answers.{seen_of, said, AreTrue}
use Rattle.stm_compile.specs.Committed.{conflict_now}
use Rattle.stm_compile.proofs.AgreeLemmas.{true_reads_are_now}
use Rattle.stm_journal.specs.Verdicts.{has_other_value}
use Rattle.stm_hall.specs.Laws.{TrueReadsAreVouched}

-- each answer says what its key is now
abbrev SayNow : History → List ReadAnswer → Type 0
SayNow h reads = AllByRecursion (λ (a : ReadAnswer). said a ≡ seen_of (key_now h a.key)) reads

is_vouched : (h : History) (a : ReadAnswer) → said a ≡ seen_of (key_now h a.key) → has_other_value h a ≡ false
is_vouched h a same =
    ap not (ap (λ (x : Answer). bytes_eq x.value (value_of (key_now h a.key))) same ∙ bytes_eq-self (value_of (key_now h a.key)))

passed_by : (b : Bool) (a : ReadAnswer) (rest : Option ReadAnswer) → b ≡ false → rest ≡ None → cond b (Some a) rest ≡ None
passed_by b a rest is_not next = ap (λ c. cond c (Some a) rest) is_not ∙ next

all_vouched : (h : History) (reads : List ReadAnswer) → SayNow h reads → find (has_other_value h) reads ≡ None
all_vouched h [] say = refl
all_vouched h (a ∷ reads) say =
    passed_by (has_other_value h a) a (find (has_other_value h) reads) (is_vouched h a say.0) (all_vouched h reads say.1)

compared_vouched : (h : History) (level : Level) (reads : List ReadAnswer) (writes : List Change) → is_comparing level ≡ true → AreTrue h reads →
    conflict_now h level reads writes ≡ None → find (has_other_value h) reads ≡ None
compared_vouched h level reads writes compares t none =
    all_vouched h reads
    (recursion_from_All (λ (a : ReadAnswer). said a ≡ seen_of (key_now h a.key)) reads (true_reads_are_now h level reads writes compares t none))

pub true_reads_are_vouched : TrueReadsAreVouched
true_reads_are_vouched h SerializableSnapshot reads writes t none = compared_vouched h SerializableSnapshot reads writes refl t none
true_reads_are_vouched h Serializable reads writes t none = compared_vouched h Serializable reads writes refl t none
true_reads_are_vouched h RepeatableReads reads writes t none = compared_vouched h RepeatableReads reads writes refl t none
true_reads_are_vouched h ReadCommitted reads writes t none = refl
