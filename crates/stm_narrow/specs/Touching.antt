-- Programs that keep to some keys and leases: they look up, list and write no other keys, and put them on no other leases.
use Rattle.std.specs.Prelude.{◌≡◌, ℕ, Bool, true, ◌&&◌, List}
use Rattle.std.specs.List.{AllByRecursion, list_all}
use Rattle.stm_history.specs.declared.change.Change.{Change}
use Rattle.stm_history.specs.declared.change.Change.TheVariants.{Put, Del}
use Rattle.stm_program.specs.Syntax.{ProgramTree}
use Rattle.stm_program.specs.Writes.{latest_writes}
use Rattle.stm_named_keys.specs.declared.names.Name.{Name}
use Rattle.stm_named_keys.specs.declared.written.Written.{Written}
use Rattle.stm_named_keys.specs.Named.{looked_up}
use Rattle.stm_named_keys.specs.Written.{written}
use Rattle.stm_steps.specs.declared.trace_item.TraceItem.{TraceItem}
use Rattle.stm_steps.specs.declared.run.Run.{Run}
use Rattle.stm_steps.specs.declared.run.Answered.TheVariants.{Ended, Wants}
use Rattle.stm_meaning.specs.Answer.{Lookup}
use Rattle.stm_meaning.specs.Laws.{KnowsEachKey}
use Rattle.stm_meaning.specs.Meaning.{run_over}

-- ---- the tests

-- the spelling of a key says which one it is, and that is touched
abbrev pub is_touched : (List ℕ → Bool) → Name → Bool
is_touched touched name = name.is_whole && touched name.text

-- and so is the lease that it is put on
abbrev pub is_written : (List ℕ → Bool) → (ℕ → Bool) → Written → Bool
is_written touched leased x = is_touched touched x.key && leased x.lease

-- ---- what a program does

abbrev pub IsTouched : (List ℕ → Bool) → List ℕ → Type 0
IsTouched touched key = touched key ≡ true

-- a write is of a touched key, and a put is on a lease that passes
abbrev pub WritesWithin : (List ℕ → Bool) → (ℕ → Bool) → Change → Type 0
WritesWithin touched leased (Put key value lease) = IsTouched touched key × (leased lease ≡ true)
WritesWithin touched leased (Del key) = IsTouched touched key

-- Whatever it is answered, a program wants and writes touched keys alone, and so is its list.
pub record KeepsTo (touched : List ℕ → Bool) (leased : ℕ → Bool) (program : ProgramTree) : Type 0 where
  pub wanted : (look : Lookup) (key : List ℕ) (trace : List TraceItem) → run_over look program.statements ≡ Wants key trace → IsTouched touched key
  pub written : (look : Lookup) (run : Run) → run_over look program.statements ≡ Ended run
      → AllByRecursion (WritesWithin touched leased) (latest_writes run.writes)
  pub listed : AllByRecursion (IsTouched touched) program.prefetch

-- ---- laws

-- A program whose spelling names touched keys and such leases alone keeps to them.
abbrev pub NamedKeysAreKept : Type 0
NamedKeysAreKept =
    (touched : List ℕ → Bool) (leased : ℕ → Bool) (program : ProgramTree) → list_all (is_touched touched) (looked_up program) ≡ true
    → list_all (is_written touched leased) (written program) ≡ true → KeepsTo touched leased program

-- two look-ups say the same of the touched keys
abbrev pub SayTheSame : (List ℕ → Bool) → Lookup → Lookup → Type 0
SayTheSame touched one other = (key : List ℕ) → IsTouched touched key → one key ≡ other key

-- Over two look-ups that know every key and say the same of those that it keeps to, a program runs the same.
abbrev pub SameRuns : Type 0
SameRuns =
    (touched : List ℕ → Bool) (leased : ℕ → Bool) (program : ProgramTree) → KeepsTo touched leased program → (one other : Lookup)
    → KnowsEachKey one → SayTheSame touched one other → run_over one program.statements ≡ run_over other program.statements
