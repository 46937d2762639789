-- The keys that a run writes and reads.
use Rattle.std.specs.Prelude.{◌≡◌, ◌<◌, length, bytes_eq, IsSome, All}
use Rattle.std.specs.List.{IsDistinct}
use Rattle.stm_program.specs.Syntax.{Block}
use Rattle.stm_steps.specs.Answer.{Lookup}
use Rattle.stm_steps.specs.Meaning.{run_over}
use Rattle.stm_history.specs.History.{key_of}
use Rattle.stm_meaning.specs.Writes.{latest_writes}
use Rattle.stm_steps.specs.declared.run.Run.{Run}
use Rattle.stm_steps.specs.declared.run.Answered.TheVariants.{Ended}

-- no key that a run writes or reads is empty, and none of its latest writes is of the empty key
abbrev pub KeysAreNotEmpty : Type 0
KeysAreNotEmpty = (look : Lookup) (program : Block) (run : Run) → run_over look program ≡ Ended run →
    All (λ w. 0 < length (key_of w)) run.writes × All (λ key. 0 < length key) run.reads × All (λ w. 0 < length (key_of w)) (latest_writes run.writes)

-- the look-up knows each key that a run reads, and no key stands twice among them
abbrev pub ReadsAreKnown : Type 0
ReadsAreKnown = (look : Lookup) (program : Block) (run : Run) → run_over look program ≡ Ended run →
    All (λ key. IsSome (look key)) run.reads × IsDistinct bytes_eq run.reads
