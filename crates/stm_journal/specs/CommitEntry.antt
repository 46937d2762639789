-- The entry of a commit, of what is kept of its attempt.
use Rattle.std.specs.Prelude.{ℕ}
use Rattle.stm_attempt.specs.ReadyRun.{ReadyRun}
use Rattle.stm_entries.specs.declared.entry.Entry.{Entry}
use Rattle.stm_entries.specs.declared.entry.Entry.TheVariants.{Program}
use Rattle.stm_entries.specs.Entered.{answers_kept}
use Rattle.stm_journal.specs.declared.commit_entry.Kept.{Kept}

-- what the entry of an attempt's commit keeps of it
abbrev pub kept_of : ReadyRun → Kept
kept_of ready = record {
  program = ready.program;
  level = ready.level;
  answers = answers_kept ready.level ready.answers;
  output = ready.output;
  trace = ready.trace;
}

-- the entry of a commit that keeps this, after which the store's revision is this
abbrev pub entry_of_kept : Kept → ℕ → Entry
entry_of_kept kept revision = Program kept.program kept.level kept.answers kept.output kept.trace revision
