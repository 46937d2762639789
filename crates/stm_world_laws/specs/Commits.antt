-- Entries that are commits of a program.
use Rattle.std.specs.Prelude.{◌≡◌, true}
use Rattle.stm_program.specs.Syntax.{Block}
use Rattle.stm_program.specs.Levels.{is_comparing}
use Rattle.stm_entries.specs.declared.entry.Entry.{Entry}
use Rattle.stm_entries.specs.declared.entry.Entry.TheVariants.{Program, Revoke, Expire}

-- a commit of a program with these statements, at a level that compares
abbrev pub IsCommitOf : Block → Entry → Type 0
IsCommitOf statements (Program program level answers output trace revision) = (program.statements ≡ statements) × (is_comparing level ≡ true)
IsCommitOf statements other = ⊥

-- the end of a lease, revoked or expired
abbrev pub IsEndOfLease : Entry → Type 0
IsEndOfLease (Revoke id) = Unit {0}
IsEndOfLease (Expire id) = Unit {0}
IsEndOfLease other = ⊥
