-- What it means that an audit finds something broken, or nothing.
use Rattle.std.specs.Prelude.{◌≡◌, ◌≤◌, ℕ, true, false, List, IfSome, All}
use Rattle.stm_history.specs.History.{History, key_now, mod_of, key_of}
use Rattle.stm_program.specs.Levels.{is_comparing}
use Rattle.stm_history.specs.declared.change.Change.{Change}
use Rattle.stm_events.specs.declared.reply.CommittedRead.{CommittedRead}
use Rattle.stm_audit.specs.declared.commit.Commit.{Commit}
use Rattle.stm_audit.specs.declared.finding.Finding.{Finding}
use Rattle.stm_audit.specs.Anomalies.{compares_writes, first_read, found_in}
use Rattle.stm_audit.specs.Reads.{is_so}

-- A commit is what its level promises, on the history that is before it: each read says what was so, or may have been where that
-- is not known; at a level that compares the keys read, each of these is as it was read; and at one that compares the keys written, none of these was put above the
-- least revision that a read is of.
pub record IsKept (h : History) (known : ℕ) (t : Commit) : Type 0 where
  pub so : All (λ (a : CommittedRead). is_so h known a ≡ true) t.reads
  pub unchanged : is_comparing t.level ≡ true → All (λ (a : CommittedRead). a.mod_rev ≡ mod_of (key_now h a.key)) t.reads
  pub unwritten : compares_writes t.level ≡ true → All (λ (w : Change). mod_of (key_now h (key_of w)) ≤ first_read t.reads) t.writes

-- a commit of which nothing is found, or nothing that its level promises not to come, is what its level promises
abbrev pub KeptWhereNothingIsBroken : Type 0
KeptWhereNothingIsBroken =
    (h : History) (known : ℕ) (made : List Commit) (number : ℕ) (t : Commit)
    → IfSome (found_in h known made number t) (λ (f : Finding). f.is_broken ≡ false) → IsKept h known t

-- and of a commit that is what its level promises, nothing broken is found
abbrev pub NothingIsBrokenWhereKept : Type 0
NothingIsBrokenWhereKept =
    (h : History) (known : ℕ) (made : List Commit) (number : ℕ) (t : Commit)
    → IsKept h known t → IfSome (found_in h known made number t) (λ (f : Finding). f.is_broken ≡ false)
