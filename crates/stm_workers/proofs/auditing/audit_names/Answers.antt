use Rattle.std.proofs.Common.{◌<◌, ℕ, List, length, Option, IfSome, IfNone, subst, sym}
use Rattle.stm_entries.specs.declared.entry.Entry.{Entry}
use Rattle.stm_workers.specs.Marks.{NamesWithin, IsNewAt}
use Rattle.stm_workers.proofs.AuditLemmas.{both_stand, repeated_falls, names_within}
use Rattle.stm_workers.proofs.auditing.audit_names.Goals as goal

-- the entries that the ends name are the hall's
pub find_repeated-requires : goal.find_repeated-requires
find_repeated-requires c =
    subst (λ (es : List Entry). NamesWithin c.args.ends.now (length es)) (sym c.entries.ensures.entries)
    (names_within c.args.begun c.args.hall.now c.args.jobs.now c.args.ends.now c.requires.many c.requires.borne)

pub returns-in-None-clause-clear : goal.returns-in-None-clause-clear
returns-in-None-clause-clear c =
    both_stand c.args.begun c.args.hall.now c.args.jobs.now c.args.ends.now c.requires.borne
    (subst (λ (o : Option ℕ). IfNone o ((place : ℕ) → IsNewAt c.args.ends.now place)) c.in-None.is c.in_ok-find_repeated.ensures.clear)

pub returns-in-Some-clause-fault : goal.returns-in-Some-clause-fault
returns-in-Some-clause-fault c =
    let reported = subst (λ (o : Option ℕ). IfSome o (λ place. (place < length c.args.ends.now) × (IsNewAt c.args.ends.now place → ⊥))) c.in-Some.is
    c.in_ok-find_repeated.ensures.fault in (
      subst (λ (n : ℕ). c.in-Some.place < n) c.requires.many reported.0,
      repeated_falls c.args.begun c.args.hall.now c.args.jobs.now c.args.ends.now c.in-Some.place c.requires.many reported.0 reported.1,
    )
