-- A trace, commit after commit, as a loop goes through it.
use Rattle.std.proofs.Common.{◌≡◌, ℕ, suc, ◌+◌, ◌<◌, Bool, true, false, cond, nat_lt, List, [], ◌∷◌, ◌++◌, length, drop, get_or, Option, Some, None}
use Rattle.std.proofs.Common.{refl, sym, ◌∙◌, arith, append_assoc, map, option_map, ◌≤◌, slice_get, IfSome}
use Rattle.std.specs.Prelude.{is_some}
use Rattle.std.proofs.lemmas.List.{append-nil}
use Rattle.std.proofs.lemmas.Grind.{common_steps}
use Rattle.std.proofs.lemmas.Option.{slice_get-map, slice_get-get_or, slice_get_past}
use Rattle.std.proofs.Math.Seq.{drop-cons}
use Rattle.stm_history.specs.History.{now}
use Rattle.stm_txn.specs.declared.restored.Checkpoint.{Checkpoint}
use Rattle.stm_txn.specs.Restored.{restored, can_restore}
use Rattle.stm_txn.specs.Standing.{Standing}
use Rattle.stm_txn.specs.Store.{StoreView}
use Rattle.stm_audit.specs.declared.auditing.Audited.{Audited}
use Rattle.stm_audit.specs.declared.commit.Commit.{Commit}
use Rattle.stm_audit.specs.declared.finding.Finding.{Finding}
use Rattle.stm_audit.specs.Anomalies.{found_in}
use Rattle.stm_audit.specs.Audit.{after, revision_of, left_by, is_reached, with_found, with_maker, more, audit_from, restoring}

-- ---- the store before a trace

restored_by : (o : Option StoreView) (s : Standing) (b : Bool) → IfSome o (λ v. v.standing ≡ s) → is_some o ≡ b
    → option_map (λ (v : StoreView). v.standing) o ≡ cond b (Some s) None
restored_by None s b standing some = cc
restored_by (Some v) s b standing some = cc

pub restored_as : (o : Option StoreView) (c : Checkpoint) → IfSome o (λ v. v.standing ≡ restored c) → is_some o ≡ can_restore c
    → option_map (λ (v : StoreView). v.standing) o ≡ restoring c
restored_as o c standing some = restored_by o (restored c) (can_restore c) standing some

-- ---- what is found

-- what was found so far, and then what the rest comes to
abbrev pub onto : List Finding → Audited → Audited
onto findings a = record { findings = findings ++ a.findings; off = a.off }

regroup : (findings : List Finding) (found : Option Finding) (a : Audited) → onto findings (more found a) ≡ onto (findings ++ with_found found []) a
regroup findings None a = rw append-nil refl
regroup findings (Some f) a = simp append_assoc

pub left_at : {X : Type 0} (xs : List X) (i : ℕ) (x : X) → i < length xs → x ≡ get_or xs i x → drop i xs ≡ x ∷ drop (i + 1) xs
left_at xs i x within is = drop-cons xs i x within ∙ grind (arith, common_steps)

-- ---- the commits that changed something

pub mapped_at : {A B : Type 0} (f : A → B) (xs : List A) (i n : ℕ) (x : A) → i < length xs → x ≡ get_or xs i x → i ≡ n → Some (f x) ≡ slice_get (map f xs) n
mapped_at f xs i n x within is same = grind (arith, slice_get-get_or xs i x within, slice_get-map f xs i)

pub nothing_at : {A B : Type 0} (f : A → B) (xs : List A) (i n : ℕ) → length xs ≤ i → i ≡ n → None ≡ slice_get (map f xs) n
nothing_at f xs i n past same = grind (arith, slice_get_past xs i past, slice_get-map f xs i)

-- ---- commits

-- one commit more
pub goes_on : (known : ℕ) (s : Standing) (made : List Commit) (findings : List Finding) (commits : List Commit) (i : ℕ) (t : Commit) (total : Audited)
    → i < length commits → t ≡ get_or commits i t → is_reached t.revision (revision_of (after s t.writes)) ≡ true
    → onto findings (audit_from known s made (i + 1) (drop i commits)) ≡ total
    → onto (findings ++ with_found (found_in s.history known made (i + 1) t) [])
    (audit_from known (left_by s (after s t.writes)) (with_maker (nat_lt (now s.history) t.revision) made t) (i + 1 + 1) (drop (i + 1) commits)) ≡ total
goes_on known s made findings commits i t total within at came so_far =
    let next : i + 1 + 1 ≡ suc (i + 1) = omega arith in
    rw next (sym (regroup findings (found_in s.history known made (i + 1) t) _) ∙ rw (left_at commits i t within at, came) at so_far)

-- the first commit whose revision is another one
pub stops : (known : ℕ) (s : Standing) (made : List Commit) (findings : List Finding) (commits : List Commit) (i : ℕ) (t : Commit) (total : Audited)
    → i < length commits → t ≡ get_or commits i t → is_reached t.revision (revision_of (after s t.writes)) ≡ false
    → onto findings (audit_from known s made (i + 1) (drop i commits)) ≡ total
    → record { findings = findings; off = Some (i + 1) } ≡ total
stops known s made findings commits i t total within at came so_far = rw (left_at commits i t within at, came, append-nil) at so_far

-- the end of the trace
pub ends : (known : ℕ) (s : Standing) (made : List Commit) (findings : List Finding) (commits : List Commit) (i : ℕ) (total : Audited) → drop i commits ≡ []
    → onto findings (audit_from known s made (i + 1) (drop i commits)) ≡ total → record { findings = findings; off = None } ≡ total
ends known s made findings commits i total none so_far = rw (none, append-nil) at so_far
