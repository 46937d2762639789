use Rattle.std.proofs.Common.{◌≡◌, ℕ, ◌<◌, length, get_or, false}
use Rattle.stm_workers.specs.Marks.{IsNewAt, is_named_before}
use Rattle.stm_workers.proofs.auditing.find_repeated.Given as goal

-- the entries that the ends before name are marked, and each was named once
abbrev pub invariant-loop-place : goal.invariant-loop-place
invariant-loop-place l = record {
  many : length l.marks.items ≡ l.entries;
  marked : (index : ℕ) → index < l.entries → get_or l.marks.items index false ≡ is_named_before index l.place l.ends;
  new : (p : ℕ) → p < l.place → IsNewAt l.ends p;
}
