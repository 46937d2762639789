-- A table of the last write of each key, to which writes are added in turn.
use Rattle.std.proofs.Common.{◌≡◌, List, [], ◌∷◌, ◌++◌, ℕ, suc, ◌+◌, ◌<◌, Bool, true, false, cond, map, length, take, get_or, refl, sym, ◌∙◌, ap, subst}
use Rattle.std.proofs.Common.{arith, Bor}
use Rattle.std.specs.Prelude.{bytes_eq}
use Rattle.std.specs.Map.{values_of}
use Rattle.std.proofs.Math.Seq.{take-suc}
use Rattle.std.proofs.lemmas.Bool.Decides.{nat_tests}
use Rattle.indexmap.specs.IndexMap.{insert_entry}
use Rattle.stm_history.specs.declared.change.Change.{Change}
use Rattle.stm_history.specs.History.{key_of}
use Rattle.stm_program.specs.Writes.{latest_writes}
use Rattle.stm_program.proofs.WriteLemmas.{bytes_eq-same}
use Rattle.stm_program.proofs.LatestLemmas.{with_write, latest_writes-none, latest_writes-more}

abbrev pub Entry : Type 0
Entry = Bor (List ℕ) × Bor Change

abbrev pub same_key : Bor (List ℕ) → Bor (List ℕ) → Bool
same_key a b = bytes_eq a.now b.now

-- each entry stands under the key of its write
abbrev pub IsKeyed : List Entry → Type 0
IsKeyed [] = Unit {0}
IsKeyed (e ∷ es) = (e.0.now ≡ key_of e.1.now) × IsKeyed es

abbrev pub writes_in : List Entry → List Change
writes_in es = map (λ w. w.now) (values_of es)

-- the table has the latest of these writes
pub record HasLatest (es : List Entry) (ws : List Change) : Type 0 where
  pub keyed : IsKeyed es
  pub latest : writes_in es ≡ latest_writes ws

-- an inserted write takes the place of its key's, or goes last
writes-inserted : (es : List Entry) (k : Bor (List ℕ)) (v : Bor Change) → k.now ≡ key_of v.now → IsKeyed es →
    writes_in (insert_entry same_key es k v) ≡ with_write v.now (writes_in es)
writes-inserted [] k v is_key keyed = refl
writes-inserted (e ∷ es) k v is_key keyed = grind (arith, nat_tests, with_write, writes-inserted es k v is_key keyed.1)

-- and stands under its key
keyed-inserted : (es : List Entry) (k : Bor (List ℕ)) (v : Bor Change) → k.now ≡ key_of v.now → IsKeyed es → IsKeyed (insert_entry same_key es k v)
keyed-inserted [] k v is_key keyed = (is_key, tt)
keyed-inserted (e ∷ es) k v is_key keyed = by (same_key k e.0) refl (keyed-inserted es k v is_key keyed.1)
  where
    by : (b : Bool) → same_key k e.0 ≡ b → IsKeyed (insert_entry same_key es k v) → IsKeyed (cond b ((e.0, v) ∷ es) (e ∷ insert_entry same_key es k v))
    by true same rest = (sym (bytes_eq-same k.now e.0.now same) ∙ is_key, keyed.1)
    by false other rest = (keyed.0, rest)

pub has_none : (ws : List Change) (es : List Entry) → es ≡ [] → HasLatest es (take 0 ws)
has_none ws es none = subst (λ fs. HasLatest fs (take 0 ws)) (sym none) (record { keyed = tt; latest = sym latest_writes-none })

-- the next write is inserted
pub has_more : (ws : List Change) (i : ℕ) (w : Change) (k : Bor (List ℕ)) (v : Bor Change) (es fs : List Entry) → i < length ws → w ≡ get_or ws i w →
    v.now ≡ w → k.now ≡ key_of v.now → fs ≡ insert_entry same_key es k v → HasLatest es (take i ws) → HasLatest fs (take (i + 1) ws)
has_more ws i w k v es fs below at shows is_key inserted so_far =
    let next : suc i ≡ i + 1 = omega arith in
    let taken : take (i + 1) ws ≡ take i ws ++ v.now ∷ [] =
    ap (λ (n : ℕ). take n ws) (sym next) ∙ take-suc ws i w below ∙ ap (λ x. take i ws ++ x ∷ []) (sym at ∙ sym shows) in
    subst (λ gs. HasLatest gs (take (i + 1) ws)) (sym inserted) (record {
      keyed = keyed-inserted es k v is_key so_far.keyed;
      latest =
          writes-inserted es k v is_key so_far.keyed ∙ ap (with_write v.now) so_far.latest ∙ sym (latest_writes-more (take i ws) v.now)
          ∙ ap latest_writes (sym taken);
    })
