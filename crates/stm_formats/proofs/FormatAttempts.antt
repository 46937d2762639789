-- What an attempt had read, event by event from the last one back.
use Rattle.std.proofs.Common.{◌≡◌, ℕ, suc, ◌≤◌, nat_lt, Bool, true, false, cond, List, [], ◌∷◌, ◌++◌, length, drop, codes, Option, Some, Result, slice_get, refl, sym, ap, ◌∙◌, append_assoc, arith}
use Rattle.std.proofs.lemmas.Bool.Decides.{nat_tests}
use Rattle.stm_history.specs.History.{History}
use Rattle.stm_events.specs.declared.reply.Reply.{Reply}
use Rattle.stm_events.specs.declared.refusal.Denied.{Denied}
use Rattle.stm_formats.specs.declared.format_keys.Cuts.{Cuts}
use Rattle.stm_formats.specs.FormatPieces.{joined}
use Rattle.stm_formats.specs.FormatEnds.{begins, own_read, reads_to, attempt_reads, noted}

module _ (cuts : Cuts) (h : History) (runner left before : ℕ) (replies : List (Result Reply Denied)) (reply : Result Reply Denied) (step : left ≡ suc before)
    (is : slice_get replies before ≡ Some reply) (words total : List ℕ) where
  at : (b : Bool) → begins runner reply ≡ b
      → attempt_reads cuts h runner replies left ≡ cond b [] (attempt_reads cuts h runner replies before ++ own_read cuts h runner left reply)
  at b begun =
      ap (attempt_reads cuts h runner replies) step
      ∙ ap (λ (it : Option (Result Reply Denied)). reads_to cuts h runner (suc before) it (attempt_reads cuts h runner replies before)) is
      ∙ ap (λ (yes : Bool). cond yes [] (attempt_reads cuts h runner replies before ++ own_read cuts h runner (suc before) reply)) begun
      ∙ ap (λ (n : ℕ). cond b [] (attempt_reads cuts h runner replies before ++ own_read cuts h runner n reply)) (sym step)

  so : (b : Bool) → begins runner reply ≡ b → attempt_reads cuts h runner replies left ++ words ≡ total
      → cond b [] (attempt_reads cuts h runner replies before ++ own_read cuts h runner left reply) ++ words ≡ total
  so b begun so_far = sym (ap (λ (it : List ℕ). it ++ words) (at b begun)) ∙ so_far

  -- the attempt begins
  pub stopped : begins runner reply ≡ true → attempt_reads cuts h runner replies left ++ words ≡ total → words ≡ total
  stopped begun so_far = so true begun so_far

  -- what was read at one more event
  pub read_before : begins runner reply ≡ false → attempt_reads cuts h runner replies left ++ words ≡ total
      → attempt_reads cuts h runner replies before ++ (own_read cuts h runner left reply ++ words) ≡ total
  read_before begun so_far =
      sym (append_assoc (attempt_reads cuts h runner replies before) (own_read cuts h runner left reply) words) ∙ so false begun so_far

-- a note of what was read, where that is more than the comma before it
some_by : (b : Bool) (note : List (List ℕ)) → b ≡ false → cond b [] note ≡ note
some_by false note is = refl
some_by true note is = cc

at_least : (n : ℕ) → 2 ≤ n → nat_lt n 2 ≡ false
at_least n enough = grind (arith, nat_tests)

pub some_read : (words reads : List ℕ) → 2 ≤ length reads → noted words reads ≡ joined (words ∷ codes ": it had read " ∷ drop 2 reads ∷ []) ∷ []
some_read words reads enough =
    some_by (nat_lt (length reads) 2) (joined (words ∷ codes ": it had read " ∷ drop 2 reads ∷ []) ∷ []) (at_least (length reads) enough)
