-- Reading items one after the other, as a loop does, at turn i of n.
use Rattle.std.proofs.Common.{◌≡◌, ℕ, Bool, suc, ◌-◌, ◌+◌, ◌<◌, ◌≤◌, List, Some, None, Ok, Err, refl, sym, ◌∙◌, arith}
use Rattle.stm_tokens.specs.declared.token.Token.{Token}
use Rattle.stm_tokens.specs.declared.token.Symbol.TheVariants.{Comma}
use Rattle.stm_terms.specs.declared.constants.Item.{Item}
use Rattle.stm_terms.specs.declared.items.Items.{Items}
use Rattle.stm_terms.specs.declared.faults.SourceError.{SourceError}
use Rattle.stm_terms.specs.declared.faults.SourceError.TheVariants.{OutOfMemory, Bad}
use Rattle.stm_terms.specs.declared.scope.Scope.{Scope}
use Rattle.stm_terms.specs.Cursor.{unexpected, after_symbol}
use Rattle.stm_terms.specs.Items.{items_from, more_items}
use Rattle.stm_terms.specs.Outcome.{Read, ReturnsFault}

pub items_fault : (e : SourceError) (scope : Scope) (lists : Bool) (n i : ℕ) (before : Items) (tokens : List Token) (total : Read (List Item)) → i < n
    → ReturnsFault e (more_items scope lists before tokens) → items_from scope lists (n - i) before tokens ≡ total → ReturnsFault e total
unfolding items_from
items_fault OutOfMemory scope lists n i before tokens total less is so_far = tt
items_fault (Bad f) scope lists n i before tokens total less is so_far =
    let k : n - i ≡ suc (n - (i + 1)) = omega arith in
    let one : items_from scope lists (n - i) before tokens ≡ Err f = rw (k, is) refl in
    sym so_far ∙ one

pub items_more : (scope : Scope) (lists : Bool) (n i : ℕ) (before found : Items) (tokens behind next : List Token) (total : Read (List Item)) → i < n
    → more_items scope lists before tokens ≡ Ok (found, behind) → after_symbol Comma behind ≡ Some next
    → items_from scope lists (n - i) before tokens ≡ total → items_from scope lists (n - (i + 1)) found next ≡ total
unfolding items_from
items_more scope lists n i before found tokens behind next total less is follows so_far =
    let k : n - i ≡ suc (n - (i + 1)) = omega arith in
    let one : items_from scope lists (n - i) before tokens ≡ items_from scope lists (n - (i + 1)) found next = rw (k, is, follows) refl in
    sym one ∙ so_far

pub items_over : (e : SourceError) (scope : Scope) (lists : Bool) (n i : ℕ) (before : Items) (tokens : List Token) (total : Read (List Item)) → n ≤ i
    → e ≡ Bad (unexpected tokens) → items_from scope lists (n - i) before tokens ≡ total → ReturnsFault e total
unfolding items_from
items_over e scope lists n i before tokens total over is so_far =
    let k : n - i ≡ 0 = omega arith in
    let one : items_from scope lists (n - i) before tokens ≡ Err (unexpected tokens) = rw k refl in
    rw is (sym so_far ∙ one)

pub items_last : (scope : Scope) (lists : Bool) (n i : ℕ) (before found : Items) (tokens behind : List Token) (total : Read (List Item)) → i < n
    → more_items scope lists before tokens ≡ Ok (found, behind) → after_symbol Comma behind ≡ None
    → items_from scope lists (n - i) before tokens ≡ total → total ≡ Ok (found.items, behind)
unfolding items_from
items_last scope lists n i before found tokens behind total less is ends so_far =
    let k : n - i ≡ suc (n - (i + 1)) = omega arith in
    let one : items_from scope lists (n - i) before tokens ≡ Ok (found.items, behind) = rw (k, is, ends) refl in
    sym so_far ∙ one
