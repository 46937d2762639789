-- Writing statements one after the other, as a loop does.
use Rattle.std.proofs.Common.{◌≡◌, ℕ, zero, suc, ◌+◌, ◌-◌, ◌<◌, ◌≤◌, List, [], ◌∷◌, ◌++◌, length, take, drop, get_or, map, String, refl, sym, ap, ◌∙◌}
use Rattle.std.proofs.Common.{arith, add-one}
use Rattle.std.specs.Prelude.{string_bytes}
use Rattle.std.proofs.lemmas.List.{drop_all, map_push, take_rest}
use Rattle.std.proofs.Math.Seq.{drop-cons}
use Rattle.std.proofs.lemmas.Bool.Decides.{nat_tests}
use Rattle.serde_json.specs.Data.{Data, string, Items, no_items, item}
use Rattle.serde_json.specs.View.{view, items_of, items_view}
use Rattle.serde_json.specs.declared.value.Value.{Value}
use Rattle.stm_program.specs.Syntax.{Statement}
use Rattle.stm_program.specs.BlockView.{block_of}
use Rattle.stm_program.specs.Weight.{statement_weight, block_weight, block_weight-positive}
use Rattle.stm_program_json.specs.Writing.{items_after, written_statement, written_statements, written_keys}
use Rattle.stm_program.proofs.WeightLemmas.{statement_weight-positive}

pub items_after-none : (ds : List Data) → items_after ds no_items ≡ items_of ds
items_after-none [] = refl
items_after-none (d ∷ ds) = ap (item d) (items_after-none ds)

pub items_after-snoc : (ds : List Data) (d : Data) (es : Items) → items_after (ds ++ d ∷ []) es ≡ items_after ds (item d es)
items_after-snoc [] d es = refl
items_after-snoc (c ∷ ds) d es = ap (item c) (items_after-snoc ds d es)

pub goes_on : (vs ws : List Value) (ss : List Statement) (i : ℕ) (s : Statement) (v : Value) (total : Items) → i < length ss → s ≡ get_or ss i s
    → view v ≡ written_statement s → ws ≡ vs ++ v ∷ [] → items_after (map view vs) (written_statements (block_of (drop i ss))) ≡ total
    → items_after (map view ws) (written_statements (block_of (drop (i + 1) ss))) ≡ total
goes_on vs ws ss i s v total lt at w e so_far = grind (arith, nat_tests, map_push, items_after-snoc, drop-cons, add-one)

pub is_done : (vs : List Value) (ss : List Statement) (i : ℕ) (total : Items) → length ss ≤ i
    → items_after (map view vs) (written_statements (block_of (drop i ss))) ≡ total → items_view vs ≡ total
is_done vs ss i total h so_far =
    let e = drop_all i ss h in
    sym (items_after-none (map view vs)) ∙ sym (ap (λ (ts : List Statement). items_after (map view vs) (written_statements (block_of ts))) e) ∙ so_far

-- ---- keys, one after the other

pub texts_end : {A : Type 0} (vs : List Value) (keys : List (String A)) → length keys < 1
    → items_view vs ≡ items_after (map view vs) (written_keys (map string_bytes keys))
texts_end vs [] none = sym (items_after-none (map view vs))
texts_end vs (key ∷ keys) none = absurd (omega arith)

-- the first of some texts, and the others
first_text : {A : Type 0} (keys : List (String A)) (key : String A) → 1 ≤ length keys → key ≡ get_or keys 0 key
    → map string_bytes keys ≡ string_bytes key ∷ map string_bytes (take (length keys - 1) (drop 1 keys))
first_text [] key some is = absurd (omega arith)
first_text (k ∷ keys) key some is =
    ap (λ (l : String _). string_bytes l ∷ map string_bytes keys) (sym is)
    ∙ ap (λ (ks : List (String _)). string_bytes key ∷ map string_bytes ks) (sym (take_rest (k ∷ keys) 1))

pub texts_more : {A : Type 0} (vs ws : List Value) (v : Value) (keys : List (String A)) (key : String A) (text : List ℕ) (out : Items) → 1 ≤ length keys
    → key ≡ get_or keys 0 key → text ≡ string_bytes key → ws ≡ vs ++ v ∷ [] → view v ≡ string text
    → out ≡ items_after (map view ws) (written_keys (map string_bytes (take (length keys - 1) (drop 1 keys))))
    → out ≡ items_after (map view vs) (written_keys (map string_bytes keys))
texts_more vs ws v keys key text out some first reported pushed is others = grind (arith, nat_tests, first_text, map_push, items_after-snoc)

-- each statement weighs less than its block
pub item_weight : (ss : List Statement) (i : ℕ) (s : Statement) → i < length ss → s ≡ get_or ss i s → statement_weight s + 1 ≤ block_weight (block_of ss)
item_weight [] i s h e = absurd (omega arith)
item_weight (t ∷ ss) zero s h e = omega (arith, ap statement_weight e, block_weight-positive ss)
item_weight (t ∷ ss) (suc i) s h e = omega (arith, item_weight ss i s (omega arith) e, statement_weight-positive t)
