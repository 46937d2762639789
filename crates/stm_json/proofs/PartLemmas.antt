-- Parts of arrays: what was read of them is spelled, and what is spelled is read.
use Rattle.std.proofs.Common.{◌≡◌, ℕ, ◌^◌, ◌<◌, ◌≤◌, List, leb, leb-true, le-leb, Option, Some, None, Ok, refl, ap, subst, ◌∙◌, arith}
use Rattle.serde_json.specs.Data.{Data, null, string, array, Items, item}
use Rattle.serde_json.specs.Find.{as_str, as_array}
use Rattle.serde_json.specs.View.{items_of}
use Rattle.stm_json.specs.Elements.{worded, number_up_to, from_least, number_in}
use Rattle.stm_json.specs.Outcome.{Outcome}
use Rattle.stm_json.specs.Parts.{spelled, SpellsNumberIn, on_text, text_of}
use Rattle.stm_json.proofs.ElementLemmas.{worded-is, number_up_to-is, number_up_to-reads}
use Rattle.stm_json.proofs.OutcomeLemmas.{bind_ok, guard_ok}

pub text_is : (d : Data) (s : List ℕ) → as_str d ≡ Some s → d ≡ string s
text_is (string t) s h = ap string cc
text_is null s h = cc
text_is _ s h = cc

pub list_is : (d : Data) (ds : Items) → as_array d ≡ Some ds → d ≡ array ds
list_is (array es) ds h = ap array cc
list_is null ds h = cc
list_is _ ds h = cc

on_text_is : {A : Type 0} (read : List ℕ → Outcome A) (d : Data) (o : Option (List ℕ)) (x : A) → as_str d ≡ o → on_text read o ≡ Ok x
    → (s : List ℕ) × (d ≡ string s) × (read s ≡ Ok x)
on_text_is read d None x e h = cc
on_text_is read d (Some s) x e h = (s, text_is d s e, h)

-- a text that was read as something
pub on_text-is : {A : Type 0} (read : List ℕ → Outcome A) (d : Data) (x : A) → on_text read (as_str d) ≡ Ok x
    → (s : List ℕ) × (d ≡ string s) × (read s ≡ Ok x)
on_text-is read d x h = on_text_is read d (as_str d) x refl h

pub text_of-is : (d : Data) (s : List ℕ) → text_of d ≡ Ok s → d ≡ string s
unfolding text_of
text_of-is d s h =
    let t = on_text-is (λ (u : List ℕ). Ok u) d s h in
    let e : t.0 ≡ s = cc t.2 in
    t.1 ∙ ap string e

pub number_is : (least most : ℕ) (d : Data) (n : ℕ) → number_in least most d ≡ Ok n → SpellsNumberIn least most d n
unfolding number_in
number_is least most d n h =
    let q = bind_ok (number_up_to most d) (from_least least) n h in
    let up = number_up_to-is most d q.0 q.1 in
    let from = guard_ok (leb least q.0) q.0 n _ q.2 in
    let low : least ≤ q.0 = leb-true least q.0 from.0 in
    subst (λ (m : ℕ). SpellsNumberIn least most d m) from.1 (up.0, low, up.1)

pub up_to_is : (most : ℕ) (d : Data) (n : ℕ) → number_up_to most d ≡ Ok n → SpellsNumberIn 0 most d n
up_to_is most d n h =
    let up = number_up_to-is most d n h in
    (up.0, omega arith, up.1)

-- an array of a word and its elements
pub word_and : (d : Data) (p : List ℕ × Items) (w : List ℕ) (parts : List Data) → worded d ≡ Some p → p.0 ≡ w → p.1 ≡ items_of parts → d ≡ spelled w parts
word_and d p w parts h e f = worded-is d p h ∙ ap (λ (s : List ℕ). array (item (string s) p.1)) e ∙ ap (λ (ds : Items). array (item (string w) ds)) f

pub text_reads : (d : Data) (s : List ℕ) → d ≡ string s → text_of d ≡ Ok s
unfolding text_of
text_reads d s is = rw is refl

pub number_reads : (least most : ℕ) (d : Data) (n : ℕ) → most < 2 ^ 63 → SpellsNumberIn least most d n → number_in least most d ≡ Ok n
unfolding number_in
number_reads least most d n small s =
    let up = number_up_to-reads most d n small s.0 s.2 in
    let from = le-leb least n s.1 in
    rw up (rw from refl)

pub up_to_reads : (most : ℕ) (d : Data) (n : ℕ) → most < 2 ^ 63 → SpellsNumberIn 0 most d n → number_up_to most d ≡ Ok n
up_to_reads most d n small s = number_up_to-reads most d n small s.0 s.2
