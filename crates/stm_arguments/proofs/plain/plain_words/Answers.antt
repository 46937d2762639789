use Rattle.std.proofs.Common.{◌≡◌, ◌∙◌, ◌∷◌, fold, length, map, string_bytes, sym, ap, arith}
use Rattle.std.specs.Vec.Iter.{into_iter_items}
use Rattle.std.proofs.lemmas.List.{nil_from_length}
use Rattle.stm_arguments.specs.Wording.{seen, taken}
use Rattle.stm_arguments.proofs.plain.plain_words.Goals as goal

pub loop-word-preserved : goal.loop-word-preserved
loop-word-preserved c =
    let at = c.loop-word in
    let rest = into_iter_items c.next.new.self in
    let items : into_iter_items at.word-iterator ≡ c.in-Some.word ∷ rest = c.in-Some.ensures.steps.0 in
    let gone = c.in-Some.ensures.steps.1 in
    let short = ap length items in
    record {
      can_next = tt;
      ends = tt;
      counted = let was = at.invariant.counted in omega arith;
      read = ap (λ s. fold taken s (map string_bytes rest)) c.in_ok-take.ensures
          ∙ (sym (ap (λ words. fold taken (seen at.read) (map string_bytes words)) items) ∙ at.invariant.read);
    }

pub returns : goal.returns
returns c =
    let at = c.loop-word in
    let none = nil_from_length (into_iter_items at.word-iterator) (sym at.invariant.counted ∙ c.in-None.ensures.steps.0) in
    sym (ap (λ words. fold taken (seen at.read) (map string_bytes words)) none) ∙ at.invariant.read
