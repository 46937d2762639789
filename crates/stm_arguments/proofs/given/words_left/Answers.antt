use Rattle.std.proofs.Common.{◌≡◌, ◌∙◌, ◌+◌, ◌++◌, ◌∷◌, ℕ, suc, List, [], take, sym, subst, append_assoc, append-nil, arith}
use Rattle.std.specs.Vec.Iter.{into_iter_items, into_iter_len}
use Rattle.stm_arguments.proofs.given.words_left.Goals as goal

taken_next : {A : Type 0} (before rest all : List A) (x : A) (left more : ℕ) → left ≡ suc more → before ++ take left (x ∷ rest) ≡ all
    → (before ++ x ∷ []) ++ take more rest ≡ all
taken_next before rest all x left more one was =
    append_assoc before (x ∷ []) (take more rest) ∙ subst (λ (n : ℕ). before ++ take n (x ∷ rest) ≡ all) one was

all_taken : {A : Type 0} (before rest all : List A) (left : ℕ) → left ≡ 0 → before ++ take left rest ≡ all → before ≡ all
all_taken before rest all left none was = sym (append-nil before) ∙ subst (λ (n : ℕ). before ++ take n rest ≡ all) none was

pub loop-word-preserved : goal.loop-word-preserved
loop-word-preserved c =
    let at = c.loop-word in
    let rest = into_iter_items c.next.new.self in
    let more = into_iter_len c.next.new.self in
    let left = into_iter_len at.word-iterator in
    let items : into_iter_items at.word-iterator ≡ c.in-Some.word ∷ rest = c.in-Some.ensures.steps.0 in
    let fewer : more + 1 ≡ left = c.in-Some.ensures.steps.1 in
    let one : left ≡ suc more = omega arith in
    let was = subst (λ held. at.words.items ++ take left held ≡ take (into_iter_len c.args.arguments) (into_iter_items c.args.arguments)) items at.invariant.all in
    record {
      can_next = tt;
      ends = tt;
      all = subst (λ words. words ++ take more rest ≡ take (into_iter_len c.args.arguments) (into_iter_items c.args.arguments)) (sym c.in_ok-push.ensures.items)
          (taken_next at.words.items rest _ c.in-Some.word left more one was);
    }

pub returns : goal.returns
returns c = all_taken c.loop-word.words.items _ _ _ c.in-None.ensures.steps.0 c.loop-word.invariant.all
