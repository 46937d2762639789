use Rattle.std.proofs.Common.{◌≡◌, ℕ, ◌-◌, ◌<◌, true, length, drop, nat_lt, ap, sym, refl, ◌∙◌, arith, rules}
use Rattle.std.proofs.lemmas.Result.{IfOk-weaker}
use Rattle.stm_leaving.specs.PartsView.{sources_of}
use Rattle.stm_leaving.specs.CopiesView.{copies_of}
use Rattle.stm_leaving.specs.declared.follow.Follow.{Follow}
use Rattle.stm_leaving.specs.Leaving.{goes_on, keeps_to}
use Rattle.stm_leaving.specs.Closed.{closed, closed_one, closed_copies, with_next, copy_follow, first_abort, around, behind_last}
use Rattle.stm_leaving.proofs.ListLemmas.{closed_end, closed_more, copies_end, copies_more, list_kept}
use Rattle.stm_leaving.proofs.closing.+closed.Goals as goal

pub closed_copies-loop-done-init : goal.closed_copies-loop-done-init
closed_copies-loop-done-init t c =
    let cs = c.deref-all.result.now.items in
    let begun : c.of-more.result ≡ c.args.after.now = search rules in
    let none : length cs - 0 ≡ length cs = omega arith in
    begun ∙ copies_end cs c.args.after.now ∙ ap (λ (n : ℕ). closed_copies (copies_of (drop n cs)) c.args.after.now) (sym none)

pub closed_copies-loop-done-preserved : goal.closed_copies-loop-done-preserved
closed_copies-loop-done-preserved t c =
    let all = c.deref-all.result.now in
    let less : c.loop-done.done < length all.items = omega (arith, c.loop-done-test.true, c.len-done-end.ensures, all.ok.0) in
    let at : c.len.result - 1 - c.loop-done.done ≡ length all.items - 1 - c.loop-done.done = omega (arith, c.len.ensures, all.ok.0) in
    copies_more all.items c.loop-done.done (c.len.result - 1 - c.loop-done.done) c.index.result.now c.args.after.now c.loop-done.more c.in_ok-more.more less at c.index.ensures
    c.loop-done.invariant c.in_ok-more.ensures

pub closed_copy-returns-then-keeps_to : goal.closed_copy-returns-then-keeps_to
closed_copy-returns-then-keeps_to t c =
    let kept : keeps_to goes_on c.args.copy.now ≡ true = search rules in
    IfOk-weaker c.closed_list.result _ _
    (λ b e. e ∙ list_kept c.args.copy.now (with_next c.in_ok-nothing.nothing c.args.more) (copy_follow c.args.more c.args.after.now) kept refl) c.closed_list.ensures

pub closed_list-loop-done-init : goal.closed_list-loop-done-init
closed_list-loop-done-init t c =
    let all = c.deref-all.result.now in
    let xs = all.items in
    let k = with_next c.args.follow.now c.args.behind in
    let ends : c.first_abort-ends.result ≡ first_abort xs = c.first_abort-ends.ensures ∙ ap first_abort c.deref.ensures.value in
    let size : c.len.result ≡ length xs = omega (arith, c.len.ensures, all.ok.0) in
    let is : c.in_ok-more.more ≡ behind_last (nat_lt (first_abort xs) (length xs)) c.args.behind =
    c.in_ok-more.ensures ∙ ap (λ (n : ℕ). behind_last (nat_lt n c.len.result) c.args.behind) ends
    ∙ ap (λ (n : ℕ). behind_last (nat_lt (first_abort xs) n) c.args.behind) size in
    let none : length xs - 0 ≡ length xs = omega arith in
    closed_end xs k c.in_ok-more.more is ∙ ap (λ (n : ℕ). closed (sources_of (drop n xs)) (around (first_abort xs) n k)) (sym none)

pub closed_list-loop-done-preserved : goal.closed_list-loop-done-preserved
closed_list-loop-done-preserved t c =
    let all = c.deref-all.result.now in
    let xs = all.items in
    let place = c.len-in-loop-done.result - 1 - c.loop-done.done in
    let ends : c.first_abort-ends.result ≡ first_abort xs = c.first_abort-ends.ensures ∙ ap first_abort c.deref.ensures.value in
    let less : c.loop-done.done < length xs = omega (arith, c.loop-done-test.true, c.len-done-end.ensures, all.ok.0) in
    let at : place ≡ length xs - 1 - c.loop-done.done = omega (arith, c.len-in-loop-done.ensures, all.ok.0) in
    let follows : c.around.result.now ≡ around (first_abort xs) place c.args.follow.now =
    c.around.ensures ∙ ap (λ (n : ℕ). around n place c.args.follow.now) ends in
    closed_more xs c.loop-done.done place c.index.result.now c.args.follow.now c.args.behind c.loop-done.more c.in_ok-more-2.more less at c.index.ensures
    c.loop-done.invariant
    (c.in_ok-more-2.ensures ∙ ap (λ (f : Follow). closed_one c.index.result.now (with_next f c.loop-done.more)) follows)
