use Rattle.std.proofs.Common.{◌≡◌, ℕ, List, sym, ap, ◌∙◌, subst}
use Rattle.std.specs.FinMap as finmap
use Rattle.std.specs.Ordering.{nat_cmp}
use Rattle.std.specs.Cmp.Lexicographic.{slice_cmp}
use Rattle.stm_history.specs.History.{key_now}
use Rattle.stm_exploring.proofs.SmallWorlds.{SoFar, one_so}
use Rattle.stm_exploring.proofs.narrowing.have_same_keys.Goals as goal

pub loop-key-preserved : goal.loop-key-preserved
loop-key-preserved c =
    let one = c.args.one.now.history in
    let other = c.args.other.now.history in
    let same : List ℕ → Type 0 = λ key. key_now one key ≡ key_now other key in
    let is : key_now one c.in-Some.key.now ≡ key_now other c.in-Some.key.now =
    ap (key_now one) (sym c.as_str.ensures) ∙ sym c.get.ensures.value ∙ c.is_same.ensures c.if-not-is_same.false ∙ c.get-in-loop-key.ensures.value
    ∙ ap (key_now other) c.as_str-in-loop-key.ensures in
    one_so (slice_cmp nat_cmp) (finmap.slice_cmp-IsAntisymmetric finmap.nat_cmp-IsAntisymmetric) same c.args.keys.now.keys c.next.new.self c.in-Some.key.now is
    (subst (SoFar (slice_cmp nat_cmp) same c.args.keys.now.keys) c.in-Some.ensures.steps c.loop-key.invariant)
