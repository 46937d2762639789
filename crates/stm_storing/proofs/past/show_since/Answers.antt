use Rattle.std.proofs.Common.{◌≡◌, ◌≤◌, ℕ, List, string_bytes, ap, subst, ◌∙◌}
use Rattle.std.specs.Io.KnownBytes.{Appends}
use Rattle.std.proofs.lemmas.Result.{err_from_is_err_and}
use Rattle.stm_txn.specs.Standing.{Standing, kept}
use Rattle.stm_storing.specs.Past.{text_since}
use Rattle.stm_storing.specs.Faults.{IsOfOpening}
use Rattle.stm_storing.specs.Storing.{IsCompacted}
use Rattle.stm_storing.proofs.past.show_since.Goals as goal

pub returns-clause-shown : goal.returns-clause-shown
returns-clause-shown g c =
    let wanted = c.args.wanted.now in
    let from = c.args.from in
    let is : string_bytes c.in_ok-text.text ≡ text_since wanted (kept c.in_ok-kept.kept.world.standing).history from =
    c.in_ok-text.ensures.text ∙ ap (λ (s : Standing). text_since wanted s.history from) c.store.ensures.standing in record {
      world = c.in_ok-kept.kept.world;
      opens = c.in_ok-kept.ensures.opens.opens;
      above_floor = subst (λ (s : Standing). s.floor ≤ from) c.store.ensures.standing c.in_ok-text.ensures.above_floor;
      printed = subst (λ (bytes : List ℕ). Appends (g.W.Sink.held c.args.out.now) (g.W.Sink.held c.print_text.new.out) bytes) (c.as_str.ensures.value ∙ is) c.in_ok-print_text.ensures.printed;
    }

pub returns-in_err-kept-clause-compacted : goal.returns-in_err-kept-clause-compacted
returns-in_err-kept-clause-compacted g c =
    let p = err_from_is_err_and c.from_residual.result c.from_residual.ensures.1 in
    rw (p.1, p.2) (λ is. absurd (subst IsOfOpening is c.in_err-kept.ensures.opening))

pub returns-in_err-text-clause-compacted : goal.returns-in_err-text-clause-compacted
returns-in_err-text-clause-compacted g c =
    let p = err_from_is_err_and c.from_residual-in_err-text.result c.from_residual-in_err-text.ensures.1 in
    rw (p.1, p.2) (λ is.
    (c.in_ok-kept.kept.world, c.in_ok-kept.ensures.opens.opens, subst (IsCompacted c.args.from) c.store.ensures.standing (c.in_err-text.ensures.is_compacted is)))
