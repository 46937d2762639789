use Rattle.std.proofs.Common.{ℕ, List, string_bytes, subst}
use Rattle.std.specs.Io.KnownBytes.{Appends}
use Rattle.std.proofs.lemmas.Result.{err_from_is_err_and}
use Rattle.stm_txn.specs.Standing.{Standing}
use Rattle.stm_storing.specs.Past.{IsTextAt}
use Rattle.stm_storing.specs.Faults.{IsOfOpening}
use Rattle.stm_storing.specs.Storing.{IsToCome, IsCompacted, CanBeRead}
use Rattle.stm_storing.proofs.past.show_at.Goals as goal

pub returns-clause-shown : goal.returns-clause-shown
returns-clause-shown g c = record {
  world = c.in_ok-kept.kept.world;
  opens = c.in_ok-kept.ensures.opens.opens;
  readable = subst (CanBeRead c.args.revision) c.store.ensures.standing c.in_ok-text.ensures.readable;
  text = string_bytes c.in_ok-text.text;
  shows = subst (λ (s : Standing). IsTextAt s.history c.args.revision (string_bytes c.in_ok-text.text)) c.store.ensures.standing c.in_ok-text.ensures.text;
  printed = subst (λ (bytes : List ℕ). Appends (g.W.Sink.held c.args.out.now) (g.W.Sink.held c.print_text.new.out) bytes) c.as_str.ensures.value c.in_ok-print_text.ensures.printed;
}

pub returns-in_err-kept-clause-future : goal.returns-in_err-kept-clause-future
returns-in_err-kept-clause-future g c =
    let p = err_from_is_err_and c.from_residual.result c.from_residual.ensures.1 in
    rw (p.1, p.2) (λ is. absurd (subst IsOfOpening is c.in_err-kept.ensures.opening))

pub returns-in_err-text-clause-future : goal.returns-in_err-text-clause-future
returns-in_err-text-clause-future g c =
    let p = err_from_is_err_and c.from_residual-in_err-text.result c.from_residual-in_err-text.ensures.1 in
    rw (p.1, p.2) (λ is.
    (c.in_ok-kept.kept.world, c.in_ok-kept.ensures.opens.opens, subst (IsToCome c.args.revision) c.store.ensures.standing (c.in_err-text.ensures.is_to_come is)))

pub returns-in_err-kept-clause-compacted : goal.returns-in_err-kept-clause-compacted
returns-in_err-kept-clause-compacted g c =
    let p = err_from_is_err_and c.from_residual.result c.from_residual.ensures.1 in
    rw (p.1, p.2) (λ is. absurd (subst IsOfOpening is c.in_err-kept.ensures.opening))

pub returns-in_err-text-clause-compacted : goal.returns-in_err-text-clause-compacted
returns-in_err-text-clause-compacted g c =
    let p = err_from_is_err_and c.from_residual-in_err-text.result c.from_residual-in_err-text.ensures.1 in
    rw (p.1, p.2) (λ is.
    (c.in_ok-kept.kept.world, c.in_ok-kept.ensures.opens.opens, subst (IsCompacted c.args.revision) c.store.ensures.standing (c.in_err-text.ensures.is_compacted is)))
