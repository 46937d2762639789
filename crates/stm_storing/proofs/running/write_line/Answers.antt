use Rattle.std.proofs.Common.{ℕ, List, ◌∙◌, subst}
use Rattle.std.specs.Io.KnownBytes.{Appends}
use Rattle.stm_storing.proofs.running.write_line.Goals as goal

pub returns-clause-printed : goal.returns-clause-printed
returns-clause-printed g c =
    subst (λ (bytes : List ℕ). Appends (g.W.Sink.held c.args.out.now) (g.W.Sink.held c.print_text.new.out) bytes) (c.as_str.ensures.value ∙ c.in_ok-line.ensures)
    c.in_ok-print_text.ensures.printed
