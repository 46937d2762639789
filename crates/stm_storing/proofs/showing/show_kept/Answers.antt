use Rattle.std.proofs.Common.{ℕ, [], subst}
use Rattle.stm_world.specs.World.{World}
use Rattle.stm_report.specs.FormatScript.{IsTextSince}
use Rattle.stm_storing.proofs.showing.show_kept.Goals as goal

pub returns-clause-shown : goal.returns-clause-shown
returns-clause-shown g c =
    let printed = c.in_ok-print_report.ensures.printed in
    let world : World = c.in_ok-kept.kept.world in record {
      world = world;
      opens = c.in_ok-kept.ensures.opens.opens;
      report = printed.0;
      reported = subst (λ (n : ℕ). IsTextSince n c.args.format [] world [] [] printed.0) c.revision_of-since.ensures printed.1;
      printed = printed.2;
    }
