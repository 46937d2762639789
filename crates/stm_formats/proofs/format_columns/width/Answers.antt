use Rattle.std.proofs.Common.{arith}
use Rattle.stm_formats.proofs.FormatWidths.{from_least}
use Rattle.stm_formats.proofs.format_columns.width.Goals as goal

pub loop-row-init : goal.loop-row-init
loop-row-init c = record {
  all = from_least c.args.limit c.args.least c.args.number c.args.rows.now;
  least = omega arith;
  most = omega (arith, c.requires.1);
}
