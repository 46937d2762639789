use Rattle.stm_formats.proofs.FormatFronts.{front_from}
use Rattle.stm_formats.proofs.format_pieces.end_of_front.Goals as goal

pub loop-end-init : goal.loop-end-init
loop-end-init c = record { within = c.requires; front = front_from c.args.kept c.args.bytes.now c.requires }
