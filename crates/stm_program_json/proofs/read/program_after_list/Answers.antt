use Rattle.stm_program.proofs.ListLemmas.{fits_behind, list_whole}
use Rattle.stm_program_json.proofs.KeyLists.{list_parts_of_keys}
use Rattle.stm_program_json.proofs.StatementSound.{program_statements}
use Rattle.stm_program_json.proofs.read.program_after_list.Goals as goal

pub with_list-requires : goal.with_list-requires
with_list-requires c =
    fits_behind _ _ (list_whole _ (list_parts_of_keys _ _ c.in_ok-keys.ensures)) (program_statements 1 _ _ c.in_ok-statements.ensures).fits
