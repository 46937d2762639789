use Rattle.std.proofs.Common.{◌≢◌, length, arith}
use Rattle.stm_json.proofs.ElementLemmas.{one_of-not_one}
use Rattle.stm_json.proofs.elements.one.Goals as goal

pub returns-else-elements-eq1 : goal.returns-else-elements-eq1
returns-else-elements-eq1 c =
    let several : length c.args.elements.now ≢ 1 = omega arith in
    one_of-not_one c.args.elements.now several
