use Rattle.std.proofs.Common.{Contains, sym, ◌+◌, ◌*◌, ◌≡◌, ◌<◌, length, arith, subst, ◌∙◌, rules}
use Rattle.std.specs.Prelude.{IfOk}
use Rattle.stm_world.specs.World.{World}
use Rattle.stm_serial.specs.Serial.{Point, first_bad_serial, AreForeign, choices}
use Rattle.stm_serial_search.specs.Search.{keeps_all, point, AreProgramsOf}
use Rattle.stm_serial_search.proofs.Made.{IsLeft, is_left, run_point, program_within, has_other, some_others, other_point}
use Rattle.stm_serial_search.proofs.looking.+look.Goals as goal

pub look_other-take_first-requires : goal.look_other-take_first-requires
look_other-take_first-requires g t c =
    let some : 0 < length c.args.others.now = some_others c.args.others.now (has_other c.args.world.now c.args.taken.now c.args.others.now c.requires.can) in
    record { there = some; foreign = c.requires.foreign }

pub look_other-rest_of-left-requires : goal.look_other-rest_of-left-requires
look_other-rest_of-left-requires g t c =
    some_others c.args.others.now (has_other c.args.world.now c.args.taken.now c.args.others.now c.requires.can)

pub look_other-returns : goal.look_other-returns
look_other-returns g t c =
    subst (λ (q : Point). c.in_ok-found.found ≡ first_bad_serial (keeps_all c.args.rules.now) c.args.depth q)
    (other_point c.args.world.now c.take_first.new.world c.args.taken.now c.args.others.now c.rest_of-left.result.now c.in_ok-take_first.ensures.store
    c.in_ok-take_first.ensures.runners c.rest_of-left.ensures) c.in_ok-found.ensures

pub look_step-program_of-program-requires : goal.look_step-program_of-program-requires
look_step-program_of-program-requires g t c =
    let left : IsLeft c.args.programs.now c.args.world.now c.args.taken.now c.args.runner =
    is_left c.args.programs.now c.args.world.now c.args.taken.now c.args.others.now c.args.runner c.requires.sized c.requires.programs c.requires.can in
    record { some = left.some; there = program_within c.args.programs.now c.args.world.now c.args.taken.now c.args.runner left }

pub look_step-with_taken-requires : goal.look_step-with_taken-requires
look_step-with_taken-requires g t c =
    let left : IsLeft c.args.programs.now c.args.world.now c.args.taken.now c.args.runner =
    is_left c.args.programs.now c.args.world.now c.args.taken.now c.args.others.now c.args.runner c.requires.sized c.requires.programs c.requires.can in
    record { some = left.some; there = left.within }

pub look_step-returns : goal.look_step-returns
look_step-returns g t c =
    let left : IsLeft c.args.programs.now c.args.world.now c.args.taken.now c.args.runner =
    is_left c.args.programs.now c.args.world.now c.args.taken.now c.args.others.now c.args.runner c.requires.sized c.requires.programs c.requires.can in
    subst (λ (q : Point). IfOk c.look-found.result (λ found. found ≡ first_bad_serial (keeps_all c.args.rules.now) c.args.depth q))
    (run_point c.args.programs.now c.args.world.now c.run_whole.new.world c.args.taken.now c.as_slice.result.now c.args.others.now c.args.runner
    c.program_of-program.result.now left c.program_of-program.ensures c.in_ok-run_whole.ensures.store c.in_ok-run_whole.ensures.runners
    (c.as_slice.ensures.value ∙ c.in_ok-more.ensures)) c.look-found.ensures

pub look_after-look_moved-found-requires : goal.look_after-look_moved-found-requires
look_after-look_moved-found-requires g t c =
    let back : c.args.world.now ≡ c.in_ok-next.next = sym c.in_ok-next.ensures in
    let sized : length c.args.taken.now ≡ length c.in_ok-next.next.runners =
    subst (λ (w : World). length c.args.taken.now ≡ length w.runners) back c.requires.sized in
    let programs : AreProgramsOf c.args.programs.now c.in_ok-next.next.runners =
    subst (λ (w : World). AreProgramsOf c.args.programs.now w.runners) back c.requires.programs in
    let foreign : AreForeign c.args.others.now = c.requires.foreign in
    let can : Contains (choices (point c.in_ok-next.next c.args.taken.now c.args.others.now)) c.args.chosen =
    subst (λ (w : World). Contains (choices (point w c.args.taken.now c.args.others.now)) c.args.chosen) back c.requires.can in
    let smaller : 4 * c.args.depth + 2 < t = omega (arith, c.decreases) in
    search rules
