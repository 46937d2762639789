use Rattle.std.proofs.Common.{rules, ◌≡◌, ◌≢◌, ℕ, Err, sym, ◌∙◌, ap, arith}
use Rattle.stm_events.specs.declared.refusal.EventRefusal.TheVariants.{BadLimit}
use Rattle.stm_world.specs.World.{Stepped, start_runner, refused}
use Rattle.stm_retry.specs.RunnerView.{task_of}
use Rattle.stm_retry.proofs.StepLemmas.{start_is_taken, start_refuses}
use Rattle.stm_retry.proofs.kept_world.KeptWorld.start.Goals as goal

pub returns-then-limit-eq0 : goal.returns-then-limit-eq0
returns-then-limit-eq0 c =
    let none : c.args.limit ≡ 0 = omega arith in
    let refuses : start_runner (task_of c.args.program.now c.args.level c.args.limit) c.args.self.now ≡ refused BadLimit c.args.self.now =
    ap (λ (n : ℕ). start_runner (task_of c.args.program.now c.args.level n) c.args.self.now) none
    ∙ start_refuses c.args.program.now c.args.level c.args.self.now in
    (ap (λ (s : Stepped). s.reply) refuses ∙ ap (λ d. Err d) (sym c.denied.ensures), ap (λ (s : Stepped). s.next) refuses)

pub returns-in_err-program : goal.returns-in_err-program
returns-in_err-program c =
    let some : c.args.limit ≢ 0 = omega arith in
    let taken = start_is_taken (task_of c.args.program.now c.args.level c.args.limit) c.args.self.now some in
    search (rules, taken)

pub returns-in_err-runner : goal.returns-in_err-runner
returns-in_err-runner c =
    let some : c.args.limit ≢ 0 = omega arith in
    let taken = start_is_taken (task_of c.args.program.now c.args.level c.args.limit) c.args.self.now some in
    search (rules, taken)
