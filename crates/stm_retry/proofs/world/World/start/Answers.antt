use Rattle.std.proofs.Common.{◌≡◌, ℕ, List, [], ◌∷◌, ◌++◌, Result, Ok, sym, ◌∙◌, ap, subst, OnOk}
use Rattle.std.specs.Prelude.{IfOk}
use Rattle.stm_events.specs.declared.refusal.EventRefusal.{EventRefusal}
use Rattle.stm_events.specs.declared.refusal.Denied.{Denied}
use Rattle.stm_events.specs.declared.event.WorldEvent.{WorldEvent}
use Rattle.stm_events.specs.declared.event.WorldEvent.TheVariants.{Start}
use Rattle.stm_events.specs.declared.reply.Reply.{Reply}
use Rattle.stm_events.specs.declared.reply.Reply.TheVariants.{Started}
use Rattle.stm_txn.specs.Standing.{Setup}
use Rattle.stm_world.specs.Headline.{Holds}
use Rattle.stm_world.specs.Task.{Task}
use Rattle.stm_world.specs.World.{World, start_runner}
use Rattle.stm_retry.specs.Kept.{whole_world}
use Rattle.stm_retry.proofs.KeptWorlds.{started_leaves, started_next, started_number}
use Rattle.stm_retry.proofs.WorldLemmas.{run_holds}
use Rattle.stm_retry.proofs.world.World.start.Goals as goal
use Rattle.stm_retry.proofs.world.World.start.Goals.{in-Ok, in-Err}

pub invariant_of-self : goal.invariant_of-self
invariant_of-self c =
    started_leaves (record { program = c.args.program; level = c.args.level; limit = c.args.limit }) c.add_runner.result c.self.inside.opened
    c.self.inside.kept c.add_runner.new.self c.self.invariant c.add_runner.ensures.ok c.add_runner.ensures.err

pub returns-clause-number : goal.returns-clause-number
returns-clause-number c =
    let task : Task = record { program = c.args.program; level = c.args.level; limit = c.args.limit } in
    let reported : Result ℕ EventRefusal → Type 0 = λ r. IfOk r (λ id. (start_runner task c.args.self.now).reply ≡ Ok (Started id)) in
    elim c.match-add_runner.branch [
      | in-Ok w ↦ subst reported (sym w.result-is)
          (sym (started_number task c.self.inside.opened c.self.inside.kept c.self.invariant ∙ ap (λ (w : World). (start_runner task w).reply) c.self.view_is)
          ∙ w.in-Ok.ensures.number)
      | in-Err w ↦ subst reported (sym w.result-is) tt
    ]

pub returns-clause-ok : goal.returns-clause-ok
returns-clause-ok c =
    let task : Task = record { program = c.args.program; level = c.args.level; limit = c.args.limit } in
    let left : Result ℕ EventRefusal → Type 0 =
    λ r. OnOk r (whole_world c.self.inside.opened c.add_runner.new.self ≡ (start_runner task c.args.self.now).next) in
    elim c.match-add_runner.branch [
      | in-Ok w ↦ subst left (sym w.result-is)
          (started_next task c.self.inside.opened c.self.inside.kept c.add_runner.new.self c.self.invariant w.in-Ok.ensures.ok
          ∙ ap (λ (w : World). (start_runner task w).next) c.self.view_is)
      | in-Err w ↦ subst left (sym w.result-is) tt
    ]

-- the headline goes on over a start
pub returns-clause-headline : goal.returns-clause-headline
returns-clause-headline c =
    let task : Task = record { program = c.args.program; level = c.args.level; limit = c.args.limit } in
    let event : WorldEvent = Start c.args.program c.args.level c.args.limit in
    let old : World = c.args.self.now in
    let new : World = whole_world c.self.inside.opened c.add_runner.new.self in
    let goes_on : Result ℕ EventRefusal → Type 0 =
    λ r. IfOk r (λ id. (setup : Setup) (before : List WorldEvent) (earlier : List (Result Reply Denied)) → Holds setup before earlier old
    → Holds setup (before ++ event ∷ []) (earlier ++ Ok (Started id) ∷ []) new) in
    elim c.match-add_runner.branch [
      | in-Ok w ↦ subst goes_on (sym w.result-is) (λ setup before earlier holds.
          run_holds setup before (event ∷ []) earlier old new (Ok (Started w.in-Ok.id) ∷ [])
          (ap (λ (r : Result Reply Denied). r ∷ [])
          (sym (sym (started_number task c.self.inside.opened c.self.inside.kept c.self.invariant ∙ ap (λ (w : World). (start_runner task w).reply) c.self.view_is)
          ∙ w.in-Ok.ensures.number)))
          (started_next task c.self.inside.opened c.self.inside.kept c.add_runner.new.self c.self.invariant w.in-Ok.ensures.ok
          ∙ ap (λ (w : World). (start_runner task w).next) c.self.view_is) holds)
      | in-Err w ↦ subst goes_on (sym w.result-is) tt
    ]
