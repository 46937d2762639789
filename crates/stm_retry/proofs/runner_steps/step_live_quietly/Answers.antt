use Rattle.std.proofs.Common.{◌≡◌, ◌≤◌, List, ℕ, refl, sym, ◌∙◌, ap, subst}
use Rattle.stm_history.specs.History.{now}
use Rattle.stm_txn.specs.Standing.{Standing}
use Rattle.stm_attempt.specs.declared.next.Next.TheVariants.{Fetch, Ready, Aborted, Faulted}
use Rattle.stm_journal.specs.Fetched.{fetch_reported}
use Rattle.stm_world.specs.World.{Runner}
use Rattle.stm_retry.specs.RunnerView.{next_for}
use Rattle.stm_steps.specs.declared.run.Run.{Run}
use Rattle.stm_retry.specs.RunnerReturns.{after_reported_fetch, IsReady}
use Rattle.stm_retry.proofs.StepLemmas.{is_wanting, wanted_is_named, fetch_leaves, is_ready, ready_leaves_quietly, has_aborted, has_faulted, end_leaves}
use Rattle.stm_retry.proofs.runner_steps.step_live_quietly.Goals as goal

pub fetch-requires-clause-named : goal.fetch-requires-clause-named
fetch-requires-clause-named c =
    let reported : next_for c.args.runner.now.runner ≡ Fetch c.in-Fetch.key c.in-Fetch.at = sym c.in_ok-next.ensures.next ∙ c.in-Fetch.is in
    wanted_is_named c.args.runner.now.runner c.in-Fetch.key c.in-Fetch.at (is_wanting c.args.runner.now.runner c.in-Fetch.key c.in-Fetch.at reported)

pub fetch-requires-clause-reached : goal.fetch-requires-clause-reached
fetch-requires-clause-reached c =
    let r : Runner = c.args.runner.now.runner in
    let reported : next_for r ≡ Fetch c.in-Fetch.key c.in-Fetch.at = sym c.in_ok-next.ensures.next ∙ c.in-Fetch.is in
    subst (λ (n : ℕ). n ≤ now c.args.journal.now.standing.history) (is_wanting r c.in-Fetch.key c.in-Fetch.at reported).at_is c.requires

pub returns-in-Fetch : goal.returns-in-Fetch
returns-in-Fetch c =
    let r : Runner = c.args.runner.now.runner in
    let s : Standing = c.args.journal.now.standing in
    let key : List ℕ = c.in-Fetch.key in
    let at : ℕ = c.in-Fetch.at in
    let reported : next_for r ≡ Fetch key at = sym c.in_ok-next.ensures.next ∙ c.in-Fetch.is in
    fetch_leaves c.args.id r c.fetch.new.runner.runner c.args.journal.now c.args.journal.now key at c.in_ok-reported-in-Fetch.reported
    (is_wanting r key at reported) c.in_ok-reported-in-Fetch.ensures.reported
    (c.in_ok-reported-in-Fetch.ensures.ok ∙ ap (after_reported_fetch (fetch_reported s key at)) c.in_ok-next.ensures.same) refl

pub fail_quietly-requires-clause-is_ready : goal.fail_quietly-requires-clause-is_ready
fail_quietly-requires-clause-is_ready c =
    let reported : next_for c.args.runner.now.runner ≡ Ready c.in-Ready.ready = sym c.in_ok-next.ensures.next ∙ c.in-Ready.is in
    subst (λ (q : Runner). (run : Run) × IsReady q run c.in-Ready.ready) (sym c.in_ok-next.ensures.same)
    (is_ready c.args.runner.now.runner c.in-Ready.ready reported)

pub returns-in-Ready : goal.returns-in-Ready
returns-in-Ready c =
    let r : Runner = c.args.runner.now.runner in
    let reported : next_for r ≡ Ready c.in-Ready.ready = sym c.in_ok-next.ensures.next ∙ c.in-Ready.is in
    ready_leaves_quietly c.args.id r c.advance.new.self.runner c.fail_quietly.new.runner.runner c.in-Ready.ready c.in_ok-reported-in-Ready.reported
    c.args.journal.now c.in_ok-next.ensures.same reported c.in_ok-reported-in-Ready.ensures

pub returns-in-Aborted : goal.returns-in-Aborted
returns-in-Aborted c =
    let r : Runner = c.args.runner.now.runner in
    let reported : next_for r ≡ Aborted c.in-Aborted.run' = sym c.in_ok-next.ensures.next ∙ c.in-Aborted.is in
    end_leaves c.args.id r c.advance.new.self.runner c.args.journal.now c.in-Aborted.run' c.reply_at_end.result
    (has_aborted r c.in-Aborted.run' reported) c.reply_at_end.ensures

pub returns-in-Faulted : goal.returns-in-Faulted
returns-in-Faulted c =
    let r : Runner = c.args.runner.now.runner in
    let reported : next_for r ≡ Faulted c.in-Faulted.run' = sym c.in_ok-next.ensures.next ∙ c.in-Faulted.is in
    end_leaves c.args.id r c.advance.new.self.runner c.args.journal.now c.in-Faulted.run'
    c.reply_at_end-in-Faulted.result (has_faulted r c.in-Faulted.run' reported) c.reply_at_end-in-Faulted.ensures
