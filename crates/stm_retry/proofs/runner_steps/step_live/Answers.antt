use Rattle.std.proofs.Common.{◌≡◌, ◌≤◌, List, ℕ, Some, Ok, refl, sym, ◌∙◌, ap, subst}
use Rattle.stm_history.specs.History.{now}
use Rattle.stm_outcome.specs.Commits.{AreNamed as KeysAreNamed}
use Rattle.stm_txn.specs.Standing.{Standing}
use Rattle.stm_attempt.specs.declared.next.Next.TheVariants.{FetchAll, Fetch, Ready, Aborted, Faulted}
use Rattle.stm_attempt.specs.Next.{list_asked}
use Rattle.stm_journal.specs.Fetched.{fetch_reported, fetch_all_reported}
use Rattle.stm_world.specs.World.{Runner}
use Rattle.stm_retry.specs.RunnerView.{next_for}
use Rattle.stm_retry.specs.RunnerReturns.{workplace, after_reported_fetch, reported_of_list, after_reported_list}
use Rattle.stm_retry.proofs.StepLemmas.{is_listing, list_leaves, is_wanting, wanted_is_named, fetch_leaves, ready_leaves, has_aborted, has_faulted, end_leaves}
use Rattle.stm_retry.proofs.runner_steps.step_live.Goals as goal

pub fetch_list-requires-clause-asked : goal.fetch_list-requires-clause-asked
fetch_list-requires-clause-asked c =
    c.in_ok-next.ensures.list ∙ ap list_asked c.in-FetchAll.is ∙ ap (λ (l : List (List ℕ)). Some l) (sym c.as_slice.ensures)

pub fetch_list-requires-clause-named : goal.fetch_list-requires-clause-named
fetch_list-requires-clause-named c =
    let r : Runner = c.args.runner.now.runner in
    let reported : next_for r ≡ FetchAll c.in-FetchAll.keys _ = sym c.in_ok-next.ensures.next ∙ c.in-FetchAll.is in
    subst KeysAreNamed
    (ap (λ (q : Runner). q.task.program.prefetch) c.in_ok-next.ensures.same ∙ (is_listing r c.in-FetchAll.keys _ reported).keys_are ∙ sym c.as_slice.ensures)
    c.in_ok-next.ensures.keys

pub returns-in_ok-reported-in-FetchAll : goal.returns-in_ok-reported-in-FetchAll
returns-in_ok-reported-in-FetchAll c =
    let r : Runner = c.args.runner.now.runner in
    let s : Standing = c.args.journal.now.standing in
    let keys : List (List ℕ) = c.in-FetchAll.keys in
    let reported : next_for r ≡ FetchAll keys _ = sym c.in_ok-next.ensures.next ∙ c.in-FetchAll.is in
    list_leaves c.args.id r c.fetch_list.new.runner.runner c.args.journal.now c.fetch_list.new.journal keys
    c.in_ok-reported-in-FetchAll.reported (is_listing r keys _ reported)
    (c.in_ok-reported-in-FetchAll.ensures.reported ∙ ap (λ (l : List (List ℕ)). reported_of_list c.args.id (now s.history) (fetch_all_reported s l)) c.as_slice.ensures)
    (c.in_ok-reported-in-FetchAll.ensures.ok
    ∙ ap (λ (l : List (List ℕ)). after_reported_list (fetch_all_reported s l) c.advance.new.self.runner) c.as_slice.ensures
    ∙ ap (after_reported_list (fetch_all_reported s keys)) c.in_ok-next.ensures.same)
    c.in_ok-reported-in-FetchAll.ensures.journal

pub fetch-requires-clause-named : goal.fetch-requires-clause-named
fetch-requires-clause-named c =
    let reported : next_for c.args.runner.now.runner ≡ Fetch c.in-Fetch.key c.in-Fetch.at = sym c.in_ok-next.ensures.next ∙ c.in-Fetch.is in
    wanted_is_named c.args.runner.now.runner c.in-Fetch.key c.in-Fetch.at (is_wanting c.args.runner.now.runner c.in-Fetch.key c.in-Fetch.at reported)

pub fetch-requires-clause-reached : goal.fetch-requires-clause-reached
fetch-requires-clause-reached c =
    let r : Runner = c.args.runner.now.runner in
    let reported : next_for r ≡ Fetch c.in-Fetch.key c.in-Fetch.at = sym c.in_ok-next.ensures.next ∙ c.in-Fetch.is in
    subst (λ (n : ℕ). n ≤ now c.args.journal.now.standing.history) (is_wanting r c.in-Fetch.key c.in-Fetch.at reported).at_is c.requires

pub returns-in_ok-reported-in-Fetch : goal.returns-in_ok-reported-in-Fetch
returns-in_ok-reported-in-Fetch c =
    let r : Runner = c.args.runner.now.runner in
    let s : Standing = c.args.journal.now.standing in
    let key : List ℕ = c.in-Fetch.key in
    let at : ℕ = c.in-Fetch.at in
    let reported : next_for r ≡ Fetch key at = sym c.in_ok-next.ensures.next ∙ c.in-Fetch.is in
    fetch_leaves c.args.id r c.fetch.new.runner.runner c.args.journal.now c.args.journal.now key at c.in_ok-reported-in-Fetch.reported
    (is_wanting r key at reported) c.in_ok-reported-in-Fetch.ensures.reported
    (c.in_ok-reported-in-Fetch.ensures.ok ∙ ap (after_reported_fetch (fetch_reported s key at)) c.in_ok-next.ensures.same) refl

pub returns-in_ok-reported-in-Ready : goal.returns-in_ok-reported-in-Ready
returns-in_ok-reported-in-Ready c =
    let r : Runner = c.args.runner.now.runner in
    let reported : next_for r ≡ Ready c.in-Ready.ready = sym c.in_ok-next.ensures.next ∙ c.in-Ready.is in
    ready_leaves c.args.id r c.advance.new.self.runner c.in-Ready.ready (Ok c.in_ok-reported-in-Ready.reported) c.args.journal.now
    (workplace c.commit.new.journal c.commit.new.runner.runner) c.in_ok-next.ensures.same reported c.in_ok-reported-in-Ready.ensures

pub returns-in-Aborted : goal.returns-in-Aborted
returns-in-Aborted c =
    let r : Runner = c.args.runner.now.runner in
    let reported : next_for r ≡ Aborted c.in-Aborted.run' = sym c.in_ok-next.ensures.next ∙ c.in-Aborted.is in
    end_leaves c.args.id r c.advance.new.self.runner c.args.journal.now c.in-Aborted.run' c.reply_at_end.result
    (has_aborted r c.in-Aborted.run' reported) c.reply_at_end.ensures

pub returns-in-Faulted : goal.returns-in-Faulted
returns-in-Faulted c =
    let r : Runner = c.args.runner.now.runner in
    let reported : next_for r ≡ Faulted c.in-Faulted.run' = sym c.in_ok-next.ensures.next ∙ c.in-Faulted.is in
    end_leaves c.args.id r c.advance.new.self.runner c.args.journal.now c.in-Faulted.run'
    c.reply_at_end-in-Faulted.result (has_faulted r c.in-Faulted.run' reported) c.reply_at_end-in-Faulted.ensures
