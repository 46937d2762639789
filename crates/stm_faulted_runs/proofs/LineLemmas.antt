-- Lines one after another.
use Rattle.std.proofs.Common.{◌≡◌, ◌∙◌, ℕ, suc, ◌+◌, ◌<◌, List, [], ◌∷◌, ◌++◌, length, drop, get_or, map, refl, sym, ap, subst, append_assoc, append-nil, arith}
use Rattle.std.proofs.lemmas.List.{drop_more}
use Rattle.stm_events.specs.declared.event.WorldEvent.{WorldEvent}
use Rattle.stm_world.specs.World.{World, step, opened, replies_to}
use Rattle.stm_faulted_runs.specs.Lines.{Origin, FaultReport, IsLineOf, ExplainsEach, Adds, reported_by, faults_reported, faults_from}
use Rattle.stm_faulted_runs.specs.declared.jobs.FaultedJob.{FaultedJob}
use Rattle.stm_txn.specs.Standing.{Setup}
use Rattle.stm_faulted_runs.specs.Jobs.{reported_job, reported_of_job}

-- one line is one
pub one_line : (origin : Origin) (reported : FaultReport) (old new line : List ℕ) → new ≡ old ++ line → IsLineOf origin reported line → Adds origin (reported ∷ []) old new
one_line origin reported old new line is line_is = (line, is, (line, [], sym (append-nil line), line_is, refl))

-- the lines of some, and after them those of others
pub joined : (origin : Origin) (some others : List FaultReport) (said more : List ℕ) → ExplainsEach origin some said → ExplainsEach origin others more →
    ExplainsEach origin (some ++ others) (said ++ more)
joined origin [] others said more none rest = subst (λ (s : List ℕ). ExplainsEach origin others (s ++ more)) (sym none) rest
joined origin (reported ∷ some) others said more (line, behind, is, line_is, each) rest = (
  line,
  behind ++ more,
  ap (λ (s : List ℕ). s ++ more) is ∙ append_assoc line behind more,
  line_is,
  joined origin some others behind more each rest,
)

-- What was said so far: with lines for the rest after it, there are lines for all.
pub record HasSaid (origin : Origin) (all : List FaultReport) (old new : List ℕ) (rest : List FaultReport) : Type 0 where
  pub so_far : List ℕ
  pub added : new ≡ old ++ so_far
  pub goes_on : (more : List ℕ) → ExplainsEach origin rest more → ExplainsEach origin all (so_far ++ more)

pub said_more : (origin : Origin) (all : List FaultReport) (old mid new : List ℕ) (some rest : List FaultReport) → HasSaid origin all old mid (some ++ rest) →
    Adds origin some mid new → HasSaid origin all old new rest
said_more origin all old mid new some rest so_far (said, is, each) = record {
  so_far = so_far.so_far ++ said;
  added = is ∙ ap (λ (s : List ℕ). s ++ said) so_far.added ∙ append_assoc old so_far.so_far said;
  goes_on = λ more others. subst (λ (s : List ℕ). ExplainsEach origin all s) (sym (append_assoc so_far.so_far said more))
      (so_far.goes_on (said ++ more) (joined origin some rest said more each others));
}

pub said_all : (origin : Origin) (all : List FaultReport) (old new : List ℕ) → HasSaid origin all old new [] → Adds origin all old new
said_all origin all old new so_far =
    (so_far.so_far, so_far.added, subst (λ (s : List ℕ). ExplainsEach origin all s) (append-nil so_far.so_far) (so_far.goes_on [] refl))

-- one event more
pub said_step : (origin : Origin) (all : List FaultReport) (old mid new : List ℕ) (events : List WorldEvent) (i : ℕ) (e : WorldEvent) (w next : World)
    (reported : List FaultReport) → i < length events → e ≡ get_or events i e → (step e w).next ≡ next → reported_by (i + 1) (step e w).reply ≡ reported →
    HasSaid origin all old mid (faults_reported (i + 1) (replies_to (drop i events) w)) → Adds origin reported mid new →
    HasSaid origin all old new (faults_reported (i + 1 + 1) (replies_to (drop (i + 1) events) next))
said_step origin all old mid new events i e w next reported within is goes reports so_far adds =
    let rest : List WorldEvent = drop (i + 1) events in
    let here : drop i events ≡ e ∷ rest = drop_more events i e within ∙ ap (λ (x : WorldEvent). x ∷ rest) (sym is) in
    let number : suc (i + 1) ≡ i + 1 + 1 = omega arith in
    let all_reported : faults_reported (i + 1) (replies_to (drop i events) w) ≡ reported ++ faults_reported (i + 1 + 1) (replies_to rest next) =
    ap (λ (es : List WorldEvent). faults_reported (i + 1) (replies_to es w)) here
    ∙ ap (λ (ts : List FaultReport). ts ++ faults_reported (suc (i + 1)) (replies_to rest (step e w).next)) reports
    ∙ ap (λ (v : World). reported ++ faults_reported (suc (i + 1)) (replies_to rest v)) goes
    ∙ ap (λ (n : ℕ). reported ++ faults_reported n (replies_to rest next)) number in
    said_more origin all old mid new reported (faults_reported (i + 1 + 1) (replies_to rest next)) (subst (λ (ts : List FaultReport). HasSaid origin all old mid ts) all_reported so_far) adds

-- what is reported of jobs
abbrev pub all_reported : List FaultedJob → List FaultReport
all_reported jobs = map reported_of_job (map reported_job jobs)

-- one job more
pub said_job : (origin : Origin) (all : List FaultReport) (old mid new : List ℕ) (jobs : List FaultedJob) (i : ℕ) (job : FaultedJob) → i < length jobs →
    job ≡ get_or jobs i job → HasSaid origin all old mid (all_reported (drop i jobs)) → Adds origin (reported_of_job (reported_job job) ∷ []) mid new →
    HasSaid origin all old new (all_reported (drop (i + 1) jobs))
said_job origin all old mid new jobs i job within is so_far adds =
    let here : drop i jobs ≡ job ∷ drop (i + 1) jobs = drop_more jobs i job within ∙ ap (λ (x : FaultedJob). x ∷ drop (i + 1) jobs) (sym is) in
    said_more origin all old mid new (reported_of_job (reported_job job) ∷ []) (all_reported (drop (i + 1) jobs))
    (subst (λ (js : List FaultedJob). HasSaid origin all old mid (all_reported js)) here so_far) adds

-- what was added to nothing is all
pub adds_all : (origin : Origin) (all : List FaultReport) (old new : List ℕ) → old ≡ [] → Adds origin all old new → ExplainsEach origin all new
adds_all origin all old new none (said, is, each) =
    subst (λ (s : List ℕ). ExplainsEach origin all s) (sym (is ∙ ap (λ (o : List ℕ). o ++ said) none)) each

-- the same lines, of the same text
pub moved : (origin other : Origin) → origin ≡ other → (reported same : List FaultReport) → reported ≡ same → (said : List ℕ) → ExplainsEach origin reported said →
    ExplainsEach other same said
moved origin other is reported same reports said each =
    subst (λ (o : Origin). ExplainsEach o same said) is (subst (λ (ts : List FaultReport). ExplainsEach origin ts said) reports each)

-- the same run
pub same_run : (start first : Setup) (events same : List WorldEvent) → start ≡ first → events ≡ same →
    faults_from (opened start) events ≡ faults_from (opened first) same
same_run start first events same starts is =
    ap (λ (n : Setup). faults_from (opened n) events) starts ∙ ap (λ (es : List WorldEvent). faults_from (opened first) es) is
