-- The end of a rule's program at the last place of a schedule.
use Rattle.std.proofs.Common.{◌≡◌, ℕ, suc, ◌+◌, ◌<◌, ◌≤◌, List, ◌∷◌, length, drop, get_or, Option, Some, None, IsSome, bytes_eq, refl, sym, ap, ap₂, ◌∙◌, arith}
use Rattle.std.specs.List.{find}
use Rattle.std.proofs.Math.Seq.{drop-cons}
use Rattle.stm_history.specs.History.{History, now}
use Rattle.stm_program.specs.Syntax.{ProgramTree}
use Rattle.stm_steps.specs.declared.run.Run.{Run}
use Rattle.stm_steps.specs.declared.run.Answered.TheVariants.{Ended, Wants}
use Rattle.stm_steps.specs.declared.trace_item.TraceItem.{TraceItem}
use Rattle.stm_meaning.specs.Answer.{Answer, Lookup}
use Rattle.stm_meaning.specs.Laws.{KnowsEachKey}
use Rattle.stm_meaning.specs.Meaning.{run_over}
use Rattle.stm_meaning.proofs.RunLaws.{whole_lookups_end}
use Rattle.stm_compile.specs.Answers.{state_now}
use Rattle.stm_txn.specs.Standing.{kept}
use Rattle.stm_events.specs.declared.event.WorldEvent.{WorldEvent}
use Rattle.stm_world.specs.World.{World}
use Rattle.stm_schedules.specs.declared.moves.Move.{Move}
use Rattle.stm_schedules.specs.declared.outcome.KeyValue.{KeyValue}
use Rattle.stm_schedules.specs.Keeping.{end_of}
use Rattle.stm_schedules.specs.Outcomes.{Ends, ends_after, ends_moved}
use Rattle.stm_schedules.specs.Places.{Place}
use Rattle.stm_schedules.specs.Schedules.{place_after}
use Rattle.stm_schedules.proofs.Gathered.{outcomes_are_those}
use Rattle.stm_explore.specs.declared.asking.When.TheVariants.{Last}
use Rattle.stm_explore.specs.declared.places.ReportedPlace.{ReportedPlace}
use Rattle.stm_explore.specs.AlikeSpots.{after_is_moved}
use Rattle.stm_explore.specs.Asked.{end_for, laid, laid_or, laid_over}
use Rattle.stm_explore.specs.Spots.{place_of, reported_after}
use Rattle.stm_retry.proofs.AloneLemmas.{now_of_kept}

-- ---- a run over a state with keys laid over it

some_laid : (o : Option KeyValue) (known : Option Answer) → IsSome known → IsSome (laid_or o known)
some_laid None known is = is
some_laid (Some kv) known is = refl

knows_each : (kvs : List KeyValue) (h : History) → KnowsEachKey (laid_over kvs (state_now h))
knows_each kvs h key = some_laid (find (λ (kv : KeyValue). bytes_eq kv.key key) kvs) (state_now h key) refl

pub laid_end : (rule : ProgramTree) (w : World) (g : History) (kvs : List KeyValue) (ends : Ends) (run : Run) → g ≡ (kept w.standing).history
    → w.standing.floor ≤ now w.standing.history → kvs ≡ laid ends → run_over (laid_over kvs (state_now g)) rule.statements ≡ Ended run
    → end_for Last rule w.standing.history ends ≡ Some run.end
laid_end rule w g kvs ends run is reached same ended =
    ap₂ (λ (look : Lookup) (ks : List KeyValue). end_of (run_over (laid_over ks look) rule.statements)) (sym (now_of_kept w.standing g is reached)) (sym same)
    ∙ ap end_of ended

pub laid_wants : (rule : ProgramTree) (kvs : List KeyValue) (g : History) {key : List ℕ} {trace : List TraceItem}
    → run_over (laid_over kvs (state_now g)) rule.statements ≡ Wants key trace → ⊥
laid_wants rule kvs g wants =
    let whole = whole_lookups_end (laid_over kvs (state_now g)) rule.statements (knows_each kvs g) in
    absurd (let e : Ended whole.0 ≡ run_over (laid_over kvs (state_now g)) rule.statements = sym whole.1 in cc)

-- ---- along a schedule

next_move : (ms : List Move) (i : ℕ) (d : Move) → i < length ms → drop i ms ≡ get_or ms i d ∷ drop (i + 1) ms
next_move ms i d within =
    let step : i + 1 ≡ suc i = omega arith in drop-cons ms i d within ∙ ap (λ (n : ℕ). get_or ms i d ∷ drop n ms) (sym step)

pub place_next : (others : List WorldEvent) (ms : List Move) (i : ℕ) (d : Move) (place next : ReportedPlace) (far : Place) → i < length ms
    → next ≡ reported_after others (get_or ms i d) place → place_after (drop i ms) (place_of others place.at) ≡ far
    → place_after (drop (i + 1) ms) (place_of others next.at) ≡ far
place_next others ms i d place next far within is so_far =
    ap (λ (p : ReportedPlace). place_after (drop (i + 1) ms) (place_of others p.at)) is
    ∙ ap (place_after (drop (i + 1) ms)) (after_is_moved others (get_or ms i d) place.at)
    ∙ ap (λ (ks : List Move). place_after ks (place_of others place.at)) (sym (next_move ms i d within))
    ∙ so_far

pub ends_next : (others : List WorldEvent) (ms : List Move) (i : ℕ) (d : Move) (place next : ReportedPlace) (known : Ends) → i < length ms
    → next ≡ reported_after others (get_or ms i d) place → ends_after (drop i ms) (place_of others place.at) place.ends ≡ known
    → ends_after (drop (i + 1) ms) (place_of others next.at) next.ends ≡ known
ends_next others ms i d place next known within is so_far =
    let m : Move = get_or ms i d in
    let here : Place = place_of others place.at in
    ap (λ (p : ReportedPlace). ends_after (drop (i + 1) ms) (place_of others p.at) p.ends) is
    ∙ ap (λ (q : Place). ends_after (drop (i + 1) ms) q (ends_moved m here place.ends)) (after_is_moved others m place.at)
    ∙ sym (outcomes_are_those.ends m (drop (i + 1) ms) here place.ends)
    ∙ ap (λ (ks : List Move). ends_after ks here place.ends) (sym (next_move ms i d within))
    ∙ so_far
