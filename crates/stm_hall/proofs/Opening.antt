-- Where a hall began, and that it stays so as the hall goes on.
use Rattle.std.proofs.Common.{◌≡◌, ℕ, ◌||◌, List, [], ◌∷◌, ◌++◌, length, Option, None, Bool, true, false, cond, is_some, refl, sym}
use Rattle.std.proofs.Common.{◌∙◌, ap, subst, arith, length-append, append_assoc, take, drop}
use Rattle.std.proofs.lemmas.Bool.{eqb-true}
use Rattle.std.proofs.lemmas.List.{append-nil, take-append-drop}
use Rattle.std.proofs.Math.Seq.{take-append_seam}
use Rattle.std.specs.Prelude.{nat_eq}
use Rattle.std.specs.Cmp.{nat_cmp_total}
use Rattle.std.specs.FinMap as finmap
use Rattle.stm_history.specs.declared.change.Change.{Change}
use Rattle.stm_history.specs.Opening.{Opening as HistoryOpening}
use Rattle.stm_history.specs.History.{History, now, number_of_last, revisions_up_to}
use Rattle.stm_history.proofs.HistoryLaws.{all_up_to, last_is_above}
use Rattle.stm_leases.specs.LeaseLog.{Term}
use Rattle.stm_leases.specs.Live.{Live, is_live_in}
use Rattle.stm_leases.proofs.Tables.{test_number}
use Rattle.stm_steps.specs.declared.run.End.{End}
use Rattle.stm_steps.specs.declared.run.End.TheVariants.{Done as DoneEnd, Aborted, Faulted}
use Rattle.stm_steps.specs.declared.run.Run.{Run}
use Rattle.stm_steps.specs.declared.run.Answered.{Answered}
use Rattle.stm_steps.specs.declared.run.Answered.TheVariants.{Ended, Wants}
use Rattle.stm_meaning.specs.Meaning.{run_over}
use Rattle.stm_txn.specs.Standing.{Standing}
use Rattle.stm_entries.specs.declared.entry.Entry.{Entry}
use Rattle.stm_entries.specs.declared.entry.Entry.TheVariants.{Program, Foreign, Expire}
use Rattle.stm_entries.specs.Replayed.{Replayed, without_moment}
use Rattle.stm_entries.specs.Alone.{seen_at, left_by, left_by_run}
use Rattle.stm_entries.specs.Replay.{replay, replay_entry}
use Rattle.stm_entries.specs.Laws.{AddsTo}
use Rattle.stm_entries.proofs.Adding.{replay_only_adds}
use Rattle.stm_entries.proofs.Replaying.{replay_goes_on}
use Rattle.stm_journal.specs.JournalState.{JournalState, made_over, gone_on}
use Rattle.stm_hall.specs.Locked.{cut_at, is_expiry_of, has_expired, StartingStore, opening_of, StandsIn, IsEntryThere, AreEntriesThere, IsLocked}
use Rattle.stm_hall.specs.Laws.{GoesOn, HallsOpenAsTheirStore}

-- ---- the history that it began with

abbrev history_of : HistoryOpening → List (List Change) → History
history_of opening revisions = record { opening = opening; revisions = revisions }

-- of revisions added to others, those up to the last of the others are the others
cut_back : (added older : List (List Change)) (opening : HistoryOpening) (r : ℕ) → number_of_last opening older ≡ r → revisions_up_to opening r (added ++ older) ≡ older
cut_back [] older opening r is = all_up_to opening r older (omega (arith, is))
cut_back (c ∷ added) older opening r is =
    last_is_above opening r c (added ++ older) (omega (arith, length-append added older, is)) ∙ cut_back added older opening r is

-- what was added is cut off again
cut_is : (before after : History) (r : ℕ) → AddsTo before after → now before ≡ r → cut_at r after ≡ before
cut_is before after r adds is =
    ap (λ (o : HistoryOpening). history_of o (revisions_up_to o r after.revisions)) adds.opening
    ∙ ap (λ (l : List (List Change)). history_of before.opening (revisions_up_to before.opening r l)) adds.revisions
    ∙ ap (λ (l : List (List Change)). history_of before.opening l) (cut_back adds.added before.revisions before.opening r is)

-- ---- the leases that were live

or_false : (a : Bool) → a ≡ (a || false)
or_false true = refl
or_false false = refl

turned : (a b c : Bool) → ((a || b) || c) ≡ (a || (c || b))
turned true b c = refl
turned false true true = refl
turned false true false = refl
turned false false true = refl
turned false false false = refl

removed_by : (b : Bool) (o : Option Term) → (b ≡ true → is_some o ≡ true) → is_some o ≡ (is_some (cond b None o) || b)
removed_by true o live = live refl
removed_by false o live = or_false (is_some o)

-- a lease was live before another one ended, if it is live after that or is that one
ended_live : (live : Live) (lease id : ℕ) → is_live_in live lease ≡ true →
    is_live_in live id ≡ (is_live_in (finmap.remove live lease) id || nat_eq id lease)
ended_live live lease id is =
    removed_by (nat_eq id lease) (finmap.get live id) (λ same. ap (is_live_in live) (eqb-true id lease same) ∙ is)
    ∙ ap (λ (o : Option Term). is_some o || nat_eq id lease)
    (ap (λ (b : Bool). cond b None (finmap.get live id)) (sym (test_number id lease)) ∙ sym (finmap.get-remove nat_cmp_total live lease id))

end_keeps_live : (run : Run) (end : End) (r : Replayed) → (left_by run end r).live ≡ r.live
end_keeps_live run DoneEnd r = refl
end_keeps_live run (Aborted text) r = refl
end_keeps_live run (Faulted fault) r = refl

run_keeps_live : (answered : Answered) (r : Replayed) → (left_by_run answered r).live ≡ r.live
run_keeps_live (Ended run) r = end_keeps_live run run.end r
run_keeps_live (Wants key trace) r = refl

-- a lease was live before an entry, if it is live after it or the entry is its expiry
entry_live : (e : Entry) (r : Replayed) (id : ℕ) → IsEntryThere e r → is_live_in r.live id ≡ (is_live_in (replay_entry e r).live id || is_expiry_of id e)
entry_live (Program program level answers output trace revision) r id there =
    ap (λ (l : Live). is_live_in l id) (sym (run_keeps_live (run_over (seen_at level answers r.history) program.statements) r))
    ∙ or_false (is_live_in (left_by_run (run_over (seen_at level answers r.history) program.statements) r).live id)
entry_live (Foreign txn) r id there = or_false (is_live_in r.live id)
entry_live (Expire lease) r id there = ended_live r.live lease id there.is_live
entry_live _ r id there = absurd there

-- and so before several
live_before : (es : List Entry) (r : Replayed) (id : ℕ) → AreEntriesThere es r → is_live_in r.live id ≡ (is_live_in (replay es r).live id || has_expired id es)
live_before [] r id there = or_false (is_live_in r.live id)
live_before (e ∷ es) r id there =
    entry_live e r id there.0
    ∙ ap (λ (b : Bool). b || is_expiry_of id e) (live_before es (replay_entry e r) id there.1)
    ∙ turned (is_live_in (replay es (replay_entry e r)).live id) (has_expired id es) (is_expiry_of id e)

-- ---- the locked history

-- entries that lead from a store to a hall's lead from a store in the hall's opening state
pub opens_by : (hall : JournalState) (from : Replayed) → now from.history ≡ hall.start → replay hall.entries from ≡ without_moment hall.standing →
    AreEntriesThere hall.entries from → StandsIn (opening_of hall) from
opens_by hall from counter replays there = record {
  history =
      sym (ap (cut_at hall.start) (sym (ap (λ (r : Replayed). r.history) replays))
      ∙ cut_is from.history (replay hall.entries from).history hall.start (replay_only_adds hall.entries from) counter);
  live = λ id. live_before hall.entries from id there ∙ ap (λ (r : Replayed). is_live_in r.live id || has_expired id hall.entries) replays;
}

pub locked_by : (hall : JournalState) (from : Replayed) → now from.history ≡ hall.start → replay hall.entries from ≡ without_moment hall.standing →
    AreEntriesThere hall.entries from → IsLocked hall
locked_by hall from counter replays there =
    record { from = from; opens = opens_by hall from counter replays there; counter = counter; replays = replays; entries = there }

opening_from : Replayed → StartingStore
opening_from r = record { history = r.history; is_live = λ id. is_live_in r.live id }

opening_is : (hall : JournalState) (r : Replayed) → StandsIn (opening_of hall) r → opening_from r ≡ opening_of hall
unfolding opening_from
opening_is hall r stands = λ i. record { history = stands.history i; is_live = λ id. stands.live id i }

-- ---- more entries

pub all_there : (earlier later : List Entry) (r : Replayed) → AreEntriesThere earlier r → AreEntriesThere later (replay earlier r) →
    AreEntriesThere (earlier ++ later) r
all_there [] later r front rest = rest
all_there (e ∷ earlier) later r front rest = (front.0, all_there earlier later (replay_entry e r) front.1 rest)

-- entries lead from a store to another one, each one that may stand at its point
pub record Follows (before after : Standing) (more : List Entry) : Type 0 where
  pub replays : replay more (without_moment before) ≡ without_moment after
  pub there : AreEntriesThere more (without_moment before)

pub nothing_follows : (s : Standing) → Follows s s []
nothing_follows s = record { replays = refl; there = tt }

leads_on : (hall : JournalState) (after : Standing) (more : List Entry) (locked : IsLocked hall) → Follows hall.standing after more →
    replay (hall.entries ++ more) locked.from ≡ without_moment after
leads_on hall after more locked f = replay_goes_on hall.entries more locked.from ∙ ap (replay more) locked.replays ∙ f.replays

stand_there : (hall : JournalState) (after : Standing) (more : List Entry) (locked : IsLocked hall) → Follows hall.standing after more →
    AreEntriesThere (hall.entries ++ more) locked.from
stand_there hall after more locked f =
    all_there hall.entries more locked.from locked.entries (subst (AreEntriesThere more) (sym locked.replays) f.there)

-- a hall that goes on by such entries is locked, and began where it began
pub stays_locked : (hall : JournalState) (after : Standing) (more : List Entry) → IsLocked hall → Follows hall.standing after more →
    IsLocked (gone_on hall after more)
stays_locked hall after more locked f =
    locked_by (gone_on hall after more) locked.from locked.counter (leads_on hall after more locked f) (stand_there hall after more locked f)

pub goes_on : (hall : JournalState) (after : Standing) (more : List Entry) → IsLocked hall → Follows hall.standing after more →
    GoesOn hall (gone_on hall after more)
goes_on hall after more locked f = record {
  more = more;
  entries = refl;
  start = refl;
  opening =
      sym (opening_is (gone_on hall after more) locked.from
      (opens_by (gone_on hall after more) locked.from locked.counter (leads_on hall after more locked f) (stand_there hall after more locked f)))
      ∙ opening_is hall locked.from locked.opens;
}

pub goes_nowhere : (hall : JournalState) → GoesOn hall hall
goes_nowhere hall = record { more = []; entries = sym (append-nil hall.entries); start = refl; opening = refl }

-- ---- that a hall goes on, by equations

-- the entries of before are the first ones
pub gone_front : (before after : JournalState) → GoesOn before after → take (length before.entries) after.entries ≡ before.entries
gone_front before after g = ap (λ (l : List Entry). take (length before.entries) l) g.entries ∙ take-append_seam before.entries g.more

pub goes_on_by : (before after : JournalState) → take (length before.entries) after.entries ≡ before.entries → after.start ≡ before.start →
    (opening_of after).history ≡ (opening_of before).history → ((id : ℕ) → (opening_of after).is_live id ≡ (opening_of before).is_live id) →
    GoesOn before after
goes_on_by before after front start history live = record {
  more = drop (length before.entries) after.entries;
  entries =
      sym (take-append-drop (length before.entries) after.entries)
      ∙ ap (λ (l : List Entry). l ++ drop (length before.entries) after.entries) front;
  start = start;
  opening = λ i. record { history = history i; is_live = λ id. live id i };
}

-- a hall that goes on twice goes on
pub goes_on_twice : (a b c : JournalState) → GoesOn a b → GoesOn b c → GoesOn a c
goes_on_twice a b c first second = record {
  more = first.more ++ second.more;
  entries = second.entries ∙ ap (λ (l : List Entry). l ++ second.more) first.entries ∙ append_assoc a.entries first.more second.more;
  start = second.start ∙ first.start;
  opening = second.opening ∙ first.opening;
}

-- ---- a hall that is made over a store

pub halls_open_as_their_store : HallsOpenAsTheirStore
unfolding opening_from
halls_open_as_their_store s =
    let r : Replayed = without_moment s in
    record {
      locked = locked_by (made_over s) r refl refl tt;
      opening = sym (opening_is (made_over s) r (opens_by (made_over s) r refl refl tt));
    }
