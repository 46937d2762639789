-- The live leases are what the entries about leases leave.
use Rattle.std.proofs.Common.{◌≡◌, ℕ, suc, ◌+◌, ◌<◌, ◌≤◌, Bool, true, false, List, [], ◌∷◌, ◌++◌, length, get_or, take, drop, cond, refl, sym, ◌∙◌, ap, arith, append_assoc}
use Rattle.std.proofs.Math.Seq.{take-suc, drop-cons}
use Rattle.std.proofs.lemmas.List.{append-nil, take_all}
use Rattle.std.specs.FinMap as finmap
use Rattle.stm_leases.specs.Live.{Live}
use Rattle.stm_steps.specs.declared.run.End.{End}
use Rattle.stm_steps.specs.declared.run.End.TheVariants.{Done, Aborted, Faulted}
use Rattle.stm_steps.specs.declared.run.Run.{Run}
use Rattle.stm_steps.specs.declared.run.Answered.{Answered}
use Rattle.stm_steps.specs.declared.run.Answered.TheVariants.{Ended, Wants}
use Rattle.stm_meaning.specs.Meaning.{run_over}
use Rattle.stm_entries.specs.declared.entry.Entry.{Entry}
use Rattle.stm_entries.specs.declared.entry.Entry.TheVariants.{Program, Foreign, Grant, Renew, Revoke, Expire}
use Rattle.stm_entries.specs.Replayed.{Replayed}
use Rattle.stm_entries.specs.Replay.{replay, replay_entry, renewed_at}
use Rattle.stm_entries.specs.Alone.{seen_at, left_by, left_by_run}
use Rattle.stm_alike.specs.Leases.{is_about_lease, leases_of}

live_by : Entry → Live → Live
live_by (Program program level answers output trace revision) live = live
live_by (Foreign txn) live = live
live_by (Grant id ttl moment) live = finmap.insert live id (record { ttl = ttl; renewed = moment })
live_by (Renew id moment) live = renewed_at live id moment (finmap.get live id)
live_by (Revoke id) live = finmap.remove live id
live_by (Expire id) live = finmap.remove live id

live_after : List Entry → Live → Live
live_after [] live = live
live_after (e ∷ es) live = live_after es (live_by e live)

end_leaves : (run : Run) (end : End) (r : Replayed) → (left_by run end r).live ≡ r.live
end_leaves run Done r = refl
end_leaves run (Aborted text) r = refl
end_leaves run (Faulted fault) r = refl

run_leaves : (answered : Answered) (r : Replayed) → (left_by_run answered r).live ≡ r.live
run_leaves (Ended run) r = end_leaves run run.end r
run_leaves (Wants key trace) r = refl

entry_leaves : (e : Entry) (r : Replayed) → (replay_entry e r).live ≡ live_by e r.live
unfolding live_by
entry_leaves (Program program level answers output trace revision) r = run_leaves (run_over (seen_at level answers r.history) program.statements) r
entry_leaves _ r = refl

entries_leave : (es : List Entry) (r : Replayed) → (replay es r).live ≡ live_after es r.live
unfolding live_after
entries_leave [] r = refl
entries_leave (e ∷ es) r = entries_leave es (replay_entry e r) ∙ ap (live_after es) (entry_leaves e r)

leases_leave : (es : List Entry) (live : Live) → live_after (leases_of es) live ≡ live_after es live
unfolding live_after live_by
leases_leave [] live = refl
leases_leave (Program program level answers output trace revision ∷ es) live = leases_leave es live
leases_leave (Foreign txn ∷ es) live = leases_leave es live
leases_leave (Grant id ttl moment ∷ es) live = leases_leave es (finmap.insert live id (record { ttl = ttl; renewed = moment }))
leases_leave (Renew id moment ∷ es) live = leases_leave es (renewed_at live id moment (finmap.get live id))
leases_leave (Revoke id ∷ es) live = leases_leave es (finmap.remove live id)
leases_leave (Expire id ∷ es) live = leases_leave es (finmap.remove live id)

-- entries with the same ones about leases leave the same leases
pub same_leases : (left right : List Entry) (r : Replayed) → leases_of left ≡ leases_of right → (replay left r).live ≡ (replay right r).live
same_leases left right r same =
    entries_leave left r ∙ sym (leases_leave left r.live) ∙ ap (λ es. live_after es r.live) same ∙ leases_leave right r.live ∙ sym (entries_leave right r)

-- ---- parts of a list of entries

one_kept : (b : Bool) (e : Entry) (es : List Entry) → cond b (e ∷ es) es ≡ cond b (e ∷ []) [] ++ es
one_kept true e es = refl
one_kept false e es = refl

both_kept : (xs ys : List Entry) → leases_of (xs ++ ys) ≡ leases_of xs ++ leases_of ys
both_kept [] ys = refl
both_kept (e ∷ xs) ys =
    ap (λ (es : List Entry). cond (is_about_lease e) (e ∷ es) es) (both_kept xs ys)
    ∙ one_kept (is_about_lease e) e (leases_of xs ++ leases_of ys)
    ∙ sym (append_assoc (cond (is_about_lease e) (e ∷ []) []) (leases_of xs) (leases_of ys))
    ∙ ap (λ (es : List Entry). es ++ leases_of ys) (sym (one_kept (is_about_lease e) e (leases_of xs)))

drop_at : (es : List Entry) (i : ℕ) (e : Entry) → i < length es → e ≡ get_or es i e → drop i es ≡ e ∷ drop (i + 1) es
drop_at es i e within is =
    drop-cons es i e within ∙ ap (λ x. x ∷ drop (suc i) es) (sym is) ∙ (let more : suc i ≡ i + 1 = omega arith in ap (λ j. e ∷ drop j es) more)

-- an entry that is about no lease is left out
pub skipped : (es : List Entry) (i : ℕ) (e : Entry) → i < length es → e ≡ get_or es i e → is_about_lease e ≡ false →
    leases_of (drop i es) ≡ leases_of (drop (i + 1) es)
skipped es i e within is plain =
    ap leases_of (drop_at es i e within is) ∙ ap (λ (b : Bool). cond b (e ∷ leases_of (drop (i + 1) es)) (leases_of (drop (i + 1) es))) plain

-- ---- two lists, one entry after another

pub all_seen : (left others : List Entry) (i next : ℕ) → length left ≤ i → leases_of (take i left) ++ leases_of (drop next others) ≡ leases_of others →
    leases_of (drop next others) ≡ [] → leases_of left ≡ leases_of others
all_seen left others i next long so_far none =
    ap leases_of (sym (take_all i left long)) ∙ sym (append-nil (leases_of (take i left))) ∙ ap (λ (es : List Entry). leases_of (take i left) ++ es) (sym none) ∙ so_far

-- one more of the entries so far
pub one_more : (left others : List Entry) (i next after : ℕ) (e : Entry) (all : List Entry) → i < length left → e ≡ get_or left i e →
    leases_of (e ∷ []) ++ leases_of (drop after others) ≡ leases_of (drop next others) →
    leases_of (take i left) ++ leases_of (drop next others) ≡ all → leases_of (take (i + 1) left) ++ leases_of (drop after others) ≡ all
one_more left others i next after e all within is same so_far =
    let more : i + 1 ≡ suc i = omega arith in
    ap (λ j. leases_of (take j left) ++ leases_of (drop after others)) more
    ∙ ap (λ (es : List Entry). leases_of es ++ leases_of (drop after others)) (take-suc left i e within ∙ ap (λ x. take i left ++ x ∷ []) (sym is))
    ∙ ap (λ (es : List Entry). es ++ leases_of (drop after others)) (both_kept (take i left) (e ∷ []))
    ∙ append_assoc (leases_of (take i left)) (leases_of (e ∷ [])) (leases_of (drop after others))
    ∙ ap (λ (es : List Entry). leases_of (take i left) ++ es) same
    ∙ so_far
