-- The lines of a run whose numbers are within 64 bits are read as they were written.
use Rattle.std.proofs.Common.{◌≡◌, ℕ, suc, ◌+◌, ◌≤◌, Bool, true, false, cond, List, [], ◌∷◌, length, map, refl, sym, ap, ◌∙◌, subst, arith}
use Rattle.std.proofs.Common.{Option, Some, None, IfSome}
use Rattle.std.proofs.lemmas.Bool.{leb-true, Decides.nat_tests}
use Rattle.std.specs.Prelude.{Result, T, nat_le, nat_eq, ◌&&◌}
use Rattle.std.specs.FinMap as finmap
use Rattle.std.specs.List.{AllByRecursion}
use Rattle.std.specs.FinMap.Entries.{find, below_all, is_sorted}
use Rattle.std.specs.Ordering.{nat_cmp, is_lt, eq_by_cmp}
use Rattle.stm_leases.proofs.Tables.{test_number}
use Rattle.stm_world.proofs.Slots.{same_number, equal_numbers}
use Rattle.stm_history.proofs.HistoryLaws.{last_revision_is_now}
use Rattle.stm_leases.specs.declared.bounds.TheConstants.{HIGHEST_TTL}
use Rattle.stm_history.specs.declared.key_state.KeyState.{KeyState}
use Rattle.stm_history.specs.History.{History, now, key_now}
use Rattle.stm_leases.specs.LeaseLog.{Term}
use Rattle.stm_outcome.specs.Numbers.{StateFits}
use Rattle.stm_txn.specs.Standing.{Standing}
use Rattle.stm_txn.proofs.Bounding.{both}
use Rattle.stm_txn.proofs.Fitting.{states_fit}
use Rattle.stm_events.specs.declared.reply.Reply.{Reply}
use Rattle.stm_events.specs.declared.refusal.Denied.{Denied}
use Rattle.stm_events.specs.declared.line.ReportLine.TheVariants.{Event as EventLine}
use Rattle.stm_check.specs.StoreLines.{key_lines_of, key_lines, lease_line, end_lines}
use Rattle.stm_report.specs.Report.{event_lines}
use Rattle.stm_report_laws.specs.ReadBack.{IsReadable, AreReadable}
use Rattle.stm_report_laws.proofs.SmallRuns.{all_append}
use Rattle.stm_report_laws.proofs.SmallStores.{IsSmall, HistoryFits, id_fits}
use Rattle.stm_report_laws.proofs.Plain.{Few, plain, numbers_plain}
use Rattle.stm_report_laws.proofs.SmallReplies.{AnswerToFits, RepliesFit}

-- ---- the lines of events

-- a line that fits does so with any number that fits
renumbered : (n : ℕ) (reply : Result Reply Denied) → Few n → AnswerToFits reply → IsReadable (EventLine n reply)
renumbered n reply few fits = grind (arith, nat_tests, plain)

pub events_readable : (n : ℕ) (replies : List (Result Reply Denied)) → Few (n + length replies) → RepliesFit replies → AreReadable (event_lines n replies)
events_readable n [] few fits = tt
events_readable n (r ∷ replies) few fits = grind (arith, nat_tests, renumbered, events_readable (suc n) replies (omega (arith, few)) fits.1)

-- ---- the lines of the end

key_readable : (key : List ℕ) (o : Option KeyState) → IfSome o StateFits → AreReadable (key_lines_of key o)
key_readable key None fits = tt
key_readable key (Some s) fits = (((tt, (tt, (tt, numbers_plain s fits))), tt), tt)

now_fits : (h : History) (key : List ℕ) → HistoryFits h → IfSome (key_now h key) StateFits
now_fits h key fits =
    subst (λ (o : Option KeyState). IfSome o StateFits) (last_revision_is_now h key (now h) (omega arith)) (states_fit h fits.1 fits.0 key (now h))

keys_readable : (h : History) (keys : List (List ℕ)) → HistoryFits h → AreReadable (key_lines h keys)
keys_readable h [] fits = tt
keys_readable h (key ∷ keys) fits = grind (arith, nat_tests, all_append, key_readable, now_fits, keys_readable h keys fits)

-- a term of a list by id
abbrev TermFits : ℕ × Term → Type 0
TermFits e = Few e.0 × Few (e.1).ttl × Few (e.1).renewed

abbrev TermsFit : List (ℕ × Term) → Type 0
TermsFit = AllByRecursion TermFits

leases_readable : (es : List (ℕ × Term)) → TermsFit es → AreReadable (map lease_line es)
leases_readable [] fits = tt
leases_readable (e ∷ es) fits = grind (arith, nat_tests, plain, leases_readable es fits.1)

both_of : (a b : Bool) → T (a && b) → T a × T b
both_of a b h = grind (arith, nat_tests)

never_less : (id : ℕ) → T (is_lt (nat_cmp id id)) → ⊥
never_less id less = grind (arith, nat_tests, test_number, same_number)

-- an id that stands in the rest of an ascending list is not the first one
is_above : (low : ℕ) (es : List (ℕ × Term)) (id : ℕ) (term : Term) → T (below_all nat_cmp low es) → find nat_cmp id es ≡ Some term → id ≡ low → ⊥
is_above low [] id term below found same = absurd (cc)
is_above low (e ∷ es) id term below found same =
    let parts = both_of (is_lt (nat_cmp low e.0)) (below_all nat_cmp low es) below in
    by (eq_by_cmp nat_cmp id e.0) (nat_eq id e.0) (test_number id e.0) refl parts.0 found
    (λ later. is_above low es id term parts.1 later same)
  where
    by : (b c : Bool) → b ≡ c → nat_eq id e.0 ≡ c → T (is_lt (nat_cmp low e.0)) → cond b (Some e.1) (find nat_cmp id es) ≡ Some term →
        (find nat_cmp id es ≡ Some term → ⊥) → ⊥
    by true true is own less found later =
        never_less low (subst (λ (k : ℕ). T (is_lt (nat_cmp low k))) (sym (equal_numbers id e.0 own) ∙ same) less)
    by true false is own less found later = absurd (cc)
    by false c is own less found later = later found

other_id : (b : Bool) (id low : ℕ) → eq_by_cmp nat_cmp id low ≡ b → (id ≡ low → ⊥) → b ≡ false
other_id b id low is apart = grind (arith, nat_tests, equal_numbers, test_number)

terms_fit : (es : List (ℕ × Term)) → T (is_sorted nat_cmp es) →
    ((id : ℕ) (term : Term) → find nat_cmp id es ≡ Some term → TermFits (id, term)) → TermsFit es
terms_fit [] sorted each = tt
terms_fit (e ∷ es) sorted each =
    let parts = both_of (below_all nat_cmp e.0 es) (is_sorted nat_cmp es) sorted in
    let own : eq_by_cmp nat_cmp e.0 e.0 ≡ true = test_number e.0 e.0 ∙ same_number e.0 in (
      each e.0 e.1 (ap (λ (b : Bool). cond b (Some e.1) (find nat_cmp e.0 es)) own),
      terms_fit es parts.1 (λ id term found.
          each id term (ap (λ (b : Bool). cond b (Some e.1) (find nat_cmp id es))
          (other_id (eq_by_cmp nat_cmp id e.0) id e.0 refl (is_above e.0 es id term parts.0 found)) ∙ found)),
    )

live_terms_fit : (s : Standing) → IsSmall s → TermsFit (finmap.entries s.live)
live_terms_fit s small =
    terms_fit (finmap.entries s.live) (finmap.entries_sorted s.live)
    (λ id term found. term_fits id term (sym_found id term found))
  where
    sym_found : (id : ℕ) (term : Term) → find nat_cmp id (finmap.entries s.live) ≡ Some term → finmap.get s.live id ≡ Some term
    sym_found id term found = finmap.get-entries s.live id ∙ found

    term_fits : (id : ℕ) (term : Term) → finmap.get s.live id ≡ Some term → TermFits (id, term)
    term_fits id term found =
        let ranges = small.live id term found in
        let ttl : term.ttl ≤ HIGHEST_TTL = leb-true term.ttl HIGHEST_TTL (both (nat_le 1 term.ttl) (nat_le term.ttl HIGHEST_TTL) ranges.1).1 in
        (id_fits id ranges.0, omega (arith, ttl), small.renewed id term found)

pub end_readable : (s : Standing) (entries : ℕ) → IsSmall s → Few entries → AreReadable (end_lines s entries)
end_readable s entries small few = grind (arith, nat_tests, all_append, keys_readable, leases_readable, live_terms_fit, plain)
