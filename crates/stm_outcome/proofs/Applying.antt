-- What transactions of writes and of reads come to.
use Rattle.std.proofs.Common.{◌≡◌, ℕ, ◌+◌, ◌<◌, suc, Bool, true, false, cond, List, [], ◌∷◌, ◌++◌, length, map, Option, Some, None, refl, sym, ◌∙◌}
use Rattle.std.proofs.Common.{ap, subst, arith}
use Rattle.std.specs.Option.{option_or}
use Rattle.std.specs.Prelude.{bytes_eq, nat_eq, ◌||◌, ◌&&◌, ◌↔◌, not, Result, Ok, Err, slice_get}
use Rattle.std.specs.List.{list_any, list_all}
use Rattle.std.specs.Ordering.{is_lt, MatchOrdering}
use Rattle.std.specs.declared.cmp.Ordering.{Ordering}
use Rattle.std.proofs.lemmas.Bool.{le-ltb, ne_eqb, Decides.nat_tests}
use Rattle.stm_history.specs.declared.change.Change.{Change}
use Rattle.stm_history.specs.declared.change.Change.TheVariants.{Put as PutChange, Del as DelChange}
use Rattle.stm_history.specs.declared.key_state.KeyState.{KeyState}
use Rattle.stm_history.specs.History.{History, now, key_now, key_at, key_of, mod_of, change_of, HasDistinctKeys}
use Rattle.stm_history.proofs.HistoryLaws.{last_revision_is_now}
use Rattle.stm_outcome.specs.declared.txn.Txn.{Txn}
use Rattle.stm_outcome.specs.declared.txn.Compare.{Compare}
use Rattle.stm_outcome.specs.declared.txn.Op.{Op}
use Rattle.stm_outcome.specs.declared.txn.Op.TheVariants.{Get}
use Rattle.stm_outcome.specs.declared.answer.OpAnswer.{OpAnswer}
use Rattle.stm_outcome.specs.declared.answer.OpAnswer.TheVariants.{Get as GetAnswer}
use Rattle.stm_outcome.specs.declared.answer.FailedCompare.{FailedCompare}
use Rattle.stm_outcome.specs.declared.refusal.Refusal.{Refusal}
use Rattle.stm_outcome.specs.declared.refusal.Refusal.TheVariants.{LeaseNotFound, RevisionsUsedUp}
use Rattle.stm_outcome.specs.Operations.{key_of_op, clash}
use Rattle.stm_outcome.specs.Compares.{holds, first_failed}
use Rattle.stm_outcome.specs.Checks.{is_empty_key, has_clash, fault_of}
use Rattle.stm_outcome.specs.Branches.{branch_refusal, begun, answers_after, changes_of_branch}
use Rattle.stm_outcome.specs.LookUps.{changes_copied, answers_copied, outcome_copied}
use Rattle.stm_outcome.specs.Effect.{op_of, BranchIsEffect}
use Rattle.stm_outcome.specs.Outcome.{Done, chosen, with_changes, answer_of, finished, unless, branch_outcome, outcome}
use Rattle.stm_outcome.specs.Commits.{is_on_dead_lease, write_answer, Read, read_op, read_now, AreReached, AreNamed, shown, read_out, reads_now}
use Rattle.stm_outcome.specs.Laws.{WritesApply, FailedCompareReads, ReadsChangeNothing, NumberAloneIsWrong, ModCompares, NoneFailed, FailedHasItsPlace}
use Rattle.stm_outcome.specs.Laws.{HistoryGrows, BranchApplies}
use Rattle.stm_outcome.proofs.Folding.{changes_agree, by_look_up}
use Rattle.stm_outcome.specs.Terms.{Terms}
use Rattle.stm_outcome.proofs.Branching.{effect_copied, changes_are_distinct, apart_case, apart_back, all_absent, absent_push}

-- the outcome, where the whole transaction has no fault
pub judged : (terms : Terms) (txn : Txn) (failed : Option FailedCompare) → fault_of terms.limit txn ≡ None →
    first_failed (key_now terms.history) 0 txn.compares ≡ failed →
    outcome terms txn ≡ branch_outcome terms failed (chosen failed txn)
judged terms txn failed whole first = grind (arith, nat_tests)

-- a branch by its refusal, its changes and its answers
by_parts : (terms : Terms) (failed : Option FailedCompare) (ops : List Op) (refusal : Option Refusal) (changes : List Change)
    (answers : List OpAnswer) →
    branch_refusal terms ops ≡ refusal → changes_copied terms.history [] ops ≡ changes → answers_copied terms.history [] ops ≡ answers →
    outcome_copied terms failed ops ≡ unless refusal (finished terms.history failed changes answers)
by_parts terms failed ops refusal changes answers refused changed answered = grind (arith, nat_tests)

-- Writes: a put on a dead lease is their only refusal.
dead_case : (lives any : Bool) (rest : Option Refusal) → rest ≡ cond any (Some LeaseNotFound) None →
    option_or (cond lives None (Some LeaseNotFound)) rest ≡ cond (not lives || any) (Some LeaseNotFound) None
dead_case lives any rest is = grind (arith, nat_tests)

pub dead_refusal : (terms : Terms) (ws : List Change) →
    branch_refusal terms (map op_of ws) ≡ cond (list_any (is_on_dead_lease terms.is_live) ws) (Some LeaseNotFound) None
dead_refusal terms [] = refl
dead_refusal terms (PutChange key value lease ∷ ws) = grind (arith, nat_tests, dead_case, dead_refusal terms ws)
dead_refusal terms (DelChange key ∷ ws) = dead_refusal terms ws

answers_on : (h : History) (done ws : List Change) → HasDistinctKeys ws → all_absent done ws →
    answers_copied h done (map op_of ws) ≡ map (write_answer (key_now h)) ws
answers_on h done [] distinct absent = refl
answers_on h done (PutChange key value lease ∷ ws) distinct absent =
    grind (arith, nat_tests, absent_push, answers_on h (done ++ PutChange key value lease ∷ []) ws distinct.1 (absent_push done (PutChange key value lease) ws distinct.0 absent.1))
answers_on h done (DelChange key ∷ ws) distinct absent =
    grind (arith, nat_tests, absent_push, answers_on h done ws distinct.1 absent.1, answers_on h (done ++ DelChange key ∷ []) ws distinct.1 (absent_push done (DelChange key) ws distinct.0 absent.1))

nothing_done : (ws : List Change) → all_absent [] ws
nothing_done [] = tt
nothing_done (w ∷ ws) = (refl, nothing_done ws)

write_apart : (w later : Change) → bytes_eq (key_of later) (key_of w) ≡ false → clash (op_of w) (op_of later) ≡ false
write_apart w later apart = grind (arith, nat_tests, apart_back)

none_clash : (w : Change) (ws : List Change) → change_of (key_of w) ws ≡ None → list_any (clash (op_of w)) (map op_of ws) ≡ false
none_clash w [] absent = refl
none_clash w (x ∷ xs) absent =
    let split : (bytes_eq (key_of x) (key_of w) ≡ false) × (change_of (key_of w) xs ≡ None) =
    apart_case (bytes_eq (key_of x) (key_of w)) x (change_of (key_of w) xs) absent in
    ap (λ b. b || list_any (clash (op_of w)) (map op_of xs)) (write_apart w x split.0) ∙ none_clash w xs split.1

pub writes_apart : (ws : List Change) → HasDistinctKeys ws → has_clash (map op_of ws) ≡ false
writes_apart [] distinct = refl
writes_apart (w ∷ ws) distinct = ap (λ b. b || has_clash (map op_of ws)) (none_clash w ws distinct.0) ∙ writes_apart ws distinct.1

pub branch_is_effect : BranchIsEffect
branch_is_effect h ws distinct = changes_agree h (map op_of ws) (writes_apart ws distinct) ∙ effect_copied h ws distinct

pub branch_applies : BranchApplies
branch_applies terms ws distinct = grind (arith, nat_tests, by_look_up, writes_apart, by_parts, dead_refusal, effect_copied, answers_on, nothing_done)

pub writes_apply : WritesApply
writes_apply terms txn ws is distinct whole first = grind (arith, nat_tests, judged, branch_applies)

-- Reads: none above the counter is refused, and none changes anything.
no_refusal : (terms : Terms) (reads : List Read) → AreReached terms reads → branch_refusal terms (map read_op reads) ≡ None
no_refusal terms [] reached = refl
no_refusal terms (r ∷ rs) reached = grind (arith, nat_tests, le-ltb, no_refusal terms rs reached.2)

no_changes : (h : History) (reads : List Read) → changes_copied h [] (map read_op reads) ≡ []
no_changes h [] = refl
no_changes h (r ∷ rs) = no_changes h rs

shown_case : (h : History) (r : Read) (current : Bool) →
    GetAnswer (cond current (record { key = r.key; kv = key_now h r.key; of_rev = now h; revision = now h })
    (record { key = r.key; kv = key_at h r.key r.rev; of_rev = r.rev; revision = now h }))
    ≡ GetAnswer (record { key = r.key; kv = key_at h r.key (cond current (now h) r.rev); of_rev = cond current (now h) r.rev; revision = now h })
shown_case h r current = grind (arith, nat_tests, last_revision_is_now)

all_shown : (h : History) (reads : List Read) → answers_copied h [] (map read_op reads) ≡ map (shown h) reads
all_shown h [] = refl
all_shown h (r ∷ rs) = ap (λ a. a ∷ answers_copied h [] (map read_op rs)) (shown_case h r (nat_eq r.rev 0)) ∙ ap (λ l. shown h r ∷ l) (all_shown h rs)

get_clashes : (key : List ℕ) (rev : ℕ) (ops : List Op) → list_any (clash (Get key rev)) ops ≡ false
get_clashes key rev [] = refl
get_clashes key rev (op ∷ ops) = get_clashes key rev ops

reads_stand_apart : (reads : List Read) → has_clash (map read_op reads) ≡ false
reads_stand_apart [] = refl
reads_stand_apart (r ∷ rs) = ap (λ b. b || has_clash (map read_op rs)) (get_clashes r.key r.rev (map read_op rs)) ∙ reads_stand_apart rs

reads_come_to : (terms : Terms) (failed : Option FailedCompare) (reads : List Read) → AreReached terms reads →
    branch_outcome terms failed (map read_op reads) ≡ Ok (read_out terms.history failed reads)
reads_come_to terms failed reads reached = grind (arith, nat_tests, by_look_up, reads_stand_apart, by_parts, no_refusal, no_changes, all_shown)

pub reads_change_nothing : ReadsChangeNothing
reads_change_nothing terms txn reads none is whole reached = grind (arith, nat_tests, judged, reads_come_to)

as_reads : (keys : List (List ℕ)) → map read_now keys ≡ map read_op (reads_now keys)
as_reads [] = refl
as_reads (k ∷ ks) = ap (λ l. Get k 0 ∷ l) (as_reads ks)

now_reached : (terms : Terms) (keys : List (List ℕ)) → AreReached terms (reads_now keys)
now_reached terms [] = tt
now_reached terms (k ∷ ks) = (omega arith, refl, now_reached terms ks)

pub failed_compare_reads : FailedCompareReads
failed_compare_reads terms txn keys failed is whole first =
    judged terms txn (Some failed) whole first
    ∙ ap (branch_outcome terms (Some failed)) (is ∙ as_reads keys)
    ∙ reads_come_to terms (Some failed) (reads_now keys) (now_reached terms keys)

-- The faults of a whole transaction: of named keys none is empty, and distinct writes and reads don't clash.
has_bytes : (key : List ℕ) → 0 < length key → is_empty_key key ≡ false
has_bytes key more = ne_eqb (length key) 0 (λ (is : length key ≡ 0). omega arith)

compares_named : (cs : List Compare) → AreNamed (map (λ (c : Compare). c.key) cs) → list_any (λ (c : Compare). is_empty_key c.key) cs ≡ false
compares_named [] named = refl
compares_named (c ∷ cs) named = ap (λ b. b || list_any (λ (d : Compare). is_empty_key d.key) cs) (has_bytes c.key named.0) ∙ compares_named cs named.1

write_named : (w : Change) → 0 < length (key_of w) → is_empty_key (key_of_op (op_of w)) ≡ false
write_named w more = grind (arith, nat_tests, has_bytes)

writes_named : (ws : List Change) → AreNamed (map key_of ws) → list_any (λ op. is_empty_key (key_of_op op)) (map op_of ws) ≡ false
writes_named [] named = refl
writes_named (w ∷ ws) named = ap (λ b. b || list_any (λ op. is_empty_key (key_of_op op)) (map op_of ws)) (write_named w named.0) ∙ writes_named ws named.1

reads_named : (keys : List (List ℕ)) → AreNamed keys → list_any (λ op. is_empty_key (key_of_op op)) (map read_now keys) ≡ false
reads_named [] named = refl
reads_named (k ∷ ks) named = ap (λ b. b || list_any (λ op. is_empty_key (key_of_op op)) (map read_now ks)) (has_bytes k named.0) ∙ reads_named ks named.1

reads_apart : (keys : List (List ℕ)) → has_clash (map read_now keys) ≡ false
reads_apart [] = refl
reads_apart (k ∷ ks) = ap (λ b. b || has_clash (map read_now ks)) (get_clashes k 0 (map read_now ks)) ∙ reads_apart ks

pub number_alone_is_wrong : NumberAloneIsWrong
number_alone_is_wrong limit txn ws keys writes reads distinct compared written read =
    grind (arith, nat_tests, compares_named, writes_named, reads_named, writes_apart, reads_apart)

below_rank : (r : Ordering) (a b : ℕ) → MatchOrdering r (a < b) (a ≡ b) (b < a) → (is_lt r ≡ true) ↔ (a < b)
below_rank r a b rank = grind (arith, nat_tests)

pub mod_compares : ModCompares
mod_compares = grind (arith, nat_tests, below_rank)

-- The first compare that fails.
hold_case : (b all : Bool) (next : Option FailedCompare) (f : FailedCompare) → (next ≡ None → all ≡ true) → cond b next (Some f) ≡ None → (b && all) ≡ true
hold_case b all next f rest none = grind (arith, nat_tests)

all_hold : (state : List ℕ → Option KeyState) (index : ℕ) (cs : List Compare) → first_failed state index cs ≡ None →
    list_all (λ (c : Compare). holds c (state c.key)) cs ≡ true
all_hold state index [] none = refl
all_hold state index (c ∷ cs) none = grind (arith, nat_tests, hold_case, all_hold state (index + 1) cs)

fail_case : (b all : Bool) (next : Option FailedCompare) (f : FailedCompare) → (all ≡ true → next ≡ None) → (b && all) ≡ true → cond b next (Some f) ≡ None
fail_case b all next f rest hold = grind (arith, nat_tests)

none_fails : (state : List ℕ → Option KeyState) (index : ℕ) (cs : List Compare) → list_all (λ (c : Compare). holds c (state c.key)) cs ≡ true →
    first_failed state index cs ≡ None
none_fails state index [] hold = refl
none_fails state index (c ∷ cs) hold = grind (arith, nat_tests, fail_case, none_fails state (index + 1) cs)

pub none_failed : NoneFailed
none_failed state cs = (all_hold state 0 cs, none_fails state 0 cs)

-- the failed compare stands at a place of the list, counted from the index of its first
record FoundFrom (state : List ℕ → Option KeyState) (index : ℕ) (cs : List Compare) (f : FailedCompare) : Type 0 where
  place : ℕ
  is : f.index ≡ index + place
  within : place < length cs
  compare : Compare
  stands : slice_get cs place ≡ Some compare
  fails : holds compare (state compare.key) ≡ false
  reported : f.mod_rev ≡ mod_of (state compare.key)

found_later : (state : List ℕ → Option KeyState) (index : ℕ) (c : Compare) (cs : List Compare) (f : FailedCompare) → FoundFrom state (index + 1) cs f →
    FoundFrom state index (c ∷ cs) f
found_later state index c cs f found =
    let at : f.index ≡ (index + 1) + found.place = found.is in
    let inside : found.place < length cs = found.within in
    record {
      place = suc found.place;
      is = omega arith;
      within = omega arith;
      compare = found.compare;
      stands = found.stands;
      fails = found.fails;
      reported = found.reported;
    }

found_case : (b : Bool) (state : List ℕ → Option KeyState) (index : ℕ) (c : Compare) (cs : List Compare) (f : FailedCompare) → holds c (state c.key) ≡ b →
    (first_failed state (index + 1) cs ≡ Some f → FoundFrom state (index + 1) cs f) →
    cond b (first_failed state (index + 1) cs) (Some (record { index = index; mod_rev = mod_of (state c.key) })) ≡ Some f → FoundFrom state index (c ∷ cs) f
found_case b state index c cs f test later is = grind (arith, nat_tests, found_later)

found_from : (state : List ℕ → Option KeyState) (index : ℕ) (cs : List Compare) (f : FailedCompare) → first_failed state index cs ≡ Some f →
    FoundFrom state index cs f
found_from state index [] f is = cc
found_from state index (c ∷ cs) f is = found_case (holds c (state c.key)) state index c cs f refl (found_from state (index + 1) cs f) is

pub failed_has_its_place : FailedHasItsPlace
failed_has_its_place state cs f is =
    let found : FoundFrom state 0 cs f = found_from state 0 cs f is in
    let place : found.place ≡ f.index = let at : f.index ≡ 0 + found.place = found.is in omega arith in
    record {
      within = subst (λ n. n < length cs) place found.within;
      compare = found.compare;
      stands = ap (slice_get cs) (sym place) ∙ found.stands;
      fails = found.fails;
      reported = found.reported;
    }

-- What an outcome's history is.
pub of_unless : {T : Type 0} (refusal : Option Refusal) (next : Result T Refusal) (t : T) → unless refusal next ≡ Ok t → (refusal ≡ None) × (next ≡ Ok t)
of_unless refusal next t is = grind (arith, nat_tests)

pub of_finished : (used : Bool) (d done : Done) → cond used (Err RevisionsUsedUp) (Ok d) ≡ Ok done → d ≡ done
of_finished used d done is = grind (arith, nat_tests)

pub chosen_apart : (limit : ℕ) (txn : Txn) (failed : Option FailedCompare) → fault_of limit txn ≡ None → has_clash (chosen failed txn) ≡ false
chosen_apart limit txn failed none = grind (arith, nat_tests)

-- the branch that runs, and what a transaction that is not refused comes to
abbrev pub branch_run : History → Txn → List Op
branch_run h txn = chosen (first_failed (key_now h) 0 txn.compares) txn

abbrev pub done_by : History → Txn → Done
done_by h txn = record {
  answer = answer_of h (first_failed (key_now h) 0 txn.compares) (changes_of_branch h (branch_run h txn)) (answers_after h (begun h) (branch_run h txn));
  history = with_changes h (changes_of_branch h (branch_run h txn));
}

pub record IsDone (terms : Terms) (txn : Txn) (done : Done) : Type 0 where
  pub right : fault_of terms.limit txn ≡ None
  pub allowed : branch_refusal terms (branch_run terms.history txn) ≡ None
  pub made : done_by terms.history txn ≡ done

pub is_done : (terms : Terms) (txn : Txn) (done : Done) → outcome terms txn ≡ Ok done → IsDone terms txn done
is_done terms txn done is = grind (arith, nat_tests, of_unless, of_finished)

pub history_grows : HistoryGrows
history_grows terms txn done is = grind (arith, nat_tests, is_done, chosen_apart, changes_agree, changes_are_distinct)
