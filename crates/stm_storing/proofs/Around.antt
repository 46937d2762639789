-- What a crash leaves of a command: of the opening of a file, and of what follows it.
use Rattle.std.proofs.Common.{◌≡◌, ◌⊎◌, inl, inr, ⊎_elim, ℕ, zero, suc, List, [], Option, Result, length, refl, sym, ap, ◌∙◌, subst, arith}
use Rattle.stm_texts.specs.declared.scenario.Scenario.{Scenario}
use Rattle.stm_texts.specs.Opens.{setup_of}
use Rattle.stm_events.specs.declared.reply.Reply.{Reply}
use Rattle.stm_events.specs.declared.refusal.Denied.{Denied}
use Rattle.stm_world.specs.World.{World, opened, world_after, replies_to}
use Rattle.stm_records.specs.Disk.{LeavesOnly}
use Rattle.stm_records.specs.RecordFiles.{OpensAlike}
use Rattle.stm_lasting.specs.Kept.{IsKept, IsReady}
use Rattle.stm_lasting.proofs.Leading.{still}
use Rattle.stm_lasting.proofs.Moments.{nothing}
use Rattle.stm_report.specs.declared.format.Format.{Format}
use Rattle.stm_report.specs.FormatScript.{IsTextSince}
use Rattle.stm_report.proofs.FormatRowLemmas.{one_reply}
use Rattle.stm_storing.specs.Storing.{IsOpened, HasRun, HasPrinted, HasGoneOn, LeavesAround}

-- the opening of a file, and then what leaves a file that has Q
pub then : {D : Type 0} {moment : D → ℕ} {left_since : D → ℕ → List ℕ → Type 0} {old mid new : D} {found mended : List ℕ} {world : World}
    {Q : List ℕ → List ℕ → Type 0} → IsOpened found mended world → LeavesOnly moment left_since old mid (OpensAlike found)
    → LeavesOnly moment left_since mid new (Q mended)
    → LeavesOnly moment left_since old new (λ c. OpensAlike found c ⊎ ((m : List ℕ) × (w : World) × IsOpened found m w × Q m c))
then {moment = moment} {old = old} {mended = mended} {world = world} opened first second = record {
  later = omega (arith, first.later, second.later);
  each = λ c left. ⊎_elim (λ past. inl (first.each c past)) (λ now. inr (mended, world, opened, now)) (second.before (moment old) c first.later left);
  before = λ t c le left.
      ⊎_elim
      (λ mid. ⊎_elim (λ past. inl past) (λ now. inr (inl now)) (first.before t c le mid))
      (λ now. inr (inr (mended, world, opened, now)))
      (second.before t c (omega (arith, le, first.later)) left);
}

-- some world is ready for a scenario
some_ready : (end : ℕ) (file : List ℕ) (kept : World) (scenario : Scenario) → end ≡ length file → IsKept file kept → (before : World) × IsReady file before scenario
some_ready zero file kept scenario is is_kept = (opened (setup_of scenario.opening), inl (nothing file (sym is), refl))
some_ready (suc n) file kept scenario is is_kept = (kept, inr ((λ none. absurd (omega (arith, is, ap length none))), is_kept))

-- nothing was run yet
pub not_yet : (end : ℕ) (file text : List ℕ) (kept : World) (scenario : Scenario) → end ≡ length file → IsKept file kept → (c : List ℕ) → c ≡ file
    → LeavesAround file text scenario c
not_yet end file text kept scenario is is_kept c same =
    let ready = some_ready end file kept scenario is is_kept in
    (ready.0, ready.1, still file text (world_after scenario.events ready.0) c same)

-- ---- a scenario that was run

module _ (mended : List ℕ) (scenario : Scenario) (since : ℕ) (after_it : World) (replies : List (Result Reply Denied))
    (run : HasRun mended scenario since after_it replies) where
  -- each event has its reply
  pub run_replies : length scenario.events ≡ length replies
  run_replies = sym (ap (λ (rs : List (Result Reply Denied)). length rs) run.3 ∙ one_reply scenario.events run.0)

  kept_past : (file : List ℕ) → IsKept file after_it → IsKept file (world_after scenario.events run.0)
  kept_past file kept = subst (λ (w : World). IsKept file w) run.2 kept

  -- and its report was printed
  pub gone_on : (format : Format) (found file : List ℕ) (world : World) (before_it held : Option (List ℕ)) → IsOpened found mended world → IsKept file after_it
      → HasPrinted format since after_it scenario.events replies before_it held → HasGoneOn format found file scenario before_it held
  gone_on format found file world before_it held opened kept printed = record {
    mended = mended;
    world = world;
    opened = opened;
    before = run.0;
    ready = run.1;
    kept = kept_past file kept;
    report = printed.0;
    reported =
        subst (λ (n : ℕ). IsTextSince n format [] (world_after scenario.events run.0) scenario.events (replies_to scenario.events run.0) printed.0) run.4
        (subst (λ (rs : List (Result Reply Denied)). IsTextSince since format [] (world_after scenario.events run.0) scenario.events rs printed.0) run.3
        (subst (λ (w : World). IsTextSince since format [] w scenario.events replies printed.0) run.2 printed.1));
    printed = printed.2;
  }
