-- What the spelling of a program says of the keys that its runs want and write.
use Rattle.std.proofs.Common.{◌≡◌, ℕ, Bool, true, false, cond, List, [], ◌∷◌, ◌++◌, map, sym, ◌∙◌, subst, arith}
use Rattle.std.specs.Prelude.{Option, Ok}
use Rattle.std.specs.List.{AllByRecursion, list_all}
use Rattle.std.proofs.lemmas.Bool.{and_parts, Decides.nat_tests}
use Rattle.std.proofs.lemmas.List.Folds.{list_all-append}
use Rattle.stm_history.specs.declared.change.Change.{Change}
use Rattle.stm_program.specs.Syntax.{Expression, Block, Number, Get, Rev}
use Rattle.stm_program.specs.Writes.{latest_writes}
use Rattle.stm_program.proofs.LatestLemmas.{with_write as with_latest, latest_writes-none, latest_writes-more}
use Rattle.stm_named_keys.specs.declared.names.Name.{Name}
use Rattle.stm_named_keys.specs.declared.written.Written.{Written}
use Rattle.stm_named_keys.specs.Named.{whole, followed, number_named, named, in_expression, in_condition, in_statement, in_block}
use Rattle.stm_named_keys.specs.Written.{written_in_statement, written_in_block}
use Rattle.stm_steps.specs.declared.value.Value.{Value}
use Rattle.stm_steps.specs.declared.value.Value.TheVariants.{Text as TextValue, Number as NumberValue}
use Rattle.stm_steps.specs.declared.fault.Fault.TheVariants.{TurnLimit}
use Rattle.stm_steps.specs.declared.stop.Stop.{Stop}
use Rattle.stm_steps.specs.declared.stop.Stop.TheVariants.{Faulted, Wants}
use Rattle.stm_steps.specs.declared.trace_item.TraceItem.{TraceItem}
use Rattle.stm_steps.specs.declared.run.Run.{Run}
use Rattle.stm_steps.specs.declared.run.Answered.TheVariants.{Ended, Wants as WantsKey}
use Rattle.stm_steps.specs.Answer.{Answer, Lookup}
use Rattle.stm_steps.specs.Values.{concatenated, text_of}
use Rattle.stm_steps.specs.Session.{Session, fresh}
use Rattle.stm_steps.specs.Outcome.{Outcome, Gives, Stops, and_then, begin_turn}
use Rattle.stm_steps.specs.Meaning.{get_answered, rev_answered, get_of, get_key, rev_key, answered, run_block, run_over}
use Rattle.stm_meaning.proofs.RunInduction.{Part, OfExpression, OfCondition, OfStatement, OfBlock, parts_of, Gift, Nothing, Given, Tells, Steps, block}
use Rattle.stm_narrow.specs.Touching.{is_touched, is_written, IsTouched, WritesWithin, NamedKeysAreKept}

-- ---- what is said of a value

-- what a name says of a value
abbrev Says : Name → Value → Type 0
Says name x = name.is_whole ≡ true → x ≡ TextValue name.text

-- a number that is spelled is the value
abbrev NumberIs : Expression → Value → Type 0
NumberIs (Number z) x = x ≡ NumberValue z
NumberIs _ x = Unit {0}

abbrev Told : Expression → Value → Type 0
Told e x = Says (named e) x × NumberIs e x

unnamed : {text : List ℕ} (x : Value) → Says (record { text = text; is_whole = false }) x
unnamed x none = absurd (cc)

joined_text : (t u : List ℕ) (z : Value) → concatenated (TextValue t) (TextValue u) ≡ Ok z → z ≡ TextValue (t ++ u)
unfolding concatenated
joined_text t u z is = grind (arith, nat_tests)

-- two texts in a row
says_joined : (l r : Name) (x y z : Value) → Says l x → Says r y → concatenated x y ≡ Ok z → Says (followed l r) z
says_joined l r x y z left right is = grind (arith, nat_tests, joined_text)

-- a number as text
says_number : (e : Expression) (x z : Value) → NumberIs e x → text_of x ≡ Ok z → Says (number_named e) z
unfolding text_of
says_number e x z is told second = grind (arith, nat_tests)

-- ---- names

module _ (touched : List ℕ → Bool) where
  abbrev AreNamed : List Name → Type 0
  AreNamed names = list_all (is_touched touched) names ≡ true

  split : (xs ys : List Name) → AreNamed (xs ++ ys) → AreNamed xs × AreNamed ys
  split xs ys all = and_parts _ _ (sym (list_all-append (is_touched touched) xs ys) ∙ all)

  -- the name of a key that is looked up: the key that the expression gives
  last_named : (xs : List Name) (name : Name) → AreNamed (xs ++ name ∷ []) → (name.is_whole ≡ true) × IsTouched touched name.text
  last_named xs name all = and_parts name.is_whole (touched name.text) ((and_parts (is_touched touched name) true (split xs (name ∷ []) all).1).0)

  list_named : (keys : List (List ℕ)) → AreNamed (map whole keys) → AllByRecursion (IsTouched touched) keys
  list_named [] all = tt
  list_named (key ∷ keys) all =
      let parts = and_parts (is_touched touched (whole key)) (list_all (is_touched touched) (map whole keys)) all in
      ((and_parts true (touched key) parts.0).1, list_named keys parts.1)

-- ---- what is known of a part of a program

module _ (touched : List ℕ → Bool) (leased : ℕ → Bool) where
  abbrev AreWritten : List Written → Type 0
  AreWritten ws = list_all (is_written touched leased) ws ≡ true

  split_written : (xs ys : List Written) → AreWritten (xs ++ ys) → AreWritten xs × AreWritten ys
  split_written xs ys all = and_parts _ _ (sym (list_all-append (is_written touched leased) xs ys) ∙ all)

  -- one write: its name is whole, its key touched, and its lease one of those
  one_written : (name : Name) (lease : ℕ) → AreWritten (record { key = name; lease = lease } ∷ []) →
      ((name.is_whole ≡ true) × IsTouched touched name.text) × (leased lease ≡ true)
  one_written name lease all = grind (arith, nat_tests, and_parts)

  -- the keys that it names are touched, and what it writes is within
  abbrev PartKeeps : Part → Type 0
  PartKeeps (OfExpression e) = AreNamed touched (in_expression e)
  PartKeeps (OfCondition c) = AreNamed touched (in_condition c)
  PartKeeps (OfStatement p) = AreNamed touched (in_statement p) × AreWritten (written_in_statement p)
  PartKeeps (OfBlock b) = AreNamed touched (in_block b) × AreWritten (written_in_block b)

  two : (xs ys : List Name) → AreNamed touched (xs ++ ys) → AreNamed touched xs × (AreNamed touched ys × Unit {0})
  two xs ys all = let parts = split touched xs ys all in (parts.0, (parts.1, tt))

  parts_keep : (part : Part) → PartKeeps part → AllByRecursion PartKeeps (parts_of part)
  parts_keep part all = grind (arith, nat_tests, OfExpression, split, two, OfCondition, OfStatement, split_written, OfBlock)

-- ---- what it keeps

module _ (touched : List ℕ → Bool) (leased : ℕ → Bool) (look : Lookup) where
  abbrev AreWithin : Session → Type 0
  AreWithin s = AllByRecursion (WritesWithin touched leased) (latest_writes s.writes)

  abbrev IsStop : Stop → Type 0
  IsStop (Wants key) = IsTouched touched key
  IsStop _ = Unit {0}

  -- its writes are within, what it gives is so, and a key that it wants is touched
  abbrev Kept : {X : Type 0} → (X → Type 0) → Outcome X → Type 0
  Kept Q (Gives x s) = AreWithin s × Q x
  Kept Q (Stops stop s) = AreWithin s × IsStop stop

  abbrev Keeps : (a : Gift) (f g : Session → Outcome (Given a)) → Type 0
  Keeps a f g = (s : Session) → AreWithin s → Kept (Tells Told a) (f s)

  after : {X Y : Type 0} (Q : X → Type 0) (R : Y → Type 0) (o : Outcome X) (k : X → Session → Outcome Y) → Kept Q o →
      ((x : X) → Q x → (s : Session) → AreWithin s → Kept R (k x s)) → Kept R (and_then o k)
  after Q R o k h next = grind (arith, nat_tests)

  -- the key that was given is the one that is named
  is_touched_key : (name : Name) (key : List ℕ) → (name.is_whole ≡ true) × IsTouched touched name.text → Says name (TextValue key) → IsTouched touched key
  is_touched_key name key is says = grind (arith, nat_tests)

  keeps_get_answered : (e : Expression) (key : List ℕ) (a : Option Answer) → IsTouched touched key → (s : Session) → AreWithin s →
      Kept (Told (Get e)) (get_answered key a s)
  keeps_get_answered e key a is s h = grind (arith, nat_tests, unnamed)

  keeps_get_of : (e : Expression) (key : List ℕ) (w : Option Change) → IsTouched touched key → (s : Session) → AreWithin s →
      Kept (Told (Get e)) (get_of look key w s)
  keeps_get_of e key w is s h = grind (arith, nat_tests, keeps_get_answered, unnamed)

  keeps_rev_answered : (e : Expression) (key : List ℕ) (a : Option Answer) → IsTouched touched key → (s : Session) → AreWithin s →
      Kept (Told (Rev e)) (rev_answered key a s)
  keeps_rev_answered e key a is s h = grind (arith, nat_tests, unnamed)

  in_its_place : (w : Change) (ws : List Change) → AllByRecursion (WritesWithin touched leased) ws → WritesWithin touched leased w →
      AllByRecursion (WritesWithin touched leased) (with_latest w ws)
  in_its_place w [] all is = (is, tt)
  in_its_place w (x ∷ ws) all is = grind (arith, nat_tests, with_latest, in_its_place w ws all.1 is)

  one_more : (ws : List Change) (w : Change) → AllByRecursion (WritesWithin touched leased) (latest_writes ws) → WritesWithin touched leased w →
      AllByRecursion (WritesWithin touched leased) (latest_writes (ws ++ w ∷ []))
  one_more ws w all is = grind (arith, nat_tests, latest_writes-more, in_its_place)

  turn_kept : (b : Bool) (t s : Session) → AreWithin t → AreWithin s → Kept (Tells Told Nothing) (cond b (Gives tt t) (Stops (Faulted TurnLimit) s))
  turn_kept b t s begun h = grind (arith, nat_tests)

  steps_keep : Steps look look (PartKeeps touched leased) Told Keeps
  unfolding get_key rev_key begin_turn
  steps_keep =
      grind (arith, nat_tests, parts_keep, after, Tells, unnamed, keeps_get_of, is_touched_key, last_named, keeps_rev_answered, says_joined, says_number, one_written, one_more, turn_kept)

  -- ---- a run

  fresh_within : AreWithin fresh
  unfolding fresh
  fresh_within = subst (AllByRecursion (WritesWithin touched leased)) (sym latest_writes-none) tt

  kept_run : (program : Block) → PartKeeps touched leased (OfBlock program) → Kept (Tells Told Nothing) (run_block look program fresh)
  kept_run program all = block look look (PartKeeps touched leased) Told Keeps steps_keep program all fresh fresh_within

  wanted_by : (o : Outcome (Unit {0})) (key : List ℕ) (trace : List TraceItem) → Kept (Tells Told Nothing) o → answered o ≡ WantsKey key trace →
      IsTouched touched key
  wanted_by o key trace h is = grind (arith, nat_tests)

  written_by : (o : Outcome (Unit {0})) (run : Run) → Kept (Tells Told Nothing) o → answered o ≡ Ended run →
      AllByRecursion (WritesWithin touched leased) (latest_writes run.writes)
  written_by o run h is = grind (arith, nat_tests)

  -- what a run wants, and what it writes
  wanted_within : (program : Block) → PartKeeps touched leased (OfBlock program) → (key : List ℕ) (trace : List TraceItem) →
      run_over look program ≡ WantsKey key trace → IsTouched touched key
  unfolding run_over
  wanted_within program all key trace is = wanted_by (run_block look program fresh) key trace (kept_run program all) is

  written_within : (program : Block) → PartKeeps touched leased (OfBlock program) → (run : Run) →
      run_over look program ≡ Ended run → AllByRecursion (WritesWithin touched leased) (latest_writes run.writes)
  unfolding run_over
  written_within program all run is = written_by (run_block look program fresh) run (kept_run program all) is

pub named_keys_are_kept : NamedKeysAreKept
named_keys_are_kept touched leased program named ws =
    let parts = split touched (map whole program.prefetch) (in_block program.statements) named in
    record {
      wanted = λ look. wanted_within touched leased look program.statements (parts.1, ws);
      written = λ look. written_within touched leased look program.statements (parts.1, ws);
      listed = list_named touched program.prefetch parts.0;
    }
