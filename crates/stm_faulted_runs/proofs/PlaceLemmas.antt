-- The place of a fault begins with the index of a statement, of which a program has no more than it may have nodes.
use Rattle.std.proofs.Common.{◌≡◌, ◌∙◌, ℕ, zero, suc, ◌-◌, ◌<◌, ◌≤◌, Bool, true, false, nat_lt, List, ◌∷◌, Option, None, Some, refl, sym, ap, subst, arith}
use Rattle.std.specs.Prelude.{IfSome}
use Rattle.std.proofs.lemmas.Bool.{ltb-true, ltb-false}
use Rattle.std.proofs.lemmas.Option.{same_Some}
use Rattle.stm_program.specs.declared.limits.TheConstants.{MAX_DEPTH, MAX_NODES}
use Rattle.stm_program.specs.Syntax.{Statement, Set, Block, End, Then, ProgramTree}
use Rattle.stm_program.specs.Size.{statement_nodes, block_nodes}
use Rattle.stm_program.specs.Limits.{BlockFits, Fits}
use Rattle.stm_program.proofs.ListLemmas.{statements_fit}
use Rattle.stm_steps.specs.declared.stop.Stop.{Stop}
use Rattle.stm_steps.specs.declared.stop.Stop.TheVariants.{Aborted, Faulted, Wants}
use Rattle.stm_steps.specs.Answer.{Lookup}
use Rattle.stm_steps.specs.Session.{Session, fresh}
use Rattle.stm_steps.specs.Outcome.{Outcome, Gives, Stops}
use Rattle.stm_steps.specs.Meaning.{run_block}
use Rattle.stm_sites.specs.declared.site.Site.{Site}
use Rattle.stm_sites.specs.declared.finding.FoundFault.{FoundFault}
use Rattle.stm_sites.specs.Sites.{block_site, site_of}
use Rattle.stm_sites.specs.Found.{fault_by, fault_of}
use Rattle.stm_sites.specs.Laws.{front, StopsFirst}
use Rattle.stm_sites.proofs.SiteLemmas.{sites_are_first}
use Rattle.stm_faulted_runs.specs.Places.{BeginsBelow}

-- ---- how many statements a block has

abbrev count_of : Block → ℕ
count_of End = 0
count_of (Then s b) = suc (count_of b)

a_node : (s : Statement) → 1 ≤ statement_nodes s
a_node (Set v e) = omega arith
a_node _ = omega arith

few : (b : Block) → count_of b ≤ block_nodes b
few End = omega arith
few (Then s b) = omega (arith, a_node s, few b)

all_of : (n : ℕ) (b : Block) → count_of b ≤ n → front n b ≡ b
all_of zero End h = refl
all_of zero (Then s b) h = absurd (omega arith)
all_of (suc n) End h = refl
all_of (suc n) (Then s b) h = ap (λ (rest : Block). Then s rest) (all_of n b (omega arith))

-- ---- the first statement that stops a run is one of them

within_by : (look : Lookup) (b : Block) (s t : Session) (stop : Stop) (number : ℕ) → StopsFirst look b s stop t number → (test : Bool) →
    nat_lt number (count_of b) ≡ test → number < count_of b
within_by look b s t stop number stops true is = ltb-true number (count_of b) is
within_by look b s t stop number stops false is =
    let past : count_of b ≤ number = ltb-false number (count_of b) is in
    let same : front number b ≡ front (suc number) b = all_of number b past ∙ sym (all_of (suc number) b (omega arith)) in
    let clash : Gives tt stops.before.0 ≡ Stops stop t = sym stops.before.1 ∙ ap (λ (c : Block). run_block look c s) same ∙ stops.with_it in
    absurd (cc)

placed : (look : Lookup) (b : Block) (s t : Session) (stop : Stop) → block_nodes b ≤ MAX_NODES →
    (number : ℕ) × (inner : List ℕ) × ((block_site look 0 b s).place ≡ number ∷ inner) × StopsFirst look b s stop t number →
    BeginsBelow MAX_NODES (block_site look 0 b s).place
placed look b s t stop fits (number, inner, place, stops) =
    let within : number < count_of b = within_by look b s t stop number stops (nat_lt number (count_of b)) refl in
    let below : number < MAX_NODES = omega (arith, within, few b, fits) in
    subst (λ (indices : List ℕ). BeginsBelow MAX_NODES indices) (sym place) below

by_outcome : (look : Lookup) (b : Block) (found : FoundFault) → block_nodes b ≤ MAX_NODES → (x : Outcome (Unit {0})) → run_block look b fresh ≡ x →
    fault_by (site_of look b) x ≡ Some found → BeginsBelow MAX_NODES found.site.place
by_outcome look b found fits (Gives u s) ran is = absurd (cc)
by_outcome look b found fits (Stops (Aborted text) s) ran is = absurd (cc)
by_outcome look b found fits (Stops (Wants key) s) ran is = absurd (cc)
by_outcome look b found fits (Stops (Faulted fault) s) ran is =
    let at : site_of look b ≡ found.site = ap (λ (f : FoundFault). f.site) (same_Some (record { fault = fault; site = site_of look b }) found is) in
    subst (λ (site : Site). BeginsBelow MAX_NODES site.place) at (placed look b fresh s (Faulted fault) fits (sites_are_first look b fresh (Faulted fault) s ran))

-- the place of a fault that was found in a program
begins_below : (look : Lookup) (p : ProgramTree) (found : FoundFault) → Fits p → fault_of look p.statements ≡ Some found →
    BeginsBelow MAX_NODES found.site.place
begins_below look p found fits is =
    let block : BlockFits MAX_DEPTH MAX_NODES p.statements = statements_fit p.prefetch (BlockFits MAX_DEPTH MAX_NODES p.statements) fits in
    by_outcome look p.statements found block.nodes (run_block look p.statements fresh) refl is

pub found_below : (look : Lookup) (p : ProgramTree) (found : Option FoundFault) → Fits p → found ≡ fault_of look p.statements →
    IfSome found (λ (fault : FoundFault). BeginsBelow MAX_NODES fault.site.place)
found_below look p None fits is = tt
found_below look p (Some found) fits is = begins_below look p found fits (sym is)

-- ---- a place after the list of its program
