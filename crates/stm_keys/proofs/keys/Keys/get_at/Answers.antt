use Rattle.std.proofs.Common.{arith, rules, ◌≡◌, ◌≤◌, ◌∙◌, sym, ap, subst, cond, reverse, false}
use Rattle.std.specs.Prelude.{nat_eq}
use Rattle.indexmap.specs.IndexMap.{get_by_text}
use Rattle.stm_history.specs.declared.revisions.TheConstants.{HIGHEST_REVISION}
use Rattle.stm_history.specs.History.{now, key_at, key_now}
use Rattle.stm_keys.specs.Keys.{Contents}
use Rattle.stm_keys.specs.Chains.{opening_of}
use Rattle.stm_keys.proofs.Numbers.{now_fits, read_small}
use Rattle.stm_keys.proofs.keys.Keys.get_at.Goals as goal

pub returns-clause-found : goal.returns-clause-found
returns-clause-found c =
    let past : nat_eq c.args.revision 0 ≡ false = search rules in
    c.look_back.ensures
    ∙ sym (ap (λ b. cond b (key_now c.args.self.now.history c.args.key.now) (key_at c.args.self.now.history c.args.key.now c.args.revision)) past)

pub returns-then-revision-self-clause-fits : goal.returns-then-revision-self-clause-fits
returns-then-revision-self-clause-fits c =
    read_small c.args.self.now.history c.args.key.now c.args.revision
    (subst (λ (v : Contents). now v.history ≤ HIGHEST_REVISION) c.self.view_is
    (now_fits (opening_of c.self.inside.below c.self.inside.chains) (reverse c.self.inside.revisions.items) (get_by_text c.self.inside.chains)
    c.self.invariant.0))

pub returns-then-revision-clause-fits : goal.returns-then-revision-clause-fits
returns-then-revision-clause-fits c =
    read_small c.args.self.now.history c.args.key.now c.args.revision (omega (arith, c.revision.ensures.value, c.revision.ensures.bounded))

pub returns-clause-fits : goal.returns-clause-fits
returns-clause-fits c =
    read_small c.args.self.now.history c.args.key.now c.args.revision (omega (arith, c.revision.ensures.value, c.revision.ensures.bounded))
