use Rattle.std.proofs.Common.{◌≡◌, subst}
use Rattle.stm_program.specs.Syntax.{Expression, Get, Rev, Arithmetic, Cat, TextOf, NumOf}
use Rattle.stm_sites.specs.Sites.{expression_site}
use Rattle.stm_sites.specs.Returns.{StopsAt}
use Rattle.stm_sites.proofs.expressions.+values.Goals as goal

pub value_of-returns-in-Arithmetic-clause-site : goal.value_of-returns-in-Arithmetic-clause-site
value_of-returns-in-Arithmetic-clause-site g t c =
    let look = g.L.Lookup.answers c.args.lookup.now in
    let view = c.expression.view_is in
    let node = c.in-Arithmetic.is in
    let left = c.deref-in-Arithmetic.ensures in
    let right = c.deref-in-Arithmetic-2.ensures in
    let is : Arithmetic c.in-Arithmetic.operator c.deref-in-Arithmetic.result.now c.deref-in-Arithmetic-2.result.now ≡ c.args.expression.now = cc in
    subst (λ (e : Expression). StopsAt c.combined.result (expression_site look e c.args.session.now)) is c.combined.ensures.site

pub value_of-returns-in-Cat-clause-site : goal.value_of-returns-in-Cat-clause-site
value_of-returns-in-Cat-clause-site g t c =
    let look = g.L.Lookup.answers c.args.lookup.now in
    let view = c.expression.view_is in
    let node = c.in-Cat.is in
    let front = c.deref-in-Cat.ensures in
    let back = c.deref-in-Cat-2.ensures in
    let is : Cat c.deref-in-Cat.result.now c.deref-in-Cat-2.result.now ≡ c.args.expression.now = cc in
    subst (λ (e : Expression). StopsAt c.joined.result (expression_site look e c.args.session.now)) is c.joined.ensures.site

pub value_of-returns-in-Get-clause-site : goal.value_of-returns-in-Get-clause-site
value_of-returns-in-Get-clause-site g t c =
    let look = g.L.Lookup.answers c.args.lookup.now in
    let view = c.expression.view_is in
    let node = c.in-Get.is in
    let part = c.deref.ensures in
    let is : Get c.deref.result.now ≡ c.args.expression.now = cc in
    subst (λ (e : Expression). StopsAt c.value_at.result (expression_site look e c.args.session.now)) is c.value_at.ensures.site

pub value_of-returns-in-Rev-clause-site : goal.value_of-returns-in-Rev-clause-site
value_of-returns-in-Rev-clause-site g t c =
    let look = g.L.Lookup.answers c.args.lookup.now in
    let view = c.expression.view_is in
    let node = c.in-Rev.is in
    let part = c.deref-in-Rev.ensures in
    let is : Rev c.deref-in-Rev.result.now ≡ c.args.expression.now = cc in
    subst (λ (e : Expression). StopsAt c.revision_at.result (expression_site look e c.args.session.now)) is c.revision_at.ensures.site

pub value_of-returns-in-TextOf-clause-site : goal.value_of-returns-in-TextOf-clause-site
value_of-returns-in-TextOf-clause-site g t c =
    let look = g.L.Lookup.answers c.args.lookup.now in
    let view = c.expression.view_is in
    let node = c.in-TextOf.is in
    let part = c.deref-in-TextOf.ensures in
    let is : TextOf c.deref-in-TextOf.result.now ≡ c.args.expression.now = cc in
    subst (λ (e : Expression). StopsAt c.text_at.result (expression_site look e c.args.session.now)) is c.text_at.ensures.site

pub value_of-returns-in-NumOf-clause-site : goal.value_of-returns-in-NumOf-clause-site
value_of-returns-in-NumOf-clause-site g t c =
    let look = g.L.Lookup.answers c.args.lookup.now in
    let view = c.expression.view_is in
    let node = c.in-NumOf.is in
    let part = c.deref-in-NumOf.ensures in
    let is : NumOf c.deref-in-NumOf.result.now ≡ c.args.expression.now = cc in
    subst (λ (e : Expression). StopsAt c.number_at.result (expression_site look e c.args.session.now)) is c.number_at.ensures.site
