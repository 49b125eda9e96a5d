use Rattle.std.proofs.Common.{◌≡◌, ℕ, ◌+◌, ◌<◌, ◌≤◌, suc, List, length, map, get_or, refl, sym, ap, ◌∙◌, subst, arith}
use Rattle.std.proofs.lemmas.List.{get_or_read}
use Rattle.std.specs.Prelude.{Err}
use Rattle.std.proofs.lemmas.Result.{err_from_is_err_and}
use Rattle.plane.specs.Matrices.{FieldMatrix}
use Rattle.quotient.specs.declared.fault.QuotientFault.TheVariants.{Wide}
use Rattle.terrain.specs.Places.{IsAt}
use Rattle.quotient.specs.Trees.{row_at, HasLead}
use Rattle.quotient.specs.TreeSearch.{IsSearch, IsSearchAt}
use Rattle.quotient.specs.Width.{IsWideIn}
use Rattle.quotient.proofs.Rows.{row_read, element_read, err_is}
use Rattle.quotient.proofs.SearchLists.{wide_here, next_place}
use Rattle.quotient.proofs.search.Search.follow_all.Goals as goal

pub follow-requires-clause-to : goal.follow-requires-clause-to
follow-requires-clause-to c =
    let leads = c.args.leads.now in
    let from = c.index-from.result.now in
    let place = get_or_read c.args.self.now.order.items c.args.t from c.requires.here c.index-from.ensures 0 in
    let inside : from < length leads = subst (λ k. k < length leads) (sym place) c.requires.place in
    let row = row_read (λ v. v.items) leads from c.index-leads-from.result inside c.index-leads-from.is ∙ sym c.deref-lead-items.ensures.value in
    let has : HasLead (map (λ v. v.items) leads) from c.loop-lead.lead-index c.lead-item.result =
    subst (λ r. IsAt r c.loop-lead.lead-index c.lead-item.result) (sym row) (element_read c.deref-lead-items.result.now c.loop-lead.lead-index c.lead-item.result (omega arith) c.lead-item.is) in
    subst (λ n. c.lead-item.result.to < n) (sym c.loop-lead.invariant.matrices) (c.requires.targets from c.loop-lead.lead-index c.lead-item.result has)

pub returns-in_err-follow-clause-wide : goal.returns-in_err-follow-clause-wide
returns-in_err-follow-clause-wide c = λ formula e turns root first s.
    let leads = c.args.leads.now in
    let from = c.index-from.result.now in
    let place = get_or_read c.args.self.now.order.items c.args.t from c.requires.here c.index-from.ensures 0 in
    let inside : from < length leads = subst (λ k. k < length leads) (sym place) c.requires.place in
    let row = row_read (λ v. v.items) leads from c.index-leads-from.result inside c.index-leads-from.is ∙ sym c.deref-lead-items.ensures.value in
    let has : HasLead (map (λ v. v.items) leads) from c.loop-lead.lead-index c.lead-item.result =
    subst (λ r. IsAt r c.loop-lead.lead-index c.lead-item.result) (sym row) (element_read c.deref-lead-items.result.now c.loop-lead.lead-index c.lead-item.result (omega arith) c.lead-item.is) in
    let p = err_from_is_err_and c.from_residual.result c.from_residual.ensures.1 in
    let f = err_is c.from_residual.result p.0 c.in_err-follow.field-0.0 (Wide formula) p.1 p.2 e in
    let r = c.in_err-follow.ensures.wide formula (ap (λ x. Err x) f) in
    let self = c.loop-lead.self in
    subst (IsWideIn c.args.f.now (map (λ v. v.items) leads) turns root first) (sym r.0)
    (wide_here c.args.f.now (map (λ v. v.items) leads) root first self.order.items self.is_found.items self.tree.items c.args.t from c.loop-lead.lead-index (c.loop-lead.invariant.along root first s) turns c.lead-item.result has r.1)

pub loop-lead-preserved : goal.loop-lead-preserved
loop-lead-preserved c =
    let leads = c.args.leads.now in
    let from = c.index-from.result.now in
    let w = c.loop-lead.lead-index in
    let place = get_or_read c.args.self.now.order.items c.args.t from c.requires.here c.index-from.ensures 0 in
    let inside : from < length leads = subst (λ k. k < length leads) (sym place) c.requires.place in
    let row = row_read (λ v. v.items) leads from c.index-leads-from.result inside c.index-leads-from.is ∙ sym c.deref-lead-items.ensures.value in
    let has : HasLead (map (λ v. v.items) leads) from w c.lead-item.result =
    subst (λ r. IsAt r w c.lead-item.result) (sym row) (element_read c.deref-lead-items.result.now w c.lead-item.result (omega arith) c.lead-item.is) in
    let next : suc w ≡ w + 1 = omega arith in
    record {
      marks = c.in_ok-follow.ensures.marks ∙ c.loop-lead.invariant.marks;
      matrices = c.in_ok-follow.ensures.matrices ∙ c.loop-lead.invariant.matrices;
      along = λ root first s.
          subst (λ (n : ℕ). IsSearchAt c.args.f.now (map (λ v. v.items) leads) root first c.follow.new.self.order.items c.follow.new.self.is_found.items c.follow.new.self.tree.items c.args.t from n)
          next (c.in_ok-follow.ensures.followed (map (λ v. v.items) leads) root first c.args.t w has (c.loop-lead.invariant.along root first s));
    }

pub returns-clause-followed : goal.returns-clause-followed
returns-clause-followed c = λ root first s.
    let leads = c.args.leads.now in
    let from = c.index-from.result.now in
    let place = get_or_read c.args.self.now.order.items c.args.t from c.requires.here c.index-from.ensures 0 in
    let inside : from < length leads = subst (λ k. k < length leads) (sym place) c.requires.place in
    let row = row_read (λ v. v.items) leads from c.index-leads-from.result inside c.index-leads-from.is ∙ sym c.deref-lead-items.ensures.value in
    let at = c.loop-lead.invariant.along root first s in (
      next_place c.args.f.now (map (λ v. v.items) leads) root first c.loop-lead.self.order.items c.loop-lead.self.is_found.items c.loop-lead.self.tree.items c.args.t from c.loop-lead.lead-index at
          (subst (λ r. length r ≤ c.loop-lead.lead-index) (sym row) (omega arith)),
      at.here,
    )
