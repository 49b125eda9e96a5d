use Rattle.std.proofs.Common.{◌≡◌, ◌<◌, ◌+◌, ◌∙◌, ◌++◌, ◌∷◌, [], List, length, map, take, refl, sym, ap, subst, arith}
use mathlib.Core.Path.{subst₂}
use Rattle.std.specs.Prelude.{Err}
use Rattle.std.proofs.lemmas.List.{get_or_read}
use Rattle.std.proofs.lemmas.Result.{err_from_is_err_and}
use Rattle.plane.specs.Matrices.{FieldMatrix, identity}
use Rattle.terrain.specs.Places.{IsAt}
use Rattle.quotient.specs.declared.fault.QuotientFault.TheVariants.{Wide}
use Rattle.quotient.specs.Trees.{matrix_at}
use Rattle.quotient.specs.Quotients.{Quotient, lead_quotient, AreValues}
use Rattle.quotient.specs.Width.{IsInverse}
use Rattle.quotient.specs.WideProducts.{IsWideProduct}
use Rattle.quotient.proofs.Rows.{element_read, err_is}
use Rattle.quotient.proofs.Values.{mapped_more}
use Rattle.quotient.proofs.quotients.take_leads.Goals as goal

pub returns-in_err-take_quotient-clause-wide : goal.returns-in_err-take_quotient-clause-wide
returns-in_err-take_quotient-clause-wide c = λ formula e.
    let d = c.args.f.now in
    let w = c.loop-lead.lead-index in
    let lead = c.lead-item.result in
    let at = element_read c.args.row.now w lead (omega arith) c.lead-item.is in
    let from = get_or_read c.args.tree.now c.args.c c.index-tree-c.result c.requires.place c.index-tree-c.is identity in
    let within : lead.to < length c.args.inverses.now = subst (λ n. lead.to < n) (sym c.requires.inverses.0) (c.requires.targets w lead at) in
    let inverse = get_or_read c.args.inverses.now lead.to c.index-inverses-lead.result within c.index-inverses-lead.is identity in
    let p = err_from_is_err_and c.from_residual.result c.from_residual.ensures.1 in
    let f = err_is c.from_residual.result p.0 c.in_err-take_quotient.field-0.0 (Wide formula) p.1 p.2 e in
    let r = c.in_err-take_quotient.ensures.wide formula (ap (λ x. Err x) f) in
    (r.0, (w, lead, at, subst₂ (λ (h i : FieldMatrix). IsWideProduct d h lead.link i) from inverse r.1))

pub loop-lead-preserved : goal.loop-lead-preserved
loop-lead-preserved c =
    let d = c.args.f.now in
    let w = c.loop-lead.lead-index in
    let lead = c.lead-item.result in
    let tree = c.args.tree.now in
    let short : w < length c.args.row.now = omega arith in
    let at = element_read c.args.row.now w lead short c.lead-item.is in
    let from = get_or_read tree c.args.c c.index-tree-c.result c.requires.place c.index-tree-c.is identity in
    let inside : lead.to < length tree = c.requires.targets w lead at in
    let within : lead.to < length c.args.inverses.now = subst (λ n. lead.to < n) (sym c.requires.inverses.0) inside in
    let inverse = get_or_read c.args.inverses.now lead.to c.index-inverses-lead.result within c.index-inverses-lead.is identity in
    let known = c.requires.inverses.1 lead.to inside in
    let task = lead_quotient tree (matrix_at tree c.args.c) in
    record {
      kept = c.in_ok-take_quotient.ensures.kept;
      taken = λ qs values.
          mapped_more d task c.args.row.now w lead (record { left = c.index-tree-c.result; middle = lead.link; right = matrix_at tree lead.to }) qs c.take_quotient.new.list.list.items short c.lead-item.is
          (ap (λ (h : FieldMatrix). record { left = h; middle = lead.link; right = matrix_at tree lead.to }) from)
          (c.in_ok-take_quotient.ensures.taken (matrix_at tree lead.to) (qs ++ map task (take w c.args.row.now)) known.0
          (subst (IsInverse d (matrix_at tree lead.to)) (sym inverse) known.1) (c.loop-lead.invariant.taken qs values));
    }
