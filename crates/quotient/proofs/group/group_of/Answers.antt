use Rattle.std.proofs.Common.{◌≡◌, ◌<◌, ◌∙◌, List, length, map, sym, ap, subst}
use Rattle.std.specs.Prelude.{◌⊎◌, ℕ, Err}
use mathlib.Core.Path.{subst₂}
use Rattle.std.proofs.lemmas.List.{length-map}
use Rattle.std.proofs.lemmas.Result.{err_from_is_err_and}
use Rattle.rings.specs.Matrices.{matrix_det}
use Rattle.quad_field.specs.Quads.{quad_ops, IsZero}
use Rattle.plane.specs.Matrices.{FieldMatrix}
use Rattle.plane.specs.MatrixWidth.{InverseFits}
use Rattle.quotient.specs.declared.fault.QuotientFault.TheVariants.{Wide}
use Rattle.quotient.specs.Trees.{matrix_at}
use Rattle.quotient.specs.Inverses.{AreInverses}
use Rattle.quotient.specs.WideProducts.{AnyWideLead, AnyWideTurn}
use Rattle.quotient.specs.Width.{IsWideIn}
use Rattle.quotient.proofs.Rows.{err_is, lead_inside}
use Rattle.quotient.proofs.TreeMatrices.{tree_not_zero}
use Rattle.quotient.proofs.WideCauses.{wide_inverse, wide_products}
use Rattle.quotient.proofs.group.group_of.Goals as goal

pub tree_of-requires-clause-place : goal.tree_of-requires-clause-place
tree_of-requires-clause-place c = subst (λ n. c.args.root < n) (length-map c.args.leads.now (λ v. v.items)) c.requires.place

pub tree_of-requires-clause-targets : goal.tree_of-requires-clause-targets
tree_of-requires-clause-targets c = λ k w lead has.
    let rows = map (λ v. v.items) c.args.leads.now in
    subst (λ n. lead.to < n) (length-map c.args.leads.now (λ v. v.items)) (c.requires.targets k w lead (lead_inside rows k w lead has) has)

pub tree_of-requires-clause-reached : goal.tree_of-requires-clause-reached
tree_of-requires-clause-reached c = λ k p. c.requires.reached k (subst (λ n. k < n) (sym (length-map c.args.leads.now (λ v. v.items))) p)

pub quotients_of-requires-clause-leads : goal.quotients_of-requires-clause-leads
quotients_of-requires-clause-leads c =
    let own = c.in_ok-tree.ensures.tree in
    sym (length-map c.args.leads.now (λ v. v.items)) ∙ sym own.as_many ∙ ap length (sym c.deref-2.ensures.value)

pub quotients_of-requires-clause-targets : goal.quotients_of-requires-clause-targets
quotients_of-requires-clause-targets c = λ k w lead has.
    let own = c.in_ok-tree.ensures.tree in
    let rows = map (λ v. v.items) c.args.leads.now in
    subst (λ n. lead.to < n) (sym own.as_many ∙ ap length (sym c.deref-2.ensures.value)) (c.requires.targets k w lead (lead_inside rows k w lead has) has)

pub quotients_of-requires-clause-turns : goal.quotients_of-requires-clause-turns
quotients_of-requires-clause-turns c =
    let own = c.in_ok-tree.ensures.tree in
    sym (length-map c.args.turns.now (λ v. v.items)) ∙ c.requires.turns ∙ sym own.as_many ∙ ap length (sym c.deref-2.ensures.value)

pub inverses_of-requires : goal.inverses_of-requires
inverses_of-requires c =
    let rows = map (λ v. v.items) c.args.leads.now in
    let own = c.in_ok-tree.ensures.tree in
    record {
      invertible = subst (λ (tree : List FieldMatrix). (e : ℕ) → e < length tree → ¬ (IsZero (matrix_det (quad_ops c.args.f.now) (matrix_at tree e).rows))) (sym c.deref.ensures.value)
          (λ e p. tree_not_zero own c.requires.place c.number-field_number.ensures.valid c.requires.root
          (λ k w lead has. c.requires.links k w lead (lead_inside rows k w lead has) has) e (subst (λ n. e < n) own.as_many p));
    }

pub returns-in_err-inverses-clause-wide : goal.returns-in_err-inverses-clause-wide
returns-in_err-inverses-clause-wide c = λ formula e.
    let rows = map (λ v. v.items) c.args.leads.now in
    let turns = map (λ v. v.items) c.args.turns.now in
    let p = err_from_is_err_and c.from_residual-in_err-inverses.result c.from_residual-in_err-inverses.ensures.1 in
    let f = err_is c.from_residual-in_err-inverses.result p.0 c.in_err-inverses.field-0.0 (Wide formula) p.1 p.2 e in
    let r = c.in_err-inverses.ensures.wide formula (ap (λ x. Err x) f) in
    let own = c.in_ok-tree.ensures.tree in
    let wide = subst (λ (tree : List FieldMatrix). (k : ℕ) × (k < length tree) × ¬ (InverseFits c.args.f.now (matrix_at tree k))) c.deref.ensures.value r.1 in
    subst (IsWideIn c.args.f.now rows turns c.args.root c.args.first.now) (sym r.0)
    (wide_inverse c.args.f.now rows turns c.args.root c.args.first.now c.in_ok-tree.tree.items own c.requires.place wide.0 wide.1 wide.2)

pub returns-in_err-mats-clause-wide : goal.returns-in_err-mats-clause-wide
returns-in_err-mats-clause-wide c = λ formula e.
    let rows = map (λ v. v.items) c.args.leads.now in
    let turns = map (λ v. v.items) c.args.turns.now in
    let p = err_from_is_err_and c.from_residual-in_err-mats.result c.from_residual-in_err-mats.ensures.1 in
    let f = err_is c.from_residual-in_err-mats.result p.0 c.in_err-mats.field-0.0 (Wide formula) p.1 p.2 e in
    let r = c.in_err-mats.ensures.wide formula (ap (λ x. Err x) f) in
    let own = c.in_ok-tree.ensures.tree in
    let inverse = subst (λ (tree : List FieldMatrix). AreInverses c.args.f.now tree c.in_ok-inverses.inverses.items) c.deref.ensures.value c.in_ok-inverses.ensures.inverses in
    let wide = subst₂ (λ (tree inverses : List FieldMatrix). AnyWideLead c.args.f.now tree inverses rows ⊎ AnyWideTurn c.args.f.now tree inverses turns) c.deref-2.ensures.value c.deref-3.ensures.value r.1 in
    subst (IsWideIn c.args.f.now rows turns c.args.root c.args.first.now) (sym r.0)
    (wide_products c.args.f.now rows turns c.args.root c.args.first.now c.in_ok-tree.tree.items own c.requires.place c.in_ok-inverses.inverses.items inverse
    (λ k w lead has. subst (λ n. lead.to < n) (sym own.as_many) (c.requires.targets k w lead (lead_inside rows k w lead has) has)) wide)
