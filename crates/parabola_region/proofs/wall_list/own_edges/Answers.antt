use Rattle.std.proofs.Common.{◌≡◌, ◌↔◌, ◌∙◌, ◌+◌, ℕ, List, IsTrue, length, sym, subst, ap, arith}
use Rattle.std.proofs.lemmas.Bool.{false≢true}
use Rattle.hinge_form.specs.Triples.{of_form}
use Rattle.hinge_form.specs.Lines.{IsMultiple}
use Rattle.hinge_form.specs.Walls.{IsListing}
use Rattle.parabola_region.specs.declared.hinge_list.Hinge.{Hinge}
use Rattle.parabola_region.specs.HingeLists.{form_at}
use Rattle.parabola_region.specs.Different.{AreOwns}
use Rattle.parabola_region.specs.Found.{IsOwnBelow}
use Rattle.parabola_region.proofs.Owns.{edges_same, edges_more}
use Rattle.parabola_region.proofs.DifferentForms.{own_from}
use Rattle.parabola_region.proofs.wall_list.own_edges.Goals as goal
use Rattle.parabola_region.proofs.wall_list.own_edges.Goals.{then-index+in_ok-push, else-index}

pub loop-i-preserved : goal.loop-i-preserved
loop-i-preserved c =
    let own : IsTrue c.index-in-loop-i.result.now ↔ IsMultiple c.args.f.now (of_form c.args.line.now) (form_at c.args.forms.now c.loop-i.i) =
    own_from c.args.forms.now c.args.different.now.firsts.items c.args.different.now.places.items c.requires.different c.args.f.now (of_form c.args.line.now) c.in_ok-owns.owns.items
    (subst (λ (xs : List Hinge). AreOwns c.args.f.now (of_form c.args.line.now) xs (length xs) c.in_ok-owns.owns.items) c.as_slice.ensures.value c.in_ok-owns.ensures.owns)
    c.loop-i.i c.loop-i-test.true c.index.result.now c.index-in-loop-i.result.now c.index.ensures c.index-in-loop-i.ensures in elim c.if-index.branch [
      | then-index+in_ok-push w ↦
          subst (λ (xs : List ℕ). IsListing (IsOwnBelow c.args.f.now (of_form c.args.line.now) c.args.forms.now (c.loop-i.i + 1)) xs) (sym (ap (λ v. v.items) w.edges-is ∙ w.in_ok-push.ensures.items))
          (edges_more c.args.f.now (of_form c.args.line.now) c.args.forms.now c.requires.ascending c.loop-i.i c.loop-i-test.true c.loop-i.edges.items c.loop-i.invariant
          (own.0 w.if-index.true))
      | else-index w ↦
          subst (λ (xs : List ℕ). IsListing (IsOwnBelow c.args.f.now (of_form c.args.line.now) c.args.forms.now (c.loop-i.i + 1)) xs) (sym (ap (λ v. v.items) w.edges-is))
          (edges_same c.args.f.now (of_form c.args.line.now) c.args.forms.now c.requires.ascending c.loop-i.i c.loop-i-test.true c.loop-i.edges.items c.loop-i.invariant
          (λ here. false≢true (sym w.if-index.false ∙ own.1 here)))
    ]

pub returns-clause-listing : goal.returns-clause-listing
returns-clause-listing c =
    let e : c.loop-i.i ≡ length c.args.forms.now = omega (arith, c.loop-i.auto.i-end, c.loop-i-test.false) in
    subst (λ (n : ℕ). IsListing (IsOwnBelow c.args.f.now (of_form c.args.line.now) c.args.forms.now n) c.loop-i.edges.items) e c.loop-i.invariant
