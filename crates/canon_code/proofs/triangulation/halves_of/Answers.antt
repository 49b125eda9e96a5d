use Rattle.std.proofs.Common.{◌∙◌, subst, sym, arith}
use mathlib.Core.Logic.{inl, inr}
use Rattle.std.proofs.lemmas.Bool.{cases_eq}
use Rattle.canon_code.specs.Listing.{HasTwins}
use Rattle.canon_code.proofs.Listings.{triangle_more}
use Rattle.canon_code.proofs.triangulation.halves_of.Goals as goal

pub loop-t-preserved : goal.loop-t-preserved
loop-t-preserved c = record {
  halves_are = c.in_ok-push_triangle.ensures.halves ∙ triangle_more c.args.numbers.now c.loop-t.t c.loop-t.halves.items c.loop-t.invariant.halves_are;
  twins = λ s less. elim (cases_eq s c.loop-t.t) [
    | inl e ↦ subst (HasTwins c.args.numbers.now) (sym e) c.in_ok-push_triangle.ensures.twins
    | inr ne ↦ c.loop-t.invariant.twins s (omega (arith, less, ne))
  ];
}
