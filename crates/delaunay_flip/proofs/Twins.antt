-- The names of an edge.
use Rattle.std.proofs.Common.{◌≡◌, ℕ, ◌<◌, ◌≤◌, List, length, refl, sym, ap, subst, arith, inl, inr}
use Rattle.std.specs.Prelude.{slice_get, Some}
use Rattle.tri_core.specs.declared.half.Half.{Half}
use Rattle.tri_core.specs.HalfEdges.{twin_at}
use Rattle.tri_core.specs.Triangulation.{IsTriangulation}
use Rattle.tri_core.proofs.CallerLemmas.{not_its_own, half_is}
use Rattle.delaunay_flip.specs.Tables.{IsNamed}

module _ (d : ℕ) (halves : List Half) (valid : IsTriangulation d halves) (h : ℕ) (below : h < length halves) (half : Half) (read : slice_get halves h ≡ Some half) where
  twin : twin_at halves h ≡ half.twin
  twin = ap (λ (x : Half). x.twin) (half_is halves h half read)

  back : twin_at halves (twin_at halves h) ≡ h
  back = (valid.paired h below).1

  -- the lesser of a half-edge and its twin names their edge
  pub named_first : h < half.twin → IsNamed halves h h half.twin
  named_first less =
      let e = twin in
      let here : IsNamed halves h h (twin_at halves h) =
      record {
        edge = (below, subst (λ n. h < n) (sym twin) less);
        inside = (valid.paired h below).0;
        other = λ edge. let more = subst (λ n. twin_at halves h < n) back edge.1 in omega arith;
        names = inl (refl, refl);
      } in
      subst (IsNamed halves h h) twin here

  pub named_second : half.twin ≤ h → IsNamed halves h half.twin h
  named_second more =
      let e = twin in
      let other = not_its_own d halves h valid below in
      let less : twin_at halves h < h = omega (arith, other) in
      let here : IsNamed halves h (twin_at halves h) h =
      record {
        edge = ((valid.paired h below).0, subst (λ n. twin_at halves h < n) (sym back) less);
        inside = below;
        other = λ edge. let more = edge.1 in omega arith;
        names = inr (refl, refl);
      } in
      subst (λ t. IsNamed halves h t h) twin here
