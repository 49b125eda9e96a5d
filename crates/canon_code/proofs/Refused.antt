-- Why numbers aren't read as a code.
use Rattle.std.proofs.Common.{rules, ◌≡◌, ℕ, zero, suc, ◌+◌, ◌*◌, ◌/◌, ◌%◌, ◌<◌, List, length, Result, Ok, Err, refl, sym, ap, ◌∙◌, subst, arith}
use Rattle.std.specs.Prelude.{ℤ, pos, neg_ℤ, ◌+ℤ◌, unsigned_abs, IfOk, IfErr, MatchResult, ◌⊎◌}
use mathlib.Core.Logic.{inl, inr}
use Rattle.rings.proofs.WholeNumbers.{whole_ring}
use Rattle.quad_field.specs.FieldNumber.{IsFieldNumber}
use Rattle.quad_field.specs.Width.{Term, term_ops, FitsI128, StepsFit}
use Rattle.plane.specs.Vectors.{Vector, det, vector_sum, vector_term, VectorFits}
use Rattle.tri_core.specs.declared.half.Half.{Half}
use Rattle.tri_core.specs.declared.tri.BadTri.{BadTri}
use Rattle.tri_core.specs.declared.tri.BadTri.TheVariants as bad_tri
use Rattle.tri_core.specs.HalfEdges.{half_at, twin_at}
use Rattle.tri_core.specs.Triangulation.{IsTriangulation}
use Rattle.tri_core.specs.Refusals as tri_refusals
use Rattle.canon_code.specs.declared.fault.CodeFault.{CodeFault}
use Rattle.canon_code.specs.declared.fault.CodeFault.TheVariants.{Form, NotCode, Wide, Memory}
use Rattle.canon_code.specs.Codes.{IsCode}
use Rattle.canon_code.specs.Canonical.{number_at, vector_from, side_from, half_of, canonical, IsMade}
use Rattle.canon_code.specs.CodeText.{Lists}
use Rattle.canon_code.specs.Refusals.{IsCodeOver, HasSerialLength, term_from, HasWideSides, ListsTriangulation, IsCause, IsFree}
use Rattle.canon_code.specs.TextReading.{IsTextFault}
use Rattle.canon_code.specs.Listing.{IsTwinNumber, HasTwins, HasThird, IsListingFault, IsFaultOf}
use Rattle.canon_code.proofs.Canonical.{canonical_valid}
use Rattle.canon_code.proofs.Codes.{code_once, canonical_code}
use Rattle.canon_code.proofs.Listings.{canonical_at, canonical_count, code_long, code_twins}
use Rattle.canon_code.proofs.TextReadings.{text_injective}

-- ---- lengths, twins and third vectors
pub not_long : (d : ℕ) (numbers : List ℤ) → ¬ (HasSerialLength numbers) → ¬ (IsCodeOver d numbers)
not_long d numbers not over = not (code_long d over.0 numbers over.1 over.2)

pub not_twins : (d : ℕ) (numbers : List ℤ) (n t : ℕ) → number_at numbers 0 ≡ pos n → t < n → ¬ (HasTwins numbers t) → ¬ (IsCodeOver d numbers)
not_twins d numbers n t first less not over = not (code_twins d over.0 numbers over.1 over.2 t (subst (λ (k : ℕ). t < k) (sym (ap unsigned_abs first)) less))

-- a triangle whose third vector doesn't fit
pub wide_third : (d : ℕ) (numbers : List ℤ) (long : HasSerialLength numbers) (t : ℕ) → t < long.triangles → ¬ (HasThird numbers t) → HasWideSides d numbers
wide_third d numbers long t less not = record {
  long = long;
  triangle = t;
  inside = less;
  wide = λ fit. let opposite = fit.opposite in not (opposite.0.1, opposite.1.1);
}

-- ---- half-edges that are refused
zero_fits : FitsI128 (pos 0)
zero_fits = search rules

-- a + b and its negative sum to zero
sum_fits : (a b : ℤ) → FitsI128 ((a +ℤ b) +ℤ neg_ℤ (a +ℤ b))
sum_fits a b = subst FitsI128 (sym (whole_ring.add-neg (a +ℤ b))) zero_fits

-- half-edge 3t + j of the canonical triangulation
side_at : (d : ℕ) (numbers : List ℤ) (t j : ℕ) → j < 3 → 3 * t + j < length (canonical d numbers)
    → vector_term (half_at (canonical d numbers) (3 * t + j)).vec ≡ vector_term (half_of (side_from d numbers (2 + 11 * t) j) 0).vec
side_at d numbers t j small inside =
    let third : (3 * t + j) / 3 ≡ t = omega arith in
    let side : (3 * t + j) % 3 ≡ j = omega arith in
    ap (λ (x : Half). vector_term x.vec) (canonical_at d numbers (3 * t + j) inside) ∙ λ i. vector_term (half_of (side_from d numbers (2 + 11 * third i) (side i)) 0).vec

pub wide_triangle : (d : ℕ) (numbers : List ℤ) → HasSerialLength numbers → tri_refusals.HasWide d (canonical d numbers) → HasWideSides d numbers
wide_triangle d numbers long w =
    let t : ℕ = w.0 in
    let some : unsigned_abs (number_at numbers 0) ≡ long.triangles = ap unsigned_abs long.first in
    let inside : t < long.triangles = omega (arith, w.1, canonical_count d numbers, some) in
    let zero_side : 3 * t + 0 ≡ 3 * t = omega arith in
    record {
      long = long;
      triangle = t;
      inside = inside;
      wide = λ fit.
          let u = side_at d numbers t 0 (omega arith) (omega (arith, w.1)) in
          let v = side_at d numbers t 1 (omega arith) (omega (arith, inside, canonical_count d numbers, some)) in
          let x = side_at d numbers t 2 (omega arith) (omega (arith, inside, canonical_count d numbers, some)) in
          let halves : List Half = canonical d numbers in
          let goal : Vector Term → Vector Term → Vector Term → Type 0 = λ a b c. VectorFits d (vector_sum term_ops (vector_sum term_ops a b) c) × StepsFit d (det term_ops a b) in
          let own : goal (term_from numbers (2 + 11 * t)) (term_from numbers (2 + 11 * t + 4)) (vector_term (half_of (side_from d numbers (2 + 11 * t) 2) 0).vec) = (
            (
              (fit.sum.0, tt, (sum_fits (vector_from numbers (2 + 11 * t)).0.a (vector_from numbers (2 + 11 * t + 4)).0.a, sum_fits (vector_from numbers (2 + 11 * t)).0.b (vector_from numbers (2 + 11 * t + 4)).0.b)),
              (fit.sum.1, tt, (sum_fits (vector_from numbers (2 + 11 * t)).1.a (vector_from numbers (2 + 11 * t + 4)).1.a, sum_fits (vector_from numbers (2 + 11 * t)).1.b (vector_from numbers (2 + 11 * t + 4)).1.b)),
            ),
            fit.determinant,
          ) in
          let first : vector_term (half_at halves (3 * t)).vec ≡ term_from numbers (2 + 11 * t) = ap (λ (k : ℕ). vector_term (half_at halves k).vec) (sym zero_side) ∙ u in
          w.2 (subst (λ (a : Vector Term). goal a (vector_term (half_at halves (3 * t + 1)).vec) (vector_term (half_at halves (3 * t + 2)).vec)) (sym first)
          (subst (λ (b : Vector Term). goal (term_from numbers (2 + 11 * t)) b (vector_term (half_at halves (3 * t + 2)).vec)) (sym v)
          (subst (goal (term_from numbers (2 + 11 * t)) (term_from numbers (2 + 11 * t + 4))) (sym x) own)));
    }

pub not_valid : (d : ℕ) (field : IsFieldNumber d) (numbers : List ℤ) → ¬ (IsTriangulation d (canonical d numbers)) → ¬ (IsCodeOver d numbers)
not_valid d field numbers not over = let own : IsCode d over.0 numbers = over.2 in not (canonical_valid d field over.0 own.start numbers over.1 own.inside own.serial)

-- the refusal of half-edges
pub refused_halves : (d : ℕ) (field : IsFieldNumber d) (numbers : List ℤ) (bad : BadTri) (fault : CodeFault) → IsFaultOf bad fault → HasSerialLength numbers → tri_refusals.IsCause d (canonical d numbers) bad
    → (IsTriangulation d (canonical d numbers) → tri_refusals.IsFree bad) → IsListingFault d numbers fault
refused_halves d field numbers (bad_tri.Wide formula) fault is long cause accepted =
    subst (IsListingFault d numbers) (sym (is ∙ ap Wide cause.1)) (wide_triangle d numbers long cause.2)
refused_halves d field numbers bad_tri.Memory fault is long cause accepted = subst (IsListingFault d numbers) (sym is) tt
refused_halves d field numbers bad_tri.Count fault is long cause accepted = subst (IsListingFault d numbers) (sym is) (not_valid d field numbers accepted)
refused_halves d field numbers (bad_tri.Sum t) fault is long cause accepted = subst (IsListingFault d numbers) (sym is) (not_valid d field numbers accepted)
refused_halves d field numbers (bad_tri.Turn t) fault is long cause accepted = subst (IsListingFault d numbers) (sym is) (not_valid d field numbers accepted)
refused_halves d field numbers (bad_tri.Twin t) fault is long cause accepted = subst (IsListingFault d numbers) (sym is) (not_valid d field numbers accepted)
refused_halves d field numbers (bad_tri.Apart t) fault is long cause accepted = subst (IsListingFault d numbers) (sym is) (not_valid d field numbers accepted)

-- ---- a triangulation that is listed
natural_is : (z : ℤ) → IsTwinNumber z → z ≡ pos (unsigned_abs z)
natural_is z w = w.1 ∙ ap (λ (y : ℤ). pos (unsigned_abs y)) (sym w.1)

pub lists_triangulation : (d : ℕ) (numbers : List ℤ) → (long : HasSerialLength numbers) → ((t : ℕ) → t < long.triangles → HasTwins numbers t) → IsTriangulation d (canonical d numbers) → ListsTriangulation d numbers
lists_triangulation d numbers long twins valid = record { long = long; twins = twin; valid = valid }
  where
    by_side : (t j : ℕ) → j < 3 → HasTwins numbers t → number_at numbers (2 + 11 * t + (8 + j)) ≡ pos (unsigned_abs (number_at numbers (2 + 11 * t + (8 + j))))
    by_side t zero small h = natural_is (number_at numbers (2 + 11 * t + 8)) h.first
    by_side t (suc zero) small h = natural_is (number_at numbers (2 + 11 * t + 9)) h.second
    by_side t (suc (suc zero)) small h = natural_is (number_at numbers (2 + 11 * t + 10)) h.third
    by_side t (suc (suc (suc j))) small h = absurd (omega (arith, small))

    twin : (k : ℕ) → k < 3 * long.triangles → number_at numbers (2 + 11 * (k / 3) + (8 + k % 3)) ≡ pos (twin_at (canonical d numbers) k)
    twin k less =
        let some : unsigned_abs (number_at numbers 0) ≡ long.triangles = ap unsigned_abs long.first in
        by_side (k / 3) (k % 3) (omega arith) (twins (k / 3) (omega (arith, less)))
        ∙ ap pos (sym (ap (λ (x : Half). x.twin) (canonical_at d numbers k (omega (arith, less, canonical_count d numbers, some)))))

-- numbers that aren't the code of the triangulation that they list
pub not_its_code : (d : ℕ) (field : IsFieldNumber d) (numbers code : List ℤ) → IsCode d (canonical d numbers) code → ¬ (code ≡ numbers) → ¬ (IsCodeOver d numbers)
not_its_code d field numbers code own other over = other (code_once d (canonical d numbers) code numbers own (canonical_code d field over.0 numbers over.1 over.2))

-- ---- texts
-- the cause for a text, from that for the numbers that it lists
pub cause_of : (d : ℕ) (text : List ℕ) (numbers : List ℤ) (fault : CodeFault) → Lists text numbers → IsListingFault d numbers fault → IsCause d text fault
cause_of d text numbers Form lists fault = absurd fault
cause_of d text numbers NotCode lists fault = (numbers, lists, fault)
cause_of d text numbers (Wide formula) lists fault = (numbers, lists, fault)
cause_of d text numbers Memory lists fault = tt

same_numbers : {text : List ℕ} {ns ms : List ℤ} → Lists text ns → Lists text ms → ns ≡ ms
same_numbers {ns = ns} {ms = ms} a b = text_injective ns ms (sym a.spelled ∙ b.spelled)

pub text_cause : (d : ℕ) (text : List ℕ) (fault : CodeFault) → IsTextFault text fault → IsCause d text fault
text_cause d text Form cause = cause
text_cause d text NotCode cause = absurd cause
text_cause d text (Wide formula) cause = absurd cause
text_cause d text Memory cause = tt

pub read_ok : (d : ℕ) (text : List ℕ) (numbers : List ℤ) → Lists text numbers → (r : Result (List ℤ) CodeFault) → IfOk r (λ c. (c ≡ numbers) × IsMade d c) → IfOk r (λ c. Lists text c × IsMade d c)
read_ok d text numbers lists (Ok c) ok = (subst (Lists text) (sym ok.0) lists, ok.1)
read_ok d text numbers lists (Err fault) ok = tt

pub read_err : (d : ℕ) (text : List ℕ) (numbers : List ℤ) → Lists text numbers → (r : Result (List ℤ) CodeFault) → IfErr r (IsListingFault d numbers) → IfErr r (IsCause d text)
read_err d text numbers lists (Ok c) err = tt
read_err d text numbers lists (Err fault) err = cause_of d text numbers fault lists err

module _ (d : ℕ) (text : List ℕ) where
  pub form_from : (r : Result (List ℤ) CodeFault) → IfOk r (λ c. Lists text c × IsMade d c) → IfErr r (IsCause d text) → ((ms : List ℤ) → ¬ (Lists text ms))
      → MatchResult r (λ c. ⊥) (λ fault. (fault ≡ Form) ⊎ (fault ≡ Memory))
  form_from (Ok c) ok err none = none c ok.0
  form_from (Err Form) ok err none = inl refl
  form_from (Err NotCode) ok err none = absurd (none err.0 err.1)
  form_from (Err (Wide formula)) ok err none = absurd (none err.0 err.1)
  form_from (Err Memory) ok err none = inr refl

  pub taken_from : (r : Result (List ℤ) CodeFault) → IfOk r (λ c. Lists text c × IsMade d c) → IfErr r (IsCause d text) → (ms : List ℤ) → Lists text ms → IsCodeOver d ms
      → MatchResult r (λ c. c ≡ ms) IsFree
  taken_from (Ok c) ok err ms lists over = same_numbers ok.0 lists
  taken_from (Err Form) ok err ms lists over = err ms lists
  taken_from (Err NotCode) ok err ms lists over = err.2 (subst (IsCodeOver d) (same_numbers lists err.1) over)
  taken_from (Err (Wide formula)) ok err ms lists over = tt
  taken_from (Err Memory) ok err ms lists over = tt

  pub refused_from : (r : Result (List ℤ) CodeFault) → IfOk r (λ c. Lists text c × IsMade d c) → IfErr r (IsCause d text) → (ms : List ℤ) → Lists text ms → ¬ (IsCodeOver d ms)
      → MatchResult r (λ c. ⊥) (λ fault. (fault ≡ NotCode) ⊎ IsFree fault)
  refused_from (Ok c) ok err ms lists not =
      let made : IsMade d c = ok.1 in
      let over : IsCodeOver d c = (made.0, made.1, made.2) in not (subst (IsCodeOver d) (same_numbers ok.0 lists) over)
  refused_from (Err Form) ok err ms lists not = absurd (err ms lists)
  refused_from (Err NotCode) ok err ms lists not = inl refl
  refused_from (Err (Wide formula)) ok err ms lists not = inr tt
  refused_from (Err Memory) ok err ms lists not = inr tt
