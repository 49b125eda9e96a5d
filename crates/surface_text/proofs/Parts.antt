-- Fractions and base points, put together of their parts.
use Rattle.std.proofs.Common.{◌≡◌, ◌≢◌, ◌↔◌, ℕ, zero, suc, ℤ, pos, negsuc, IsTrue, nat_eq, List, [], ◌∷◌, ◌++◌, refl, ap, sym, ◌∙◌, subst, arith, append_assoc, unsigned_abs, eq-eqb}
use Rattle.std.specs.Int.{IsGcd}
use Rattle.std.proofs.lemmas.Nat.Gcd.{same_from_IsGcd}
use Rattle.plane.specs.Spelling.{whole_text}
use Rattle.surface_text.specs.declared.file.Point.{Point}
use Rattle.surface_text.specs.declared.fractions.Fraction.{Fraction}
use Rattle.surface_text.specs.declared.fronts.Reading.{Reading}
use Rattle.surface_text.specs.declared.fronts.Reading.TheVariants as reading
use Rattle.surface_text.specs.Limits.{IsBounded, IsLowest, IsBoundedPoint, IsAbove, IsBasePoint}
use Rattle.surface_text.specs.Spelling.{denominator_text, fraction_text, point_text}
use Rattle.surface_text.specs.Causes.{FrontOf, StopsAt}
use Rattle.surface_text.specs.Readings.{IsReading, IsTheOne, IsOneBeyond, IsDenominator, IsFractionOf, IsBoundedFraction, IsPointOf}
use Rattle.surface_text.proofs.Stops.{same_front}
use Rattle.surface_text.proofs.Numbers.{Lacks, lacks_both, whole_text_lacks}

-- lowest terms are a greatest common divisor of 1
pub lowest_test : (n d : ℤ) (a b g : ℕ) → a ≡ unsigned_abs n → b ≡ unsigned_abs d → IsGcd a b g → IsTrue (nat_eq g 1) ↔ IsLowest n d
lowest_test n d a b g an bd is =
    let both : IsGcd (unsigned_abs n) (unsigned_abs d) g = subst (λ (x : ℕ). IsGcd x (unsigned_abs d) g) an (subst (λ (y : ℕ). IsGcd a y g) bd is) in
    (λ one. let same : g ≡ 1 = grind (arith, one) in subst (IsGcd (unsigned_abs n) (unsigned_abs d)) same both, λ one. eq-eqb g 1 (same_from_IsGcd (unsigned_abs n) (unsigned_abs d) g 1 both one))

-- what was read is spelled
pub spelled : {X : Type 0} (P F : X → Type 0) (r : Reading X) → IsReading P F r → r ≢ reading.Not → (x : X) × P x
spelled P F (reading.Value x) is other = (x, is.found)
spelled P F reading.Large is other = (is.x, is.found)
spelled P F reading.Not is other = absurd (other refl)

-- a denominator's text is none or begins with `/`
denominator_stops : (d : ℤ) → StopsAt 47 (denominator_text d)
denominator_stops (pos zero) = refl
denominator_stops (pos (suc zero)) = tt
denominator_stops (pos (suc (suc k))) = refl
denominator_stops (negsuc k) = refl

-- the parts of a fraction's text
fraction_parts : {text numerator tail : List ℕ} → FrontOf 47 text numerator tail → (n d : ℤ) → text ≡ fraction_text n d
    → (numerator ≡ whole_text n) × (tail ≡ denominator_text d)
fraction_parts front n d e = same_front front (whole_text n) (denominator_text d) (whole_text_lacks 47 n (omega arith) (λ e. omega arith)) (denominator_stops d) e

-- a fraction of its parts
fraction_joined : {text numerator tail : List ℕ} → FrontOf 47 text numerator tail → (n d : ℤ) → numerator ≡ whole_text n → tail ≡ denominator_text d
    → text ≡ fraction_text n d
fraction_joined {tail = tail} front n d a b = front.found ∙ ap (λ (x : List ℕ). x ++ tail) a ∙ ap (λ (y : List ℕ). whole_text n ++ y) b

pub fraction_not_first : {text numerator tail : List ℕ} → FrontOf 47 text numerator tail → ((n : ℤ) → numerator ≢ whole_text n) → (f : Fraction) → ¬ (IsFractionOf text f)
fraction_not_first front none f is = none f.n (fraction_parts front f.n f.d is.0).0

pub fraction_not_second : {text numerator tail : List ℕ} → FrontOf 47 text numerator tail → ((d : ℤ) → ¬ (IsDenominator tail d)) → (f : Fraction) → ¬ (IsFractionOf text f)
fraction_not_second front none f is = let form = is.1 in none f.d ((fraction_parts front f.n f.d is.0).1, form.0)

-- a fraction by its numbers
same_fraction : (f : Fraction) (n d : ℤ) → f.n ≡ n → f.d ≡ d → f ≡ record { n = n; d = d }
same_fraction f n d a b =
    ap (λ (x : ℤ). let made : Fraction = record { n = x; d = f.d } in made) a ∙ ap (λ (x : ℤ). let made : Fraction = record { n = n; d = x } in made) b

pub fraction_value : {text numerator tail : List ℕ} → FrontOf 47 text numerator tail → (n d : ℤ) (f : Fraction) → f.n ≡ n → f.d ≡ d
    → IsTheOne (λ n. numerator ≡ whole_text n) IsBounded n → IsTheOne (IsDenominator tail) IsBounded d → IsLowest f.n f.d
    → IsTheOne (IsFractionOf text) IsBoundedFraction f
fraction_value {text = text} front n d f fn fd one two lowest =
    let made : Fraction = record { n = n; d = d } in
    let is : IsTheOne (IsFractionOf text) IsBoundedFraction made = record {
      found = (fraction_joined front n d one.found two.found.0, (two.found.1, λ a b. subst (λ (m : ℤ). IsLowest m d) fn (subst (IsLowest f.n) fd lowest)));
      fits = (one.fits, two.fits);
      only = λ g spelled. let parts = fraction_parts front g.n g.d spelled.0 in let form = spelled.1 in
          same_fraction g n d (one.only g.n parts.0) (two.only g.d (parts.1, form.0));
    } in
    subst (IsTheOne (IsFractionOf text) IsBoundedFraction) (sym (same_fraction f n d fn fd)) is

pub fraction_not_lowest : {text numerator tail : List ℕ} → FrontOf 47 text numerator tail → (n d m k : ℤ) → m ≡ n → k ≡ d
    → IsTheOne (λ n. numerator ≡ whole_text n) IsBounded n → IsTheOne (IsDenominator tail) IsBounded d → ¬ (IsLowest m k)
    → (f : Fraction) → ¬ (IsFractionOf text f)
fraction_not_lowest front n d m k mn kd one two wide f is =
    let parts = fraction_parts front f.n f.d is.0 in
    let form = is.1 in
    let same_n = one.only f.n parts.0 in
    let same_d = two.only f.d (parts.1, form.0) in
    let lowest = form.1 (subst IsBounded (sym same_n) one.fits) (subst IsBounded (sym same_d) two.fits) in
    wide (subst (λ (x : ℤ). IsLowest x k) (same_n ∙ sym mn) (subst (IsLowest f.n) (same_d ∙ sym kd) lowest))

pub fraction_large_second : {text numerator tail : List ℕ} → FrontOf 47 text numerator tail → (n : ℤ)
    → numerator ≡ whole_text n → IsOneBeyond (IsDenominator tail) IsBounded → IsOneBeyond (IsFractionOf text) IsBoundedFraction
fraction_large_second {text = text} front n found two =
    record {
      x = record { n = n; d = two.x };
      found = (fraction_joined front n two.x found two.found.0, (two.found.1, λ a b. absurd (two.beyond two.x two.found b)));
      beyond = λ f is bounded. let parts = fraction_parts front f.n f.d is.0 in let form = is.1 in
          two.beyond f.d (parts.1, form.0) bounded.1;
    }

pub fraction_large_first : {text numerator tail : List ℕ} → FrontOf 47 text numerator tail → (d : ℤ)
    → IsOneBeyond (λ n. numerator ≡ whole_text n) IsBounded → IsDenominator tail d → IsOneBeyond (IsFractionOf text) IsBoundedFraction
fraction_large_first {text = text} front d one found =
    record {
      x = record { n = one.x; d = d };
      found = (fraction_joined front one.x d one.found found.0, (found.1, λ a b. absurd (one.beyond one.x one.found a)));
      beyond = λ f is bounded. let parts = fraction_parts front f.n f.d is.0 in one.beyond f.n parts.0 bounded.0;
    }

-- a fraction's text has no space
denominator_lacks : (d : ℤ) → Lacks 32 (denominator_text d)
denominator_lacks (pos zero) = (λ e. omega arith, whole_text_lacks 32 (pos zero) (omega arith) (λ e. omega arith))
denominator_lacks (pos (suc zero)) = tt
denominator_lacks (pos (suc (suc k))) = (λ e. omega arith, whole_text_lacks 32 (pos (suc (suc k))) (omega arith) (λ e. omega arith))
denominator_lacks (negsuc k) = (λ e. omega arith, whole_text_lacks 32 (negsuc k) (omega arith) (λ e. omega arith))

fraction_lacks : (n d : ℤ) → Lacks 32 (fraction_text n d)
fraction_lacks n d = lacks_both 32 (whole_text n) (denominator_text d) (whole_text_lacks 32 n (omega arith) (λ e. omega arith)) (denominator_lacks d)

-- the parts of a point's text
point_shape : (at : Point) → point_text at ≡ fraction_text at.xn at.xd ++ 32 ∷ fraction_text at.yn at.yd
point_shape at = append_assoc (fraction_text at.xn at.xd) (32 ∷ []) (fraction_text at.yn at.yd)

point_parts : {text x tail : List ℕ} (y : List ℕ) → FrontOf 32 text x tail → tail ≡ 32 ∷ y → (at : Point) → text ≡ point_text at
    → (x ≡ fraction_text at.xn at.xd) × (y ≡ fraction_text at.yn at.yd)
point_parts y front head at e =
    let same = same_front front (fraction_text at.xn at.xd) (32 ∷ fraction_text at.yn at.yd) (fraction_lacks at.xn at.xd) refl (e ∙ point_shape at) in
    let tails : 32 ∷ y ≡ 32 ∷ fraction_text at.yn at.yd = sym head ∙ same.1 in
    (same.0, cc)

point_joined : {text x tail : List ℕ} (y : List ℕ) → FrontOf 32 text x tail → tail ≡ 32 ∷ y → (at : Point)
    → x ≡ fraction_text at.xn at.xd → y ≡ fraction_text at.yn at.yd → text ≡ point_text at
point_joined {x = x} y front head at a b =
    front.found ∙ ap (λ (end : List ℕ). x ++ end) (head ∙ ap (λ (end : List ℕ). 32 ∷ end) b)
    ∙ ap (λ (start : List ℕ). start ++ 32 ∷ fraction_text at.yn at.yd) a ∙ sym (point_shape at)

-- the fraction of X
abbrev x_of : Point → Fraction
x_of at = record { n = at.xn; d = at.xd }

-- the fraction of Y
abbrev y_of : Point → Fraction
y_of at = record { n = at.yn; d = at.yd }

pub point_not_first : {text x tail : List ℕ} (y : List ℕ) → FrontOf 32 text x tail → tail ≡ 32 ∷ y → ((f : Fraction) → ¬ (IsFractionOf x f))
    → (at : Point) → ¬ (IsPointOf text at)
point_not_first y front head none at is = let form = is.1 in none (x_of at) ((point_parts y front head at is.0).0, form.0)

pub point_not_second : {text x tail : List ℕ} (y : List ℕ) → FrontOf 32 text x tail → tail ≡ 32 ∷ y → ((f : Fraction) → ¬ (IsFractionOf y f))
    → (at : Point) → ¬ (IsPointOf text at)
point_not_second y front head none at is = let form = is.1 in none (y_of at) ((point_parts y front head at is.0).1, form.1)

-- a point by its fractions
same_point : (at made : Point) → x_of at ≡ x_of made → y_of at ≡ y_of made → at ≡ made
same_point at made a b =
    ap (λ (f : Fraction). let point : Point = record { xn = f.n; xd = f.d; yn = at.yn; yd = at.yd } in point) a
    ∙ ap (λ (f : Fraction). let point : Point = record { xn = made.xn; xd = made.xd; yn = f.n; yd = f.d } in point) b

pub point_value : {text x tail : List ℕ} (y : List ℕ) → FrontOf 32 text x tail → tail ≡ 32 ∷ y → (f g : Fraction) (at : Point)
    → at.xn ≡ f.n → at.xd ≡ f.d → at.yn ≡ g.n → at.yd ≡ g.d
    → IsTheOne (IsFractionOf x) IsBoundedFraction f → IsTheOne (IsFractionOf y) IsBoundedFraction g → IsTheOne (IsPointOf text) IsBoundedPoint at
point_value {text = text} y front head f g at a b c d one two =
    let made : Point = record { xn = f.n; xd = f.d; yn = g.n; yd = g.d } in
    let first : x_of at ≡ x_of made = same_fraction (x_of at) f.n f.d a b in
    let second : y_of at ≡ y_of made = same_fraction (y_of at) g.n g.d c d in
    let is : IsTheOne (IsPointOf text) IsBoundedPoint made = record {
      found = (point_joined y front head made one.found.0 two.found.0, (one.found.1, two.found.1));
      fits = (one.fits.0, one.fits.1, two.fits.0, two.fits.1);
      only = λ other spelled. let parts = point_parts y front head other spelled.0 in let form = spelled.1 in
          same_point other made (one.only (x_of other) (parts.0, form.0)) (two.only (y_of other) (parts.1, form.1));
    } in
    subst (IsTheOne (IsPointOf text) IsBoundedPoint) (sym (same_point at made first second)) is

pub point_large_second : {text x tail : List ℕ} (y : List ℕ) → FrontOf 32 text x tail → tail ≡ 32 ∷ y → (f : Fraction)
    → IsFractionOf x f → IsOneBeyond (IsFractionOf y) IsBoundedFraction → IsOneBeyond (IsPointOf text) IsBoundedPoint
point_large_second y front head f found two =
    let made : Point = record { xn = f.n; xd = f.d; yn = two.x.n; yd = two.x.d } in
    record {
      x = made;
      found = (point_joined y front head made found.0 two.found.0, (found.1, two.found.1));
      beyond = λ at is bounded. let form = is.1 in two.beyond (y_of at) ((point_parts y front head at is.0).1, form.1) (bounded.2, bounded.3);
    }

pub point_large_first : {text x tail : List ℕ} (y : List ℕ) → FrontOf 32 text x tail → tail ≡ 32 ∷ y → (g : Fraction)
    → IsOneBeyond (IsFractionOf x) IsBoundedFraction → IsFractionOf y g → IsOneBeyond (IsPointOf text) IsBoundedPoint
point_large_first y front head g one found =
    let made : Point = record { xn = one.x.n; xd = one.x.d; yn = g.n; yd = g.d } in
    record {
      x = made;
      found = (point_joined y front head made one.found.0 found.0, (one.found.1, found.1));
      beyond = λ at is bounded. let form = is.1 in one.beyond (x_of at) ((point_parts y front head at is.0).0, form.0) (bounded.0, bounded.1);
    }

-- a point above the parabola is the base point that is spelled
pub base_point : (text : List ℕ) (made : Point) → IsTheOne (IsPointOf text) IsBoundedPoint made → IsAbove made
    → (at : Point) → (made ≡ at) ↔ ((text ≡ point_text at) × IsBasePoint at)
base_point text made one above at = (
  λ same. subst (λ (p : Point). (text ≡ point_text p) × IsBasePoint p) same (one.found.0, record { form = one.found.1; bounded = one.fits; above = above }),
  λ is. let valid = is.1 in sym (one.only at (is.0, valid.form)),
)
