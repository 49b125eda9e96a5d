-- The texts of K-integers: the first sign behind the first byte begins the second part.
use Rattle.std.proofs.Common.{◌≡◌, ◌≢◌, ◌↔◌, ℕ, zero, suc, ◌+◌, ◌<◌, ℤ, pos, negsuc, List, ◌++◌, length, get_or, take, drop, refl, ap, sym, ◌∙◌, subst, inl, inr, arith}
use Rattle.std.specs.Int.{IsInRange}
use Rattle.std.proofs.lemmas.List.{length-append, get_or_append_left, get_or-append-add, take_at, drop_at, take-append-drop}
use Rattle.quad_field.specs.declared.quad.Quad.{Quad}
use Rattle.quad_field.specs.Quads.{quad}
use Rattle.quad_field.specs.Width.{FitsI128, PartsFit}
use Rattle.plane.specs.declared.words.QuadWord.{QuadWord}
use Rattle.plane.specs.declared.words.QuadWord.TheVariants.{Value, Large, Not}
use Rattle.plane.specs.Spelling.{whole_text, root_text, quad_text}
use Rattle.plane.specs.Reading.{IsSign, EndsAtSign, IsQuadRead}
use Rattle.plane.proofs.Naturals.{natural_text_some, natural_text_at}
use Rattle.plane.proofs.Wholes.{whole_injective, root_injective, root_sign}

whole_text_some : (n : ℤ) → 0 < length (whole_text n)
whole_text_some (pos n) = natural_text_some n
whole_text_some (negsuc n) = omega arith

whole_text_at : (n : ℤ) (k : ℕ) → 0 < k → k < length (whole_text n) → IsInRange 48 57 (get_or (whole_text n) k 0)
whole_text_at (pos n) k some below = natural_text_at n k below
whole_text_at (negsuc n) zero some below = absurd (omega arith)
whole_text_at (negsuc n) (suc k) some below = natural_text_at (suc n) k (omega arith)

digit_no_sign : (byte : ℕ) → IsInRange 48 57 byte → ¬ (IsSign byte)
digit_no_sign byte range (inl e) = omega arith
digit_no_sign byte range (inr e) = omega arith

pub quad_ends : (x : Quad) → EndsAtSign (quad_text x) (length (whole_text x.a))
quad_ends x =
    let long = length-append (whole_text x.a) (root_text x.b) in
    record {
      within = omega arith;
      positive = λ some. whole_text_some x.a;
      before = λ k some below. rw (get_or_append_left (whole_text x.a) (root_text x.b) 0 k below) (digit_no_sign _ (whole_text_at x.a k some below));
      sign = λ below.
          let first = get_or-append-add (whole_text x.a) (root_text x.b) 0 0 in
          let sign = root_sign x.b (omega arith) in
          let place : length (whole_text x.a) + 0 ≡ length (whole_text x.a) = omega arith in
          subst IsSign (sym (rw (place) at first)) sign;
    }

no_earlier : (word : List ℕ) (m n : ℕ) → EndsAtSign word m → EndsAtSign word n → ¬ (m < n)
no_earlier word m n first second less =
    let within = second.within in
    second.before m (first.positive (omega arith)) less (first.sign (omega arith))

pub ends_once : (word : List ℕ) (m n : ℕ) → EndsAtSign word m → EndsAtSign word n → m ≡ n
ends_once word m n first second =
    let below = no_earlier word m n first second in let above = no_earlier word n m second first in omega arith

-- the two parts of a K-integer's text
pub quad_parts : (word : List ℕ) (end : ℕ) (x : Quad) → EndsAtSign word end → word ≡ quad_text x
    → (take end word ≡ whole_text x.a) × (drop end word ≡ root_text x.b)
quad_parts word end x ends e =
    let same = ends_once (quad_text x) (length (whole_text x.a)) end (quad_ends x) (subst (λ text. EndsAtSign text end) e ends) in (
      ap (take end) e ∙ take_at (whole_text x.a) (root_text x.b) end same,
      ap (drop end) e ∙ drop_at (whole_text x.a) (root_text x.b) end same,
    )

pub quad_joined : (word : List ℕ) (end : ℕ) (a b : ℤ) → take end word ≡ whole_text a → drop end word ≡ root_text b → word ≡ whole_text a ++ root_text b
quad_joined word end a b whole root = let e = take-append-drop end word in cc

pub quad_large : (word : List ℕ) (end : ℕ) (a b : ℤ) → take end word ≡ whole_text a → drop end word ≡ root_text b → ¬ (FitsI128 a × FitsI128 b)
    → (x : Quad) × (word ≡ quad_text x) × ¬ (PartsFit x)
quad_large word end a b whole root wide = (record { a = a; b = b }, quad_joined word end a b whole root, wide)

pub no_whole : (word : List ℕ) (end : ℕ) → EndsAtSign word end → ((n : ℤ) → take end word ≢ whole_text n) → (x : Quad) → word ≢ quad_text x
no_whole word end ends none x e = let parts = quad_parts word end x ends e in none x.a parts.0

pub no_root : (word : List ℕ) (end : ℕ) → EndsAtSign word end → ((n : ℤ) → drop end word ≢ root_text n) → (x : Quad) → word ≢ quad_text x
no_root word end ends none x e = let parts = quad_parts word end x ends e in none x.b parts.1

same_quad : (x y : Quad) → x.a ≡ y.a → x.b ≡ y.b → x ≡ y
same_quad x y a b = ap (λ whole. quad whole x.b) a ∙ ap (λ root. quad y.a root) b

-- one text a K-integer
pub quad_injective : (x y : Quad) → quad_text x ≡ quad_text y → x ≡ y
quad_injective x y e =
    let left = quad_parts (quad_text x) (length (whole_text x.a)) x (quad_ends x) refl in
    let right = quad_parts (quad_text x) (length (whole_text x.a)) y (quad_ends x) e in
    same_quad x y (whole_injective x.a y.a (sym left.0 ∙ right.0)) (root_injective x.b y.b (sym left.1 ∙ right.1))

-- a reading says which K-integer the word spells
pub quad_value : (word : List ℕ) (r : QuadWord) → IsQuadRead word r → (x : Quad) → (r ≡ Value x) ↔ ((word ≡ quad_text x) × PartsFit x)
quad_value word (Value y) read x = (
  λ e. let same : y ≡ x = cc in subst (λ z. (word ≡ quad_text z) × PartsFit z) same read,
  λ h. ap Value (quad_injective y x (sym read.0 ∙ h.0)),
)
quad_value word Large read x = (
  λ e. absurd (cc),
  λ h. let same = quad_injective read.0 x (sym read.1 ∙ h.0) in absurd (read.2 (subst PartsFit (sym same) h.1)),
)
quad_value word Not read x = (λ e. absurd (cc), λ h. absurd (read x h.0))

pub quad_is_large : (word : List ℕ) (r : QuadWord) → IsQuadRead word r → (r ≡ Large) ↔ ((x : Quad) × (word ≡ quad_text x) × ¬ (PartsFit x))
quad_is_large word (Value y) read = (
  λ e. absurd (cc),
  λ h. let same = quad_injective y h.0 (sym read.0 ∙ h.1) in absurd (h.2 (subst PartsFit same read.1)),
)
quad_is_large word Large read = (λ e. read, λ h. refl)
quad_is_large word Not read = (λ e. absurd (cc), λ h. absurd (read h.0 h.1))

pub quad_not : (word : List ℕ) (r : QuadWord) → IsQuadRead word r → (r ≡ Not) ↔ ((x : Quad) → word ≢ quad_text x)
quad_not word (Value y) read = (λ e. absurd (cc), λ h. absurd (h y read.0))
quad_not word Large read = (λ e. absurd (cc), λ h. absurd (h read.0 read.1))
quad_not word Not read = (λ e. read, λ h. refl)

-- what isn't refused is spelled
pub quad_spelled : (word : List ℕ) (r : QuadWord) → IsQuadRead word r → r ≢ Not → (x : Quad) × (word ≡ quad_text x)
quad_spelled word (Value x) read taken = (x, read.0)
quad_spelled word Large read taken = (read.0, read.1)
quad_spelled word Not read taken = absurd (taken refl)
