-- The texts of vectors: one comma, between the coordinates.
use Rattle.std.proofs.Common.{◌≡◌, ◌≢◌, ◌↔◌, ℕ, zero, suc, ◌+◌, ◌<◌, ℤ, pos, negsuc, List, [], ◌∷◌, ◌++◌, length, get_or, take, drop, refl, ap, sym, ◌∙◌, subst, arith, append_assoc}
use Rattle.std.specs.Int.{IsInRange}
use Rattle.std.proofs.lemmas.List.{length-append, get_or_append_left, get_or_at, get_or_past, take_at, drop_at, take-append-drop, drop_more}
use Rattle.quad_field.specs.declared.quad.Quad.{Quad}
use Rattle.quad_field.specs.Width.{PartsFit}
use Rattle.plane.specs.declared.vec2.Vec2.{Vec2}
use Rattle.plane.specs.declared.words.VectorWord.{VectorWord}
use Rattle.plane.specs.declared.words.VectorWord.TheVariants.{Value, Large, Not}
use Rattle.plane.specs.Spelling.{natural_text, whole_text, root_text, quad_text, vector_text}
use Rattle.plane.specs.Reading.{EndsAtComma, IsVectorRead}
use Rattle.plane.proofs.Naturals.{natural_text_at}
use Rattle.plane.proofs.Quads.{quad_injective}

-- no byte is a comma
abbrev HasNoComma : List ℕ → Type 0
HasNoComma word = (k : ℕ) → get_or word k 0 ≢ 44

no_comma_append : (xs ys : List ℕ) → HasNoComma xs → HasNoComma ys → HasNoComma (xs ++ ys)
no_comma_append [] ys left right k = right k
no_comma_append (x ∷ xs) ys left right zero = left zero
no_comma_append (x ∷ xs) ys left right (suc k) = no_comma_append xs ys (λ j. left (suc j)) right k

no_comma_one : (byte : ℕ) → byte ≢ 44 → HasNoComma (byte ∷ [])
no_comma_one byte other zero = other
no_comma_one byte other (suc k) = λ e. omega arith

no_comma_at : (word : List ℕ) (k : ℕ) → (k < length word → IsInRange 48 57 (get_or word k 0)) → get_or word k 0 ≢ 44
no_comma_at word k digit e = grind (arith, get_or_past word k 0)

natural_no_comma : (n : ℕ) → HasNoComma (natural_text n)
natural_no_comma n k = no_comma_at (natural_text n) k (natural_text_at n k)

whole_no_comma : (n : ℤ) → HasNoComma (whole_text n)
whole_no_comma (pos n) = natural_no_comma n
whole_no_comma (negsuc n) = no_comma_append (45 ∷ []) (natural_text (suc n)) (no_comma_one 45 (λ e. omega arith)) (natural_no_comma (suc n))

signed_no_comma : (sign n : ℕ) → sign ≢ 44 → HasNoComma (sign ∷ (natural_text n ++ 114 ∷ []))
signed_no_comma sign n other =
    no_comma_append (sign ∷ []) (natural_text n ++ 114 ∷ []) (no_comma_one sign other)
    (no_comma_append (natural_text n) (114 ∷ []) (natural_no_comma n) (no_comma_one 114 (λ e. omega arith)))

root_no_comma : (n : ℤ) → HasNoComma (root_text n)
root_no_comma (pos zero) = λ k e. omega arith
root_no_comma (pos (suc n)) = signed_no_comma 43 (suc n) (λ e. omega arith)
root_no_comma (negsuc n) = signed_no_comma 45 (suc n) (λ e. omega arith)

quad_no_comma : (x : Quad) → HasNoComma (quad_text x)
quad_no_comma x = no_comma_append (whole_text x.a) (root_text x.b) (whole_no_comma x.a) (root_no_comma x.b)

-- the text of a vector, grouped to the right
vector_shape : (v : Vec2) → vector_text v ≡ quad_text v.s ++ 44 ∷ quad_text v.t
vector_shape v = append_assoc (quad_text v.s) (44 ∷ []) (quad_text v.t)

-- where the first comma is, and what stands around it
pub record Split (word : List ℕ) (end : ℕ) (v : Vec2) : Type 0 where
  pub below : end < length word
  pub left : take end word ≡ quad_text v.s
  pub right : drop (end + 1) word ≡ quad_text v.t

shaped_end : (xs ys : List ℕ) (end : ℕ) → HasNoComma xs → EndsAtComma (xs ++ 44 ∷ ys) end → length xs ≡ end
shaped_end xs ys end clean ends =
    let long = length-append xs (44 ∷ ys) in
    let here = get_or_at xs 44 ys 0 (length xs) refl in
    let none_before : ¬ (end < length xs) = λ less. clean end (sym (get_or_append_left xs (44 ∷ ys) 0 end less) ∙ ends.comma (omega arith)) in
    let none_behind : ¬ (length xs < end) = λ less. ends.before (length xs) less here in
    omega arith

pub vector_parts : (word : List ℕ) (end : ℕ) (v : Vec2) → EndsAtComma word end → word ≡ vector_text v → Split word end v
vector_parts word end v ends e =
    let shaped = subst (λ text. EndsAtComma text end) (e ∙ vector_shape v) ends in
    let same = shaped_end (quad_text v.s) (quad_text v.t) end (quad_no_comma v.s) shaped in
    let long = length-append (quad_text v.s) (44 ∷ quad_text v.t) in
    let all = ap length (e ∙ vector_shape v) in
    let front = length-append (quad_text v.s) (44 ∷ []) in
    record {
      below = omega arith;
      left = ap (take end) (e ∙ vector_shape v) ∙ take_at (quad_text v.s) (44 ∷ quad_text v.t) end same;
      right = ap (drop (end + 1)) e ∙ drop_at (quad_text v.s ++ 44 ∷ []) (quad_text v.t) (end + 1) (omega arith);
    }

pub vector_joined : (word : List ℕ) (end : ℕ) (v : Vec2) → EndsAtComma word end → Split word end v → word ≡ vector_text v
vector_joined word end v ends split =
    let whole = take-append-drop end word in
    let rest = drop_more word end 0 split.below in
    let comma = ends.comma split.below in
    let left = split.left in
    let right = split.right in
    let shape = vector_shape v in
    cc

vector_ends : (v : Vec2) → EndsAtComma (vector_text v) (length (quad_text v.s))
vector_ends v =
    let long = length-append (quad_text v.s) (44 ∷ quad_text v.t) in
    let ends : EndsAtComma (quad_text v.s ++ 44 ∷ quad_text v.t) (length (quad_text v.s)) = record {
      within = omega arith;
      before = λ k below. rw (get_or_append_left (quad_text v.s) (44 ∷ quad_text v.t) 0 k below) (quad_no_comma v.s k);
      comma = λ below. get_or_at (quad_text v.s) 44 (quad_text v.t) 0 (length (quad_text v.s)) refl;
    } in
    subst (λ text. EndsAtComma text (length (quad_text v.s))) (sym (vector_shape v)) ends

abbrev pub pair : Quad → Quad → Vec2
pair s t = record { s = s; t = t }

same_vector : (v w : Vec2) → v.s ≡ w.s → v.t ≡ w.t → v ≡ w
same_vector v w s t = ap (λ first. pair first v.t) s ∙ ap (λ second. pair w.s second) t

pub vector_wide : (word : List ℕ) (end : ℕ) (s t : Quad) → EndsAtComma word end → end < length word → take end word ≡ quad_text s → drop (end + 1) word ≡ quad_text t
    → ¬ (PartsFit s × PartsFit t) → (v : Vec2) × (word ≡ vector_text v) × ¬ (PartsFit v.s × PartsFit v.t)
vector_wide word end s t ends below left right wide =
    (pair s t, vector_joined word end (pair s t) ends (record { below = below; left = left; right = right }), wide)

pub no_first : (word : List ℕ) (end : ℕ) → EndsAtComma word end → ((x : Quad) → take end word ≢ quad_text x) → (v : Vec2) → word ≢ vector_text v
no_first word end ends none v e = let parts = vector_parts word end v ends e in none v.s parts.left

pub no_second : (word : List ℕ) (end : ℕ) → EndsAtComma word end → ((x : Quad) → drop (end + 1) word ≢ quad_text x) → (v : Vec2) → word ≢ vector_text v
no_second word end ends none v e = let parts = vector_parts word end v ends e in none v.t parts.right

-- one text a vector
pub vector_injective : (v w : Vec2) → vector_text v ≡ vector_text w → v ≡ w
vector_injective v w e =
    let ends = vector_ends v in
    let left = vector_parts (vector_text v) (length (quad_text v.s)) v ends refl in
    let right = vector_parts (vector_text v) (length (quad_text v.s)) w ends e in
    same_vector v w (quad_injective v.s w.s (sym left.left ∙ right.left)) (quad_injective v.t w.t (sym left.right ∙ right.right))

-- a reading says which vector the word spells
pub vector_value : (word : List ℕ) (r : VectorWord) → IsVectorRead word r → (v : Vec2) → (r ≡ Value v) ↔ ((word ≡ vector_text v) × PartsFit v.s × PartsFit v.t)
vector_value word (Value w) read v = (
  λ e. let same : w ≡ v = cc in subst (λ z. (word ≡ vector_text z) × PartsFit z.s × PartsFit z.t) same read,
  λ h. ap Value (vector_injective w v (sym read.0 ∙ h.0)),
)
vector_value word Large read v = (
  λ e. absurd (cc),
  λ h. let same = vector_injective read.0 v (sym read.1 ∙ h.0) in
      absurd (read.2 (subst (λ z. PartsFit z.s × PartsFit z.t) (sym same) (h.1, h.2))),
)
vector_value word Not read v = (λ e. absurd (cc), λ h. absurd (read v h.0))

pub vector_large : (word : List ℕ) (r : VectorWord) → IsVectorRead word r → (r ≡ Large) ↔ ((v : Vec2) × (word ≡ vector_text v) × ¬ (PartsFit v.s × PartsFit v.t))
vector_large word (Value w) read = (
  λ e. absurd (cc),
  λ h. let same = vector_injective w h.0 (sym read.0 ∙ h.1) in
      absurd (h.2 (subst (λ z. PartsFit z.s × PartsFit z.t) same (read.1, read.2))),
)
vector_large word Large read = (λ e. read, λ h. refl)
vector_large word Not read = (λ e. absurd (cc), λ h. absurd (read h.0 h.1))

pub vector_not : (word : List ℕ) (r : VectorWord) → IsVectorRead word r → (r ≡ Not) ↔ ((v : Vec2) → word ≢ vector_text v)
vector_not word (Value w) read = (λ e. absurd (cc), λ h. absurd (h w read.0))
vector_not word Large read = (λ e. absurd (cc), λ h. absurd (h read.0 read.1))
vector_not word Not read = (λ e. read, λ h. refl)
