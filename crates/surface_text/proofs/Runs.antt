-- Sides read one after another.
use Rattle.std.proofs.Common.{◌≡◌, ◌≢◌, ℕ, zero, suc, ◌+◌, ◌≤◌, ℤ, pos, negsuc, Bool, true, false, List, [], ◌∷◌, ◌++◌, length, refl, ap, sym, ◌∙◌, subst, arith, append_assoc}
use Rattle.std.specs.List.{AllByRecursion}
use Rattle.std.proofs.lemmas.List.{append-nil, length-append}
use Rattle.quad_field.specs.declared.quad.Quad.{Quad}
use Rattle.plane.specs.declared.vec2.Vec2.{Vec2}
use Rattle.plane.specs.Spelling.{natural_text, whole_text, root_text, quad_text, vector_text}
use Rattle.surface_text.specs.Spelling.{sides_text}
use Rattle.surface_text.specs.Limits.{IsBoundedVector}
use Rattle.surface_text.specs.Causes.{FrontOf, StopsAt}
use Rattle.surface_text.specs.Readings.{IsTheOne, IsOneBeyond}
use Rattle.surface_text.specs.Sides.{AreSides}
use Rattle.surface_text.proofs.Stops.{same_front}
use Rattle.surface_text.proofs.Numbers.{Lacks, lacks_both, natural_text_lacks, whole_text_lacks}

-- no text of a vector has a space
root_text_lacks : (n : ℤ) → Lacks 32 (root_text n)
root_text_lacks (pos zero) = tt
root_text_lacks (pos (suc n)) =
    (λ e. omega arith, lacks_both 32 (natural_text (suc n)) (114 ∷ []) (natural_text_lacks 32 (suc n) (omega arith)) (λ e. omega arith, tt))
root_text_lacks (negsuc n) =
    (λ e. omega arith, lacks_both 32 (natural_text (suc n)) (114 ∷ []) (natural_text_lacks 32 (suc n) (omega arith)) (λ e. omega arith, tt))

quad_text_lacks : (x : Quad) → Lacks 32 (quad_text x)
quad_text_lacks x = lacks_both 32 (whole_text x.a) (root_text x.b) (whole_text_lacks 32 x.a (omega arith) (λ e. omega arith)) (root_text_lacks x.b)

vector_text_lacks : (v : Vec2) → Lacks 32 (vector_text v)
vector_text_lacks v =
    lacks_both 32 (quad_text v.s ++ 44 ∷ []) (quad_text v.t)
    (lacks_both 32 (quad_text v.s) (44 ∷ []) (quad_text_lacks v.s) (λ e. omega arith, tt)) (quad_text_lacks v.t)

-- sides are none or begin with a space
pub sides_stop : (sides : List Vec2) → StopsAt 32 (sides_text sides)
sides_stop [] = tt
sides_stop (v ∷ sides) = refl

-- sides, then further sides
sides_append : (xs ys : List Vec2) → sides_text (xs ++ ys) ≡ sides_text xs ++ sides_text ys
sides_append [] ys = refl
sides_append (x ∷ xs) ys =
    ap (λ (end : List ℕ). (32 ∷ vector_text x) ++ end) (sides_append xs ys) ∙ sym (append_assoc (32 ∷ vector_text x) (sides_text xs) (sides_text ys))

-- what holds of each of two lists
all_both : (xs ys : List Vec2) → AllByRecursion IsBoundedVector xs → AllByRecursion IsBoundedVector ys → AllByRecursion IsBoundedVector (xs ++ ys)
all_both [] ys left right = right
all_both (x ∷ xs) ys left right = (left.0, all_both xs ys left.1 right)

all_first : (xs ys : List Vec2) → AllByRecursion IsBoundedVector (xs ++ ys) → AllByRecursion IsBoundedVector xs
all_first [] ys all = tt
all_first (x ∷ xs) ys all = (all.0, all_first xs ys all.1)

all_last : (xs : List Vec2) (y : Vec2) → AllByRecursion IsBoundedVector (xs ++ y ∷ []) → IsBoundedVector y
all_last [] y all = all.0
all_last (x ∷ xs) y all = all_last xs y all.1

-- how all sides that the bytes spell go on behind those that were read
pub record Continues (sides : List Vec2) (bounded : Bool) (rest : List ℕ) (count : ℕ) (ys : List Vec2) : Type 0 where
  pub front : List Vec2
  pub more : List Vec2
  pub whole : ys ≡ front ++ more
  pub behind : rest ≡ sides_text more
  pub long : length front ≡ count
  pub same : bounded ≡ true → front ≡ sides
  pub beyond : bounded ≡ false → ¬ (AllByRecursion IsBoundedVector front)

-- the sides that were read
pub record SidesSoFar (tail : List ℕ) (sides : List Vec2) (bounded : Bool) (rest : List ℕ) : Type 0 where
  pub read : List Vec2
  pub found : tail ≡ sides_text read ++ rest
  pub stops : StopsAt 32 rest
  pub kept : bounded ≡ true → (read ≡ sides) × AllByRecursion IsBoundedVector sides
  pub follows : (ys : List Vec2) → tail ≡ sides_text ys → Continues sides bounded rest (length read) ys

-- before the first side
pub sides_none : (tail : List ℕ) → StopsAt 32 tail → SidesSoFar tail [] true tail
sides_none tail stops =
    record {
      read = [];
      found = refl;
      stops = stops;
      kept = λ e. (refl, tt);
      follows = λ ys e. record { front = []; more = ys; whole = refl; behind = e; long = refl; same = λ b. refl; beyond = λ b. absurd (cc) };
    }

-- one side more, behind a space
side_of : {behind text after : List ℕ} → FrontOf 32 behind text after → (y : Vec2) (more : List Vec2) → 32 ∷ behind ≡ sides_text (y ∷ more)
    → (text ≡ vector_text y) × (after ≡ sides_text more)
side_of front y more e =
    let tails : 32 ∷ _ ≡ 32 ∷ (vector_text y ++ sides_text more) = e in
    same_front front (vector_text y) (sides_text more) (vector_text_lacks y) (sides_stop more) (cc)

more_found : {tail rest behind text after : List ℕ} (read : List Vec2) (v : Vec2) → tail ≡ sides_text read ++ rest → rest ≡ 32 ∷ behind
    → FrontOf 32 behind text after → text ≡ vector_text v → tail ≡ sides_text (read ++ v ∷ []) ++ after
more_found {after = after} read v found head front is =
    found ∙ ap (λ (end : List ℕ). sides_text read ++ end) (head ∙ ap (λ (end : List ℕ). 32 ∷ end) (front.found ∙ ap (λ (x : List ℕ). x ++ after) is))
    ∙ sym (append_assoc (sides_text read) (32 ∷ vector_text v) after)
    ∙ ap (λ (x : List ℕ). x ++ after) (ap (λ (x : List ℕ). sides_text read ++ x) (sym (append-nil (32 ∷ vector_text v))) ∙ sym (sides_append read (v ∷ [])))

-- sides behind a space go on by one side
next_of : {behind text after : List ℕ} → FrontOf 32 behind text after → (more : List Vec2) → 32 ∷ behind ≡ sides_text more
    → (y : Vec2) × (next : List Vec2) × (more ≡ y ∷ next) × (text ≡ vector_text y) × (after ≡ sides_text next)
next_of front [] e = absurd (cc)
next_of front (y ∷ next) e = let one = side_of front y next e in (y, next, refl, one.0, one.1)

-- the same behind further sides
goes_on : {rest behind text after : List ℕ} {sides : List Vec2} {bounded : Bool} {count : ℕ} {ys : List Vec2} → rest ≡ 32 ∷ behind → FrontOf 32 behind text after
    → (was : Continues sides bounded rest count ys) → (y : Vec2) × (next : List Vec2) × (ys ≡ (was.front ++ y ∷ []) ++ next) × (text ≡ vector_text y) × (after ≡ sides_text next)
goes_on head front was =
    let n = next_of front was.more (sym head ∙ was.behind) in
    (n.0, n.1, was.whole ∙ ap (λ (more : List Vec2). was.front ++ more) n.2 ∙ sym (append_assoc was.front (n.0 ∷ []) n.1), n.3, n.4)

one_longer : (xs ys : List Vec2) (x y : Vec2) → length xs ≡ length ys → length (xs ++ x ∷ []) ≡ length (ys ++ y ∷ [])
one_longer xs ys x y e = length-append xs (x ∷ []) ∙ ap (λ (n : ℕ). n + 1) e ∙ sym (length-append ys (y ∷ []))

-- one bounded side more
pub sides_value : {tail rest behind text after : List ℕ} {sides : List Vec2} {bounded : Bool} (v : Vec2) → SidesSoFar tail sides bounded rest → rest ≡ 32 ∷ behind
    → FrontOf 32 behind text after → IsTheOne (λ k. text ≡ vector_text k) IsBoundedVector v → SidesSoFar tail (sides ++ v ∷ []) bounded after
sides_value {sides = sides} v so_far head front one =
    record {
      read = so_far.read ++ v ∷ [];
      found = more_found so_far.read v so_far.found head front one.found;
      stops = front.stops;
      kept = λ b. let k = so_far.kept b in (ap (λ (xs : List Vec2). xs ++ v ∷ []) k.0, all_both sides (v ∷ []) k.1 (one.fits, tt));
      follows = λ ys e. let was = so_far.follows ys e in let n = goes_on head front was in
          record {
            front = was.front ++ n.0 ∷ [];
            more = n.1;
            whole = n.2;
            behind = n.4;
            long = one_longer was.front so_far.read n.0 v was.long;
            same = λ b. ap (λ (xs : List Vec2). xs ++ n.0 ∷ []) (was.same b) ∙ ap (λ (y : Vec2). sides ++ y ∷ []) (one.only n.0 n.3);
            beyond = λ b all. was.beyond b (all_first was.front (n.0 ∷ []) all);
          };
    }

-- one larger side more
pub sides_large : {tail rest behind text after : List ℕ} {sides : List Vec2} {bounded : Bool} → SidesSoFar tail sides bounded rest → rest ≡ 32 ∷ behind
    → FrontOf 32 behind text after → IsOneBeyond (λ k. text ≡ vector_text k) IsBoundedVector → SidesSoFar tail sides false after
sides_large {sides = sides} so_far head front one =
    record {
      read = so_far.read ++ one.x ∷ [];
      found = more_found so_far.read one.x so_far.found head front one.found;
      stops = front.stops;
      kept = λ b. absurd (cc);
      follows = λ ys e. let was = so_far.follows ys e in let n = goes_on head front was in
          record {
            front = was.front ++ n.0 ∷ [];
            more = n.1;
            whole = n.2;
            behind = n.4;
            long = one_longer was.front so_far.read n.0 one.x was.long;
            same = λ b. absurd (cc);
            beyond = λ b all. one.beyond n.0 n.3 (all_last was.front n.0 all);
          };
    }

-- a word that is no vector
pub sides_not : {tail rest behind text after : List ℕ} {sides : List Vec2} {bounded : Bool} → SidesSoFar tail sides bounded rest → rest ≡ 32 ∷ behind
    → FrontOf 32 behind text after → ((v : Vec2) → text ≢ vector_text v) → (ys : List Vec2) → ¬ (AreSides tail ys)
sides_not so_far head front none ys is = let n = goes_on head front (so_far.follows ys is.0) in none n.0 n.3

-- nothing is left
no_more : (rest : List ℕ) → StopsAt 32 rest → ((more : List ℕ) → rest ≢ 32 ∷ more) → rest ≡ []
no_more [] stops none = refl
no_more (b ∷ rest) stops none = absurd (none rest (ap (λ (x : ℕ). x ∷ rest) stops))

no_sides : (more : List Vec2) → [] ≡ sides_text more → more ≡ []
no_sides [] e = refl
no_sides (v ∷ more) e = absurd (cc)

-- behind the last side
pub sides_end : {tail rest : List ℕ} {sides : List Vec2} {bounded : Bool} → SidesSoFar tail sides bounded rest → ((more : List ℕ) → rest ≢ 32 ∷ more)
    → bounded ≡ true → 1 ≤ length sides → IsTheOne (AreSides tail) (AllByRecursion IsBoundedVector) sides
sides_end {rest = rest} {sides = sides} so_far none b some =
    let nothing = no_more rest so_far.stops none in
    let k = so_far.kept b in
    record {
      found = (so_far.found ∙ ap (λ (end : List ℕ). sides_text so_far.read ++ end) nothing ∙ append-nil (sides_text so_far.read) ∙ ap sides_text k.0, some);
      fits = k.1;
      only = λ ys is. let was = so_far.follows ys is.0 in
          was.whole ∙ ap (λ (more : List Vec2). was.front ++ more) (no_sides was.more (sym nothing ∙ was.behind)) ∙ append-nil was.front ∙ was.same b;
    }

-- where no side was read, none is spelled
pub sides_empty : {tail rest : List ℕ} {sides : List Vec2} {bounded : Bool} → SidesSoFar tail sides bounded rest → ((more : List ℕ) → rest ≢ 32 ∷ more)
    → bounded ≡ true → length sides ≡ 0 → (ys : List Vec2) → ¬ (AreSides tail ys)
sides_empty {rest = rest} {sides = sides} so_far none b empty ys is =
    let nothing = no_more rest so_far.stops none in
    let was = so_far.follows ys is.0 in
    let all : ys ≡ sides = was.whole ∙ ap (λ (more : List Vec2). was.front ++ more) (no_sides was.more (sym nothing ∙ was.behind)) ∙ append-nil was.front ∙ was.same b in
    let count : length ys ≡ length sides = ap length all in
    let some = is.1 in
    omega arith

empty_front : (front read : List Vec2) → length front ≡ length read → ¬ (AllByRecursion IsBoundedVector front) → 1 ≤ length read
empty_front [] read long beyond = absurd (beyond tt)
empty_front (x ∷ front) read long beyond = omega arith

-- a larger number among the sides
pub sides_beyond : {tail rest : List ℕ} {sides : List Vec2} {bounded : Bool} → SidesSoFar tail sides bounded rest → ((more : List ℕ) → rest ≢ 32 ∷ more)
    → bounded ≡ false → IsOneBeyond (AreSides tail) (AllByRecursion IsBoundedVector)
sides_beyond {rest = rest} so_far none b =
    let nothing = no_more rest so_far.stops none in
    let whole = so_far.found ∙ ap (λ (end : List ℕ). sides_text so_far.read ++ end) nothing ∙ append-nil (sides_text so_far.read) in
    let own = so_far.follows so_far.read whole in
    record {
      x = so_far.read;
      found = (whole, empty_front own.front so_far.read own.long (own.beyond b));
      beyond = λ ys is all. let was = so_far.follows ys is.0 in
          was.beyond b (all_first was.front was.more (subst (AllByRecursion IsBoundedVector) was.whole all));
    }
