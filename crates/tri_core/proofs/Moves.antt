-- Where the numbers of half-edges go in a flip.
use Rattle.std.proofs.Common.{◌≡◌, ◌≢◌, ◌⊎◌, ℕ, ◌%◌, ◌<◌, ◌==◌, if◌then◌else◌, refl, sym, ◌∙◌, ap, inl, inr, arith}
use Rattle.std.proofs.lemmas.Bool.{cases_eq}
use Rattle.tri_core.specs.HalfEdges.{next_of, previous_of, triangle_of}
use Rattle.tri_core.specs.Flips.{number_after, IsOuter}
use Rattle.tri_core.proofs.Triangles.{side_next, side_previous}

-- each of four numbers becomes the next of them, and the last the first; every other number stays
abbrev pub cycled : ℕ → ℕ → ℕ → ℕ → ℕ → ℕ
cycled n p q r k =
    if k == n then p
    else if k == p then q
    else if k == q then r
    else if k == r then n
    else k

-- four numbers that are all different
pub record AreFour (n p q r : ℕ) : Type 0 where
  pub n_p : n ≢ p
  pub n_q : n ≢ q
  pub n_r : n ≢ r
  pub p_q : p ≢ q
  pub p_r : p ≢ r
  pub q_r : q ≢ r

pub cycled-first : (n p q r k : ℕ) → k ≡ n → cycled n p q r k ≡ p
cycled-first n p q r k e = grind arith

pub cycled-second : (n p q r k : ℕ) → AreFour n p q r → k ≡ p → cycled n p q r k ≡ q
cycled-second n p q r k f e = grind (arith, f.n_p)

pub cycled-third : (n p q r k : ℕ) → AreFour n p q r → k ≡ q → cycled n p q r k ≡ r
cycled-third n p q r k f e = grind (arith, f.n_q, f.p_q)

pub cycled-fourth : (n p q r k : ℕ) → AreFour n p q r → k ≡ r → cycled n p q r k ≡ n
cycled-fourth n p q r k f e = grind (arith, f.n_r, f.p_r, f.q_r)

pub cycled-other : (n p q r k : ℕ) → k ≢ n → k ≢ p → k ≢ q → k ≢ r → cycled n p q r k ≡ k
cycled-other n p q r k a b c d = grind arith

-- the same four numbers in the other order
pub backwards : (n p q r : ℕ) → AreFour n p q r → AreFour r q p n
backwards n p q r f = record { n_p = λ e. f.q_r (sym e); n_q = λ e. f.p_r (sym e); n_r = λ e. f.n_r (sym e); p_q = λ e. f.p_q (sym e); p_r = λ e. f.n_q (sym e); q_r = λ e. f.n_p (sym e) }

-- the cycle the other way round takes each number back
pub cycled-back : (n p q r k : ℕ) → AreFour n p q r → cycled r q p n (cycled n p q r k) ≡ k
cycled-back n p q r k f =
    let f' = backwards n p q r f in
    elim (cases_eq k n) [
      | inl e ↦ rw (cycled-first n p q r k e) (cycled-third r q p n p f' refl ∙ sym e)
      | inr a ↦ elim (cases_eq k p) [
        | inl e ↦ rw (cycled-second n p q r k f e) (cycled-second r q p n q f' refl ∙ sym e)
        | inr b ↦ elim (cases_eq k q) [
          | inl e ↦ rw (cycled-third n p q r k f e) (cycled-first r q p n r refl ∙ sym e)
          | inr c ↦ elim (cases_eq k r) [
            | inl e ↦ rw (cycled-fourth n p q r k f e) (cycled-fourth r q p n n f' refl ∙ sym e)
            | inr d ↦ rw (cycled-other n p q r k a b c d) (cycled-other r q p n k d c b a)
          ]
        ]
      ]
    ]

-- a cycle of four numbers from its third on
pub cycled_from_third : (n p q r k : ℕ) → AreFour n p q r → AreFour q r n p → cycled q r n p k ≡ cycled n p q r k
cycled_from_third n p q r k f g = elim (cases_eq k n) [
  | inl e ↦ cycled-third q r n p k g e ∙ sym (cycled-first n p q r k e)
  | inr a ↦ elim (cases_eq k p) [
    | inl e ↦ cycled-fourth q r n p k g e ∙ sym (cycled-second n p q r k f e)
    | inr b ↦ elim (cases_eq k q) [
      | inl e ↦ cycled-first q r n p k e ∙ sym (cycled-third n p q r k f e)
      | inr c ↦ elim (cases_eq k r) [
        | inl e ↦ cycled-second q r n p k g e ∙ sym (cycled-fourth n p q r k f e)
        | inr d ↦ cycled-other q r n p k c d a b ∙ sym (cycled-other n p q r k a b c d)
      ]
    ]
  ]
]

-- the numbers of two triangles are all different
pub outer_four : (h g : ℕ) → ¬ (triangle_of h ≡ triangle_of g) → AreFour (next_of h) (previous_of h) (next_of g) (previous_of g)
outer_four h g apart = record {
  n_p = λ e. omega arith;
  n_q = λ e. apart (omega arith);
  n_r = λ e. apart (omega arith);
  p_q = λ e. apart (omega arith);
  p_r = λ e. apart (omega arith);
  q_r = λ e. omega arith;
}

-- a number that is no outer side stays
pub number_same : (h g k : ℕ) → ¬ (IsOuter h g k) → number_after h g k ≡ k
number_same h g k none = cycled-other (next_of h) (previous_of h) (next_of g) (previous_of g) k (λ e. none (inl e)) (λ e. none (inr (inl e))) (λ e. none (inr (inr (inl e)))) (λ e. none (inr (inr (inr e))))

-- the number that goes to k
abbrev pub number_before : ℕ → ℕ → ℕ → ℕ
number_before h g k = cycled (previous_of g) (next_of g) (previous_of h) (next_of h) k

pub number_back : (h g k : ℕ) → ¬ (triangle_of h ≡ triangle_of g) → number_before h g (number_after h g k) ≡ k
number_back h g k apart = cycled-back (next_of h) (previous_of h) (next_of g) (previous_of g) k (outer_four h g apart)

pub number_forth : (h g k : ℕ) → ¬ (triangle_of h ≡ triangle_of g) → number_after h g (number_before h g k) ≡ k
number_forth h g k apart = cycled-back (previous_of g) (next_of g) (previous_of h) (next_of h) k (backwards _ _ _ _ (outer_four h g apart))

-- no two numbers go to one
pub number_injective : (h g j k : ℕ) → ¬ (triangle_of h ≡ triangle_of g) → number_after h g j ≡ number_after h g k → j ≡ k
number_injective h g j k apart e = sym (number_back h g j apart) ∙ ap (number_before h g) e ∙ number_back h g k apart

-- a cycle of numbers below a bound keeps a number below it
cycled-within : (n p q r k l : ℕ) → n < l → p < l → q < l → r < l → k < l → cycled n p q r k < l
cycled-within n p q r k l a b c d e = grind arith

pub number_within : (h g k l : ℕ) → l % 3 ≡ 0 → h < l → g < l → k < l → number_after h g k < l
number_within h g k l whole first second below =
    cycled-within (next_of h) (previous_of h) (next_of g) (previous_of g) k l (omega arith) (omega arith) (omega arith) (omega arith) below

pub before_within : (h g k l : ℕ) → l % 3 ≡ 0 → h < l → g < l → k < l → number_before h g k < l
before_within h g k l whole first second below =
    cycled-within (previous_of g) (next_of g) (previous_of h) (next_of h) k l (omega arith) (omega arith) (omega arith) (omega arith) below

-- h and its twin are no outer sides
pub first_not_outer : (h g : ℕ) → ¬ (triangle_of h ≡ triangle_of g) → ¬ (IsOuter h g h)
first_not_outer h g apart = λ o. elim o [
  | inl e ↦ omega arith
  | inr o ↦ elim o [ inl e ↦ omega arith | inr o ↦ elim o [ inl e ↦ apart (omega arith) | inr e ↦ apart (omega arith) ] ]
]

pub second_not_outer : (h g : ℕ) → ¬ (triangle_of h ≡ triangle_of g) → ¬ (IsOuter h g g)
second_not_outer h g apart = λ o. elim o [
  | inl e ↦ apart (omega arith)
  | inr o ↦ elim o [ inl e ↦ apart (omega arith) | inr o ↦ elim o [ inl e ↦ omega arith | inr e ↦ omega arith ] ]
]

-- k is an outer side, or it isn't
pub outer_or_not : (h g k : ℕ) → IsOuter h g k ⊎ ¬ (IsOuter h g k)
outer_or_not h g k =
    elim (cases_eq k (next_of h)) [
      | inl e ↦ inl (inl e)
      | inr a ↦ elim (cases_eq k (previous_of h)) [
        | inl e ↦ inl (inr (inl e))
        | inr b ↦ elim (cases_eq k (next_of g)) [
          | inl e ↦ inl (inr (inr (inl e)))
          | inr c ↦ elim (cases_eq k (previous_of g)) [
            | inl e ↦ inl (inr (inr (inr e)))
            | inr d ↦ inr (λ o. elim o [ inl e ↦ a e | inr o ↦ elim o [ inl e ↦ b e | inr o ↦ elim o [ inl e ↦ c e | inr e ↦ d e ] ] ])
          ]
        ]
      ]
    ]

-- a side of another triangle is no outer side
pub elsewhere_not_outer : (h g k : ℕ) → ¬ (triangle_of k ≡ triangle_of h) → ¬ (triangle_of k ≡ triangle_of g) → ¬ (IsOuter h g k)
elsewhere_not_outer h g k a b = λ o. elim o [
  | inl e ↦ a (omega arith)
  | inr o ↦ elim o [ inl e ↦ a (omega arith) | inr o ↦ elim o [ inl e ↦ b (omega arith) | inr e ↦ b (omega arith) ] ]
]

-- an outer side stays in the two triangles
pub outer_triangle : (h g k : ℕ) → IsOuter h g k → (triangle_of k ≡ triangle_of h) ⊎ (triangle_of k ≡ triangle_of g)
outer_triangle h g k o = elim o [
  | inl e ↦ inl (omega arith)
  | inr o ↦ elim o [ inl e ↦ inl (omega arith) | inr o ↦ elim o [ inl e ↦ inr (omega arith) | inr e ↦ inr (omega arith) ] ]
]

pub after_triangle : (h g k : ℕ) → ¬ (triangle_of h ≡ triangle_of g) → IsOuter h g k → (triangle_of (number_after h g k) ≡ triangle_of h) ⊎ (triangle_of (number_after h g k) ≡ triangle_of g)
after_triangle h g k apart o =
    let f = outer_four h g apart in
    let n : ℕ = next_of h in
    let p : ℕ = previous_of h in
    let q : ℕ = next_of g in
    let r : ℕ = previous_of g in
    elim o [
      | inl e ↦ inl (ap triangle_of (cycled-first n p q r k e) ∙ side_previous h)
      | inr o ↦ elim o [
        | inl e ↦ inr (ap triangle_of (cycled-second n p q r k f e) ∙ side_next g)
        | inr o ↦ elim o [
          | inl e ↦ inr (ap triangle_of (cycled-third n p q r k f e) ∙ side_previous g)
          | inr e ↦ inl (ap triangle_of (cycled-fourth n p q r k f e) ∙ side_next h)
        ]
      ]
    ]
