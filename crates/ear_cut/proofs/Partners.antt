-- The partner of an origin is one, and so is the partner's.
use Rattle.std.proofs.Common.{◌≡◌, ℕ, zero, suc, ◌<◌, ◌⊎◌, List, [], ◌∷◌, ◌++◌, length, take, refl, ap, ap₂, sym, ◌∙◌, subst, arith, inl, inr}
use Rattle.std.specs.Prelude.{Contains}
use Rattle.std.proofs.lemmas.Bool.{cases_lt}
use Rattle.std.proofs.lemmas.List.Elements.{Contains-append_left, Contains-append_right, Contains-push}
use Rattle.surface_text.specs.declared.file.Glue.{Glue}
use Rattle.gluing.specs.Gluings.{Name, first_of, second_of, names, glue_at, NamesTwice, AreTwins}
use Rattle.ear_cut.specs.Cuttings.{Origin, ArePartners}

-- the sides that a line names are named before every later line
named_before : (glues : List Glue) (j k : ℕ) → j < k → k < length glues
    → Contains (names (take k glues)) (first_of (glue_at glues j)) × Contains (names (take k glues)) (second_of (glue_at glues j))
named_before [] j k less below = absurd (omega arith)
named_before (g ∷ glues) j zero less below = absurd (omega arith)
named_before (g ∷ glues) zero (suc k) less below = ((0, omega arith, refl), (1, omega arith, refl))
named_before (g ∷ glues) (suc j) (suc k) less below =
    let rest = named_before glues j k (omega arith) (omega arith) in
    (Contains-append_right (first_of g ∷ second_of g ∷ []) (names (take k glues)) _ rest.0, Contains-append_right (first_of g ∷ second_of g ∷ []) (names (take k glues)) _ rest.1)

-- line k names the side
abbrev IsEnd : List Glue → ℕ → Name → Type 0
IsEnd glues k name = (first_of (glue_at glues k) ≡ name) ⊎ (second_of (glue_at glues k) ≡ name)

named_end : (glues : List Glue) (j k : ℕ) (name : Name) → j < k → k < length glues → IsEnd glues j name → Contains (names (take k glues)) name
named_end glues j k name less below (inl e) = subst (Contains (names (take k glues))) e (named_before glues j k less below).0
named_end glues j k name less below (inr e) = subst (Contains (names (take k glues))) e (named_before glues j k less below).1

no_earlier : (glues : List Glue) (j k : ℕ) (name : Name) → j < k → k < length glues → ¬ (NamesTwice glues k) → IsEnd glues j name → ¬ (IsEnd glues k name)
no_earlier glues j k name less below once early (inl e) = once (inl (subst (Contains (names (take k glues))) (sym e) (named_end glues j k name less below early)))
no_earlier glues j k name less below once early (inr e) =
    once (inr (Contains-append_left (names (take k glues)) (first_of (glue_at glues k) ∷ []) _ (subst (Contains (names (take k glues))) (sym e) (named_end glues j k name less below early))))

two_ends : (glues : List Glue) (k : ℕ) → ¬ (NamesTwice glues k) → ¬ (first_of (glue_at glues k) ≡ second_of (glue_at glues k))
two_ends glues k once e =
    once (inr (subst (Contains (names (take k glues) ++ first_of (glue_at glues k) ∷ [])) e (Contains-push (names (take k glues)) (first_of (glue_at glues k)))))

-- line k names the two sides
abbrev AreEnds : List Glue → ℕ → Name → Name → Type 0
AreEnds glues k one other =
    ((first_of (glue_at glues k) ≡ one) × (second_of (glue_at glues k) ≡ other))
    ⊎ ((first_of (glue_at glues k) ≡ other) × (second_of (glue_at glues k) ≡ one))

end_of : (glues : List Glue) (k : ℕ) (one other : Name) → AreEnds glues k one other → IsEnd glues k one
end_of glues k one other (inl e) = inl e.0
end_of glues k one other (inr e) = inr e.1

same_line : (glues : List Glue) (k : ℕ) (one b c : Name) → ¬ (NamesTwice glues k) → AreEnds glues k one b → AreEnds glues k one c → b ≡ c
same_line glues k one b c once (inl p) (inl q) = sym p.1 ∙ q.1
same_line glues k one b c once (inl p) (inr q) = absurd (two_ends glues k once (p.0 ∙ sym q.1))
same_line glues k one b c once (inr p) (inl q) = absurd (two_ends glues k once (q.0 ∙ sym p.1))
same_line glues k one b c once (inr p) (inr q) = sym p.0 ∙ q.0

-- each line names no side again
abbrev pub NamesOnce : List Glue → Type 0
NamesOnce glues = (k : ℕ) → k < length glues → ¬ (NamesTwice glues k)

pub one_twin : (glues : List Glue) (a b c : Name) → NamesOnce glues → AreTwins glues a b → AreTwins glues a c → b ≡ c
one_twin glues a b c once (j, p, e) (k, q, f) =
    elim (cases_lt j k) [
      | inl below ↦ absurd (no_earlier glues j k a below q (once k q) (end_of glues j a b e) (end_of glues k a c f))
      | inr above ↦
          elim (cases_lt k j) [
            | inl below ↦ absurd (no_earlier glues k j a below p (once j p) (end_of glues k a c f) (end_of glues j a b e))
            | inr other ↦ let same : j ≡ k = omega arith in same_line glues k a b c (once k q) (subst (λ n. AreEnds glues n a b) same e) f
          ]
    ]

pub twin_back : (glues : List Glue) (a b : Name) → AreTwins glues a b → AreTwins glues b a
twin_back glues a b (k, p, inl e) = (k, p, inr e)
twin_back glues a b (k, p, inr e) = (k, p, inl e)

pub partner_back : (glues : List Glue) (o r : Origin) → ArePartners glues o r → ArePartners glues r o
partner_back glues (Origin.outer p e) (Origin.outer q f) pair = twin_back glues (p, e) (q, f) pair
partner_back glues (Origin.outer p e) (Origin.chord u) pair = absurd pair
partner_back glues (Origin.outer p e) (Origin.back u) pair = absurd pair
partner_back glues (Origin.chord t) (Origin.outer q f) pair = absurd pair
partner_back glues (Origin.chord t) (Origin.chord u) pair = absurd pair
partner_back glues (Origin.chord t) (Origin.back u) pair = sym pair
partner_back glues (Origin.back t) (Origin.outer q f) pair = absurd pair
partner_back glues (Origin.back t) (Origin.chord u) pair = sym pair
partner_back glues (Origin.back t) (Origin.back u) pair = absurd pair

pub one_partner : (glues : List Glue) (o r s : Origin) → NamesOnce glues → ArePartners glues o r → ArePartners glues o s → r ≡ s
one_partner glues (Origin.outer p e) (Origin.outer q f) (Origin.outer x y) once a b =
    let same = one_twin glues (p, e) (q, f) (x, y) once a b in
    ap₂ Origin.outer (ap (λ (n : ℕ × ℕ). n.0) same) (ap (λ (n : ℕ × ℕ). n.1) same)
one_partner glues (Origin.outer p e) (Origin.outer q f) (Origin.chord u) once a b = absurd b
one_partner glues (Origin.outer p e) (Origin.outer q f) (Origin.back u) once a b = absurd b
one_partner glues (Origin.outer p e) (Origin.chord u) s once a b = absurd a
one_partner glues (Origin.outer p e) (Origin.back u) s once a b = absurd a
one_partner glues (Origin.chord t) (Origin.outer q f) s once a b = absurd a
one_partner glues (Origin.chord t) (Origin.chord u) s once a b = absurd a
one_partner glues (Origin.chord t) (Origin.back u) (Origin.outer q f) once a b = absurd b
one_partner glues (Origin.chord t) (Origin.back u) (Origin.chord v) once a b = absurd b
one_partner glues (Origin.chord t) (Origin.back u) (Origin.back v) once a b = ap Origin.back (sym a ∙ b)
one_partner glues (Origin.back t) (Origin.outer q f) s once a b = absurd a
one_partner glues (Origin.back t) (Origin.back u) s once a b = absurd a
one_partner glues (Origin.back t) (Origin.chord u) (Origin.outer q f) once a b = absurd b
one_partner glues (Origin.back t) (Origin.chord u) (Origin.back v) once a b = absurd b
one_partner glues (Origin.back t) (Origin.chord u) (Origin.chord v) once a b = ap Origin.chord (sym a ∙ b)
