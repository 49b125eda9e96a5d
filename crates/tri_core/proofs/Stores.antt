-- What six stores to a list of half-edges leave at each number.
use Rattle.std.proofs.Common.{◌≡◌, ◌≢◌, ℕ, ◌<◌, List, length, set, ap, arith}
use Rattle.std.proofs.lemmas.List.{get_or-set_same, get_or-set_other, length-set}
use Rattle.tri_core.specs.declared.half.Half.{Half}
use Rattle.tri_core.specs.HalfEdges.{half_at, triangle_of, next_of, previous_of}
use Rattle.tri_core.specs.Flips.{AreApart}
use Rattle.tri_core.proofs.Moves.{AreFour, outer_four}

-- a list after six stores
abbrev pub six_stores : List Half → (h g n p q r : ℕ) → (x y a b c d : Half) → List Half
six_stores xs h g n p q r x y a b c d = set (set (set (set (set (set xs h x) g y) p a) q b) r c) n d

-- six numbers that are all different, within a list
pub record AreSix (l h g n p q r : ℕ) : Type 0 where
  pub h_in : h < l
  pub g_in : g < l
  pub n_in : n < l
  pub p_in : p < l
  pub q_in : q < l
  pub r_in : r < l
  pub h_g : h ≢ g
  pub h_n : h ≢ n
  pub h_p : h ≢ p
  pub h_q : h ≢ q
  pub h_r : h ≢ r
  pub g_n : g ≢ n
  pub g_p : g ≢ p
  pub g_q : g ≢ q
  pub g_r : g ≢ r
  pub four : AreFour n p q r

pub six : (halves : List Half) (h g : ℕ) → AreApart halves h g → AreSix (length halves) h g (next_of h) (previous_of h) (next_of g) (previous_of g)
six halves h g s =
    let count = s.count in
    let first = s.first in
    let second = s.second in
    let apart = s.apart in
    record {
      h_in = s.first;
      g_in = s.second;
      n_in = omega arith;
      p_in = omega arith;
      q_in = omega arith;
      r_in = omega arith;
      h_g = λ e. apart (ap triangle_of e);
      h_n = λ e. omega arith;
      h_p = λ e. omega arith;
      h_q = λ e. apart (omega arith);
      h_r = λ e. apart (omega arith);
      g_n = λ e. apart (omega arith);
      g_p = λ e. apart (omega arith);
      g_q = λ e. omega arith;
      g_r = λ e. omega arith;
      four = outer_four h g apart;
    }

module _ (xs : List Half) (h g n p q r : ℕ) (x y a b c d : Half) (s : AreSix (length xs) h g n p q r) where
  abbrev after : List Half
  after = six_stores xs h g n p q r x y a b c d

  pub six_stores-length : length after ≡ length xs
  six_stores-length = simp length-set

  pub six_stores-h : half_at after h ≡ x
  six_stores-h = grind (arith, get_or-set_same, get_or-set_other, length-set, s.h_g, s.h_n, s.h_p, s.h_q, s.h_r)

  pub six_stores-g : half_at after g ≡ y
  six_stores-g = grind (arith, get_or-set_same, get_or-set_other, length-set, s.g_n, s.g_p, s.g_q, s.g_r)

  pub six_stores-p : half_at after p ≡ a
  six_stores-p = grind (arith, get_or-set_same, get_or-set_other, length-set, s.four.n_p, s.four.p_q, s.four.p_r)

  pub six_stores-q : half_at after q ≡ b
  six_stores-q = grind (arith, get_or-set_same, get_or-set_other, length-set, s.four.n_q, s.four.q_r)

  pub six_stores-r : half_at after r ≡ c
  six_stores-r = grind (arith, get_or-set_same, get_or-set_other, length-set, s.four.n_r)

  pub six_stores-n : half_at after n ≡ d
  six_stores-n = grind (arith, get_or-set_same, get_or-set_other, length-set)

  pub six_stores-other : (k : ℕ) → k ≢ h → k ≢ g → k ≢ n → k ≢ p → k ≢ q → k ≢ r → half_at after k ≡ half_at xs k
  six_stores-other k eh eg en ep eq er = grind (arith, get_or-set_other)
