-- The laws of terrains hold of the ring.
use Rattle.std.specs.Prelude.{◌≡◌, ℕ, ◌%◌, ◌<◌, ◌≤◌, ℤ, pos, List, [], ◌∷◌, Option, Some, None}
use Rattle.std.proofs.Common.{sym, ap, subst, arith, ◌∙◌}
use Rattle.std.specs.Coded.{Coded-set, coded_list, coded_ℤ, coded_ℕ, ×_prop, le_prop}
use Rattle.std.specs.declared.cmp.Ordering.{Ordering}
use Rattle.std.specs.declared.cmp.Ordering.TheVariants.{Less, Equal, Greater}
use Rattle.std.specs.Ordering.{int_cmp, ordering_then}
use Rattle.std.specs.Cmp.{IsTotalOrder}
use Rattle.std.specs.Cmp.Lexicographic.{slice_cmp}
use Rattle.std.proofs.lemmas.Cmp.{lists_total, int_cmp_total}
use Rattle.std.proofs.lemmas.Map.Lookups.{exact_signed}
use Rattle.terrain.specs.declared.ring.Ring.{Ring}
use Rattle.terrain.specs.Rings.{ring_numbers, numbers_of, first_or_zero, IsRingKey, HasTwo, RingLeads, ring_step, ring_shard}

list_set : (x y : List ℤ) (a b : x ≡ y) → a ≡ b
list_set = Coded-set (coded_list coded_ℤ)

number_set : (x y : ℕ) (a b : x ≡ y) → a ≡ b
number_set = Coded-set coded_ℕ

-- different rings stand for different lists
pub rings_apart : (x y : Ring) → numbers_of x ≡ numbers_of y → x ≡ y
rings_apart x y e = ap (λ (p : ℕ × Option ℕ). record { keys = p.0; stuck = p.1 }) (pairs x.keys x.stuck y.keys y.stuck e)
  where
    pairs : (n : ℕ) (s : Option ℕ) (m : ℕ) (r : Option ℕ) → ring_numbers n s ≡ ring_numbers m r → ◌≡◌ {A = ℕ × Option ℕ} (n, s) (m, r)
    pairs n None m None h = cc
    pairs n None m (Some r) h = cc
    pairs n (Some s) m None h = cc
    pairs n (Some s) m (Some r) h = cc

pub own_proofs_agree : (t k : List ℤ) (a b : IsRingKey t k) → a ≡ b
own_proofs_agree t k = ×_prop (list_set _ _) le_prop

pub walls_proofs_agree : (t k : List ℤ) (n : ℕ) (a b : HasTwo t k n) → a ≡ b
walls_proofs_agree t k n = number_set _ _

pub leads_proofs_agree : (t k : List ℤ) (w : ℕ) (d : List ℤ) (g : ℕ) (a b : RingLeads t k w d g) → a ≡ b
leads_proofs_agree t k w d g = ×_prop (list_set _ _) (number_set _ _)

pub walls_agree : (t k : List ℤ) (n m : ℕ) → HasTwo t k n → HasTwo t k m → n ≡ m
walls_agree t k n m a b = a ∙ sym b

pub walls_few : (t k : List ℤ) (n : ℕ) → HasTwo t k n → n ≤ 65536
walls_few t k n e = omega arith

pub leads_agree : (t k : List ℤ) (w : ℕ) (d e : List ℤ) (g h : ℕ) → RingLeads t k w d g → RingLeads t k w e h → (d ≡ e) × (g ≡ h)
leads_agree t k w d e g h a b = (a.0 ∙ sym b.0, a.1 ∙ sym b.1)

pub leads_own : (t k : List ℤ) (n w : ℕ) (d : List ℤ) (g : ℕ) → IsRingKey t k → HasTwo t k n → w < n → RingLeads t k w d g → IsRingKey t d
leads_own t k n w d g own two within leads = subst (IsRingKey t) (sym leads.0) (refl_of, omega arith)
  where
    refl_of : pos (ring_step (first_or_zero k) w % first_or_zero t) ∷ [] ≡ pos (ring_step (first_or_zero k) w % first_or_zero t) ∷ []
    refl_of = λ i. pos (ring_step (first_or_zero k) w % first_or_zero t) ∷ []

pub order_total : IsTotalOrder (slice_cmp int_cmp)
order_total = lists_total int_cmp_total

first_and_rest : (x y : ℤ) (xs ys : List ℤ) → (slice_cmp int_cmp xs ys ≡ Equal → xs ≡ ys) → (o : Ordering) → int_cmp x y ≡ o → ordering_then o (slice_cmp int_cmp xs ys) ≡ Equal → x ∷ xs ≡ y ∷ ys
first_and_rest x y xs ys rest Less a h = cc
first_and_rest x y xs ys rest Greater a h = cc
first_and_rest x y xs ys rest Equal a h = let f = exact_signed x y a in let s = rest h in cc

pub order_exact : (x y : List ℤ) → slice_cmp int_cmp x y ≡ Equal → x ≡ y
order_exact [] [] e = λ i. []
order_exact [] (y ∷ ys) e = cc
order_exact (x ∷ xs) [] e = cc
order_exact (x ∷ xs) (y ∷ ys) e = first_and_rest x y xs ys (order_exact xs ys) (int_cmp x y) (λ i. int_cmp x y) e

pub shard_low : (x : List ℤ) → ring_shard x < 16
shard_low x = omega arith
