-- The laws of terrains hold of the classes over a field.
use Rattle.std.proofs.Common.{◌≡◌, ℕ, ◌/◌, ◌<◌, ◌≤◌, List, length, sym, ap, ◌∙◌, arith}
use Rattle.std.specs.Prelude.{ℤ}
use mathlib.Core.Logic.{∥∥₁_elim, ∥∥₁_map, ∥∥₁_prop}
use Rattle.std.specs.Coded.{Coded-set, coded_list, coded_ℤ, coded_ℕ, ×_prop, le_prop}
use Rattle.std.specs.declared.cmp.Ordering.TheVariants.{Equal}
use Rattle.std.specs.Ordering.{int_cmp}
use Rattle.std.specs.Cmp.{IsTotalOrder}
use Rattle.std.specs.Cmp.Lexicographic.{slice_cmp}
use Rattle.plane.specs.Matrices.{FieldMatrix}
use Rattle.parabola_region.specs.WallLists.{PlainWall}
use Rattle.terrain.specs.RingLaws as ring
use Rattle.canon_code.specs.Canonical.{canonical}
use Rattle.class_node.specs.Classes.{field_of, IsClassOver, AreWallsOf, IsClass, HasWalls}
use Rattle.class_node.specs.Leads.{IsLead, LeadsBy}
use Rattle.class_node.specs.Shards.{shard_sum, shard_number}
use Rattle.class_node.specs.Residues.{residue_low}
use Rattle.class_node.specs.Once.{class_valid, one_list_of_walls, one_lead, behind_valid, few_walls}

list_set : IsSet (List ℤ)
list_set = Coded-set (coded_list coded_ℤ)

number_set : IsSet ℕ
number_set = Coded-set coded_ℕ

matrix_set : IsSet FieldMatrix
matrix_set = hlevel (number_set, Coded-set coded_ℤ)

pub own_proofs_agree : (t k : List ℤ) (a b : IsClass t k) → a ≡ b
own_proofs_agree t k = ∥∥₁_prop

pub walls_proofs_agree : (t k : List ℤ) (n : ℕ) (a b : HasWalls t k n) → a ≡ b
walls_proofs_agree t k n = ∥∥₁_prop

pub leads_proofs_agree : (t k : List ℤ) (w : ℕ) (d : List ℤ) (g : FieldMatrix) (a b : LeadsBy t k w d g) → a ≡ b
leads_proofs_agree t k w d g = ∥∥₁_prop

pub walls_agree : (t k : List ℤ) (n m : ℕ) → HasWalls t k n → HasWalls t k m → n ≡ m
walls_agree t k n m a b =
    ∥∥₁_elim a (number_set n m) (λ (x : IsClassOver (field_of t) k × ((walls : List PlainWall) × AreWallsOf (field_of t) k walls × (length walls ≡ n))).
    ∥∥₁_elim b (number_set n m) (λ (y : IsClassOver (field_of t) k × ((walls : List PlainWall) × AreWallsOf (field_of t) k walls × (length walls ≡ m))).
    sym x.1.2 ∙ ap length (one_list_of_walls (field_of t) k x.0 x.1.0 y.1.0 x.1.1 y.1.1) ∙ y.1.2))

pub walls_few : (t k : List ℤ) (n : ℕ) → HasWalls t k n → n ≤ 65536
walls_few t k n a =
    ∥∥₁_elim a le_prop (λ (x : IsClassOver (field_of t) k × ((walls : List PlainWall) × AreWallsOf (field_of t) k walls × (length walls ≡ n))).
    let few : length x.1.0 ≤ 768 = few_walls (field_of t) (canonical (field_of t) k) x.1.0 x.0.0 (class_valid (field_of t) k x.0) x.1.1 in
    omega (arith, few, x.1.2))

pub leads_agree : (t k : List ℤ) (w : ℕ) (d e : List ℤ) (g h : FieldMatrix) → LeadsBy t k w d g → LeadsBy t k w e h → (d ≡ e) × (g ≡ h)
leads_agree t k w d e g h a b =
    ∥∥₁_elim a (×_prop (list_set d e) (matrix_set g h)) (λ (x : IsClassOver (field_of t) k × IsLead (field_of t) k w d g).
    ∥∥₁_elim b (×_prop (list_set d e) (matrix_set g h)) (λ (y : IsClassOver (field_of t) k × IsLead (field_of t) k w e h). one_lead (field_of t) k x.0 w d e g h x.1 y.1))

pub leads_own : (t k : List ℤ) (n w : ℕ) (d : List ℤ) (g : FieldMatrix) → IsClass t k → HasWalls t k n → w < n → LeadsBy t k w d g → IsClass t d
leads_own t k n w d g own walls within leads =
    ∥∥₁_map leads (λ (x : IsClassOver (field_of t) k × IsLead (field_of t) k w d g). (x.0.0, (x.1.later, behind_valid (field_of t) k x.0 w x.1.later x.1.behind, x.1.code_behind, x.1.fits)))

pub order_total : IsTotalOrder (slice_cmp int_cmp)
order_total = ring.order_total

pub order_exact : (x y : List ℤ) → slice_cmp int_cmp x y ≡ Equal → x ≡ y
order_exact = ring.order_exact

pub shard_low : (x : List ℤ) → shard_number x < 16
shard_low x = residue_low (shard_sum x (length x / 11))
