-- What a note knows.
use Rattle.std.proofs.Common.{◌≡◌, ℕ, Option, Some, None, is_some, true, refl, subst}
use Rattle.std.specs.Prelude.{option_map, IfSome}
use Rattle.terrain.specs.declared.terrains.Terrain as terrains
use Rattle.terrain.specs.declared.numbers.Numbers as numbers
use Rattle.class_shards.specs.declared.naming.Naming as namings
use Rattle.wall_steal.specs.declared.cause.HaltCause.{HaltCause}
use Rattle.wall_steal.specs.declared.cause.Known.{Known}
use Rattle.wall_steal.specs.declared.halt.HaltNote.{HaltNote}
use Rattle.wall_steal.specs.Causes.{IsCause}
use Rattle.wall_steal.specs.Cells.{noted_cell, noted_cause}
use Rattle.wall_steal.specs.declared.ended.Ended.TheVariants.{Halted}

pub known_is : {A : Type 0} (o : Option A) (x : A) → is_some o ≡ true → IfSome o (λ y. y ≡ x) → o ≡ Some x
known_is None x some same = cc
known_is (Some y) x some same = cc

-- what is known is known of something
pub known_has : {A C : Type 0} {P : C → Type 0} (cause : A → C) → ((x : A) → P (cause x)) → (o : Option A) → is_some o ≡ true → (c : C) × (option_map cause o ≡ Some c) × P c
known_has cause holds None some = absurd (cc)
known_has cause holds (Some x) some = (cause x, refl, holds x)

module _ {T N K L F W : Type 0} {G : terrains.Ghosts T K L F W} {A : numbers.Ghosts T} {B : numbers.Ghosts K} {M : namings.Ghosts N} where
  -- a note knows a cause that is true
  pub note_knows : (n : HaltNote T N K L F W G A B M) → (c : HaltCause T K L F W B) × (noted_cause n ≡ Some c) × IsCause (G.has_walls M.terrain) (G.leads M.terrain) (G.is_stuck M.terrain) (G.is_stuck_at M.terrain) M.root M.limit c
  note_knows n = known_has {P = IsCause (G.has_walls M.terrain) (G.leads M.terrain) (G.is_stuck M.terrain) (G.is_stuck_at M.terrain) M.root M.limit} (λ (k : Known T N K L F W G A B M). k.cause) (λ (k : Known T N K L F W G A B M). k.holds) n.note.known n.known

  -- what a worker says that ends with a note of the cell
  abbrev pub SaysOf : ℕ → HaltNote T N K L F W G A B M → Type 0
  SaysOf cell n = (noted_cell n ≡ cell) × ((c : HaltCause T K L F W B) × (noted_cause n ≡ Some c) × IsCause (G.has_walls M.terrain) (G.leads M.terrain) (G.is_stuck M.terrain) (G.is_stuck_at M.terrain) M.root M.limit c)

  pub halted_says : (m n : HaltNote T N K L F W G A B M) (cell : ℕ) → noted_cell m ≡ cell → Halted m ≡ Halted n → SaysOf cell n
  halted_says m n cell of same = let e : m ≡ n = cc in subst (SaysOf cell) e (of, note_knows m)
