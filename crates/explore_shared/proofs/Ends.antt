-- How a worker ends, by what its work says.
use Rattle.std.proofs.Common.{◌≡◌, ℕ, Result, Ok, Err, refl, ap}
use Rattle.std.specs.Prelude.{IfOk}
use Rattle.atomic_table.specs.Seated.{TableId}
use Rattle.terrain.specs.declared.terrains.Terrain as terrains
use Rattle.terrain.specs.declared.numbers.Numbers as numbers
use Rattle.class_shards.specs.declared.naming.Naming as namings
use Rattle.walls_out.specs.declared.count.CountSeat.{CountSeat}
use Rattle.walls_out.specs.declared.view.View.{View}
use Rattle.walls_out.specs.Seats.{count_of, view_of}
use Rattle.walls_out.specs.Views.{saw}
use Rattle.wall_steal.specs.declared.ended.Ended.{Ended}
use Rattle.wall_steal.specs.declared.ended.Ended.TheVariants.{Drained, Halted}
use Rattle.wall_steal.specs.declared.halt.HaltNote.{HaltNote}
use Rattle.wall_steal.specs.Cells.{noted_cell}
use Rattle.explore_shared.specs.Workers.{EndsWell}

module _ {T N K L F W : Type 0} {G : terrains.Ghosts T K L F W} {A : numbers.Ghosts T} {B : numbers.Ghosts K} {M : namings.Ghosts N} where
  pub ends_well : (count : TableId) (cell : ℕ) (v : View) (X : HaltNote T N K L F W G A B M → Type 0) (r : Ended T N K L F W G A B M) → ((s : CountSeat) → r ≡ Drained s → (count_of s ≡ count) × (view_of s ≡ saw v)) → ((n : HaltNote T N K L F W G A B M) → r ≡ Halted n → (noted_cell n ≡ cell) × X n) → EndsWell count cell r
  ends_well count cell v X (Drained s) drained halted = let p = drained s refl in (p.0, ap (λ (u : View). u.seen) p.1)
  ends_well count cell v X (Halted n) drained halted = (halted n refl).0

-- what follows of an Ok by two facts on it
pub ok_by_two : {A E : Type 0} (P Q R : A → Type 0) (r : Result A E) → IfOk r P → IfOk r Q → ((x : A) → P x → Q x → R x) → IfOk r R
ok_by_two P Q R (Ok x) p q f = f x p q
ok_by_two P Q R (Err e) p q f = tt

-- what a `?` hands on is what was refused
pub err_is : {X E : Type 0} (r : Result X E) (x y z : E) → r ≡ Err x → x ≡ y → r ≡ Err z → y ≡ z
err_is r x y z a b c = cc
