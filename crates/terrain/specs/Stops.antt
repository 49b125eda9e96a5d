-- Why a call of a terrain gave nothing.
use Rattle.terrain.specs.declared.stop.Stop.{Stop}
use Rattle.terrain.specs.declared.stop.Stop.TheVariants.{Fault, Memory}

-- the fact holds of the fault, where the call stopped at one
abbrev pub IfFault : {F : Type 0} → Stop F → (F → Type 0) → Type 0
IfFault (Fault fault) P = P fault
IfFault Memory P = Unit {0}
