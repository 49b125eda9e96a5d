-- Rows whose slots are filled one after the other.
use Rattle.std.proofs.Common.{◌≡◌, ◌≢◌, ℕ, ◌+◌, ◌<◌, ◌≤◌, List, length, Some, Err, sym, ap, ◌∙◌, subst, arith}
use Rattle.std.specs.Prelude.{Result}
use mathlib.Core.Logic.{dite}
use native.Mathlib.Decide.{ℕ_discrete}
use Rattle.terrain.specs.Places.{IsAt}
use Rattle.terrain.proofs.CallerLemmas.{at_one, at_within, read}
use Rattle.explore_core.specs.Books.{Slot, Row, IsFilled, out}
use Rattle.explore_core.proofs.CallerLemmas.{out_of_full}
use Rattle.explore_one.specs.Filled.{Keeps, IsFullAt}

pub err_is : {X E : Type 0} (r : Result X E) (x y z : E) → r ≡ Err x → x ≡ y → r ≡ Err z → y ≡ z
err_is r x y z a b c = cc

-- the row at a place has n slots, of which the first w are filled
abbrev pub IsFilledBelow : {L : Type 0} → List (Row L) → ℕ → ℕ → ℕ → Type 0
IsFilledBelow {L} rows place n w = (r : Row L) × IsAt rows place r × (length r.slots ≡ n) × ((v : ℕ) → v < w → (s : Slot L) × IsAt r.slots v (Some s))

module _ {L : Type 0} where
  pub keeps_more : (a b c : List (Row L)) → Keeps a b → Keeps b c → Keeps a c
  keeps_more a b c k l i r at =
      let q = k i r at in
      let p = l i q.0 q.1 in
      (p.0, p.1, p.2 ∙ q.2, λ v s full. p.3 v s (q.3 v s full))

  -- one slot more is filled
  pub filled_more : (b c : List (Row L)) (place n w : ℕ) → IsFilledBelow b place n w → Keeps b c → IsFilled c place w → IsFilledBelow c place n (w + 1)
  filled_more b c place n w row keeps filled =
      let q = keeps place row.0 row.1 in (
        q.0,
        q.1,
        q.2 ∙ row.2,
        λ v h. dite (ℕ_discrete v w)
            (λ (e : v ≡ w). (filled.1, subst (λ (j : ℕ). IsAt q.0.slots j (Some filled.1)) (sym e) (subst (λ (r : Row L). IsAt r.slots w (Some filled.1)) (at_one c place filled.0 q.0 filled.2 q.1) filled.3)))
            (λ (ne : v ≢ w). let f = row.3 v (omega arith) in (f.0, q.3 v f.0 f.1)),
      )

  pub full_at : (rows : List (Row L)) (place n w : ℕ) → IsFilledBelow rows place n w → n ≤ w → IsFullAt rows place
  full_at rows place n w row h r at v within = subst (λ (q : Row L). v < length q.slots → (s : Slot L) × IsAt q.slots v (Some s)) (at_one rows place row.0 r row.1 at) (λ k. row.3 v (let e = row.2 in omega arith)) within

  pub keeps_within : (a b : List (Row L)) (i : ℕ) → i < length a → Keeps a b → i < length b
  keeps_within a b i h keeps = let r = read a i h in let q = keeps i r.0 r.1 in at_within b i q.0 q.1

  -- a row that is full stays so
  pub full_stays : (a b : List (Row L)) (i : ℕ) → i < length a → Keeps a b → IsFullAt a i → IsFullAt b i
  full_stays a b i h keeps full r at v within =
      let was = read a i h in
      let q = keeps i was.0 was.1 in
      let same = at_one b i q.0 r q.1 at in
      let short : v < length was.0.slots = (let e = q.2 in let k = ap (λ (x : Row L). length x.slots) same in omega arith) in
      let f = full was.0 was.1 v short in
      (f.0, subst (λ (x : Row L). IsAt x.slots v (Some f.0)) same (q.3 v f.0 f.1))

  pub none_out : (rows : List (Row L)) → ((i : ℕ) → i < length rows → IsFullAt rows i) → out rows ≡ 0
  none_out rows full = out_of_full rows (λ i r at. full i (at_within rows i r at) r at)
