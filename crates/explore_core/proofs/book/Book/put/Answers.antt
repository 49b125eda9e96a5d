use Rattle.std.proofs.Common.{◌≡◌, ◌++◌, ◌∷◌, [], List, length, arith, sym, ◌∙◌, subst, refl, ap, inl}
use Rattle.std.specs.Prelude.{ℤ}
use Rattle.std.proofs.lemmas.List.{length-map}
use Rattle.terrain.specs.Places.{IsAt}
use Rattle.terrain.proofs.CallerLemmas.{snoc_end}
use Rattle.explore_core.specs.Books.{Row, keys_of}
use Rattle.explore_core.specs.Records.{row_of}
use Rattle.explore_core.specs.Views.{rows_of}
use Rattle.explore_core.proofs.Sound.{keys_of-append}
use Rattle.explore_core.proofs.Closed.{has_at_place}
use Rattle.explore_core.proofs.book.Book.put.Goals as goal

pub returns-in-There-clause-added : goal.returns-in-There-clause-added
returns-in-There-clause-added g c =
    let spot = rw c.in-There.is at c.requires.spot in
    inl (has_at_place (rows_of c.args.self.now) c.in-There.place (g.T.Key.Numbers.numbers c.args.key) spot, refl)

pub returns-in_ok-add-in-New-clause-place : goal.returns-in_ok-add-in-New-clause-place
returns-in_ok-add-in-New-clause-place g c =
    let numbers = g.T.Key.Numbers.numbers in
    let book = c.args.self.now in
    let rows = rows_of book in
    let new = ap keys_of c.in_ok-add-in-New.ensures.added ∙ keys_of-append rows (numbers c.args.key) c.in-New.count in
    let place : length (keys_of rows) ≡ c.len-place.result = (let v = book.records.ok.0 in let l = length-map book.records.items (row_of numbers) in let m = length-map rows (λ (r : Row _). r.key) in let e = c.len-place.ensures in omega arith) in
    subst (λ (l : List (List ℤ)). IsAt l c.len-place.result (numbers c.args.key)) (sym new) (subst (λ i. IsAt (keys_of rows ++ numbers c.args.key ∷ []) i (numbers c.args.key)) place (snoc_end (keys_of rows) (numbers c.args.key)))
