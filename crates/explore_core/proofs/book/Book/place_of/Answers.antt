use Rattle.std.proofs.Common.{◌∙◌, List, map, ap, sym, subst}
use Rattle.std.specs.Prelude.{ℤ}
use Rattle.std.proofs.lemmas.Result.{MatchResult-weaker}
use Rattle.terrain.specs.Places.{IsAt}
use Rattle.explore_core.specs.Index.{IsGap}
use Rattle.explore_core.specs.Views.{rows_of}
use Rattle.explore_core.proofs.CallerLemmas.{index_as}
use Rattle.explore_core.proofs.RecordRows.{keys_are}
use Rattle.explore_core.proofs.Closed.{key_at}
use Rattle.explore_core.proofs.book.Book.place_of.Goals as goal

pub find-requires-after_bounds : goal.find-requires-after_bounds
find-requires-after_bounds g c κs within =
    let numbers = g.T.Key.Numbers.numbers in
    let book = c.args.self.now in
    index_as g.T.Terrain.order _ _ _ _ (ap (map (λ r. numbers r.key)) c.as_slice.ensures.value ∙ keys_are numbers book.records.items) c.as_slice-2.ensures.value book.index

pub returns-clause-found : goal.returns-clause-found
returns-clause-found g c =
    let numbers = g.T.Key.Numbers.numbers in
    let book = c.args.self.now in
    let keys = ap (map (λ r. numbers r.key)) c.as_slice.ensures.value ∙ keys_are numbers book.records.items in
    MatchResult-weaker c.find.result c.find.ensures.found (λ p at. subst (λ (x : List (List ℤ)). IsAt x p (numbers c.args.key.now)) keys at) (λ i h. h)

pub returns-clause-gap : goal.returns-clause-gap
returns-clause-gap g c =
    let numbers = g.T.Key.Numbers.numbers in
    let book = c.args.self.now in
    let keys = ap (map (λ r. numbers r.key)) c.as_slice.ensures.value ∙ keys_are numbers book.records.items in
    MatchResult-weaker c.find.result c.find.ensures.gap (λ p h. h) (λ i gap. subst (λ (x : List (List ℤ) × List _). IsGap g.T.Terrain.order x.0 x.1 (numbers c.args.key.now) i) (λ j. (keys j, c.as_slice-2.ensures.value j)) gap)

pub returns-clause-fresh : goal.returns-clause-fresh
returns-clause-fresh g c =
    let numbers = g.T.Key.Numbers.numbers in
    let book = c.args.self.now in
    let keys = ap (map (λ r. numbers r.key)) c.as_slice.ensures.value ∙ keys_are numbers book.records.items in
    MatchResult-weaker c.find.result c.find.ensures.fresh (λ p h. h) (λ i fresh has. fresh has.place (subst (λ (x : List (List ℤ)). IsAt x has.place (numbers c.args.key.now)) (sym keys) (key_at (rows_of book) (numbers c.args.key.now) has)))
