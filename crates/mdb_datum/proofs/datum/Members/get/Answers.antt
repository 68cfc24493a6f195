-- The closure compares a name with the one that is looked for.
use Rattle.std.proofs.Common.{rules, ◌<◌, List, length, Ok, Err, subst}
use Rattle.std.specs.Cmp.Lexicographic.{slice_cmp}
use Rattle.std.specs.List.Sorted.{IsBinarySearchResult}
use Rattle.std.specs.Ordering.{nat_cmp}
use Rattle.std.proofs.lemmas.Fn.{always_returns_same}
use Rattle.mdb_datum.specs.declared.datum.Datum.{Datum}
use Rattle.mdb_datum.specs.declared.text.Text.{Text}
use Rattle.mdb_datum.proofs.MemberSearch.{found, missing}
use Rattle.mdb_datum.proofs.datum.Members.get.Goals as goal

pub returns-in-Ok : goal.returns-in-Ok
returns-in-Ok c =
    let by_name = c.in-Ok.ensures.position (λ (p : Text × Datum). slice_cmp nat_cmp p.0 c.args.name.now) (always_returns_same _ _ _ (λ a r f called. (search rules, search rules))) in
    found c.self.inside.pairs.items c.args.self.now c.self.view_is c.args.name.now c.self.invariant.regular.0 c.in-Ok.at c.index.result.now (subst (λ (xs : List (Text × Datum)). c.in-Ok.at < length xs) c.deref.ensures.value c.in-Ok.ensures.bound) (subst (λ (xs : List (Text × Datum)). IsBinarySearchResult (λ p. slice_cmp nat_cmp p.0 c.args.name.now) xs (Ok c.in-Ok.at)) c.deref.ensures.value by_name) c.index.ensures

pub returns-in-Err : goal.returns-in-Err
returns-in-Err c =
    let by_name = c.in-Err.ensures.position (λ (p : Text × Datum). slice_cmp nat_cmp p.0 c.args.name.now) (always_returns_same _ _ _ (λ a r f called. (search rules, search rules))) in
    missing c.self.inside.pairs.items c.args.self.now c.self.view_is c.args.name.now c.self.invariant.regular.0 c.in-Err.field-0 (subst (λ (xs : List (Text × Datum)). IsBinarySearchResult (λ p. slice_cmp nat_cmp p.0 c.args.name.now) xs (Err c.in-Err.field-0)) c.deref.ensures.value by_name)
