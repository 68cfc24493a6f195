-- Made rows and the names that are asked for, as documents that are read back.
use Rattle.std.proofs.Common.{arith, ◌≡◌, refl, ℕ, zero, suc, ◌<◌, ◌^◌, List, [], ◌∷◌, true, IsUtf8}
use Rattle.std.specs.Prelude.{⊤, codes}
use Rattle.std.specs.List.{list_all}
use Rattle.std.specs.List.Sorted.{IsStrictlySortedBy}
use Rattle.mdb_datum.specs.Canonical.{IsCanonical}
use Rattle.mdb_datum.specs.Doc.{text, list, doc_list}
use Rattle.mdb_datum.specs.Row.{IsCanonicalRow}
use Rattle.mdb_schema.specs.Names.{is_name_byte}
use Rattle.memdb.specs.Made.{Item, drawn, items_behind}
use Rattle.memdb.specs.inner.MadeInputs.{row_of}
use Rattle.memdb.proofs.NameBytes.{item_named}
use Rattle.memdb.proofs.ShownLines.{name_shown, shown_utf8}

-- what a row is made of
pub record IsMade (x : Item) : Type 0 where
  pub name : list_all is_name_byte x.name ≡ true
  pub age : x.age < 2 ^ 64

abbrev pub AreMade : List Item → Type 0
AreMade [] = ⊤
AreMade (x ∷ xs) = IsMade x × AreMade xs

-- those of a client are
pub items_made : (number client place rounds : ℕ) → client < 2 ^ 64 → AreMade (items_behind number client place rounds)
items_made number client place zero h = tt
items_made number client place (suc rounds) h = (
  record { name = item_named client (drawn number (suc place)) h; age = omega arith },
  items_made number client (suc place) rounds h,
)

-- their names are texts
name_utf8 : (x : Item) → IsMade x → IsUtf8 x.name
name_utf8 x h = shown_utf8 x.name (name_shown x.name h.name)

-- so the text of a row is read as the row
pub row_canonical : (x : Item) → IsMade x → IsCanonicalRow (row_of x)
unfolding IsStrictlySortedBy
row_canonical x h = record {
  regular = (((refl, tt), (tt, tt)), (shown_utf8 (codes "age") refl, h.age, (shown_utf8 (codes "name") refl, name_utf8 x h, tt)));
  shallow = omega arith;
}

-- and that of a list of its name as the list
pub name_canonical : (x : Item) → IsMade x → IsCanonical (list (doc_list (text x.name ∷ [])))
name_canonical x h = record { regular = (name_utf8 x h, tt); shallow = omega arith }
