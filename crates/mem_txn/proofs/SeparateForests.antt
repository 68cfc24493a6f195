-- No two trees of all tables share an id, from the opening on and write after write.
use Rattle.std.proofs.Common.{◌≡◌, ◌∙◌, ◌≤◌, ◌<◌, ◌⊎◌, ◌++◌, ℕ, zero, suc, List, [], ◌∷◌, map, set, length, Some, option_map, slice_get, inl, inr, refl, sym, ap, subst, arith}
use Rattle.std.specs.Prelude.{All}
use Rattle.std.proofs.lemmas.List.Elements.{All-contains}
use Rattle.std.proofs.lemmas.Option.{same_Some, slice_get-map}
use Rattle.mdb_schema.proofs.Membership.{Contains-slice_get}
use Rattle.radix_node.specs.Cells.{AreBelow, CellTree}
use Rattle.radix_node.specs.Ids.{Counter}
use Rattle.radix_txn.specs.Notice.{IsOpened}
use Rattle.table_index.specs.Table.{AreSeparate, IsCellAt, TableChange, TableRows}
use Rattle.table_index.proofs.SeparateTrees.{id_below}
use Rattle.watch_word.specs.Logs.{Cell}
use Rattle.mem_txn.specs.CellHistory.{Forest, IsCellIn}
use Rattle.mem_txn.specs.inner.VersionTables.{AreAllSeparate, AreOpened, AreWithin, standing, trees_of}

-- the trees of tables that are being changed
abbrev pub trees_now : List TableChange → Forest
trees_now ts = trees_of (map standing ts)

-- the tree of an index was opened from the one that stood there
pub opened_at : (first : ℕ) (olds news : List CellTree) (index : ℕ) (new : CellTree) → AreOpened first olds news → slice_get news index ≡ Some new → (old : CellTree) × (slice_get olds index ≡ Some old) × IsOpened first old new
opened_at first olds [] index new opened e = cc
opened_at first [] (u ∷ news) index new opened e = absurd opened
opened_at first (t ∷ olds) (u ∷ news) zero new opened e =
    let same : u ≡ new = cc in (t, refl, subst (λ (x : CellTree). IsOpened first t x) same opened.0)
opened_at first (t ∷ olds) (u ∷ news) (suc index) new opened e = opened_at first olds news index new opened.1 e

-- a cell of one of the trees has an id that was drawn
pub id_drawn : (ids : Counter) (forest : Forest) (table index : ℕ) (c : Cell) → All (AreWithin ids) forest → IsCellIn forest table index c → c.id < ids.next
id_drawn ids forest table index c within is =
    let tree = is.at.tree in
    let here : AreWithin ids is.trees = All-contains (AreWithin ids) forest is.trees within (Contains-slice_get forest table is.trees is.there) in
    id_below ids.next tree c (All-contains (AreBelow ids.next) is.trees tree here.below (Contains-slice_get is.trees index tree is.at.there)) is.at.has

-- ---- one table more in front

module _ (trees : List CellTree) (forest : Forest) (index : ℕ) (c : Cell) where
  front_cell : IsCellAt trees index c → IsCellIn (trees ∷ forest) zero index c
  front_cell at = record { trees = trees; there = refl; at = at }

  first_has : IsCellIn (trees ∷ forest) zero index c → IsCellAt trees index c
  first_has is = subst (λ (ts : List CellTree). IsCellAt ts index c) (sym (same_Some trees is.trees is.there)) is.at

  later_cell : (table : ℕ) → IsCellIn forest table index c → IsCellIn (trees ∷ forest) (suc table) index c
  later_cell table is = record { trees = is.trees; there = is.there; at = is.at }

  next_has : (table : ℕ) → IsCellIn (trees ∷ forest) (suc table) index c → IsCellIn forest table index c
  next_has table is = record { trees = is.trees; there = is.there; at = is.at }

-- ---- one table more behind

in_more : (forest : Forest) (trees : List CellTree) (table index : ℕ) (c : Cell) → IsCellIn (forest ++ trees ∷ []) table index c → IsCellIn forest table index c ⊎ ((table ≡ length forest) × IsCellAt trees index c)
in_more [] trees zero index c is = inr (refl, first_has trees [] index c is)
in_more [] trees (suc table) index c is = let none = is.there in cc
in_more (u ∷ us) trees zero index c is = inl (front_cell u us index c (first_has u (us ++ trees ∷ []) index c is))
in_more (u ∷ us) trees (suc table) index c is =
    elim (in_more us trees table index c (next_has u (us ++ trees ∷ []) index c table is)) [
      | inl old ↦ inl (later_cell u us index c table old)
      | inr new ↦ inr (ap suc new.0, new.1)
    ]

-- whose cells were drawn after those of the others
pub more_separate : (ids : Counter) (forest : Forest) (trees : List CellTree) → All (AreWithin ids) forest → AreAllSeparate forest → AreSeparate trees → ((c : Cell) (index : ℕ) → IsCellAt trees index c → ids.next ≤ c.id) → AreAllSeparate (forest ++ trees ∷ [])
more_separate ids forest trees within separate apart high c d i k j l x y same =
    elim (in_more forest trees i j c x) [
      | inl was_c ↦ elim (in_more forest trees k l d y) [
        | inl was_d ↦ separate c d i k j l was_c was_d same
        | inr new_d ↦ (let low = id_drawn ids forest i j c within was_c in let up = high d l new_d.1 in absurd (omega (arith, low, up, same)))
      ]
      | inr new_c ↦ elim (in_more forest trees k l d y) [
        | inl was_d ↦ (let low = id_drawn ids forest k l d within was_d in let up = high c j new_c.1 in absurd (omega (arith, low, up, same)))
        | inr new_d ↦ (new_c.0 ∙ sym new_d.0, apart c d j l new_c.1 new_d.1 same)
      ]
    ]

-- ---- a write of the table at a place

in_set : (ts : List TableChange) (at : ℕ) (new : TableChange) (table index : ℕ) (c : Cell) → IsCellIn (trees_now (set ts at new)) table index c → IsCellIn (trees_now ts) table index c ⊎ ((table ≡ at) × IsCellAt new.trees index c)
in_set [] at new table index c is = inl is
in_set (t ∷ ts) zero new zero index c is = inr (refl, first_has new.trees (trees_now ts) index c is)
in_set (t ∷ ts) zero new (suc table) index c is = inl (later_cell t.trees (trees_now ts) index c table (next_has new.trees (trees_now ts) index c table is))
in_set (t ∷ ts) (suc at) new zero index c is = inl (front_cell t.trees (trees_now ts) index c (first_has t.trees (trees_now (set ts at new)) index c is))
in_set (t ∷ ts) (suc at) new (suc table) index c is =
    elim (in_set ts at new table index c (next_has t.trees (trees_now (set ts at new)) index c table is)) [
      | inl old ↦ inl (later_cell t.trees (trees_now ts) index c table old)
      | inr new_one ↦ inr (ap suc new_one.0, new_one.1)
    ]

module _ (ids : Counter) (ts : List TableChange) (at : ℕ) (old new : TableChange) (there : slice_get ts at ≡ Some old) (within : All (AreWithin ids) (trees_now ts)) (separate : AreAllSeparate (trees_now ts)) where
  -- its cells are among all
  among : (c : Cell) (index : ℕ) → IsCellAt old.trees index c → IsCellIn (trees_now ts) at index c
  among c index is = record {
    trees = old.trees;
    there =
        slice_get-map (λ (t : TableRows). t.trees) (map standing ts) at
        ∙ ap (option_map (λ (t : TableRows). t.trees)) (slice_get-map standing ts at ∙ ap (option_map standing) there);
    at = is;
  }

  -- so no two of its trees shared an id
  old_separate : AreSeparate old.trees
  old_separate c d i j x y same = (separate c d at at i j (among c i x) (among d j y) same).1

  module _ (opened : AreOpened ids.next old.trees new.trees) (keeps : AreSeparate old.trees → AreSeparate new.trees) where
    -- a cell of the written table was there, or was drawn
    was_there : (c : Cell) (index : ℕ) → IsCellAt new.trees index c → IsCellIn (trees_now ts) at index c ⊎ (ids.next ≤ c.id)
    was_there c index is =
        let o = opened_at ids.next old.trees new.trees index is.tree opened is.there in
        elim (o.2 c is.has) [
          | inl before ↦ inl (among c index (record { tree = o.0; there = o.1; has = before }))
          | inr drawn ↦ inr drawn
        ]

    -- a cell of the written table and one of another's have different ids, unless both were there
    with_other : (c d : Cell) (j k l : ℕ) → IsCellAt new.trees j c → IsCellIn (trees_now ts) k l d → c.id ≡ d.id → (at ≡ k) × (j ≡ l)
    with_other c d j k l x y same =
        elim (was_there c j x) [
          | inl was ↦ separate c d at k j l was y same
          | inr high ↦ (let low = id_drawn ids (trees_now ts) k l d within y in absurd (omega (arith, low, high, same)))
        ]

    pub set_separate : AreAllSeparate (trees_now (set ts at new))
    set_separate c d i k j l x y same =
        elim (in_set ts at new i j c x) [
          | inl was_c ↦ elim (in_set ts at new k l d y) [
            | inl was_d ↦ separate c d i k j l was_c was_d same
            | inr new_d ↦ (let is = with_other d c l i j new_d.1 was_c (sym same) in (sym is.0 ∙ sym new_d.0, sym is.1))
          ]
          | inr new_c ↦ elim (in_set ts at new k l d y) [
            | inl was_d ↦ (let is = with_other c d j k l new_c.1 was_d same in (new_c.0 ∙ is.0, is.1))
            | inr new_d ↦ (new_c.0 ∙ sym new_d.0, keeps old_separate c d j l new_c.1 new_d.1 same)
          ]
        ]
