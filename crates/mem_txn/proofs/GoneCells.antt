-- The notices of tables are the cells that are gone from their trees.
use Rattle.std.proofs.Common.{◌≡◌, ◌∙◌, ◌∷◌, ◌++◌, [], ℕ, zero, suc, List, length, option_to_list, slice_get, append-nil, append_assoc, Option, Some, None, inl, inr, refl, sym, ap, subst, arith}
use Rattle.std.specs.Prelude.{◌⊎◌}
use Rattle.radix_node.specs.Cells.{CellTree, cells_of}
use Rattle.radix_node.specs.Paths.{Has}
use Rattle.radix_node.specs.Watches.{Fires}
use Rattle.radix_node.proofs.Paths.{Has-left, Has-right, Has-split}
use Rattle.watch_word.specs.Logs.{Cell}
use Rattle.table_index.specs.Frozen.{AreFrozen}
use Rattle.table_index.specs.Table.{TableChange, TableRows}
use Rattle.table_index.specs.Watched.{FiresAt}
use Rattle.mem_txn.specs.CellHistory.{FiresIn, Forest}
use Rattle.mem_txn.specs.inner.Ended.{AreMade, AreNoticed, EndWith, EndsWith, IsMade, starts_of}
use Rattle.mem_txn.specs.inner.Firing.{AreGone, cells_in, cells_told}
use Rattle.mem_txn.specs.inner.VersionTables.{standing, trees_of}

-- ---- the trees of one table

-- a cell is gone from the tree of some index
abbrev FiresSome : Cell → List CellTree → List CellTree → Type 0
FiresSome c old new = (index : ℕ) × FiresAt index c old new

some_later : (c : Cell) (o n : CellTree) (old new : List CellTree) → FiresSome c old new → FiresSome c (o ∷ old) (n ∷ new)
some_later c o n old new f = (suc f.0, record { before = f.1.before; after = f.1.after; was = f.1.was; now = f.1.now; fires = f.1.fires })

some_first : (c : Cell) (o n : CellTree) (old new : List CellTree) → Fires c o n → FiresSome c (o ∷ old) (n ∷ new)
some_first c o n old new fires = (zero, record { before = o; after = n; was = refl; now = refl; fires = fires })

some_case : (c : Cell) (o n : CellTree) (old new : List CellTree) → FiresSome c (o ∷ old) (n ∷ new) → Fires c o n ⊎ FiresSome c old new
some_case c o n old new f = of f.0 f.1.before f.1.after f.1.was f.1.now f.1.fires
  where
    of : (index : ℕ) (before after : CellTree) → slice_get (o ∷ old) index ≡ Some before → slice_get (n ∷ new) index ≡ Some after → Fires c before after → Fires c o n ⊎ FiresSome c old new
    of zero before after was now fires =
        let first : before ≡ o = cc in
        let second : after ≡ n = cc in
        inl (subst (λ (x : CellTree). Fires c x n) first (subst (λ (x : CellTree). Fires c before x) second fires))
    of (suc index) before after was now fires = inr (index, record { before = before; after = after; was = was; now = now; fires = fires })

-- nothing is gone from trees that are the same
none_gone : (c : Cell) (trees : List CellTree) → FiresSome c trees trees → ⊥
none_gone c trees f =
    let same : f.1.before ≡ f.1.after = let e : Some f.1.before ≡ Some f.1.after = sym f.1.was ∙ f.1.now in cc in
    f.1.fires.gone (subst (λ (x : CellTree). Has c (cells_of x)) same f.1.fires.left)

-- the notices have exactly what is gone
notices_all : (notices : List (List Cell)) (old new : List CellTree) → AreFrozen notices old new → (c : Cell) → FiresSome c old new → Has c (cells_in notices)
notices_all [] [] [] frozen c f = cc
notices_all [] [] (n ∷ new) frozen c f = absurd frozen
notices_all [] (o ∷ old) new frozen c f = absurd frozen
notices_all (gone ∷ notices) [] new frozen c f = absurd frozen
notices_all (gone ∷ notices) (o ∷ old) [] frozen c f = absurd frozen
notices_all (gone ∷ notices) (o ∷ old) (n ∷ new) frozen c f = elim (some_case c o n old new f) [
  | inl fires ↦ Has-left c gone (cells_in notices) ((frozen.0.notice.fires c).1 fires)
  | inr later ↦ Has-right c gone (cells_in notices) (notices_all notices old new frozen.1 c later)
]

notices_gone : (notices : List (List Cell)) (old new : List CellTree) → AreFrozen notices old new → (c : Cell) → Has c (cells_in notices) → FiresSome c old new
notices_gone [] old new frozen c has = absurd has
notices_gone (gone ∷ notices) [] new frozen c has = absurd frozen
notices_gone (gone ∷ notices) (o ∷ old) [] frozen c has = absurd frozen
notices_gone (gone ∷ notices) (o ∷ old) (n ∷ new) frozen c has = elim (Has-split c gone (cells_in notices) has) [
  | inl first ↦ some_first c o n old new ((frozen.0.notice.fires c).0 first)
  | inr later ↦ some_later c o n old new (notices_gone notices old new frozen.1 c later)
]

-- ---- the trees of one table more

in_later : (c : Cell) (o n : List CellTree) (old new : Forest) → FiresIn old new c → FiresIn (o ∷ old) (n ∷ new) c
in_later c o n old new f = record { table = suc f.table; index = f.index; before = f.before; after = f.after; was = f.was; now = f.now; fires = f.fires }

in_first : (c : Cell) (o n : List CellTree) (old new : Forest) → FiresSome c o n → FiresIn (o ∷ old) (n ∷ new) c
in_first c o n old new f = record { table = zero; index = f.0; before = o; after = n; was = refl; now = refl; fires = f.1 }

in_case : (c : Cell) (o n : List CellTree) (old new : Forest) → FiresIn (o ∷ old) (n ∷ new) c → FiresSome c o n ⊎ FiresIn old new c
in_case c o n old new f = of f.table f.before f.after f.was f.now f.fires
  where
    of : (table : ℕ) (before after : List CellTree) → slice_get (o ∷ old) table ≡ Some before → slice_get (n ∷ new) table ≡ Some after → FiresAt f.index c before after → FiresSome c o n ⊎ FiresIn old new c
    of zero before after was now fires =
        let first : before ≡ o = cc in
        let second : after ≡ n = cc in
        inl (f.index, subst (λ (x : List CellTree). FiresAt f.index c x n) first (subst (λ (x : List CellTree). FiresAt f.index c before x) second fires))
    of (suc table) before after was now fires = inr (record { table = table; index = f.index; before = before; after = after; was = was; now = now; fires = fires })

no_old : (c : Cell) (new : Forest) → FiresIn [] new c → ⊥
no_old c new f = let e : None ≡ Some f.before = f.was in cc

no_new : (c : Cell) (old : Forest) → FiresIn old [] c → ⊥
no_new c old f = let e : None ≡ Some f.after = f.now in cc

module _ (c : Cell) (b a : List CellTree) where
  fires_before : (old new : Forest) → FiresIn old new c → FiresIn (old ++ b ∷ []) (new ++ a ∷ []) c
  fires_before [] new f = absurd (no_old c new f)
  fires_before (o ∷ old) [] f = absurd (no_new c (o ∷ old) f)
  fires_before (o ∷ old) (n ∷ new) f = elim (in_case c o n old new f) [
    | inl first ↦ in_first c o n (old ++ b ∷ []) (new ++ a ∷ []) first
    | inr later ↦ in_later c o n (old ++ b ∷ []) (new ++ a ∷ []) (fires_before old new later)
  ]

  fires_last : (old new : Forest) → length old ≡ length new → FiresSome c b a → FiresIn (old ++ b ∷ []) (new ++ a ∷ []) c
  fires_last [] [] count f = in_first c b a [] [] f
  fires_last [] (n ∷ new) count f = cc
  fires_last (o ∷ old) [] count f = cc
  fires_last (o ∷ old) (n ∷ new) count f = in_later c o n (old ++ b ∷ []) (new ++ a ∷ []) (fires_last old new (omega (arith, count)) f)

  fires_split : (old new : Forest) → length old ≡ length new → FiresIn (old ++ b ∷ []) (new ++ a ∷ []) c → FiresIn old new c ⊎ FiresSome c b a
  fires_split [] [] count f = elim (in_case c b a [] [] f) [ inl first ↦ inr first | inr later ↦ absurd (no_old c [] later) ]
  fires_split [] (n ∷ new) count f = cc
  fires_split (o ∷ old) [] count f = cc
  fires_split (o ∷ old) (n ∷ new) count f = elim (in_case c o n (old ++ b ∷ []) (new ++ a ∷ []) f) [
    | inl first ↦ inl (in_first c o n old new first)
    | inr later ↦ elim (fires_split old new (omega (arith, count)) later) [ inl f ↦ inl (in_later c o n old new f) | inr last ↦ inr last ]
  ]

-- ---- one table more

told_more : (gone : List (List (List Cell))) (notices : List (List Cell)) → cells_told (gone ++ notices ∷ []) ≡ cells_told gone ++ cells_in notices
told_more [] notices = append-nil (cells_in notices)
told_more (g ∷ gone) notices = ap (λ (cs : List Cell). cells_in g ++ cs) (told_more gone notices) ∙ sym (append_assoc (cells_in g) (cells_told gone) (cells_in notices))

-- the cells of notices, where there are any
abbrev noticed_cells : Option (List (List Cell)) → List Cell
noticed_cells None = []
noticed_cells (Some notices) = cells_in notices

told_with : (gone : List (List (List Cell))) (notices : Option (List (List Cell))) → cells_told (gone ++ option_to_list notices) ≡ cells_told gone ++ noticed_cells notices
told_with gone None = ap cells_told (append-nil gone) ∙ sym (append-nil (cells_told gone))
told_with gone (Some notices) = told_more gone notices

-- the notices of a table have exactly what is gone from its trees
noticed_all : (t : TableChange) (notices : Option (List (List Cell))) → AreNoticed notices t → (c : Cell) → FiresSome c t.start t.trees → Has c (noticed_cells notices)
noticed_all t None same c f = absurd (none_gone c t.start (subst (FiresSome c t.start) same f))
noticed_all t (Some notices) frozen c f = notices_all notices t.start t.trees frozen c f

noticed_gone : (t : TableChange) (notices : Option (List (List Cell))) → AreNoticed notices t → (c : Cell) → Has c (noticed_cells notices) → FiresSome c t.start t.trees
noticed_gone t None same c has = absurd has
noticed_gone t (Some notices) frozen c has = notices_gone notices t.start t.trees frozen c has

gone_more : (old new : Forest) (gone : List (List (List Cell))) (t : TableChange) (notices : Option (List (List Cell))) → length old ≡ length new → AreGone old new (cells_told gone) → AreNoticed notices t
    → AreGone (old ++ t.start ∷ []) (new ++ t.trees ∷ []) (cells_told (gone ++ option_to_list notices))
gone_more old new gone t notices count before noticed =
    let now : AreGone (old ++ t.start ∷ []) (new ++ t.trees ∷ []) (cells_told gone ++ noticed_cells notices) = record {
      all = λ c f. elim (fires_split c t.start t.trees old new count f) [
        | inl earlier ↦ Has-left c (cells_told gone) (noticed_cells notices) (before.all c earlier)
        | inr last ↦ Has-right c (cells_told gone) (noticed_cells notices) (noticed_all t notices noticed c last)
      ];
      gone = λ c has. elim (Has-split c (cells_told gone) (noticed_cells notices) has) [
        | inl earlier ↦ fires_before c t.start t.trees old new (before.gone c earlier)
        | inr last ↦ fires_last c t.start t.trees old new count (noticed_gone t notices noticed c last)
      ];
    } in
    subst (AreGone (old ++ t.start ∷ []) (new ++ t.trees ∷ [])) (sym (told_with gone notices)) now

made_more : (ts : List TableChange) (mades : List TableRows) (t : TableChange) (made : TableRows) → AreMade ts mades → IsMade t made → AreMade (ts ++ t ∷ []) (mades ++ made ∷ [])
made_more [] [] t made all one = (one, tt)
made_more [] (m ∷ mades) t made all one = absurd all
made_more (s ∷ ts) [] t made all one = absurd all
made_more (s ∷ ts) (m ∷ mades) t made all one = (all.0, made_more ts mades t made all.1 one)

made_count : (ts : List TableChange) (mades : List TableRows) → AreMade ts mades → length (starts_of ts) ≡ length (trees_of mades)
made_count [] [] all = refl
made_count [] (m ∷ mades) all = absurd all
made_count (s ∷ ts) [] all = absurd all
made_count (s ∷ ts) (m ∷ mades) all = ap suc (made_count ts mades all.1)

starts_more : (ts : List TableChange) (t : TableChange) → starts_of (ts ++ t ∷ []) ≡ starts_of ts ++ t.start ∷ []
starts_more [] t = refl
starts_more (s ∷ ts) t = ap (λ (f : Forest). s.start ∷ f) (starts_more ts t)

trees_more : (ts : List TableRows) (t : TableRows) → trees_of (ts ++ t ∷ []) ≡ trees_of ts ++ t.trees ∷ []
trees_more [] t = refl
trees_more (s ∷ ts) t = ap (λ (f : Forest). s.trees ∷ f) (trees_more ts t)

pub end_more : (ts : List TableChange) (mades : List TableRows) (gone : List (List (List Cell))) (t : TableChange) (notices : Option (List (List Cell))) → EndWith ts mades gone → EndsWith t (standing t) notices
    → EndWith (ts ++ t ∷ []) (mades ++ standing t ∷ []) (gone ++ option_to_list notices)
end_more ts mades gone t notices before one = record {
  made = made_more ts mades t (standing t) before.made one.made;
  told =
      subst (λ (old : Forest). AreGone old (trees_of (mades ++ standing t ∷ [])) (cells_told (gone ++ option_to_list notices))) (sym (starts_more ts t))
      (subst (λ (new : Forest). AreGone (starts_of ts ++ t.start ∷ []) new (cells_told (gone ++ option_to_list notices))) (sym (trees_more mades (standing t)))
      (gone_more (starts_of ts) (trees_of mades) gone t notices (made_count ts mades before.made) before.told one.noticed));
}
