-- Tables that nobody has written to stand for the state that they are, and nothing was opened or
-- written in them.
use Rattle.std.proofs.Common.{◌≡◌, ◌∙◌, ◌++◌, ℕ, List, [], ◌∷◌, map, inl, refl, sym, ap, subst}
use Rattle.std.specs.Prelude.{All}
use Rattle.std.proofs.lemmas.List.Elements.{All-append, All-cons, All-nil}
use Rattle.mdb_schema.specs.Schema.{DbSchema}
use Rattle.mdb_schema.specs.State.{State}
use Rattle.radix_node.specs.Cells.{CellTree}
use Rattle.table_index.specs.Table.{TableRows, TableChange}
use Rattle.table_index.specs.Written.{HasWritten, new_change}
use Rattle.mem_txn.specs.inner.VersionTables.{AreOpened, HasChanged, IsSound, StandFor, schemas_of, standing, state_of, unwritten}

pub standing-unwritten : (ts : List TableRows) → map standing (map unwritten ts) ≡ ts
standing-unwritten [] = refl
standing-unwritten (t ∷ ts) = ap (λ (us : List TableRows). t ∷ us) (standing-unwritten ts)

unwritten_sound : (ts : List TableRows) → All IsSound (map unwritten ts)
unwritten_sound [] = All-nil IsSound
unwritten_sound (t ∷ ts) = All-cons IsSound (unwritten t) (map unwritten ts) refl (unwritten_sound ts)

pub begun_stand : (ts : List TableRows) (schema : DbSchema) (s : State) (us : List TableChange) → us ≡ map unwritten ts → schemas_of ts ≡ schema → state_of ts ≡ s → StandFor us schema s
begun_stand ts schema s us is schemas rows = record {
  schemas = ap (λ (vs : List TableChange). schemas_of (map standing vs)) is ∙ ap schemas_of (standing-unwritten ts) ∙ schemas;
  rows = ap (λ (vs : List TableChange). state_of (map standing vs)) is ∙ ap state_of (standing-unwritten ts) ∙ rows;
  sound = subst (All IsSound) (sym is) (unwritten_sound ts);
}

-- ---- what was opened and written

pub none_opened : (first : ℕ) (trees : List CellTree) → AreOpened first trees trees
none_opened first [] = tt
none_opened first (t ∷ trees) = (λ c h. inl h, none_opened first trees)

-- a table that begins with one that is known
pub nothing_changed : (known shared : TableRows) → known ≡ shared → HasWritten [] (new_change known) → (first : ℕ) → HasChanged first [] (unwritten shared)
nothing_changed known shared is none first =
    record { opened = none_opened first shared.trees; written = subst (λ (t : TableRows). HasWritten [] (new_change t)) is none }

-- one such table more
pub one_more_unchanged : (first : ℕ) (ts more : List TableChange) (t : TableChange) → more ≡ ts ++ t ∷ [] → All (HasChanged first []) ts → HasChanged first [] t → All (HasChanged first []) more
one_more_unchanged first ts more t joined before one =
    subst (All (HasChanged first [])) (sym joined) (All-append (HasChanged first []) ts (t ∷ []) before (All-cons (HasChanged first []) t [] one (All-nil (HasChanged first []))))
