-- What decides whether a client may be told a text at a line: the text that is made for it.
use Rattle.std.specs.Prelude.{◌≡◌, ◌<◌, ◌++◌, ◌∷◌, ◌&&◌, ℕ, List, [], Bool, true, nat_lt, length, Some, slice_get, codes, ⊤}
use Rattle.std.specs.List.{list_all}
use Rattle.mdb_datum.specs.Bytes.{Bytes}
use Rattle.mdb_schema.specs.History.{History}
use Rattle.mdb_schema.specs.Names.{is_name_byte}
use Rattle.mdb_schema.specs.Schema.{DbSchema}
use Rattle.client_script.specs.Client.{Client, Watch}
use Rattle.client_script.specs.declared.command.Command.{Command}
use Rattle.run_check.specs.FirstBad.{IsTold}

-- The text may be told exactly where it is the one that was made, and the client knows `next` then.
-- Where none may be told, the empty one is made.
pub record IsDecided (schema : DbSchema) (H : History) (client : ℕ) (v : Client) (c : Command)
    (text made : Bytes) (next : Client) : Type 0 where
  pub told : made ≡ text → IsTold schema H client v c text next
  pub untold :
      (made ≡ text → ⊥) → (other : Client) → IsTold schema H client v c text other → ⊥

-- ---- names of watches

-- it is a word
abbrev pub is_named : Bytes → Bool
is_named bs = nat_lt 0 (length bs) && list_all is_name_byte bs

-- each watch has a name
abbrev pub AreNamed : List Watch → Type 0
AreNamed [] = ⊤
AreNamed (w ∷ ws) = (is_named w.name ≡ true) × AreNamed ws

-- watches of one name are one
abbrev pub NamesTell : List Watch → Type 0
NamesTell ws =
    (p q : ℕ) (w x : Watch) → slice_get ws p ≡ Some w → slice_get ws q ≡ Some x → w.name ≡ x.name → w ≡ x

-- ---- which member of a set a text names

-- bytes begin with a name, a blank and an `@`, which others follow
abbrev pub HasName : Bytes → Bytes → Bytes → Type 0
HasName name bs after = bs ≡ name ++ (codes " @" ++ after)

-- they name none of the first members
abbrev pub NamesNone : List Watch → ℕ → Bytes → Type 0
NamesNone ms place bs =
    (q : ℕ) (w : Watch) (after : Bytes) → q < place → slice_get ms q ≡ Some w
    → HasName w.name bs after → ⊥

-- the first member that they name
pub record IsFirstNamed (ms : List Watch) (bs after : Bytes) (place : ℕ) (member : Watch)
    : Type 0 where
  pub there : slice_get ms place ≡ Some member
  pub name : HasName member.name bs after
  pub none_before : NamesNone ms place bs
