-- Why the keys serve: their order, their ends, and what they tell of a row.
use Rattle.std.specs.Prelude.{◌≡◌, ◌<◌, [], ◌∷◌, ℕ, ℤ, Bool, IsTrue, All, Option, Some, Ok}
use Rattle.std.specs.Ordering.{int_cmp}
use Rattle.uuid.specs.Text.{parsed_hyphenated}
use Rattle.mdb_datum.specs.Doc.{text}
use Rattle.mdb_datum.specs.Row.{Fields}
use Rattle.mdb_encode.specs.Bytes.{Bytes, byte_order, is_prefix}
use Rattle.mdb_encode.specs.Indexer.{Indexer, str, uuid}
use Rattle.mdb_encode.specs.Keys.{value_at, folded, text_key, keys}
use Rattle.mdb_encode.specs.Arguments.{arg, pre}
use Rattle.mdb_encode.specs.Kind.{indexer_of}
use Rattle.mdb_encode.specs.Lawful.{IsLawful}
use Rattle.mdb_encode.specs.declared.kind.Kind.{Kind}

-- two numbers that have keys of one width stand in the order of their keys
abbrev pub KeepOrder : (ℕ → ℤ → Option Bytes) → Type 0
KeepOrder key_of =
    (w : ℕ) (x y : ℤ) (j k : Bytes)
    → key_of w x ≡ Some j
    → key_of w y ≡ Some k
    → byte_order j k ≡ int_cmp x y

-- no byte of the text is 00
abbrev pub IsZeroFree : Bytes → Type 0
IsZeroFree s = All (λ b. 0 < b) s

-- where one key of a text begins another, they are the same key
abbrev pub NoneInside : Type 0
NoneInside =
    (fold : Bool) (s t : Bytes)
    → IsZeroFree s
    → IsZeroFree t
    → IsTrue (is_prefix (text_key fold s) (text_key fold t))
    → text_key fold s ≡ text_key fold t

-- the exact key of a text begins with the prefix form of each of the text's prefixes
abbrev pub PrefixesBegin : Type 0
PrefixesBegin =
    (name : Bytes) (fold : Bool) (s t p k : Bytes)
    → IsTrue (is_prefix s t)
    → pre (str name fold) (text s ∷ []) ≡ Ok p
    → arg (str name fold) (text t ∷ []) ≡ Ok k
    → IsTrue (is_prefix p k)

-- two rows have the same single key
abbrev pub SameKey : Indexer → Fields → Fields → Type 0
SameKey i row other = (k : Bytes) × (keys i row ≡ Ok (k ∷ [])) × (keys i other ≡ Ok (k ∷ []))

-- a text's key tells the text, but for what is folded
abbrev pub TellsText : Type 0
TellsText =
    (name : Bytes) (fold : Bool) (row other : Fields)
    → SameKey (str name fold) row other
    → (s : Bytes) × (t : Bytes)
    × (value_at name row ≡ text s)
    × (value_at name other ≡ text t)
    × (folded fold s ≡ folded fold t)

-- the key tells the member
abbrev pub TellsMember : (Bytes → Indexer) → Type 0
TellsMember indexer =
    (name : Bytes) (row other : Fields)
    → SameKey (indexer name) row other
    → value_at name row ≡ value_at name other

-- a UUID's key tells its 16 bytes
abbrev pub TellsUuid : Type 0
TellsUuid =
    (name : Bytes) (row other : Fields)
    → SameKey (uuid name) row other
    → (s : Bytes) × (t : Bytes)
    × (value_at name row ≡ text s)
    × (value_at name other ≡ text t)
    × (parsed_hyphenated s ≡ parsed_hyphenated t)

-- what a kind stands for is lawful
abbrev pub EachLawful : Type 0
EachLawful = (k : Kind) → IsLawful (indexer_of k)
