-- The answer to a list of members, held in a vector; and an error that gets
-- the names where a rule is broken.
use Rattle.std.specs.Prelude.{◌≡◌, List, Option, Result, Ok, Err, ⊤}
use Rattle.std.specs.declared.alloc.Global.{Global}
use Rattle.std.specs.declared.vec.Vec.{Vec}
use Rattle.mdb_encode.specs.Bytes.{Bytes}
use Rattle.mdb_schema.specs.Broken.{Broken}
use Rattle.mdb_schema.specs.declared.error.IndexerError.{IndexerError}
use Rattle.mdb_schema.specs.declared.error.IndexerError.TheVariants as indexer_error
use Rattle.mdb_schema.specs.declared.error.SchemaError.{SchemaError}
use Rattle.mdb_schema.specs.declared.error.SchemaError.TheVariants as schema_error

-- the items are what the definition gives, or it is its refusal, or want of memory
abbrev pub AnswersList :
    {A : Type 0} → Result (List A) Broken → Result (Vec A Global) SchemaError → Type 0
AnswersList told (Ok v) = told ≡ Ok v.items
AnswersList told (Err schema_error.Memory) = ⊤
AnswersList told (Err (schema_error.Broken r t i)) =
    told ≡ Err (record { rule = r; table = t; index = i })

-- an error that tells what is broken
abbrev pub TellsBroken : Broken → SchemaError → Type 0
TellsBroken b schema_error.Memory = ⊤
TellsBroken b (schema_error.Broken r t i) = b ≡ record { rule = r; table = t; index = i }

-- the same error with the names of a table and an index
abbrev pub IsNamed : IndexerError → Option Bytes → Option Bytes → SchemaError → Type 0
IsNamed indexer_error.Memory t i e = e ≡ schema_error.Memory
IsNamed (indexer_error.Broken r) t i e = TellsBroken (record { rule = r; table = t; index = i }) e
