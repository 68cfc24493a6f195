-- When an answer to a part of a schema's document is right: it is what the definition gives, or
-- want of memory.
use Rattle.std.specs.Prelude.{◌≡◌, Result, Ok, Err, ⊤}
use Rattle.mdb_schema.specs.Broken.{Checked}
use Rattle.mdb_schema.specs.declared.error.IndexerError.{IndexerError}
use Rattle.mdb_schema.specs.declared.error.IndexerError.TheVariants as indexer_error

-- what the code holds is seen by a view
abbrev pub IsIndexerResult : {A B : Type 0} → (A → B) → Checked B → Result A IndexerError → Type 0
IsIndexerResult view told (Ok x) = told ≡ Ok (view x)
IsIndexerResult view told (Err indexer_error.Memory) = ⊤
IsIndexerResult view told (Err (indexer_error.Broken r)) = told ≡ Err r
