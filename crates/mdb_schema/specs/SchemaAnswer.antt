-- When an answer to a schema's file is right: it is what the definition gives, or want of memory.
use Rattle.std.specs.Prelude.{◌≡◌, Result, Ok, Err, ⊤}
use Rattle.mdb_schema.specs.Broken.{Broken}
use Rattle.mdb_schema.specs.declared.error.SchemaError.{SchemaError}
use Rattle.mdb_schema.specs.declared.error.SchemaError.TheVariants as schema_error

abbrev pub AnswersSchema : {A : Type 0} → Result A Broken → Result A SchemaError → Type 0
AnswersSchema told (Ok x) = told ≡ Ok x
AnswersSchema told (Err schema_error.Memory) = ⊤
AnswersSchema told (Err (schema_error.Broken r t i)) =
    told ≡ Err (record { rule = r; table = t; index = i })
