use Rattle.std.proofs.Common.{◌≡◌, ◌∙◌, refl, sym}
use Rattle.std.specs.Prelude.{Result, Ok, Err}
use Rattle.mdb_schema.specs.Broken.{Broken}
use Rattle.mdb_schema.specs.Schema.{DbSchema}
use Rattle.mdb_schema.specs.SchemaAnswer.{AnswersSchema}
use Rattle.mdb_schema.specs.declared.error.SchemaError.{SchemaError}
use Rattle.mdb_schema.specs.declared.error.SchemaError.TheVariants as schema_errors
use Rattle.memdb.specs.inner.MadeInputs.{made_schema}
use Rattle.memdb.proofs.ReadSchema.{schema_read}
use Rattle.memdb.proofs.made.schema.made_schema.Goals as goal

-- the reading gives one schema
the_same : (s t : DbSchema) (told : Result DbSchema Broken) → told ≡ Ok s → told ≡ Ok t → t ≡ s
the_same s t told is found = cc

-- and breaks no rule
only_memory : (s : DbSchema) (told : Result DbSchema Broken) (e : SchemaError) → told ≡ Ok s → AnswersSchema told (Err e) → e ≡ schema_errors.Memory
only_memory s told schema_errors.Memory is answer = refl
only_memory s told (schema_errors.Broken r t i) is answer =
    let rule : Broken = record { rule = r; table = t; index = i } in
    let both : Ok s ≡ Err rule = sym is ∙ answer in
    cc

pub returns-in-Ok : goal.returns-in-Ok
returns-in-Ok c = the_same made_schema c.in-Ok.schema _ schema_read c.in-Ok.ensures.answer

pub unreachable-requires : goal.unreachable-requires
unreachable-requires c =
    let memory : c.in-Err-Broken.field-0 ≡ schema_errors.Memory = only_memory made_schema _ c.in-Err-Broken.field-0 schema_read c.in-Err-Broken.ensures.answer in
    let broken = c.in-Err-Broken.field-0-is in
    cc
