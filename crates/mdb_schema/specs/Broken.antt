-- A schema's document that breaks a rule: the rule, and the names of the table and the index where
-- it is broken.
use Rattle.std.specs.Prelude.{Option, Result, Ok, Err}
use Rattle.mdb_encode.specs.Bytes.{Bytes}
pub use Rattle.mdb_schema.specs.Tests.{◌>>=◌, needed, passed, each}
use Rattle.mdb_schema.specs.declared.schema_rule.SchemaRule.{SchemaRule}

pub record Broken : Type 0 where
  pub rule : SchemaRule
  pub table : Option Bytes
  pub index : Option Bytes

-- a value, or a rule that is broken
abbrev pub Checked : Type 0 → Type 0
Checked A = Result A SchemaRule

-- a rule that is broken is broken at these names
abbrev pub at_names : {A : Type 0} → Option Bytes → Option Bytes → Checked A → Result A Broken
at_names t i (Ok x) = Ok x
at_names t i (Err r) = Err (record { rule = r; table = t; index = i })
