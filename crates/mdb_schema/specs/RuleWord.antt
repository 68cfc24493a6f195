-- The names of the rules of a schema file, as they are printed.
use Rattle.std.specs.Prelude.{codes}
use Rattle.mdb_encode.specs.Bytes.{Bytes}
use Rattle.mdb_schema.specs.declared.schema_rule.SchemaRule.{SchemaRule}
use Rattle.mdb_schema.specs.declared.schema_rule.SchemaRule.TheVariants as rule

abbrev pub schema_rule_word : SchemaRule → Bytes
schema_rule_word rule.Syntax = codes "syntax"
schema_rule_word rule.BadShape = codes "bad-shape"
schema_rule_word rule.BadVersion = codes "bad-version"
schema_rule_word rule.NoTables = codes "no-tables"
schema_rule_word rule.TooManyTables = codes "too-many-tables"
schema_rule_word rule.BadName = codes "bad-name"
schema_rule_word rule.NoIndexes = codes "no-indexes"
schema_rule_word rule.TooManyIndexes = codes "too-many-indexes"
schema_rule_word rule.NoId = codes "no-id"
schema_rule_word rule.UnknownKind = codes "unknown-kind"
schema_rule_word rule.BadWidth = codes "bad-width"
schema_rule_word rule.EmptyCompound = codes "empty-compound"
schema_rule_word rule.BadPart = codes "bad-part"
schema_rule_word rule.IdMulti = codes "id-multi"
schema_rule_word rule.IdNotUnique = codes "id-not-unique"
schema_rule_word rule.IdAllowsMissing = codes "id-allows-missing"
