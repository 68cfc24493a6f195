-- Byte strings, their order, and which of them begin which: those of `mdb_datum`, given again.
pub use Rattle.mdb_datum.specs.Bytes.{Bytes, byte_order, is_prefix}
