-- Byte order and index keys, which the definitions of this crate stand on, given again from
-- `mdb_encode`.
pub use Rattle.mdb_encode.specs.Bytes.{Bytes, byte_order, is_prefix}
pub use Rattle.mdb_encode.specs.Indexer.{Indexer, str, str_list, str_map, uint, sint, truth, uuid, is_set, equals, compound, PartList, no_parts, part}
pub use Rattle.mdb_encode.specs.Keys.{Keyed, keys, ended}
pub use Rattle.mdb_encode.specs.Arguments.{Argued, arg, pre}
pub use Rattle.mdb_encode.specs.KeyRefusal.{KeyRefusal, wrong_kind, out_of_range, bad_uuid, too_many, too_long}
pub use Rattle.mdb_encode.specs.ArgRefusal.{ArgRefusal, arg_count, arg_kind, arg_out_of_range, arg_bad_uuid, arg_too_long, no_prefix_form}
