-- Why a row has no keys in an index: the rule that it breaks. Want of memory is none.
pub data KeyRefusal : Type 0 where
  -- a member that isn't null has another form than the index reads
  wrong_kind : KeyRefusal
  -- a number is outside its width
  out_of_range : KeyRefusal
  -- a text is no hyphenated UUID
  bad_uuid : KeyRefusal
  -- there are more than 256 keys
  too_many : KeyRefusal
  -- a key has more than 1,024 bytes
  too_long : KeyRefusal
