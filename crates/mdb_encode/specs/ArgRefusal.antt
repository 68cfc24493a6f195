-- Why arguments make no key of an index: the rule that they break. Want of memory is none.
pub data ArgRefusal : Type 0 where
  -- the index takes another number of arguments
  arg_count : ArgRefusal
  -- an argument has another form than the index reads; null has none
  arg_kind : ArgRefusal
  -- a number is outside its width
  arg_out_of_range : ArgRefusal
  -- a text is no hyphenated UUID, or in the prefix form no start of one
  arg_bad_uuid : ArgRefusal
  -- the key has more than 1,024 bytes
  arg_too_long : ArgRefusal
  -- the index has no prefix form
  no_prefix_form : ArgRefusal
