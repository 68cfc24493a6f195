-- Names that a table or an index may have, and names that it may not.
use Rattle.std.specs.Prelude.{◌≡◌, ◌++◌, List, [], ◌∷◌, true, not, codes, replicate}
use Rattle.std.specs.List.{list_all}
use Rattle.mdb_encode.specs.Bytes.{Bytes}
use Rattle.mdb_schema.specs.Names.{is_declared_name}

abbrev good : List Bytes
good =
    codes "a" ∷ codes "-" ∷ codes "_" ∷ codes "9" ∷ codes "prefix" ∷ codes "t_prefi" ∷ codes "t_prefix_" ∷ codes "T_PREFIX" ∷
    codes "t-prefix" ∷ replicate 64 97 ∷ []

-- 127 and those above are no ASCII letter, digit, `_` or `-`; a name has at most 64 bytes
abbrev bad : List Bytes
bad =
    [] ∷ codes " " ∷ codes "a b" ∷ codes "a.b" ∷ codes "a/b" ∷ (97 ∷ 127 ∷ []) ∷ (195 ∷ 164 ∷ []) ∷ codes "_prefix" ∷
    codes "t_prefix" ∷ codes "-_prefix" ∷ codes "t_prefix_prefix" ∷ replicate 65 97 ∷ (replicate 57 97 ++ codes "_prefix") ∷ []

pub record DeclaredNames : Type 0 where
  pub may_stand : list_all is_declared_name good ≡ true
  pub may_not_stand : list_all (λ name. not (is_declared_name name)) bad ≡ true
