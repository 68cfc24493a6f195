-- The parts of a compound indexer may be read before it is asked whether there is one.
use Rattle.std.proofs.Common.{◌≡◌, ◌<◌, List, [], ◌∷◌, length, map, Bool, true, Option, Some, None, if◌then◌else◌, refl, ap, ◌∙◌, arith}
use Rattle.std.specs.Prelude.{Ok, Err, nat_lt}
use Rattle.std.specs.declared.alloc.Global.{Global}
use Rattle.std.specs.declared.vec.Vec.{Vec}
use Rattle.std.proofs.lemmas.Bool.Decides.{nat_tests}
use Rattle.mdb_datum.specs.Doc.{Doc}
use Rattle.mdb_encode.specs.Indexer.{Indexer, compound}
use Rattle.mdb_encode.specs.Kind.{part_list, part_indexer, indexer_of}
use Rattle.mdb_encode.specs.declared.kind.part.Part.{Part}
use Rattle.mdb_schema.specs.Broken.{◌>>=◌, passed, each, Checked}
use Rattle.mdb_schema.specs.Reading.{part_in, compound_of}
use Rattle.mdb_schema.specs.inner.IndexerAnswer.{IsIndexerResult}
use Rattle.mdb_schema.specs.declared.error.IndexerError.{IndexerError}
use Rattle.mdb_schema.specs.declared.error.IndexerError.TheVariants as indexer_error
use Rattle.mdb_schema.specs.declared.schema_rule.SchemaRule.{SchemaRule}
use Rattle.mdb_schema.specs.declared.schema_rule.SchemaRule.TheVariants as rule
use Rattle.mdb_schema.proofs.Chains.{same_length}

-- the compound indexer of these parts, where each is one
abbrev joined : Bool → Checked (List Indexer) → Checked Indexer
joined m r = r >>= (λ is. Ok (compound (part_list is) m))

-- where there is a document, the parts decide
some_documents : (d : Doc) (ds : List Doc) (m : Bool) → compound_of (d ∷ ds) m ≡ joined m (each part_in (d ∷ ds))
some_documents d ds m =
    let some : nat_lt 0 (length (d ∷ ds)) ≡ true = grind (arith, nat_tests) in
    ap (λ (b : Bool). passed rule.EmptyCompound b >>= (λ there. joined m (each part_in (d ∷ ds)))) some

some_read : (ds : List Doc) (m : Bool) (is : List Indexer) → each part_in ds ≡ Ok is → 0 < length is → compound_of ds m ≡ Ok (compound (part_list is) m)
some_read [] m is e some = let none = same_length part_in [] is e in absurd (omega arith)
some_read (d ∷ ds) m is e some = some_documents d ds m ∙ ap (joined m) e

none_read : (ds : List Doc) (m : Bool) (is : List Indexer) → each part_in ds ≡ Ok is → length is ≡ 0 → compound_of ds m ≡ Err rule.EmptyCompound
none_read [] m is e none = refl
none_read (d ∷ ds) m is e none = let long = same_length part_in (d ∷ ds) is e in absurd (omega arith)

-- the parts that were read, where there is one
abbrev parts_if_some : List Part → Option (List Indexer)
parts_if_some parts = if nat_lt 0 (length parts) then Some (map part_indexer parts) else None

some_parts : (p : Part) (rest : List Part) → parts_if_some (p ∷ rest) ≡ Some (map part_indexer (p ∷ rest))
some_parts p rest =
    let some : nat_lt 0 (length (p ∷ rest)) ≡ true = grind (arith, nat_tests) in
    ap (λ (b : Bool). if b then Some (map part_indexer (p ∷ rest)) else None) some

pub made : (ds : List Doc) (m : Bool) (parts : List Part) (is : List Indexer) → each part_in ds ≡ Ok (map part_indexer parts) → Some is ≡ (if nat_lt 0 (length parts) then Some (map part_indexer parts) else None) → compound_of ds m ≡ Ok (compound (part_list is) m)
made ds m [] is e found = cc
made ds m (p ∷ rest) is e found =
    let whole = found ∙ some_parts p rest in
    let same : map part_indexer (p ∷ rest) ≡ is = cc in
    some_read ds m (map part_indexer (p ∷ rest)) e (omega arith) ∙ ap (λ (js : List Indexer). let r : Checked Indexer = Ok (compound (part_list js) m) in r) same

pub none_made : (ds : List Doc) (m : Bool) (parts : List Part) → each part_in ds ≡ Ok (map part_indexer parts) → None ≡ (if nat_lt 0 (length parts) then Some (map part_indexer parts) else None) → compound_of ds m ≡ Err rule.EmptyCompound
none_made ds m [] e none = none_read ds m [] e refl
none_made ds m (p ∷ rest) e none = let whole = none ∙ some_parts p rest in cc

part_refused : (ds : List Doc) (m : Bool) (r : SchemaRule) → each part_in ds ≡ Err r → compound_of ds m ≡ Err r
part_refused [] m r e = cc
part_refused (d ∷ ds) m r e = some_documents d ds m ∙ ap (joined m) e

-- the refusal of a part is that of the whole
pub refused : (ds : List Doc) (m : Bool) (e : IndexerError) → IsIndexerResult (λ (parts : Vec Part Global). map part_indexer parts.items) (each part_in ds) (Err e) → IsIndexerResult indexer_of (compound_of ds m) (Err e)
refused ds m indexer_error.Memory told = tt
refused ds m (indexer_error.Broken r) told = part_refused ds m r told
