-- What is read as a schema is lawful, where its document is regular.
use Rattle.std.proofs.Common.{◌≡◌, ◌<◌, ◌≤◌, refl, ap, sym, ◌∙◌, subst, List, [], ◌∷◌, Bool, true, false, Some, None, map}
use Rattle.std.specs.Prelude.{Result, Ok, Err, if◌then◌else◌, not, codes, IfOk, IsSome, IsTrue, All}
use Rattle.std.specs.Str.{bytes_eq}
use Rattle.std.proofs.lemmas.Slice.Eq.{bytes_eq-Decides}
use Rattle.std.proofs.lemmas.List.Elements.{All-nil, All-cons}
use Rattle.mdb_datum.specs.Canonical.{IsCanonical, IsRegular}
use Rattle.mdb_datum.specs.Doc.{Doc, Field, member}
use Rattle.mdb_encode.specs.Bytes.{Bytes}
use Rattle.mdb_encode.specs.Indexer.{Indexer}
use Rattle.mdb_schema.specs.Broken.{◌>>=◌, needed, passed, at_names, each, Checked, Broken}
use Rattle.mdb_schema.specs.LawfulSchema.{AreInOrder, index_names, table_names, IsLawfulIndex, IsLawfulTable, IsLawfulSchema}
use Rattle.mdb_schema.specs.Members.{object_fields}
use Rattle.mdb_schema.specs.Names.{is_declared_name}
use Rattle.mdb_schema.specs.Reading.{is_multi, id_in, index_rules, index_members, index_kind, index_in, named_index, index_list, table_in, table_list, schema_in, indexer_in}
use Rattle.mdb_schema.specs.Schema.{IndexSchema, TableSchema, DbSchema, index_named}
use Rattle.mdb_schema.specs.SchemaAnswer.{AnswersSchema}
use Rattle.mdb_schema.specs.Shapes.{index_shape}
use Rattle.mdb_schema.specs.inner.Regular.{EachRegular}
use Rattle.mdb_schema.specs.declared.error.SchemaError.{SchemaError}
use Rattle.mdb_schema.specs.declared.schema_rule.SchemaRule.TheVariants as rule
use Rattle.mdb_schema.specs.declared.version.Version.{Version}
use Rattle.mdb_schema.proofs.Chains.{passed_on, passed_true, unnamed, each_parts, same_length, all_of}
use Rattle.mdb_schema.proofs.LawfulIndexers.{indexer_lawful}
use Rattle.mdb_schema.proofs.IndexLists.{index_list_found, table_list_found}

id_kept : (u m : Bool) (i : Indexer) (x : Unit {0}) → id_in u m i ≡ Ok x → (is_multi i ≡ false) × (u ≡ true) × (m ≡ false)
id_kept u m i x e = of (is_multi i) u m x e
  where
    of : (s u m : Bool) (x : Unit {0}) → (passed rule.IdMulti (not s) >>= (λ single. passed rule.IdNotUnique u >>= (λ alone. passed rule.IdAllowsMissing (not m)))) ≡ Ok x → (s ≡ false) × (u ≡ true) × (m ≡ false)
    of false true false x e = (refl, refl, refl)
    of true u m x e = cc
    of false false m x e = cc
    of false true true x e = cc

rules_kept : (name : Bytes) (u m : Bool) (i : Indexer) (x : Unit {0}) → index_rules name u m i ≡ Ok x → name ≡ codes "id" → (is_multi i ≡ false) × (u ≡ true) × (m ≡ false)
rules_kept name u m i x e is = of (bytes_eq name (codes "id")) ((bytes_eq-Decides name (codes "id")).1 is) e
  where
    of : (b : Bool) → b ≡ true → (if b then id_in u m i else Ok tt) ≡ Ok x → (is_multi i ≡ false) × (u ≡ true) × (m ≡ false)
    of true h e = id_kept u m i x e
    of false h e = cc

-- an index of a declared name, with the indexer that was read for it
pub kind_kept : (name : Bytes) (u m : Bool) (d : Doc) (i : Indexer) → IsTrue (is_declared_name name) → index_kind name u m d ≡ Ok i → IsLawfulIndex (record { name = name; unique = u; allow_missing = m; indexer = i })
kind_kept name u m d i declared e =
    let x = passed_on (indexer_in d) (λ (i : Indexer). index_rules name u m i >>= (λ kept. Ok i)) i e in
    let k = passed_on (index_rules name u m x.0) (λ kept. Ok x.0) i x.2 in
    let is : x.0 ≡ i = let h = k.2 in cc in
    subst (λ (j : Indexer). IsLawfulIndex (record { name = name; unique = u; allow_missing = m; indexer = j })) is (record {
      name = declared;
      kind = indexer_lawful d x.0 x.1;
      id = λ named. let r = rules_kept name u m x.0 k.0 k.1 named in record { single = r.0; unique = r.1; always = r.2 };
    })

index_kept : (f : Field) (i : IndexSchema) → index_in f ≡ Ok i → IsLawfulIndex i × (i.name ≡ f.0)
index_kept f i e =
    let last = λ (u m : Bool) (x : Indexer). let r : Checked IndexSchema = Ok (record { name = f.0; unique = u; allow_missing = m; indexer = x }) in r in
    let s = passed_on (index_members f) (λ (s : Doc × (Bool × Bool)). index_kind f.0 s.1.0 s.1.1 s.0 >>= last s.1.0 s.1.1) i e in
    let a = passed_on (passed rule.BadName (is_declared_name f.0)) (λ declared. needed rule.BadShape (object_fields f.1) >>= (λ members. needed rule.BadShape (index_shape members))) s.0 s.1 in
    let x = passed_on (index_kind f.0 s.0.1.0 s.0.1.1 s.0.0) (last s.0.1.0 s.0.1.1) i s.2 in
    let made : IndexSchema = record { name = f.0; unique = s.0.1.0; allow_missing = s.0.1.1; indexer = x.0 } in
    let is : made ≡ i = let h = x.2 in cc in
    let name = passed_true rule.BadName (is_declared_name f.0) a.0 a.1 in
    subst (λ (j : IndexSchema). IsLawfulIndex j × (j.name ≡ f.0)) {x = made} is
    (kind_kept f.0 s.0.1.0 s.0.1.1 s.0.0 x.0 name x.1, refl)

pub named_kept : (t : Bytes) (f : Field) (i : IndexSchema) → named_index t f ≡ Ok i → IsLawfulIndex i × (i.name ≡ f.0)
named_kept t f i e = index_kept f i (unnamed (Some t) (Some f.0) (index_in f) i e)

-- an index is found where its member was
found_again : (t name : Bytes) (fs : List Field) (is : List IndexSchema) (d : Doc) → each (named_index t) fs ≡ Ok is → member name fs ≡ Some d → IsSome (index_named name is)
found_again t name [] is d e there = cc
found_again t name (f ∷ fs) is d e there =
    let c = each_parts (named_index t) f fs is e in
    subst (λ (l : List IndexSchema). IsSome (index_named name l)) c.4
    (of c.0 c.1 (bytes_eq f.0 name) (ap (λ n. bytes_eq n name) (named_kept t f c.0 c.2).1) there (λ later. found_again t name fs c.1 d c.3 later))
  where
    of : (i : IndexSchema) (js : List IndexSchema) (b : Bool) → bytes_eq i.name name ≡ b → (if b then Some f.1 else member name fs) ≡ Some d → (member name fs ≡ Some d → IsSome (index_named name js)) → IsSome (index_named name (i ∷ js))
    of i js true same there later = rw same refl
    of i js false other there later = rw other (later there)

-- the names of the indexes are those of the members
index_names_read : (t : Bytes) (fs : List Field) (is : List IndexSchema) → each (named_index t) fs ≡ Ok is → map (λ (f : Field). f.0) fs ≡ index_names is
index_names_read t [] is e = let h : [] ≡ is = cc in ap index_names h
index_names_read t (f ∷ fs) is e =
    let c = each_parts (named_index t) f fs is e in
    let n = (named_kept t f c.0 c.2).1 in
    let s = index_names_read t fs c.1 c.3 in
    (λ i. sym n i ∷ s i) ∙ ap index_names c.4

-- a table of what was read
pub table_lawful : (v : Version) (f : Field) (p : List Field × Bool) (is : List IndexSchema) → IsRegular f.1 → index_list v f ≡ Ok p → each (named_index f.0) p.0 ≡ Ok is → IsLawfulTable (record { name = f.0; tracked = p.1; indexes = is })
table_lawful v f p is regular listed read =
    let l = index_list_found v f p listed in
    let long = same_length (named_index f.0) p.0 is read in
    record {
      name = l.name;
      some = subst (λ n. 0 < n) (sym long) l.some;
      few = subst (λ n. n ≤ 32) (sym long) l.few;
      order = subst (λ (ns : List Bytes). AreInOrder ns) (index_names_read f.0 p.0 is read) (l.regular regular).0;
      has_id = found_again f.0 (codes "id") p.0 is l.id read l.has_id;
      each = all_of (λ (i : IndexSchema). IsLawfulIndex i) (named_index f.0) (λ g j h. (named_kept f.0 g j h).0) p.0 is read;
    }

table_kept : (v : Version) (f : Field) (t : TableSchema) → IsRegular f.1 → table_in v f ≡ Ok t → IsLawfulTable t × (f.0 ≡ t.name)
table_kept v f t regular e =
    let last = λ (tracked : Bool) (is : List IndexSchema). let r : Result TableSchema Broken = Ok (record { name = f.0; tracked = tracked; indexes = is }) in r in
    let m = passed_on (at_names (Some f.0) None (index_list v f)) (λ (p : List Field × Bool). each (named_index f.0) p.0 >>= last p.1) t e in
    let x = passed_on (each (named_index f.0) m.0.0) (last m.0.1) t m.2 in
    let made : TableSchema = record { name = f.0; tracked = m.0.1; indexes = x.0 } in
    let is : made ≡ t = let h = x.2 in cc in
    subst (λ (u : TableSchema). IsLawfulTable u × (f.0 ≡ u.name)) {x = made} is
    (table_lawful v f m.0 x.0 regular (unnamed (Some f.0) None (index_list v f) m.0 m.1) x.1, refl)

tables_kept : (v : Version) (fs : List Field) (ts : List TableSchema) → EachRegular fs → each (table_in v) fs ≡ Ok ts → All IsLawfulTable ts × (map (λ (f : Field). f.0) fs ≡ table_names ts)
tables_kept v [] ts regular e =
    let h : [] ≡ ts = cc in (subst (λ (l : List TableSchema). All IsLawfulTable l) h (All-nil IsLawfulTable), ap table_names h)
tables_kept v (f ∷ fs) ts regular e =
    let c = each_parts (table_in v) f fs ts e in
    let first = table_kept v f c.0 regular.0 c.2 in
    let rest = tables_kept v fs c.1 regular.1 c.3 in
    let n = first.1 in
    let s = rest.1 in
    (subst (λ (l : List TableSchema). All IsLawfulTable l) c.4 (All-cons IsLawfulTable c.0 c.1 first.0 rest.0), (λ i. n i ∷ s i) ∙ ap table_names c.4)

-- a schema of what was read
pub schema_lawful : (d : Doc) (p : Version × List Field) (s : DbSchema) → IsRegular d → table_list d ≡ Ok p → each (table_in p.0) p.1 ≡ Ok s → IsLawfulSchema s
schema_lawful d p s regular listed read =
    let l = table_list_found d p listed in
    let long = same_length (table_in p.0) p.1 s read in
    let members = l.regular regular in
    let kept = tables_kept p.0 p.1 s members.1 read in
    record {
      some = subst (λ n. 0 < n) (sym long) l.some;
      few = subst (λ n. n ≤ 64) (sym long) l.few;
      order = subst (λ (ns : List Bytes). AreInOrder ns) kept.1 members.0;
      each = kept.0;
    }

pub answer_lawful : (d : Doc) (r : Result DbSchema SchemaError) → IsCanonical d → AnswersSchema (schema_in d) r → IfOk r (λ s. IsLawfulSchema s)
answer_lawful d (Ok s) canonical told =
    let m = passed_on (at_names None None (table_list d)) (λ (p : Version × List Field). each (table_in p.0) p.1) s told in
    schema_lawful d m.0 s canonical.regular (unnamed None None (table_list d) m.0 m.1) m.2
answer_lawful d (Err e) canonical told = tt
