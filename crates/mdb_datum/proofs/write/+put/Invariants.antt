use Rattle.std.proofs.Common.{◌≡◌, ◌++◌, drop, map}
use Rattle.mdb_datum.specs.Doc.{doc_list, field_list}
use Rattle.mdb_datum.specs.Datum.{field_of, doc_of}
use Rattle.mdb_datum.specs.inner.Tokens.{docs_tokens, fields_tokens}
use Rattle.mdb_datum.proofs.write.+put.Given as goal

-- with the tokens of the items that are left, it has those of all
abbrev pub invariant-put_items-loop-item : goal.invariant-put_items-loop-item
invariant-put_items-loop-item l = record {
  before : l.out.before ≡ l.initial.out.before;
  ends : l.out.tokens ++ docs_tokens (doc_list (map doc_of (drop l.item-index l.item-items))) ≡ l.initial.out.tokens ++ docs_tokens (doc_list l.items);
}

abbrev pub invariant-put_members-loop-name : goal.invariant-put_members-loop-name
invariant-put_members-loop-name l = record {
  before : l.out.before ≡ l.initial.out.before;
  ends : l.out.tokens ++ fields_tokens (field_list (map field_of (drop l.name-index l.name-items))) ≡ l.initial.out.tokens ++ fields_tokens (field_list l.members);
}
