use Rattle.std.proofs.Common.{◌≡◌, ◌∙◌, ◌-◌, ◌<◌, ◌≤◌, [], ◌∷◌, ◌++◌, length, map, Some, None, sym, ap, subst, arith, rules}
use Rattle.std.specs.FinMap.Entries.{put}
use Rattle.json.specs.Json.{after_end_array, read_key}
use Rattle.json.specs.Reads.{token_of}
use Rattle.json.specs.Token.{Token}
use Rattle.json.proofs.Grammar.{read_key-shorter}
use Rattle.mdb_datum.specs.Bytes.{byte_order}
use Rattle.mdb_datum.specs.Canonical.{AreRegular, HaveRegularMembers, NamesRise, docs_nesting, members_nesting}
use Rattle.mdb_datum.specs.Datum.{doc_of, field_of}
use Rattle.mdb_datum.specs.Doc.{text, doc_list, field_list}
use Rattle.mdb_datum.specs.inner.Plain.{next_doc}
use Rattle.mdb_datum.proofs.MemberPuts.{NamesRise-no_fields, NamesRise-put, HaveRegularMembers-put, members_nesting-put}
use Rattle.mdb_datum.proofs.NextDoc.{DocsRead, docs_turn, docs_over, FieldsRead, fields_begun, fields_turn, fields_over}
use Rattle.mdb_datum.proofs.NextDoc.{next_doc-null, next_doc-boolean, next_doc-number, next_doc-string, next_doc-array, next_doc-object}
use Rattle.mdb_datum.proofs.Regular.{AreRegular-one_more, list_nesting-one_more}
use Rattle.mdb_datum.proofs.plain.+plain.Goals as goal

pub plain_items-items-preserved : goal.plain_items-items-preserved
plain_items-items-preserved t c =
    let l = c.items in
    let all = c.args.reader.now in
    let d = doc_of c.in_ok-item.item in
    let r = c.plain_value.new.reader in
    let done = c.in_ok-item.ensures in
    let going : (after_end_array l.reader ≡ None) × (c.take_end_array.new.self ≡ l.reader) = grind arith in
    let pushed : c.push.new.self ≡ l.items ++ d ∷ [] = search rules in
    let less : length r < length l.reader = rw (← going.1) done.shorter in
    record {
      so_far = subst (λ ds. DocsRead c.args.depth all r ds) (sym pushed) (docs_turn c.args.depth all l.reader r l.items d l.invariant.so_far going.0 (rw (← going.1) done.ok) less);
      regular = subst (λ ds. AreRegular (doc_list ds)) (sym pushed) (AreRegular-one_more l.items d l.invariant.regular done.regular);
      shallow = subst (λ ds. docs_nesting ds ≤ c.args.depth - 27) (sym pushed) (list_nesting-one_more (c.args.depth - 27) l.items d l.invariant.shallow done.shallow);
      not_longer = omega (arith, less, l.invariant.not_longer);
    }

pub plain_items-returns-clause-ok : goal.plain_items-returns-clause-ok
plain_items-returns-clause-ok t c =
    let l = c.items in
    docs_over c.args.depth c.args.reader.now l.reader c.take_end_array.new.self l.items l.invariant.so_far (grind arith)

pub plain_members-members-init : goal.plain_members-members-init
plain_members-members-init t c =
    let none : c.new-pairs.result.items ≡ [] = search rules in
    let seen : map field_of c.new-pairs.result.items ≡ [] = ap (map field_of) none in
    record {
      so_far = subst (λ fs. FieldsRead c.args.depth c.args.reader.now c.args.reader.now fs) (sym seen) (fields_begun c.args.depth c.args.reader.now);
      rise = subst (λ fs. NamesRise (field_list fs)) (sym seen) NamesRise-no_fields;
      regular = subst (λ fs. HaveRegularMembers (field_list fs)) (sym seen) tt;
      shallow = subst (λ fs. members_nesting (field_list fs) ≤ c.args.depth - 27) (sym seen) (omega arith);
      not_longer = omega arith;
    }

pub plain_members-members-preserved : goal.plain_members-members-preserved
plain_members-members-preserved t c =
    let l = c.members in
    let depth = c.args.depth in
    let fs = map field_of l.pairs.items in
    let name = c.in_ok-name-2.name in
    let d = doc_of c.in_ok-value.value in
    let behind = c.next_key.new.self in
    let r = c.plain_value.new.reader in
    let done = c.in_ok-value.ensures in
    let named : read_key l.reader ≡ Some (Some c.in-Some.name.now, behind) = grind arith in
    let key : read_key l.reader ≡ Some (Some name, behind) = named ∙ ap (λ n. Some (Some n, behind)) (sym c.in_ok-name-2.ensures.same) in
    let into : map field_of c.put_member.new.pairs.items ≡ put byte_order name d fs = search rules in
    let key_taken = read_key-shorter l.reader (Some name) behind key in
    let less = done.shorter in
    record {
      so_far = subst (λ gs. FieldsRead depth c.args.reader.now r gs) (sym into) (fields_turn depth c.args.reader.now l.reader behind r fs name d l.invariant.so_far key done.ok less);
      rise = subst (λ gs. NamesRise (field_list gs)) (sym into) (NamesRise-put name d fs l.invariant.rise);
      regular = subst (λ gs. HaveRegularMembers (field_list gs)) (sym into) (HaveRegularMembers-put name d fs l.invariant.regular c.in_ok-name-2.ensures.utf8 done.regular);
      shallow = subst (λ gs. members_nesting (field_list gs) ≤ depth - 27) (sym into) (members_nesting-put (depth - 27) name d fs l.invariant.shallow done.shallow);
      not_longer = omega (arith, key_taken, less, l.invariant.not_longer);
    }

pub plain_members-returns-clause-ok : goal.plain_members-returns-clause-ok
plain_members-returns-clause-ok t c =
    let l = c.members in
    fields_over c.args.depth c.args.reader.now l.reader c.next_key.new.self (map field_of l.pairs.items) l.invariant.so_far (grind arith)

pub plain_value-returns-in_ok-text_of-in-String-clause-ok :
    goal.plain_value-returns-in_ok-text_of-in-String-clause-ok
plain_value-returns-in_ok-text_of-in-String-clause-ok t c =
    let r = c.next.new.self in
    let first : c.args.reader.now ≡ token_of c.in_ok-token.token ∷ r = grind arith in
    let is : c.args.reader.now ≡ Token.string c.in-String.text.now ∷ r = grind (arith, first) in
    ap (next_doc c.args.depth) is ∙ next_doc-string c.args.depth c.in-String.text.now r ∙ ap (λ s. Some (text s, r)) (sym c.in_ok-text_of-in-String.ensures.same)

pub plain_value-returns-in_ok-number_in-in-Number-clause-ok : goal.plain_value-returns-in_ok-number_in-in-Number-clause-ok
plain_value-returns-in_ok-number_in-in-Number-clause-ok t c =
    let r = c.next.new.self in
    let first : c.args.reader.now ≡ token_of c.in_ok-token.token ∷ r = grind arith in
    let is : c.args.reader.now ≡ Token.number c.in-Number.text.now ∷ r = grind (arith, first) in
    ap (next_doc c.args.depth) is ∙ next_doc-number c.args.depth c.in-Number.text.now r _ c.in_ok-number_in-in-Number.ensures.ok

pub plain_value-returns-in-Bool-clause-ok : goal.plain_value-returns-in-Bool-clause-ok
plain_value-returns-in-Bool-clause-ok t c =
    let r = c.next.new.self in
    let first : c.args.reader.now ≡ token_of c.in_ok-token.token ∷ r = grind arith in
    let is : c.args.reader.now ≡ Token.boolean c.in-Bool.flag ∷ r = grind (arith, first) in
    ap (next_doc c.args.depth) is ∙ next_doc-boolean c.args.depth c.in-Bool.flag r

pub plain_value-returns-in-Null-clause-ok : goal.plain_value-returns-in-Null-clause-ok
plain_value-returns-in-Null-clause-ok t c =
    let r = c.next.new.self in
    let first : c.args.reader.now ≡ token_of c.in_ok-token.token ∷ r = grind arith in
    let is : c.args.reader.now ≡ Token.null ∷ r = grind (arith, first) in
    ap (next_doc c.args.depth) is ∙ next_doc-null c.args.depth r

pub plain_value-returns-in_ok-plain_items-in-BeginArray-clause-ok :
    goal.plain_value-returns-in_ok-plain_items-in-BeginArray-clause-ok
plain_value-returns-in_ok-plain_items-in-BeginArray-clause-ok t c =
    let r = c.next.new.self in
    let first : c.args.reader.now ≡ token_of c.in_ok-token.token ∷ r = grind arith in
    let is : c.args.reader.now ≡ Token.begin_array ∷ r = grind (arith, first) in
    let inside = c.in_ok-plain_items-in-BeginArray in
    ap (next_doc c.args.depth) is ∙ next_doc-array c.args.depth r c.plain_items.new.reader (doc_list inside.field-0) (omega arith) inside.ensures.ok

pub plain_value-returns-in_ok-plain_members-in-BeginObject-clause-ok :
    goal.plain_value-returns-in_ok-plain_members-in-BeginObject-clause-ok
plain_value-returns-in_ok-plain_members-in-BeginObject-clause-ok t c =
    let r = c.next.new.self in
    let first : c.args.reader.now ≡ token_of c.in_ok-token.token ∷ r = grind arith in
    let is : c.args.reader.now ≡ Token.begin_object ∷ r = grind (arith, first) in
    let inside = c.in_ok-plain_members-in-BeginObject in
    ap (next_doc c.args.depth) is ∙ next_doc-object c.args.depth r c.plain_members.new.reader (field_list inside.field-0) (omega arith) inside.ensures.ok
