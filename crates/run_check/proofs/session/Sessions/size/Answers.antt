use Rattle.std.proofs.Common.{rules, ◌≡◌, ◌++◌, ◌∙◌, ap, sym, refl, ℕ, length, option_map, codes, decimal}
use Rattle.std.specs.Borrow.{Bor}
use Rattle.mdb_datum.specs.Bytes.{Bytes}
use Rattle.client_script.specs.Reply.{sized}
use Rattle.run_check.specs.declared.watching.Set.{Set}
use Rattle.run_check.proofs.SnapshotsTold.{size_none, size_some}
use Rattle.run_check.proofs.session.Sessions.size.Goals as goal

pub returns-in_default-clause-told : goal.returns-in_default-clause-told
returns-in_default-clause-told c = λ schema H txns knows.
    let sets = c.args.knows.now.watching.sets in
    let none = sym (ap (option_map (λ (s : Bor Set). s.now)) c.in_default.is) ∙ c.get.ensures in
    (size_none txns c.args.knows.now c.args.set.now (sets.paired ∙ sets.values.ok.0) none, refl)

pub returns-clause-told : goal.returns-clause-told
returns-clause-told c = λ schema H txns knows.
    let v = c.args.knows.now in
    let sets = v.watching.sets in
    let watches = v.watching.watches in
    let found = sym (ap (option_map (λ (s : Bor Set). s.now)) c.in-Some.is) ∙ c.get.ensures in
    let count : c.len.result ≡ length c.in-Some.found.now.members.items = search (rules) in
    let text : ℕ → Bytes = λ n. c.args.self.now.text.items ++ (codes "size " ++ decimal n) in
    record {
      reply = sized (length c.in-Some.found.now.members.items);
      is = size_some txns v c.args.set.now (sets.paired ∙ sets.values.ok.0) schema H c.in-Some.found.now knows.sound (watches.paired ∙ watches.values.ok.0) found;
      text = c.in_ok-write_numbered.ensures ∙ ap text count;
    }
