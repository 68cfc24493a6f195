use Rattle.std.proofs.Common.{◌∙◌, ◌++◌, ◌∷◌, [], List, append_assoc, sym, ap}
use Rattle.std.proofs.lemmas.List.{map-append}
use Rattle.std.specs.Prelude.{String, string_bytes}
use Rattle.std.specs.Vec.Iter.{into_iter_items}
use Rattle.std.specs.declared.alloc.Global.{Global}
use Rattle.mdb_datum.specs.Bytes.{Bytes}
use Rattle.run_io.proofs.arguments.copies.Goals as goal

pub loop-text-preserved : goal.loop-text-preserved
loop-text-preserved c =
    let text = c.in-Some.text in
    record {
      words =
          c.in_ok-add_word.ensures
          ∙ ap (λ (ws : List Bytes). ws ++ string_bytes text ∷ []) c.loop-text.invariant.words
          ∙ sym (map-append string_bytes c.loop-text.yielded (text ∷ []));
      all =
          c.loop-text.invariant.all
          ∙ ap (λ (ts : List (String Global)). c.loop-text.yielded ++ ts) c.in-Some.ensures.steps.0
          ∙ sym (append_assoc c.loop-text.yielded (text ∷ []) (into_iter_items c.next.new.self));
    }
