-- Scripts and faults go from a thread to another, and two lists of scripts are one.
use denote.Param.Send.{sendable}
use Rattle.std.proofs.Common.{◌≡◌, ◌+◌, ◌++◌, ◌∙◌, sym, ap, subst, ℕ, List, length}
use Rattle.std.specs.Prelude.{Vec}
use Rattle.std.specs.declared.alloc.Global.{Global}
use Rattle.std.proofs.lemmas.List.{length-map, map-append}
use Rattle.mdb_datum.specs.Bytes.{Bytes}
use Rattle.run_io.specs.Inputs.{scripts_in}
use Rattle.run_io.specs.inner.ContentsOf.{bytes_in}
use Rattle.run_io.specs.inner.ReadingResult.{IsReadingResult}
use Rattle.client_script.proofs.Threads.{scripts_send}
use Rattle.run_io.proofs.Threads.{load_error_send}
use Rattle.run_io.proofs.reading.+read_range.Goals as goal

pub read_both-join_deep-scripts-requires-send-A : goal.read_both-join_deep-scripts-requires-send-A
read_both-join_deep-scripts-requires-send-A g t c κs within = search (sendable, scripts_send, load_error_send) depth 20

pub read_range-returns-in-Some : goal.read_range-returns-in-Some
read_range-returns-in-Some g t c =
    let first = c.args.first in
    let fore = c.split_at.result.0.now in
    let rest = c.split_at.result.1.now in
    let number : first + length fore ≡ first + length (bytes_in fore) = ap (λ (n : ℕ). first + n) (sym (length-map fore (λ (bytes : Vec ℕ Global). bytes.items))) in
    let back : IsReadingResult (scripts_in (first + length (bytes_in fore)) (bytes_in rest)) c.in-Some.more = subst (λ (k : ℕ). IsReadingResult (scripts_in k (bytes_in rest)) c.in-Some.more) number c.in-Some.ensures.back in
    let both : IsReadingResult (scripts_in first (bytes_in fore ++ bytes_in rest)) c.joined.result = c.joined.ensures first (bytes_in fore) (bytes_in rest) c.in-Some.ensures.front back in
    let whole : bytes_in c.args.clients.now ≡ bytes_in fore ++ bytes_in rest = ap bytes_in c.split_at.ensures.by_index.0 ∙ map-append (λ (bytes : Vec ℕ Global). bytes.items) fore rest in
    subst (λ (bs : List Bytes). IsReadingResult (scripts_in first bs) c.joined.result) (sym whole) both
