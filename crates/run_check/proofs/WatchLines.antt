-- Lines of watches, as the code carries them out: those that are refused, those that wait, and those
-- that add a watch to a set.
use Rattle.std.proofs.Common.{arith, ◌≡◌, refl, subst, sym, ◌∙◌, ap, ℕ, ◌^◌, ◌<◌, ◌⊎◌, ◌++◌, [], List, length, nat_lt, Bool, true, false, None, Option, Some, Result, Ok, Err, OnOk, codes, if◌then◌else◌, option_map}
use Rattle.std.specs.Prelude.{option_and_then, slice_get}
use Rattle.std.specs.Result.{IsErrAnd}
use Rattle.mdb_datum.specs.Bytes.{Bytes}
use Rattle.mdb_schema.specs.History.{History}
use Rattle.mdb_schema.specs.Schema.{DbSchema}
use Rattle.client_script.specs.Client as plain
use Rattle.client_script.specs.Watching.{limited, set_for, set_or_new}
use Rattle.client_script.specs.declared.command.Command.{Command}
use Rattle.client_script.specs.declared.command.Command.TheVariants as commands
use Rattle.client_script.specs.declared.command.WatchesCommand.{WatchesCommand}
use Rattle.client_script.specs.declared.rule.Rule.{Rule}
use Rattle.client_script.specs.RuleName.{rule_name}
use Rattle.run_check.specs.declared.client.Client.{Client}
use Rattle.run_check.specs.declared.session.Refused.{Refused}
use Rattle.run_check.specs.declared.session.Refused.TheVariants as refusals
use Rattle.run_check.specs.declared.session.Sessions.{Sessions}
use Rattle.run_check.specs.declared.watching.Set.{Set}
use Rattle.run_check.specs.inner.ClientView.{known, set_known, watch_known, watches_known}
use Rattle.run_check.specs.inner.Decided.{IsDecided}
use Rattle.run_check.specs.inner.NamedView.{place_in, value_named}
use Rattle.run_check.specs.inner.SessionView.{IsDoubleTold, IsKnown, IsMemberTold, IsNoSize, IsSound, TellsLine, TellsMade, TellsSize}
use Rattle.run_check.specs.inner.StoreView.{Begun}
use Rattle.run_check.specs.inner.WatchView.{member_count}
use Rattle.run_check.proofs.SetsKept.{set_for_known}
use Rattle.run_check.proofs.SnapshotsTold.{all_there, named_length}

-- ---- lines that are refused

-- a line that ends with a rule tells its refusal
pub refused_line : (schema : DbSchema) (H : History) (client : ℕ) (c : Command) (text : Bytes) (before : plain.Client) (s : Sessions) (v : Client) (rule : Rule) (r : Result (Unit {0}) Refused) → IsErrAnd r (λ e. e ≡ refusals.By rule) → TellsMade schema H client c text (codes "refused " ++ rule_name schema rule) before s v → TellsLine schema H client c text before s v r
refused_line schema H client c text before s v rule (Ok u) is told = absurd is
refused_line schema H client c text before s v rule (Err e) is told =
    subst (λ (x : Refused). TellsLine schema H client c text before s v (Err x)) (sym is) told

-- where it decides, and nothing has changed
pub breaks_line : (schema : DbSchema) (H : History) (txns : List Begun) (client : ℕ) (l l' : WatchesCommand) → l ≡ l' → (text : Bytes) (s : Sessions) (v : Client) (rule : Rule) (r : Result (Unit {0}) Refused) → IsKnown schema H txns s v → IsErrAnd r (λ e. e ≡ refusals.By rule) → IsDecided schema H client (known txns v) (commands.Watches l') text (codes "refused " ++ rule_name schema rule) (known txns v) → TellsLine schema H client (commands.Watches l) text (known txns v) s v r
breaks_line schema H txns client l l' same text s v rule r knows is decided =
    subst (λ (x : WatchesCommand). TellsLine schema H client (commands.Watches x) text (known txns v) s v r) (sym same)
    (refused_line schema H client (commands.Watches l') text (known txns v) s v rule r is (record { txns = txns; decided = decided; keeps = λ e. knows }))

-- ---- how many members a set has

module _ (schema : DbSchema) (H : History) (txns : List Begun) (v : Client) (sound : IsSound schema H txns v) (set : Bytes) where
  abbrev Kept : Option Set
  Kept = value_named set v.watching.sets.names v.watching.sets.values.items

  at_place : (p : Option ℕ) (s : Set) → option_and_then (slice_get v.watching.sets.values.items) p ≡ Some s → (k : ℕ) × (slice_get v.watching.sets.values.items k ≡ Some s)
  at_place None s is = cc
  at_place (Some k) s is = (k, is)

  pub size_known : length (set_for set (known txns v)).members ≡ member_count (value_named set v.watching.sets.names v.watching.sets.values.items)
  size_known =
      ap (λ (x : plain.WatchSet). length x.members) (set_for_known (watches_known v.watching) set v.watching.sets.names v.watching.sets.values.items Kept (v.watching.sets.paired ∙ v.watching.sets.values.ok.0) refl)
      ∙ of Kept refl
    where
      of : (o : Option Set) → Kept ≡ o → length (set_or_new set (option_map (set_known (watches_known v.watching) set) o)).members ≡ member_count o
      of None is = refl
      of (Some s) is =
          let at = at_place (place_in set v.watching.sets.names) s is in
          let there = sound.sets at.0 s at.1 in
          let long = named_length watch_known v.watching.watches.names v.watching.watches.values.items (v.watching.watches.paired ∙ v.watching.watches.values.ok.0) in
          all_there (watches_known v.watching) s.members.items (λ k p here. let within = there.members k p here in omega (arith, within, long))

  count_small : (o : Option Set) → member_count o < 2 ^ 63
  count_small None = omega arith
  count_small (Some s) =
      let long = s.members.ok.0 in
      let within = s.members.ok.1 in
      let small = s.members.small in
      omega (arith, long, within, small)

  pub size_small : length (set_for set (known txns v)).members < 2 ^ 63
  size_small = let is = size_known in let small = count_small Kept in omega (arith, is, small)

  -- of two watches at places, the one that a line adds by a limit
  module _ (limit : ℕ) (first second : ℕ) (w o : plain.Watch) (one : slice_get (watches_known v.watching) first ≡ Some w) (other : slice_get (watches_known v.watching) second ≡ Some o) where
    pub limited_there : (place : ℕ) → place ≡ (if nat_lt (member_count (value_named set v.watching.sets.names v.watching.sets.values.items)) limit then first else second) → slice_get (watches_known v.watching) place ≡ Some (limited set limit w o (known txns v))
    limited_there place is =
        ap (slice_get (watches_known v.watching)) (is ∙ ap (λ (n : ℕ). if nat_lt n limit then first else second) (sym size_known))
        ∙ of (nat_lt (length (set_for set (known txns v)).members) limit)
      where
        of : (t : Bool) → slice_get (watches_known v.watching) (if t then first else second) ≡ Some (if t then w else o)
        of true = one
        of false = other

-- ---- what a line tells that adds

pub size_line : {P : Type 0} (schema : DbSchema) (H : History) (txns : List Begun) (client : ℕ) (l l' : WatchesCommand) → l ≡ l' → (text : Bytes) (before : plain.Client) (s : Sessions) (v : Client) (set : Bytes) (w : plain.Watch) (old : Bytes) (r : Result (Unit {0}) Refused) → TellsSize set w before (known txns v) text old s.text.items r → old ≡ [] → ((made : Bytes) → IsMemberTold set w before (known txns v) text made ⊎ IsDoubleTold set w before (known txns v) text made ⊎ IsNoSize set w before text made → IsDecided schema H client before (commands.Watches l') text made (known txns v)) → OnOk r P → (P → IsKnown schema H txns s v) → TellsLine schema H client (commands.Watches l) text before s v r
size_line schema H txns client l l' same text before s v set w old (Ok u) tells empty decides kept knows = record {
  txns = txns;
  decided = subst (λ (x : WatchesCommand). IsDecided schema H client before (commands.Watches x) text s.text.items (known txns v)) (sym same)
      (subst (λ (t : Bytes). IsDecided schema H client before (commands.Watches l') text t (known txns v)) (sym (tells.1 ∙ ap (λ (o : Bytes). o ++ tells.0) empty)) (decides tells.0 tells.2));
  keeps = λ e. knows kept;
}
size_line schema H txns client l l' same text before s v set w old (Err e) tells empty decides kept knows =
    subst (λ (x : Refused). TellsLine schema H client (commands.Watches l) text before s v (Err x)) (sym tells) tt
