-- Watches and sets by their names: one more watch, and a set in the place of the one of its name.
use Rattle.std.proofs.Common.{◌≡◌, ◌∙◌, ◌++◌, Bool, true, false, cond, List, [], ◌∷◌, Option, Some, None, refl, sym, ap}
use Rattle.std.specs.Prelude.{if◌then◌else◌, option_map}
use Rattle.std.specs.Str.{bytes_eq}
use Rattle.std.proofs.lemmas.Bool.{both_ways}
use Rattle.mdb_datum.specs.Bytes.{Bytes}
use Rattle.mdb_schema.proofs.Membership.{bytes_eq-itself, same_key}
use Rattle.client_script.specs.Client.{Watch, WatchSet, set_named, watch_named}
use Rattle.client_script.specs.Watching.{put_set}

-- ---- one more watch

abbrev first_found : Option Watch → Option Watch → Option Watch
first_found None o = o
first_found (Some w) o = Some w

found_first : (b : Bool) (x : Watch) (found o : Option Watch) → (if b then Some x else first_found found o) ≡ first_found (if b then Some x else found) o
found_first true x found o = refl
found_first false x found o = refl

named_in_more : (name : Bytes) (ws : List Watch) (w : Watch) → watch_named name (ws ++ w ∷ []) ≡ first_found (watch_named name ws) (watch_named name (w ∷ []))
named_in_more name [] w = refl
named_in_more name (x ∷ ws) w =
    ap (λ (o : Option Watch). if bytes_eq x.name name then Some x else o) (named_in_more name ws w) ∙ found_first (bytes_eq x.name name) x (watch_named name ws) (watch_named name (w ∷ []))

found_alone : (found : Option Watch) → first_found found None ≡ found
found_alone None = refl
found_alone (Some w) = refl

-- where no watch had the name of one that is added, each name finds the one of the name
module _ {X : Type 0} (of : Bytes → X → Watch) (named : (q : Bytes) (x : X) → (of q x).name ≡ q) where
  pub watches_more : (name : Bytes) (x : X) (ws : List Watch) (q : Bytes) (old : Option X) → (bytes_eq name q ≡ true → old ≡ None) → watch_named q ws ≡ option_map (of q) old
      → watch_named q (ws ++ of name x ∷ []) ≡ option_map (of q) (cond (bytes_eq name q) (Some x) old)
  watches_more name x ws q old none known =
      named_in_more q ws (of name x) ∙ ap (λ (o : Option Watch). first_found o (watch_named q (of name x ∷ []))) known
      ∙ ap (λ (n : Bytes). first_found (option_map (of q) old) (if bytes_eq n q then Some (of name x) else None)) (named name x)
      ∙ by_name (bytes_eq name q) refl
    where
      by_name : (b : Bool) → bytes_eq name q ≡ b → first_found (option_map (of q) old) (if b then Some (of name x) else None) ≡ option_map (of q) (cond b (Some x) old)
      by_name true e =
          ap (λ (o : Option X). first_found (option_map (of q) o) (Some (of name x))) (none e) ∙ ap (λ (n : Bytes). Some (of n x)) (same_key name q e)
      by_name false e = found_alone (option_map (of q) old)

-- ---- a set in the place of the one of its name

pub set_put : (q : Bytes) (s : WatchSet) (ss : List WatchSet) → set_named q (put_set s ss) ≡ cond (bytes_eq s.name q) (Some s) (set_named q ss)
set_put q s [] = refl
set_put q s (x ∷ ss) = by_name (bytes_eq x.name s.name) refl (set_put q s ss)
  where
    same : (b : Bool) → bytes_eq s.name q ≡ b → x.name ≡ s.name → (if b then Some s else set_named q ss) ≡ cond b (Some s) (if bytes_eq x.name q then Some x else set_named q ss)
    same true e name = refl
    same false e name = ap (λ (c : Bool). if c then Some x else set_named q ss) (sym (ap (λ (n : Bytes). bytes_eq n q) name ∙ e))

    other : (b c : Bool) → bytes_eq x.name q ≡ b → bytes_eq s.name q ≡ c → bytes_eq x.name s.name ≡ false → (if b then Some x else cond c (Some s) (set_named q ss)) ≡ cond c (Some s) (if b then Some x else set_named q ss)
    other true true e f apart =
        absurd (both_ways (bytes_eq x.name s.name) apart (ap (λ (n : Bytes). bytes_eq n s.name) (same_key x.name q e ∙ sym (same_key s.name q f)) ∙ bytes_eq-itself s.name))
    other true false e f apart = refl
    other false c e f apart = refl

    by_name : (b : Bool) → bytes_eq x.name s.name ≡ b → set_named q (put_set s ss) ≡ cond (bytes_eq s.name q) (Some s) (set_named q ss)
        → set_named q (if b then s ∷ ss else x ∷ put_set s ss) ≡ cond (bytes_eq s.name q) (Some s) (set_named q (x ∷ ss))
    by_name true e rest = same (bytes_eq s.name q) refl (same_key x.name s.name e)
    by_name false e rest =
        ap (λ (o : Option WatchSet). if bytes_eq x.name q then Some x else o) rest
        ∙ other (bytes_eq x.name q) (bytes_eq s.name q) refl refl e
