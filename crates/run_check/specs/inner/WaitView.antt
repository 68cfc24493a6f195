-- What lines that wait ask of watches, by their places, and which member of a set a text tells to have
-- fired.
use Rattle.std.specs.Prelude.{◌≡◌, ◌<◌, ◌++◌, ℕ, List, length, Option, Some, None, codes}
use Rattle.std.specs.Prelude.{option_and_then, slice_get}
use Rattle.mdb_datum.specs.Bytes.{Bytes}
use Rattle.mdb_schema.specs.History.{History}
use Rattle.mdb_schema.specs.Schema.{DbSchema}
use Rattle.mdb_schema.specs.Watchable.{IsTouched}
use Rattle.client_script.specs.Client.{Watch}
use Rattle.client_script.specs.Watching.{AreUnchanged}
use Rattle.run_check.specs.declared.member.Woken.{Woken}
use Rattle.run_check.specs.inner.ClientView.{watches_at}
use Rattle.run_check.specs.inner.Decided.{HasName, IsFirstNamed}

-- ---- by places

-- each of these places is a watch's
abbrev pub ArePlaced : List Watch → List ℕ → Type 0
ArePlaced ws places = (k at : ℕ) → slice_get places k ≡ Some at → at < length ws

-- a watch is there that may be told to have fired
abbrev pub HasFiredAt : DbSchema → History → List Watch → Option ℕ → ℕ → Type 0
HasFiredAt schema H ws place n =
    (w : Watch) × (option_and_then (slice_get ws) place ≡ Some w)
    × IsTouched schema H w.query w.number n

-- A wait may end so: the watch at a place has fired after so many commits, and those at other places
-- were quiet when the wait began.
pub record IsEnd (schema : DbSchema) (H : History) (client : ℕ) (ws : List Watch) (places : List ℕ)
    (last : ℕ) (place : Option ℕ) (number : ℕ) : Type 0 where
  pub fired : HasFiredAt schema H ws place number
  pub quiet : AreUnchanged schema H client (watches_at ws places) last

-- ---- by its name in a text

-- a text tells that this member has fired: the first whose name it has
pub record IsWokenMember (ms : List Watch) (text : Bytes) (told : Woken) : Type 0 where
  pub member : Watch
  pub rest : Bytes
  pub after : Bytes
  pub begins : text ≡ codes "fired " ++ rest
  pub first : IsFirstNamed ms rest after told.place member
  pub name : told.name.now ≡ member.name
  pub behind : told.behind.now ≡ codes " @" ++ after

-- so it does; or it has the name of none
abbrev pub TellsMember : List Watch → Bytes → Option Woken → Type 0
TellsMember ms text (Some told) = IsWokenMember ms text told
TellsMember ms text None =
    (rest after : Bytes) (q : ℕ) (w : Watch) → text ≡ codes "fired " ++ rest
    → slice_get ms q ≡ Some w → HasName w.name rest after → ⊥
