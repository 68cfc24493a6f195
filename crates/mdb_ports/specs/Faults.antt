-- What a failure says of a count of faults.
use Rattle.std.specs.Prelude.{◌≡◌, ◌≤◌, ◌+◌, ◌-◌, ◌^◌, ℕ, min, Result, OnErr, OnOk}
use Rattle.mdb_ports.specs.declared.failed.Failed.{Failed}

-- the count after one more: it stands still at the end of a `u64`
abbrev pub one_more : ℕ → ℕ
one_more count = min (count + 1) (2 ^ 64 - 1)

-- A count of faults rose: it is greater than before, or stands at the end of a `u64`.
abbrev pub Rose : ℕ → ℕ → Type 0
Rose before now = one_more before ≤ now

-- A failure raises the count by one, up to the end of a `u64`, so that the count rose; after
-- success it is as before.
pub record HasCause {T : Type 0} (before now : ℕ) (result : Result T Failed) : Type 0 where
  pub later : before ≤ now
  pub failed : OnErr result (now ≡ one_more before)
  pub kept : OnOk result (now ≡ before)
