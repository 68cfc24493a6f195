-- When what was read of a text is right: it is what the definition reads, or its first bad line; or
-- there was no memory.
use Rattle.std.specs.Prelude.{◌≡◌, List, map, Result, Ok, Err, ⊤}
use Rattle.run_check.specs.Shape.{Place, Printed, Read}
use Rattle.run_check.specs.declared.shape.Printed as shape
use Rattle.run_check.specs.declared.place.Place as place
use Rattle.run_check.specs.declared.stop.Stop.{Stop}
use Rattle.run_check.specs.declared.stop.Stop.TheVariants as stops
use Rattle.run_check.specs.Views.{place_of, printed_of}
use Rattle.std.specs.declared.vec.Vec.{Vec}
use Rattle.std.specs.declared.alloc.Global.{Global}

abbrev pub Reads : {A B : Type 0} → (A → B) → Read B → Result A Stop → Type 0
Reads view read (Ok found) = read ≡ Ok (view found)
Reads view read (Err stops.Memory) = ⊤
Reads view read (Err (stops.Bad line)) = read ≡ Err line

-- the replies of a client, and the place behind them
abbrev pub replies_of : Vec shape.Printed Global × place.Place → List Printed × Place
replies_of p = (map printed_of p.0.items, place_of p.1)

-- those of clients
abbrev pub lists_of : List (Vec shape.Printed Global) → List (List Printed)
lists_of clients = map (λ (replies : Vec shape.Printed Global). map printed_of replies.items) clients

abbrev pub clients_of : Vec (Vec shape.Printed Global) Global → List (List Printed)
clients_of clients = lists_of clients.items
