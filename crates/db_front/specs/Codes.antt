-- How the logic stores which front it is, and a front that is none.
use Rattle.std.specs.Prelude.{[]}
use Rattle.std.specs.Coded.{Coded, coded×, coded_ℕ}
use Rattle.atomic_table.specs.Seated.{table_id_coded}
use Rattle.db_front.specs.Passes.{FrontId}

abbrev pub front_coded : Coded FrontId
front_coded = coded× table_id_coded coded_ℕ

abbrev pub no_front : FrontId
no_front = (
  record {
    words = 0;
    slots = 0;
    views_name = 0;
    atom = 0;
    block = 0;
    offset = 0;
    slot_names = [];
  },
  0,
)
