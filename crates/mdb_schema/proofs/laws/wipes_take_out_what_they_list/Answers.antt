use Rattle.std.proofs.Common.{refl}
use Rattle.mdb_schema.proofs.Tables.{table_at-some}
use Rattle.mdb_schema.proofs.WipeLaws.{wipe-ok, after_wipe-table, after_wipe-other}
use Rattle.mdb_schema.proofs.laws.wipes_take_out_what_they_list.Goals as goal

pub returns-clause-leaves : goal.returns-clause-leaves
returns-clause-leaves c = λ schema s q ws laws lawful wiped.
    let w = wipe-ok schema s q ws wiped in
    record {
      table = w.table;
      gone = w.gone;
      there = table_at-some schema s q.table w.table w.there;
      listed = w.listed;
      left = after_wipe-table schema s q ws w laws lawful;
      others = after_wipe-other schema s q ws w laws lawful;
    }

pub returns-clause-nothing : goal.returns-clause-nothing
returns-clause-nothing c = λ schema s q wiped. refl
