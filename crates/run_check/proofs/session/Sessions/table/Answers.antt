use Rattle.std.proofs.Common.{◌∙◌, ap, sym}
use Rattle.mdb_datum.specs.Bytes.{Bytes}
use Rattle.mdb_schema.specs.Schema.{table_place}
use Rattle.run_check.proofs.TablePlaces.{never_away}
use Rattle.run_check.proofs.session.Sessions.table.Goals as goal

pub returns-in-None-clause-none : goal.returns-in-None-clause-none
returns-in-None-clause-none c =
    let schema = c.args.self.now.schema.now in
    never_away c.args.name.now schema c.in-Some.at
    (ap (λ (n : Bytes). table_place n schema) (sym c.as_str.ensures) ∙ sym c.in-Some.ensures)
    (sym c.in-None.ensures.found)
