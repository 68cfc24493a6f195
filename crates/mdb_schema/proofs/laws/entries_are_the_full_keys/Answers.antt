use Rattle.mdb_schema.proofs.EntriesOfRows.{apart_in, sorted-entries, Contains-entries, Contains-from_entries}
use Rattle.mdb_schema.proofs.laws.entries_are_the_full_keys.Goals as goal

pub returns-clause-keys : goal.returns-clause-keys
returns-clause-keys c = λ t i rows row key lawful within stored has.
    Contains-entries t i key rows row (apart_in t i rows lawful within) stored has

pub returns-clause-entries : goal.returns-clause-entries
returns-clause-entries c = λ t i rows row key entered. Contains-from_entries t i key rows row entered

pub returns-clause-rising : goal.returns-clause-rising
returns-clause-rising c = λ t i rows. sorted-entries t i rows
