-- An answer that the definition of what bytes read as gives, or want of memory.
use Rattle.std.specs.Prelude.{◌≡◌, Result, Ok, Err, ⊤}
use Rattle.run_io.specs.declared.load_error.LoadError.{LoadError}
use Rattle.run_io.specs.declared.load_error.LoadError.TheVariants.{Memory, Read, TooLarge, Schema, Script}

abbrev pub IsReadingResult : {A : Type 0} → Result A LoadError → Result A LoadError → Type 0
IsReadingResult told (Ok x) = told ≡ Ok x
IsReadingResult told (Err Memory) = ⊤
IsReadingResult told (Err (Read file)) = ⊥
IsReadingResult told (Err (TooLarge file)) = ⊥
IsReadingResult told (Err (Schema e)) = told ≡ Err (Schema e)
IsReadingResult told (Err (Script client e)) = told ≡ Err (Script client e)
