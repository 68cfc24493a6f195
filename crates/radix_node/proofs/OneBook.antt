-- Where all cells are of a book, each is, and the other way round.
use Rattle.std.proofs.Common.{◌≡◌, inl, inr, ◌∷◌, ◌∙◌, List, [], map, refl, ap}
use Rattle.logbook.specs.Pages.{Book}
use Rattle.watch_word.specs.Logs.{Cell}
use Rattle.radix_node.specs.Paths.{Has}

-- the books of cells, and one book as often
abbrev books_of : List Cell → List Book
books_of cs = map (λ (c : Cell). c.book) cs

abbrev book_of_each : Book → List Cell → List Book
book_of_each book cs = map (λ (c : Cell). book) cs

pub each_is : (book : Book) (cs : List Cell) → books_of cs ≡ book_of_each book cs → (c : Cell) → Has c cs → c.book ≡ book
each_is book [] all c h = absurd h
each_is book (d ∷ cs) all c (inl e) = let first : d.book ≡ book = cc in ap (λ (z : Cell). z.book) e ∙ first
each_is book (d ∷ cs) all c (inr h) = let rest : books_of cs ≡ book_of_each book cs = cc in each_is book cs rest c h

pub all_are : (book : Book) (cs : List Cell) → ((c : Cell) → Has c cs → c.book ≡ book) → books_of cs ≡ book_of_each book cs
all_are book [] each = refl
all_are book (d ∷ cs) each = λ i. each d (inl refl) i ∷ all_are book cs (λ c h. each c (inr h)) i
