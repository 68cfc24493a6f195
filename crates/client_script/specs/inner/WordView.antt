-- What the words that the code holds stand for.
use Rattle.client_script.specs.Lines.{Word}
use Rattle.client_script.specs.Parts.{Question}
use Rattle.client_script.specs.inner.GrammarParts.{LimitWords}
use Rattle.client_script.specs.declared.grammar.LimitWords as grammar
use Rattle.client_script.specs.declared.question.Question as question
use Rattle.client_script.specs.declared.word.Word as word

abbrev pub word_of : word.Word → Word
word_of w = record { text = w.text.now; rest = w.rest.now }

abbrev pub question_view : question.Question → Question
question_view q =
    record { ask = q.ask; table = q.table.now; index = q.index.now; args = q.args.now }

abbrev pub limit_words_view : grammar.LimitWords → LimitWords
limit_words_view w =
    record { set = w.set.now; limit = w.limit; name = w.name.now; other = w.other.now }
