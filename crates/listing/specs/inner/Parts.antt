-- What the listing's inner functions put: the parts of an entry's line.
use Rattle.std.specs.Prelude.{ℕ, [], ◌++◌, get_or}
use Rattle.meaning.specs.Bytes.{Bytes, ascii, word}
use Rattle.meaning.specs.Entry.{Entry}
use Rattle.question.specs.declared.List as L
use Rattle.question.specs.declared.kind.Kind.{Kind}
use Rattle.question.specs.declared.kind.Kind.TheVariants.{Itself, Label, Text, Child, At, Below, Or, And, Not}
use Rattle.question.specs.Listed.{entry_of}
use Rattle.listing.specs.Listing.{decimal}

-- entry i of a list over a text
abbrev pub entry_in : L.List → Bytes → ℕ → Entry Bytes
entry_in l t i = entry_of (word t) (get_or l.kinds i 0) (get_or l.left i 0) (get_or l.right i 0)

-- a kind's word, with the blank after it where something follows
abbrev pub word_of : Kind → Bytes
word_of Itself = ascii "self"
word_of Label = ascii "label "
word_of Text = ascii "text "
word_of Child = ascii "child "
word_of At = ascii "at "
word_of Below = ascii "below "
word_of Or = ascii "or "
word_of And = ascii "and "
word_of Not = ascii "not "

-- what follows it
abbrev pub operands : Bytes → Kind → ℕ → ℕ → Bytes
operands t Itself a b = []
operands t Label a b = word t a b
operands t Text a b = word t a b
operands t Child a b = decimal a
operands t At a b = decimal a ++ (ascii " " ++ decimal b)
operands t Below a b = decimal a
operands t Or a b = decimal a ++ (ascii " " ++ decimal b)
operands t And a b = decimal a ++ (ascii " " ++ decimal b)
operands t Not a b = decimal a
