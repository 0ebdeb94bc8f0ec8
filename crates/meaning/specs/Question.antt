-- Written questions (01, "Written questions"): a type for each form of the grammar, and the text that a tree writes.
use Rattle.std.specs.Prelude.{ℕ, Bool, true, false, not, ◌&&◌, ◌||◌, [], ◌∷◌, ◌++◌, length, T, leb, eqb}
use Rattle.meaning.specs.Bytes.{Bytes, ascii}

abbrev pub within : ℕ → ℕ → ℕ → Bool
within low high b = leb low b && leb b high

-- A to Z, a to z
abbrev pub is_letter : ℕ → Bool
is_letter b = within 65 90 b || within 97 122 b

-- letters, digits, `-`, `_`
abbrev pub is_name_byte : ℕ → Bool
is_name_byte b = is_letter b || within 48 57 b || eqb b 45 || eqb b 95

-- 0x20 to 0x7E, but `"`
abbrev pub is_quotable : ℕ → Bool
is_quotable b = not (eqb b 34) && within 0x20 0x7e b

unfoldable pub all : (ℕ → Bool) → Bytes → Bool
all p [] = true
all p (b ∷ w) = p b && all p w

-- a letter, then letters, digits, `-`, `_`, 64 bytes at most
unfoldable pub is_name : Bytes → Bool
is_name [] = false
is_name (b ∷ w) = is_letter b && all is_name_byte w && leb (length (b ∷ w)) 64

-- 0 to 64 such bytes
unfoldable pub is_quoted : Bytes → Bool
is_quoted w = all is_quotable w && leb (length w) 64

pub record Name : Type 0 where
  pub bytes : Bytes
  pub well_named : T (is_name bytes)

pub record Quoted : Type 0 where
  pub bytes : Bytes
  pub well_quoted : T (is_quoted bytes)

-- how a path begins: with nothing, or with `//`
pub data Begin : Type 0 where
  plain deep : Begin

-- what parts two steps: `/` or `//`
pub data Sign : Type 0 where
  slash slashes : Sign

-- what a step goes by: `.`, `*` or a name
pub data Move : Type 0 where
  dot star : Move
  name : Name → Move

mutual
  -- alternatives, grouping to the left
  pub data Question : Type 0 where
    conj : Conj → Question
    either : Question → Conj → Question

  -- conjunctions, grouping to the left
  pub data Conj : Type 0 where
    unit : OneUnit → Conj
    both : Conj → OneUnit → Conj

  -- a unit: `!` and a unit, `(` question `)`, `label()=` quoted, `text()=` quoted, a path
  pub data OneUnit : Type 0 where
    deny : OneUnit → OneUnit
    group : Question → OneUnit
    label text : Quoted → OneUnit
    path : Begin → Steps → OneUnit

  -- a step, and what follows it
  pub data Steps : Type 0 where
    step : Move → Rest → Steps

  -- what follows `.`, `*` or a name: nothing, `/text()=` quoted, `[` question `]` and what follows that, the next steps
  pub data Rest : Type 0 where
    end : Rest
    ends : Quoted → Rest
    bracket : Question → Rest → Rest
    onward : Sign → Steps → Rest

abbrev pub write_quoted : Quoted → Bytes
write_quoted w = ascii "\"" ++ (w.bytes ++ ascii "\"")

abbrev pub write_begin : Begin → Bytes
write_begin plain = []
write_begin deep = ascii "//"

abbrev pub write_sign : Sign → Bytes
write_sign slash = ascii "/"
write_sign slashes = ascii "//"

abbrev pub write_move : Move → Bytes
write_move dot = ascii "."
write_move star = ascii "*"
write_move (name n) = n.bytes

unfoldable mutual
  pub write_question : Question → Bytes
  write_question (conj c) = write_conj c
  write_question (either q c) = write_question q ++ (ascii "|" ++ write_conj c)

  pub write_conj : Conj → Bytes
  write_conj (unit p) = write_unit p
  write_conj (both c p) = write_conj c ++ (ascii "&" ++ write_unit p)

  pub write_unit : OneUnit → Bytes
  write_unit (deny p) = ascii "!" ++ write_unit p
  write_unit (group q) = ascii "(" ++ (write_question q ++ ascii ")")
  write_unit (label w) = ascii "label()=" ++ write_quoted w
  write_unit (text w) = ascii "text()=" ++ write_quoted w
  write_unit (path b s) = write_begin b ++ write_steps s

  pub write_steps : Steps → Bytes
  write_steps (step m r) = write_move m ++ write_rest r

  pub write_rest : Rest → Bytes
  write_rest end = []
  write_rest (ends w) = ascii "/text()=" ++ write_quoted w
  write_rest (bracket q r) = ascii "[" ++ (write_question q ++ (ascii "]" ++ write_rest r))
  write_rest (onward g s) = write_sign g ++ write_steps s
