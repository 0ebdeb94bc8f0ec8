-- Bytes, and the two tests that compare them.
use Rattle.std.specs.Prelude.{ℕ, Bool, true, false, ◌&&◌, List, [], ◌∷◌, take, drop, eqb}
use Prim.Native.String as Text
use Prim.Native.String.{String}
use Prim.Native.Char.{code}

abbrev pub Bytes : Type 0
Bytes = List ℕ

-- a text of this file as bytes
abbrev pub ascii : String → Bytes
ascii Text.[] = []
ascii (Text.◌∷◌ c s) = code c ∷ ascii s

-- the word of `size` bytes that starts at a place
abbrev pub word : Bytes → ℕ → ℕ → Bytes
word b start size = take size (drop start b)

unfoldable pub same_bytes : Bytes → Bytes → Bool
same_bytes [] [] = true
same_bytes [] (y ∷ m) = false
same_bytes (x ∷ l) [] = false
same_bytes (x ∷ l) (y ∷ m) = eqb x y && same_bytes l m

-- THE TWO TESTS (01: "A label or text test compares all bytes"), of a question's word against a row's own bytes
unfoldable pub label_is : Bytes → Bytes → Bool
label_is word label = same_bytes word label

unfoldable pub text_is : Bytes → Bytes → Bool
text_is word text = same_bytes word text
