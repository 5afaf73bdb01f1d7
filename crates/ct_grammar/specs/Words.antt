-- The values that the words of tokens stand for.
use Rattle.std.specs.Prelude.{ℕ, ◌-◌, ◌+◌, ◌*◌, ◌%◌, Bool, true, false, if◌then◌else◌, nat_eq, nat_lt, List, [], ◌∷◌, ◌++◌, length, drop, slice_range}
use Rattle.std.specs.Str.{chars, encode_utf8_all}
use Rattle.ct_grammar.specs.declared.kind.Kind.{Kind}
use Rattle.ct_grammar.specs.declared.kind.Kind.TheVariants as k
use Rattle.ct_grammar.specs.declared.words.Place.{Place}
use Rattle.ct_grammar.specs.declared.words.Place.TheVariants.{BeforeQuote, Inside, BehindQuote, Ended}

-- what stands between the first character and the last
abbrev pub inner : List ℕ → List ℕ
inner word = slice_range word 1 (length word - 1)

-- a name, without its brackets if it has them
unfoldable pub name_in : Kind → List ℕ → List ℕ
name_in k.Bracketed word = inner word
name_in _ word = word

-- where the reading of a text literal is after a character, and whether that belongs to the text
abbrev pub step : Place → ℕ → Place × Bool
step BeforeQuote c = if nat_eq c 39 then (Inside, false) else (BeforeQuote, false)
step Inside c = if nat_eq c 39 then (BehindQuote, false) else (Inside, true)
step BehindQuote c = if nat_eq c 39 then (Inside, true) else (Ended, false)
step Ended c = (Ended, false)

abbrev pub added : Bool → ℕ → List ℕ
added true c = encode_utf8_all (c ∷ [])
added false c = []

-- the text from a place on: two quotes in a row stand for one
unfoldable pub text_from : Place → List ℕ → List ℕ
text_from place [] = []
text_from place (c ∷ more) = added (step place c).1 c ++ text_from (step place c).0 more

-- the characters that a text literal stands for
abbrev pub text_in : List ℕ → List ℕ
text_in word = text_from BeforeQuote (chars word)

-- digits, then letters of either case
abbrev pub hex_digit : ℕ → ℕ
hex_digit c = if nat_lt c 58 then c - 48 else (if nat_lt c 97 then (c - 55) % 16 else (c - 87) % 16)

unfoldable pub hex_pairs : List ℕ → List ℕ
hex_pairs [] = []
hex_pairs (high ∷ []) = []
hex_pairs (high ∷ low ∷ more) = (hex_digit high * 16 + hex_digit low) ∷ hex_pairs more

-- the bytes that hexadecimal digits behind `0x` spell
abbrev pub bytes_in : List ℕ → List ℕ
bytes_in word = hex_pairs (drop 2 word)
