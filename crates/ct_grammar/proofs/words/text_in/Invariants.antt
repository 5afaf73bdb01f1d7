use Rattle.std.proofs.Common.{◌≡◌, ◌++◌, IsUtf8, string_bytes}
use Rattle.std.specs.Str.Iter.{chars_rest}
use Rattle.std.specs.Str.{chars}
use Rattle.ct_grammar.specs.Words.{text_from, text_in}
use Rattle.ct_grammar.proofs.words.text_in.Given as goal

abbrev pub invariant-loop-c : goal.invariant-loop-c
invariant-loop-c l = IsUtf8 (chars_rest l.c-iterator) × (string_bytes l.text ++ text_from l.place (chars (chars_rest l.c-iterator)) ≡ text_in l.word)
