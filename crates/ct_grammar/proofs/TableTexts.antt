-- Each text is one name of a table, or none.
use Rattle.std.proofs.Common.{◌≡◌, ℕ, ◌<◌, ◌≤◌, ◌^◌, inl, inr, Bool, true, false, List, length, Option, Some, None, Ok, Err, Result, refl, sym, ap, ◌∙◌, arith}
use Rattle.std.specs.Prelude.{nat_lt, IfOk}
use Rattle.std.proofs.lemmas.Bool.{ltb-true, ltb-false}
use Rattle.ct_types.specs.declared.expr.ObjectName.{ObjectName}
use Rattle.ct_lexer.specs.declared.token.Token.{Token}
use Rattle.ct_lexer.specs.Cutting.{IsCut, IsStuck, IsCutOrStuck}
use Rattle.ct_lexer.proofs.Cutting.{one_tokens, cut_or_stuck as no_both}
use Rattle.ct_lexer.proofs.Totality.{cut_or_stuck}
use Rattle.ct_grammar.specs.Lexemes.{lexemes}
use Rattle.ct_grammar.specs.Reading.{whole}
use Rattle.ct_grammar.specs.ReadNames as p
use Rattle.ct_grammar.specs.TableTexts.{IsTableText, Tells}
use Rattle.ct_grammar.proofs.NameLaws.{law_table_name}
use Rattle.ct_grammar.proofs.Sentences.{sentence_read, read_sentence, whole_read}

-- the reader finds in the tokens the name that the text is
text_read : (text : List ℕ) (tokens : List Token) (name : ObjectName) → IsCut text tokens → IsTableText text name → whole (p.table_name (lexemes text tokens)) ≡ Some name
text_read text tokens name cut is =
    let same : tokens ≡ is.tokens = one_tokens text tokens is.tokens cut is.cut in
    ap (λ found. whole (p.table_name (lexemes text found))) same ∙ ap whole (sentence_read (law_table_name {d = 0}) name (lexemes text is.tokens) is.spelled)

told_by : (text : List ℕ) (tokens : List Token) → length text < 2 ^ 32 → IsCut text tokens → (o : Option ObjectName) → whole (p.table_name (lexemes text tokens)) ≡ o → Tells text o
told_by text tokens short cut (Some name) e = record {
  short = short;
  tokens = tokens;
  cut = cut;
  spelled = read_sentence (law_table_name {d = 0}) name (lexemes text tokens) (whole_read (p.table_name (lexemes text tokens)) name e);
}
told_by text tokens short cut None e = λ name is. let f : None ≡ Some name = sym e ∙ text_read text tokens name cut is in cc

-- by the tokens of a text, by its fault, and by its size
pub by_tokens : (text : List ℕ) (tokens : List Token) (o : Option ObjectName) → length text < 2 ^ 32 → IsCut text tokens → o ≡ whole (p.table_name (lexemes text tokens)) → Tells text o
by_tokens text tokens o short cut e = told_by text tokens short cut o (sym e)

pub by_whole : {E : Type 0} (text : List ℕ) (tokens : List Token) (r : Result (Option ObjectName) E) → length text < 2 ^ 32 → IsCut text tokens
    → IfOk r (λ o. o ≡ whole (p.table_name (lexemes text tokens))) → IfOk r (Tells text)
by_whole text tokens (Ok o) short cut e = by_tokens text tokens o short cut e
by_whole text tokens (Err fault) short cut e = tt

pub by_fault : (text : List ℕ) (at : ℕ) → IsStuck text at → Tells text None
by_fault text at stuck = λ name is. no_both text is.tokens at is.cut stuck

pub by_size : (text : List ℕ) → 2 ^ 32 ≤ length text → Tells text None
by_size text long = λ name is. omega (arith, is.short, long)

-- ---- each text, and one answer

by_cutting : (text : List ℕ) → length text < 2 ^ 32 → IsCutOrStuck text → (name : Option ObjectName) × Tells text name
by_cutting text short (inl cut) = (whole (p.table_name (lexemes text cut.0)), by_tokens text cut.0 (whole (p.table_name (lexemes text cut.0))) short cut.1 refl)
by_cutting text short (inr stuck) = (None, by_fault text stuck.0 stuck.1)

pub one_or_none : (text : List ℕ) → (name : Option ObjectName) × Tells text name
one_or_none text = by (nat_lt (length text) (2 ^ 32)) refl
  where
    by : (short : Bool) → nat_lt (length text) (2 ^ 32) ≡ short → (name : Option ObjectName) × Tells text name
    by true e = by_cutting text (ltb-true (length text) (2 ^ 32) e) (cut_or_stuck text)
    by false e = (None, by_size text (ltb-false (length text) (2 ^ 32) e))

one_name : (text : List ℕ) (name other : ObjectName) → IsTableText text name → IsTableText text other → name ≡ other
one_name text name other is twin =
    let f : Some name ≡ Some other = sym (text_read text is.tokens name is.cut is) ∙ text_read text is.tokens other is.cut twin in cc

pub one_answer : (text : List ℕ) (name other : Option ObjectName) → Tells text name → Tells text other → name ≡ other
one_answer text (Some name) (Some other) is twin = ap (λ n. Some n) (one_name text name other is twin)
one_answer text (Some name) None is none = absurd (none name is)
one_answer text None (Some other) none is = absurd (none other is)
one_answer text None None none twin = refl
