-- Names, variables and numbers: what stands at the front of some bytes, by their longest runs.
use Rattle.std.proofs.Common.{◌≡◌, ℕ, ◌+◌, ◌<◌, ◌≤◌, Bool, true, false, List, [], ◌∷◌, ◌++◌, length, refl, sym, ap, ◌∙◌, arith, append_assoc, length-append, drop}
use Rattle.std.specs.Prelude.{◌==◌, ◌||◌}
use Rattle.std.specs.Int.{is_in_range}
use Rattle.std.specs.List.{prefix_len}
use Rattle.std.proofs.lemmas.Bool.{both_ways, eqb-true}
use Rattle.std.proofs.lemmas.List.{drop_at}
use Rattle.ct_lexer.specs.declared.byte.ByteClass.{ByteClass}
use Rattle.ct_lexer.specs.declared.byte.ByteClass.TheVariants as byte
use Rattle.ct_lexer.specs.Bytes.{belongs, starts, Stops}
use Rattle.ct_lexer.specs.Tokens.{IsBareName, IsBracketed, IsVariable, IsNumber}
use Rattle.ct_lexer.specs.Scanning.{Begins}
use Rattle.ct_lexer.proofs.Runs.{run_size, front_run}

-- a byte of the class at the front of the word is one at the front of the bytes
starts_word : (class : ByteClass) (word more : List ℕ) → starts class word ≡ true → starts class (word ++ more) ≡ true
starts_word class [] more h = absurd (both_ways false refl h)
starts_word class (b ∷ word) more h = h

-- a run is not empty where one of its bytes is at the front
starts_run : (class other : ByteClass) (word more : List ℕ) → ((b : ℕ) → belongs class b ≡ true → belongs other b ≡ true) → Stops other more
    → starts class (word ++ more) ≡ true → starts class word ≡ true
starts_run class other [] [] within stops h = h
starts_run class other [] (b ∷ more) within stops h = absurd (both_ways (belongs other b) stops (within b h))
starts_run class other (b ∷ word) more within stops h = h

widen : (digit upper lower other : Bool) → ((upper || lower) || other) ≡ true → (((digit || upper) || lower) || other) ≡ true
widen true upper lower other h = refl
widen false upper lower other h = h

pub letter_is_name : (b : ℕ) → belongs byte.Letter b ≡ true → belongs byte.Name b ≡ true
letter_is_name b h = widen (is_in_range 48 57 b) (is_in_range 65 90 b) (is_in_range 97 122 b) (b == 95) h

-- ---- bare names

-- what a bare name says of the bytes that it begins
pub record NameFront (bytes word : List ℕ) : Type 0 where
  pub first : starts byte.Letter bytes ≡ true
  pub size : prefix_len (belongs byte.Name) bytes ≡ length word
  pub short : length word ≤ 128

pub name_front : (bytes word more : List ℕ) → bytes ≡ word ++ more → IsBareName word more → NameFront bytes word
name_front bytes word more e name = record {
  first = rw e (starts_word byte.Letter word more name.first);
  size = rw e (run_size byte.Name word more name.bytes name.whole);
  short = name.short;
}

pub name_begins : (bytes : List ℕ) → starts byte.Letter bytes ≡ true → prefix_len (belongs byte.Name) bytes ≤ 128 → Begins IsBareName bytes (prefix_len (belongs byte.Name) bytes)
name_begins bytes first short =
    let run = front_run byte.Name bytes in
    let at : starts byte.Letter (run.word ++ run.more) ≡ true = rw run.cut at first in
    record {
      word = run.word;
      more = run.more;
      cut = run.cut;
      long = run.long;
      is = record {
        first = starts_run byte.Letter byte.Name run.word run.more letter_is_name run.is.whole at;
        bytes = run.is.bytes;
        whole = run.is.whole;
        short = rw run.long short;
      };
    }

-- ---- variables

pub record VariableFront (b : ℕ) (tail word : List ℕ) : Type 0 where
  pub at_sign : b ≡ 64
  pub name : List ℕ
  pub more : List ℕ
  pub cut : tail ≡ name ++ more
  pub named : IsBareName name more
  pub size : length word ≡ 1 + length name

pub variable_front : (b : ℕ) (tail word more : List ℕ) → b ∷ tail ≡ word ++ more → IsVariable word more → VariableFront b tail word
variable_front b tail word more e variable =
    let f : b ∷ tail ≡ (64 ∷ variable.name) ++ more = rw variable.spelled at e in
    record { at_sign = cc; name = variable.name; more = more; cut = cc; named = variable.named; size = rw variable.spelled (omega arith) }

pub variable_begins : (bytes tail : List ℕ) (b n : ℕ) → bytes ≡ b ∷ tail → b ≡ 64 → Begins IsBareName tail n → Begins IsVariable bytes (1 + n)
variable_begins bytes tail b n e f name = record {
  word = 64 ∷ name.word;
  more = name.more;
  cut = e ∙ ap (λ b. b ∷ tail) f ∙ ap (λ z. 64 ∷ z) name.cut;
  long = omega (arith, name.long);
  is = record { name = name.word; spelled = refl; named = name.is };
}

-- ---- numbers

pub number_size : (bytes word more : List ℕ) → bytes ≡ word ++ more → IsNumber word more → prefix_len (belongs byte.Digit) bytes ≡ length word
number_size bytes word more e number = rw e (run_size byte.Digit word more number.bytes number.whole)

pub number_begins : (bytes : List ℕ) → 0 < prefix_len (belongs byte.Digit) bytes → Begins IsNumber bytes (prefix_len (belongs byte.Digit) bytes)
number_begins bytes some =
    let run = front_run byte.Digit bytes in
    record { word = run.word; more = run.more; cut = run.cut; long = run.long; is = record { some = omega (arith, run.long, some); bytes = run.is.bytes; whole = run.is.whole } }

-- ---- names in brackets

pub record BracketFront (b : ℕ) (tail word : List ℕ) : Type 0 where
  pub opens : b ≡ 91
  pub size : length word ≡ prefix_len (belongs byte.Bracketed) tail + 2
  pub some : 0 < prefix_len (belongs byte.Bracketed) tail
  pub short : prefix_len (belongs byte.Bracketed) tail ≤ 128
  pub closes : starts byte.CloseBracket (drop (prefix_len (belongs byte.Bracketed) tail) tail) ≡ true

pub bracket_front : (b : ℕ) (tail word more : List ℕ) → b ∷ tail ≡ word ++ more → IsBracketed word more → BracketFront b tail word
bracket_front b tail word more e name =
    let f : b ∷ tail ≡ (91 ∷ (name.inside ++ 93 ∷ [])) ++ more = rw name.spelled at e in
    let opens : b ≡ 91 = cc in
    let cut : tail ≡ (name.inside ++ 93 ∷ []) ++ more = cc in
    let split : tail ≡ name.inside ++ 93 ∷ more = cut ∙ append_assoc name.inside (93 ∷ []) more in
    let size : prefix_len (belongs byte.Bracketed) tail ≡ length name.inside = rw split (run_size byte.Bracketed name.inside (93 ∷ more) name.bytes refl) in
    record {
      opens = opens;
      size = rw (size, name.spelled) (simp length-append (omega arith));
      some = rw size name.some;
      short = rw size name.short;
      closes = rw (size, split, drop_at name.inside (93 ∷ more) (length name.inside) refl) refl;
    }

-- the closing bracket
pub closing : (bytes : List ℕ) → starts byte.CloseBracket bytes ≡ true → (more : List ℕ) × (bytes ≡ 93 ∷ more)
closing [] h = absurd (both_ways false refl h)
closing (b ∷ more) h = (more, ap (λ c. c ∷ more) (eqb-true b 93 h))

pub bracket_begins : (bytes tail : List ℕ) (b : ℕ) → bytes ≡ b ∷ tail → b ≡ 91 → 0 < prefix_len (belongs byte.Bracketed) tail → prefix_len (belongs byte.Bracketed) tail ≤ 128
    → starts byte.CloseBracket (drop (prefix_len (belongs byte.Bracketed) tail) tail) ≡ true → Begins IsBracketed bytes (prefix_len (belongs byte.Bracketed) tail + 2)
bracket_begins bytes tail b e f some short closes =
    let run = front_run byte.Bracketed tail in
    let behind : drop (prefix_len (belongs byte.Bracketed) tail) tail ≡ run.more =
    ap (λ z. drop (prefix_len (belongs byte.Bracketed) tail) z) run.cut ∙ drop_at run.word run.more (prefix_len (belongs byte.Bracketed) tail) run.long in
    let last = closing run.more (rw behind at closes) in
    let size : length (run.word ++ 93 ∷ []) ≡ prefix_len (belongs byte.Bracketed) tail + 1 = simp length-append (omega (arith, run.long)) in
    record {
      word = 91 ∷ (run.word ++ 93 ∷ []);
      more = last.0;
      cut = e ∙ ap (λ b. b ∷ tail) f ∙ ap (λ z. 91 ∷ z) (run.cut ∙ ap (λ z. run.word ++ z) last.1 ∙ sym (append_assoc run.word (93 ∷ []) last.0));
      long = omega (arith, size);
      is = record { inside = run.word; spelled = refl; bytes = run.is.bytes; some = omega (arith, run.long, some); short = omega (arith, run.long, short) };
    }
