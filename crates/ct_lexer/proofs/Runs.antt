-- The longest run of bytes of one class at the front of some bytes.
use Rattle.std.proofs.Common.{◌≡◌, ℕ, ◌+◌, Bool, true, false, cond, List, [], ◌∷◌, ◌++◌, length, refl, ap, ◌∙◌, arith}
use Rattle.std.specs.List.{prefix_len}
use Rattle.std.proofs.lemmas.Bool.{cond-true, cond-false}
use Rattle.std.proofs.lemmas.List.Elements.{All-nil, All-cons, All-head, All-tail}
use Rattle.ct_lexer.specs.declared.byte.ByteClass.{ByteClass}
use Rattle.ct_lexer.specs.Bytes.{belongs, AllOf, Stops}
use Rattle.ct_lexer.specs.Scanning.{Begins}

-- bytes of the class, and no more of them behind
pub record IsRun (class : ByteClass) (word more : List ℕ) : Type 0 where
  pub bytes : AllOf class word
  pub whole : Stops class more

-- the longest run is as long as any run is
pub run_size : (class : ByteClass) (word more : List ℕ) → AllOf class word → Stops class more → prefix_len (belongs class) (word ++ more) ≡ length word
run_size class [] [] each stops = refl
run_size class [] (b ∷ more) each stops = cond-false (belongs class b) (1 + prefix_len (belongs class) more) 0 stops
run_size class (b ∷ word) more each stops =
    let P : ℕ → Type 0 = λ b. belongs class b ≡ true in
    let first : belongs class b ≡ true = All-head P b word each in
    let rest : prefix_len (belongs class) (word ++ more) ≡ length word = run_size class word more (All-tail P b word each) stops in
    cond-true (belongs class b) (1 + prefix_len (belongs class) (word ++ more)) 0 first ∙ omega (arith, rest)

-- the longest run at the front
longer : (class : ByteClass) (b : ℕ) (bytes : List ℕ) → belongs class b ≡ true → Begins (IsRun class) bytes (prefix_len (belongs class) bytes) → Begins (IsRun class) (b ∷ bytes) (1 + prefix_len (belongs class) bytes)
longer class b bytes first run = record {
  word = b ∷ run.word;
  more = run.more;
  cut = ap (λ z. b ∷ z) run.cut;
  long = omega (arith, run.long);
  is = record { bytes = let P : ℕ → Type 0 = λ b. belongs class b ≡ true in All-cons P b run.word first run.is.bytes; whole = run.is.whole };
}

none : (class : ByteClass) (more : List ℕ) → Stops class more → Begins (IsRun class) more 0
none class more stops = record {
  word = [];
  more = more;
  cut = refl;
  long = refl;
  is = record { bytes = let P : ℕ → Type 0 = λ b. belongs class b ≡ true in All-nil P; whole = stops };
}

one_on : (class : ByteClass) (b : ℕ) (bytes : List ℕ) (passes : Bool) → belongs class b ≡ passes → Begins (IsRun class) bytes (prefix_len (belongs class) bytes)
    → Begins (IsRun class) (b ∷ bytes) (cond passes (1 + prefix_len (belongs class) bytes) 0)
one_on class b bytes true e run = longer class b bytes e run
one_on class b bytes false e run = none class (b ∷ bytes) e

pub front_run : (class : ByteClass) (bytes : List ℕ) → Begins (IsRun class) bytes (prefix_len (belongs class) bytes)
front_run class [] = none class [] refl
front_run class (b ∷ bytes) = one_on class b bytes (belongs class b) refl (front_run class bytes)
