-- A list cut at each element that passes a test, and the lines of bytes by such cuts.
use Rattle.std.proofs.Common.{◌≡◌, ℕ, ◌+◌, ◌-◌, ◌<◌, Bool, true, false, cond, eqb, suc, List, [], ◌∷◌, ◌++◌, length, get_or, map, take, drop, refl, sym, ap, subst, ◌∙◌, arith}
use Rattle.std.specs.Prelude.{◌≢◌}
use Rattle.std.specs.List.{slice_split, onto_first, flat_map, join_with_byte, AllByRecursion}
use Rattle.std.specs.Str.{IsUtf8}
use Rattle.std.specs.Str.Lines.{lines, lines_of_parts, strip_carriage_return}
use Rattle.std.proofs.lemmas.Grind.{common_steps}
use Rattle.std.proofs.lemmas.List.{append-nil}
use Rattle.std.proofs.lemmas.List.Splits.{slice_split-cons_yes, slice_split-cons_no, join_with_byte-slice_split}
use Rattle.std.proofs.lemmas.Str.{IsUtf8-take, IsUtf8-drop, IsCharBoundary-before_ascii, IsCharBoundary-after_ascii}
use Rattle.std.proofs.lemmas.Bool.Decides.{nat_tests}
use Rattle.ct_script.specs.Plain.{last_byte, text_lines}

-- a list that is not empty, by its first and the rest
abbrev pub HasFirst : {X : Type 0} → List X → Type 0
HasFirst {X} xs = (x : X) × (more : List X) × (xs ≡ x ∷ more)

module _ {X : Type 0} (p : X → Bool) where
  onto_first-some : (x : X) (parts : List (List X)) → HasFirst (onto_first x parts)
  onto_first-some x [] = (x ∷ [], [], refl)
  onto_first-some x (part ∷ parts) = (x ∷ part, parts, refl)

  -- there is a first part
  pub slice_split-some : (xs : List X) → HasFirst (slice_split p xs)
  slice_split-some [] = ([], [], refl)
  slice_split-some (x ∷ xs) = by (p x)
    where
      by : (b : Bool) → HasFirst (cond b ([] ∷ slice_split p xs) (onto_first x (slice_split p xs)))
      by true = ([], slice_split p xs, refl)
      by false = onto_first-some x (slice_split p xs)

  onto_first-append : (x : X) (parts more : List (List X)) → HasFirst parts → onto_first x (parts ++ more) ≡ onto_first x parts ++ more
  onto_first-append x [] more (q, rest, e) = cc
  onto_first-append x (part ∷ parts) more some = refl

  -- the parts of both sides of an element that passes
  pub slice_split-append : (xs : List X) (y : X) (ys : List X) → p y ≡ true → slice_split p (xs ++ y ∷ ys) ≡ slice_split p xs ++ slice_split p ys
  slice_split-append [] y ys passes = slice_split-cons_yes p y ys passes
  slice_split-append (x ∷ xs) y ys passes = by (p x) (slice_split-append xs y ys passes)
    where
      by : (b : Bool) → slice_split p (xs ++ y ∷ ys) ≡ slice_split p xs ++ slice_split p ys
          → cond b ([] ∷ slice_split p (xs ++ y ∷ ys)) (onto_first x (slice_split p (xs ++ y ∷ ys))) ≡ cond b ([] ∷ slice_split p xs) (onto_first x (slice_split p xs)) ++ slice_split p ys
      by true e = ap (λ l. [] ∷ l) e
      by false e = ap (onto_first x) e ∙ onto_first-append x (slice_split p xs) (slice_split p ys) (slice_split-some xs)

  -- elements that fail stand in front of the first part
  pub slice_split-front : (front xs part : List X) (parts : List (List X)) → AllByRecursion (λ x. p x ≡ false) front → slice_split p xs ≡ part ∷ parts → slice_split p (front ++ xs) ≡ (front ++ part) ∷ parts
  slice_split-front [] xs part parts fail e = e
  slice_split-front (x ∷ front) xs part parts fail e = slice_split-cons_no p x (front ++ xs) fail.0 ∙ ap (onto_first x) (slice_split-front front xs part parts fail.1 e)

join_with_byte-cons : (c : ℕ) (part : List ℕ) (parts : List (List ℕ)) → join_with_byte c (part ∷ parts) ≡ part ++ flat_map (λ l. c ∷ l) parts
join_with_byte-cons c part [] = sym (append-nil part)
join_with_byte-cons c part (next ∷ parts) = ap (λ l. part ++ c ∷ l) (join_with_byte-cons c next parts)

-- a text is its first line, and each further one behind an LF
pub text-lines : (text part : List ℕ) (parts : List (List ℕ)) → text_lines text ≡ part ∷ parts → text ≡ part ++ flat_map (λ l. 10 ∷ l) parts
text-lines text part parts e = sym (join_with_byte-slice_split 10 text) ∙ ap (join_with_byte 10) e ∙ join_with_byte-cons 10 part parts

-- what stands before and behind an element
pub take-before : {X : Type 0} (xs ys : List X) → take (length xs) (xs ++ ys) ≡ xs
take-before xs ys = grind (arith, common_steps)

pub drop-past : {X : Type 0} (xs : List X) (y : X) (ys : List X) → drop (length xs + 1) (xs ++ y ∷ ys) ≡ ys
drop-past [] y ys = refl
drop-past (x ∷ xs) y ys =
    let count : length (x ∷ xs) + 1 ≡ suc (length xs + 1) = omega arith in
    ap (λ n. drop n (x ∷ xs ++ y ∷ ys)) count ∙ drop-past xs y ys

-- both sides of an ASCII byte are UTF-8
pub IsUtf8-around : (xs : List ℕ) (c : ℕ) (ys : List ℕ) → c < 128 → IsUtf8 (xs ++ c ∷ ys) → IsUtf8 xs × IsUtf8 ys
IsUtf8-around xs c ys low utf8 =
    let at : get_or (xs ++ c ∷ ys) (length xs) 0 ≡ c = grind (arith, common_steps) in
    let within : length xs < length (xs ++ c ∷ ys) = grind (arith, common_steps) in (
      subst IsUtf8 (take-before xs (c ∷ ys)) (IsUtf8-take _ (length xs) utf8 (IsCharBoundary-before_ascii _ (length xs) within (omega arith))),
      subst IsUtf8 (drop-past xs c ys) (IsUtf8-drop _ (length xs + 1) utf8 (IsCharBoundary-after_ascii _ (length xs) utf8 within (omega arith))),
    )

pub IsUtf8-parts : (part : List ℕ) (parts : List (List ℕ)) → IsUtf8 (part ++ flat_map (λ l. 10 ∷ l) parts) → IsUtf8 part × AllByRecursion IsUtf8 parts
IsUtf8-parts part [] utf8 = (subst IsUtf8 (append-nil part) utf8, tt)
IsUtf8-parts part (next ∷ parts) utf8 =
    let around = IsUtf8-around part 10 (next ++ flat_map (λ l. 10 ∷ l) parts) (omega arith) utf8 in
    (around.0, IsUtf8-parts next parts around.1)

-- one more part than the last
pub lines_of_parts-cons : (x : List ℕ) (parts : List (List ℕ)) → HasFirst parts → lines_of_parts (x ∷ parts) ≡ strip_carriage_return x ∷ lines_of_parts parts
lines_of_parts-cons x parts (p, more, e) =
    ap (λ ps. lines_of_parts (x ∷ ps)) e ∙ sym (ap (λ ps. strip_carriage_return x ∷ lines_of_parts ps) e)

HasFirst-append : {X : Type 0} (xs ys : List X) → HasFirst ys → HasFirst (xs ++ ys)
HasFirst-append [] ys some = some
HasFirst-append (x ∷ xs) ys some = (x, xs ++ ys, refl)

lines_of_parts-append : (xs ys : List (List ℕ)) → HasFirst ys → lines_of_parts (xs ++ ys) ≡ map strip_carriage_return xs ++ lines_of_parts ys
lines_of_parts-append [] ys some = refl
lines_of_parts-append (x ∷ xs) ys some =
    lines_of_parts-cons x (xs ++ ys) (HasFirst-append xs ys some) ∙ ap (λ l. strip_carriage_return x ∷ l) (lines_of_parts-append xs ys some)

-- the lines of a text that ends in an LF, before those of what follows
pub lines-append : (text rest : List ℕ) → lines (text ++ 10 ∷ rest) ≡ map strip_carriage_return (text_lines text) ++ lines rest
lines-append text rest =
    ap lines_of_parts (slice_split-append (λ b. eqb b 10) text 10 rest refl)
    ∙ lines_of_parts-append (text_lines text) (text_lines rest) (slice_split-some (λ b. eqb b 10) rest)

-- a line with no CR at its end
pub strip_carriage_return-other : (line : List ℕ) → last_byte line ≢ 13 → strip_carriage_return line ≡ line
strip_carriage_return-other line other =
    let test : eqb (last_byte line) 13 ≡ false = grind (arith, nat_tests) in
    ap (λ b. cond b (take (length line - 1) line) line) test

-- the last byte is that of the end
pub last_byte-append : (xs : List ℕ) (y : ℕ) (ys : List ℕ) → last_byte (xs ++ y ∷ ys) ≡ last_byte (y ∷ ys)
last_byte-append xs y ys = grind (arith, common_steps)
