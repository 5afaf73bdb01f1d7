-- The first line of bytes.
use Rattle.std.proofs.Common.{◌≡◌, ℕ, ◌+◌, ◌<◌, ◌≤◌, Bool, true, false, cond, eqb, List, [], ◌∷◌, length, take, drop, position, Some, None, refl, sym, ap, ◌∙◌, arith, rules, tests, nat_lt}
use Rattle.std.specs.List.{slice_split, position_or_len, before_first, after_first, All}
use Rattle.std.specs.Str.Lines.{lines, lines_of_parts, strip_carriage_return}
use Rattle.std.proofs.lemmas.List.Splits.{slice_split_none, slice_split_first}
use Rattle.std.proofs.lemmas.List.Sums.{fails_before_first}
use Rattle.std.proofs.lemmas.Bool.Decides.{nat_tests}
use Rattle.std.proofs.lemmas.Option.{cond_some}
use Rattle.ct_script.proofs.Parts.{slice_split-some, lines_of_parts-cons}

-- with an LF: the line before it, and the lines after it
pub lines-Some : (bs line rest : List ℕ) (end : ℕ) → position (λ b. eqb b 10) bs ≡ Some end → line ≡ strip_carriage_return (take end bs) → rest ≡ drop (end + 1) bs → lines bs ≡ line ∷ lines rest
lines-Some bs line rest end found at after =
    let told = cond_some _ _ _ found in
    let place : position_or_len (λ b. eqb b 10) bs ≡ end = told.1 in
    let within : position_or_len (λ b. eqb b 10) bs < length bs = search (rules, told.0) in
    ap lines_of_parts (slice_split_first (λ b. eqb b 10) bs 0 within)
    ∙ lines_of_parts-cons (before_first (λ b. eqb b 10) bs) (slice_split (λ b. eqb b 10) (after_first (λ b. eqb b 10) bs)) (slice_split-some (λ b. eqb b 10) (after_first (λ b. eqb b 10) bs))
    ∙ ap (λ n. strip_carriage_return (take n bs) ∷ lines (drop (n + 1) bs)) place
    ∙ sym (ap (λ l. l ∷ lines (drop (end + 1) bs)) at)
    ∙ sym (ap (λ r. line ∷ lines r) after)

none_by : (b : Bool) (i : ℕ) → cond b (Some i) None ≡ None → b ≡ false
none_by true i h = cc
none_by false i h = refl

-- no byte is an LF where none is found
none_ends : (bs : List ℕ) → position (λ b. eqb b 10) bs ≡ None → All (λ b. eqb b 10 ≡ false) bs
none_ends bs none =
    let past : nat_lt (position_or_len (λ b. eqb b 10) bs) (length bs) ≡ false = none_by _ _ none in
    let all : length bs ≤ position_or_len (λ b. eqb b 10) bs = grind (arith, nat_tests) in
    λ k d within. fails_before_first (λ b. eqb b 10) bs k d (omega arith)

-- without one: the bytes are the line, and nothing is left
pub lines-None : (bs rest : List ℕ) → 0 < length bs → position (λ b. eqb b 10) bs ≡ None → rest ≡ [] → lines bs ≡ bs ∷ lines rest
lines-None bs rest some none ends =
    ap lines_of_parts (slice_split_none (λ b. eqb b 10) bs (none_ends bs none))
    ∙ whole bs some
    ∙ sym (ap (λ r. bs ∷ lines r) ends)
  where
    whole : (cs : List ℕ) → 0 < length cs → lines_of_parts (cs ∷ []) ≡ cs ∷ []
    whole [] h = absurd (omega arith)
    whole (c ∷ cs) h =
        let some : eqb (length (c ∷ cs)) 0 ≡ false = search (rules, tests) in
        ap (λ b. cond b [] ((c ∷ cs) ∷ [])) some
