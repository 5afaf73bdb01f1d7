-- Rules that begin with two or three tokens, each read as some value: which lexemes they match, and how far their readers go.
use Rattle.std.proofs.Common.{◌≡◌, inr, true, false, List, [], ◌∷◌, ◌++◌, Err, Ok, refl, arith}
use Rattle.std.proofs.Math.Bool.{and-false}
use Rattle.ct_grammar.specs.declared.fault.Fault.TheVariants.{Syntax}
use Rattle.ct_grammar.specs.Kinds.{Set, has, apart}
use Rattle.ct_grammar.specs.Lexemes.{Lexeme, sees, matches}
use Rattle.ct_grammar.specs.Rules.{token, ◌and◌, ◌of◌}
use Rattle.ct_grammar.specs.Reading.{Reader, expect, both, making}
use Rattle.ct_grammar.proofs.FirstSets.{BeginsIn, NotNext, end_not_next, both_true, apart_excludes}
use Rattle.ct_grammar.proofs.Outcomes.{Input}
use Rattle.ct_grammar.proofs.Sequences.{expect_takes, expect_misses, making_reads, making_fails, first_fails, second_fails}
use Rattle.ct_grammar.proofs.Lookahead.{ReachesEnd, Traverses, agree}

-- ---- which lexemes match

pub two_matched : {A B C : Type 0} (f : Lexeme → A) (g : Lexeme → B) (s r : Set) (M : C → List Lexeme → Type 0) (x : A × (B × C)) (xs rest : List Lexeme)
    → ((f of token s) and (g of token r) and M) x xs → matches (s ∷ r ∷ []) (xs ++ rest) ≡ true
unfolding matches
two_matched f g s r M x xs rest j =
    let one = j.first.spelled in
    let two = j.second.first.spelled in
    rw (j.cut, one.one, j.second.cut, two.one, one.kind, two.kind) refl

pub three_matched : {A B C : Type 0} (f : Lexeme → A) (g : Lexeme → B) (h : Lexeme → C) (s r q : Set) (x : A × (B × C)) (xs rest : List Lexeme)
    → ((f of token s) and (g of token r) and (h of token q)) x xs → matches (s ∷ r ∷ q ∷ []) (xs ++ rest) ≡ true
unfolding matches
three_matched f g h s r q x xs rest j =
    let one = j.first.spelled in
    let two = j.second.first.spelled in
    let three = j.second.second.spelled in
    rw (j.cut, one.one, j.second.cut, two.one, three.one, one.kind, two.kind, three.kind) refl

-- the first lexeme is another
pub first_unmatched : (s r other : Set) (xs rest : List Lexeme) → apart s other ≡ true → BeginsIn other false xs → matches (s ∷ r ∷ []) (xs ++ rest) ≡ false
unfolding matches
first_unmatched s r other [] rest clear begins = absurd cc
first_unmatched s r other (x ∷ xs) rest clear begins = let out : has s x.kind ≡ false = apart_excludes s other x.kind clear begins in rw out refl

behind_unmatched : (s r : Set) (x : Lexeme) (xs : Input) → NotNext r xs → matches (s ∷ r ∷ []) (x ∷ xs) ≡ false
unfolding matches sees
behind_unmatched s r x [] next = and-false (has s x.kind)
behind_unmatched s r x (y ∷ xs) next = rw next (and-false (has s x.kind))

-- what stands behind the first lexeme is another
pub second_unmatched : {A B : Type 0} (f : Lexeme → A) (s r first : Set) (M : B → List Lexeme → Type 0) (x : A × B) (xs rest : List Lexeme) → ((f of token first) and M) x xs
    → ((ys : List Lexeme) → M x.1 ys → NotNext r (ys ++ rest)) → matches (s ∷ r ∷ []) (xs ++ rest) ≡ false
unfolding matches sees
second_unmatched f s r first M x xs rest j another =
    rw (j.cut, j.first.spelled.one) (behind_unmatched s r j.first.from (j.back ++ rest) (another j.back j.second))

-- ---- how far readers go

first_agrees : (s : Set) (sets : List Set) (x : Lexeme) (xs : Input) → agree (s ∷ sets) (x ∷ xs) ≡ true → (has s x.kind ≡ true) × (agree sets xs ≡ true)
unfolding agree
first_agrees s sets x xs h = both_true (has s x.kind) (agree sets xs) h

-- a proper beginning of two lexemes is the first
pub traverses_two : {A : Type 0} (s r : Set) (p : Reader A) → ((x : Lexeme) → has s x.kind ≡ true → ReachesEnd p (x ∷ [])) → Traverses (s ∷ r ∷ []) p
traverses_two s r p one [] some fewer agreed = absurd (omega arith)
traverses_two s r p one (x ∷ []) some fewer agreed = one x ((first_agrees s (r ∷ []) x [] agreed).0)
traverses_two s r p one (x ∷ y ∷ xs) some fewer agreed = absurd (omega arith)

-- a proper beginning of three lexemes is the first, or the first two
pub traverses_three : {A : Type 0} (s r q : Set) (p : Reader A) → ((x : Lexeme) → has s x.kind ≡ true → ReachesEnd p (x ∷ []))
    → ((x y : Lexeme) → has s x.kind ≡ true → has r y.kind ≡ true → ReachesEnd p (x ∷ y ∷ [])) → Traverses (s ∷ r ∷ q ∷ []) p
traverses_three s r q p one two [] some fewer agreed = absurd (omega arith)
traverses_three s r q p one two (x ∷ []) some fewer agreed = one x ((first_agrees s (r ∷ q ∷ []) x [] agreed).0)
traverses_three s r q p one two (x ∷ y ∷ []) some fewer agreed =
    let first = first_agrees s (r ∷ q ∷ []) x (y ∷ []) agreed in
    two x y first.0 ((first_agrees r (q ∷ []) y [] first.1).0)
traverses_three s r q p one two (x ∷ y ∷ z ∷ xs) some fewer agreed = absurd (omega arith)

-- a token is missing at the end
missing : {A : Type 0} (f : Lexeme → A) (s : Set) → making f (expect s) [] ≡ Err (Syntax 0)
missing f s = making_fails f (expect s) [] (Syntax 0) (expect_misses s [] (end_not_next s))

taken_as : {A : Type 0} (f : Lexeme → A) (s : Set) (x : Lexeme) (xs : Input) → has s x.kind ≡ true → making f (expect s) (x ∷ xs) ≡ Ok (f x, xs)
taken_as f s x xs hit = making_reads f (expect s) (x ∷ xs) xs x (expect_takes s x xs hit)

-- a reader that begins with two tokens goes to the end of the first
pub first_reached : {A B C D : Type 0} (m : A × (B × C) → D) (f : Lexeme → A) (g : Lexeme → B) (s r : Set) (p : Reader C) (x : Lexeme) → has s x.kind ≡ true
    → ReachesEnd (making m (both (making f (expect s)) (both (making g (expect r)) p))) (x ∷ [])
first_reached m f g s r p x hit =
    let behind : both (making g (expect r)) p [] ≡ Err (Syntax 0) = first_fails (making g (expect r)) p [] (Syntax 0) (missing g r) in
    inr (making_fails m (both (making f (expect s)) (both (making g (expect r)) p)) (x ∷ []) (Syntax 0)
    (second_fails (making f (expect s)) (both (making g (expect r)) p) (x ∷ []) [] (f x) (Syntax 0) (taken_as f s x [] hit) behind))

-- a reader of three tokens goes to the end of the first two
pub second_reached : {A B C D : Type 0} (m : A × (B × C) → D) (f : Lexeme → A) (g : Lexeme → B) (h : Lexeme → C) (s r q : Set) (x y : Lexeme) → has s x.kind ≡ true → has r y.kind ≡ true
    → ReachesEnd (making m (both (making f (expect s)) (both (making g (expect r)) (making h (expect q))))) (x ∷ y ∷ [])
second_reached m f g h s r q x y first second =
    let last = making h (expect q) in
    let behind : both (making g (expect r)) last (y ∷ []) ≡ Err (Syntax 0) = second_fails (making g (expect r)) last (y ∷ []) [] (g y) (Syntax 0) (taken_as g r y [] second) (missing h q) in
    inr (making_fails m (both (making f (expect s)) (both (making g (expect r)) last)) (x ∷ y ∷ []) (Syntax 0)
    (second_fails (making f (expect s)) (both (making g (expect r)) last) (x ∷ y ∷ []) (y ∷ []) (f x) (Syntax 0) (taken_as f s x (y ∷ []) first) behind))
