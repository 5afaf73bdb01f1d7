-- What the outcome of a reader says, and how an outcome of one reader is an outcome of another.
use Rattle.std.proofs.Common.{◌≡◌, ℕ, suc, ◌<◌, ◌≤◌, ◌⊎◌, inl, inr, Bool, List, [], ◌∷◌, ◌++◌, length, Ok, Err, refl, ap, sym, ◌∙◌, subst, append_assoc, append-nil}
use Rattle.ct_grammar.specs.declared.fault.Fault.TheVariants.{Memory, Syntax, TooDeep}
use Rattle.ct_grammar.specs.Kinds.{Set}
use Rattle.ct_grammar.specs.Lexemes.{Lexeme}
use Rattle.ct_grammar.specs.Rules.{Rule}
use Rattle.ct_grammar.specs.Reading.{Outcome, Reader, and_then}
use Rattle.ct_grammar.proofs.FirstSets.{SameNext, same_next_behind, BeginsIn, NotNext}

abbrev pub Input : Type 0
Input = List Lexeme

-- ---- beginnings of spellings

-- with further lexemes, these spell some value
pub record Prefix {A : Type 0} (L : A → List Lexeme → Type 0) (used : List Lexeme) : Type 0 where
  pub value : A
  pub further : List Lexeme
  pub spelled : L value (used ++ further)

-- so, or no lexeme was used yet
abbrev pub EmptyOrPrefix : {A : Type 0} → (A → List Lexeme → Type 0) → List Lexeme → Type 0
EmptyOrPrefix L used = (used ≡ []) ⊎ Prefix L used

-- each spelling of the one rule begins a spelling of the other
abbrev pub Opens : {A B : Type 0} → Rule A → Rule B → Type 0
Opens L M = (a : _) (xs : Input) → L a xs → Prefix M xs

-- each spelling of a value by the one rule is one by the other
abbrev pub Includes : {A : Type 0} → Rule A → Rule A → Type 0
Includes L M = (a : _) (xs : Input) → L a xs → M a xs

pub whole_prefix : {A : Type 0} (L : Rule A) (a : A) (xs : Input) → L a xs → Prefix L xs
whole_prefix L a xs h = record { value = a; further = []; spelled = rw (append-nil xs) h }

pub prefix_opens : {A B : Type 0} (L : Rule A) (M : Rule B) → Opens L M → (used : Input) → Prefix L used → Prefix M used
prefix_opens L M opens used v =
    let w = opens v.value (used ++ v.further) v.spelled in
    record { value = w.value; further = v.further ++ w.further; spelled = subst (M w.value) (append_assoc used v.further w.further) w.spelled }

begun_opens : {A B : Type 0} (L : Rule A) (M : Rule B) → Opens L M → (used : Input) → EmptyOrPrefix L used → EmptyOrPrefix M used
begun_opens L M opens used (inl none) = inl none
begun_opens L M opens used (inr v) = inr (prefix_opens L M opens used v)

-- ---- what an outcome says

-- The lexemes that were used spell the value. The reader does the same whatever stands there, if the next lexeme is the same.
pub record Accepted {A : Type 0} (L : A → List Lexeme → Type 0) (p : Reader A) (input : List Lexeme) (value : A) (rest : List Lexeme) : Type 0 where
  pub used : List Lexeme
  pub split : input ≡ used ++ rest
  pub spelled : L value used
  pub stable : (other : List Lexeme) → SameNext rest other → p (used ++ other) ≡ Ok (value, other)

-- Spellings begin with the lexemes that were used, and the next is at fault, whatever stands behind it.
pub record Rejected {A : Type 0} (L : A → List Lexeme → Type 0) (p : Reader A) (input : List Lexeme) (count : ℕ) : Type 0 where
  pub used : List Lexeme
  pub rest : List Lexeme
  pub split : input ≡ used ++ rest
  pub count_is : count ≡ length rest
  pub begun : EmptyOrPrefix L used
  pub stable : (other : List Lexeme) → SameNext rest other → p (used ++ other) ≡ Err (Syntax (length other))

-- Spellings begin with the lexemes that were used; with the next one too, if one level more is allowed, which is what U allows.
pub record OutOfLevels {A : Type 0} (L U : A → List Lexeme → Type 0) (p : Reader A) (input : List Lexeme) : Type 0 where
  pub used : List Lexeme
  pub next : Lexeme
  pub rest : List Lexeme
  pub split : input ≡ used ++ next ∷ rest
  pub begun : EmptyOrPrefix L used
  pub deeper : Prefix U (used ++ next ∷ [])
  pub stable : (other : List Lexeme) → p (used ++ next ∷ other) ≡ Err TooDeep

-- the outcome is what the rule says of the input
abbrev pub Justified : {A : Type 0} → (L U : A → List Lexeme → Type 0) → Reader A → List Lexeme → Outcome A → Type 0
Justified L U p input (Ok x) = Accepted L p input x.0 x.1
Justified L U p input (Err Memory) = ⊥
Justified L U p input (Err (Syntax count)) = Rejected L p input count
Justified L U p input (Err TooDeep) = OutOfLevels L U p input

-- the value is found, unless more levels are needed than there are
abbrev pub Finds : {A : Type 0} → ℕ → ℕ → Outcome A → A → List Lexeme → Type 0
Finds have need outcome value rest = (outcome ≡ Ok (value, rest)) ⊎ ((have < need) × (outcome ≡ Err TooDeep))

-- ---- what is asked of a reader of a rule

-- how spellings begin, and that they stay spellings where one level more is allowed
pub record Opening {A : Type 0} (L U : A → List Lexeme → Type 0) (starts : Set) (empty : Bool) : Type 0 where
  pub begins : (a : A) (xs : List Lexeme) → L a xs → BeginsIn starts empty xs
  pub wider : (a : A) (xs : List Lexeme) → L a xs → U a xs

-- The reader p, which is for d levels, reads the rule L exactly. Spellings begin with one of `starts`; one of `goes` may continue them.
pub record ReadsRule {A : Type 0} (L : ℕ → A → List Lexeme → Type 0) (d : ℕ) (p : Reader A) (starts : Set) (empty : Bool) (goes : Set) : Type 0 where
  pub opening : (n : ℕ) → Opening (L n) (L (suc n)) starts empty
  pub justified : (input : List Lexeme) → Justified (L d) (L (suc d)) p input (p input)
  pub complete : (n : ℕ) (a : A) (xs rest : List Lexeme) → L n a xs → NotNext goes rest → Finds d n (p (xs ++ rest)) a rest

-- some value has a spelling, from d levels on
abbrev pub HasSpelling : {A : Type 0} → ℕ → (ℕ → A → List Lexeme → Type 0) → Type 0
HasSpelling d L = (n : ℕ) → d ≤ n → Prefix (L n) []

-- ---- an outcome of one reader as that of another

pub accepted_as : {A B : Type 0} {L : Rule A} {M : Rule B} {p : Reader A} {q : Reader B} {input : Input} {a : A} {b : B} {rest : Input} (w : Accepted L p input a rest) → M b w.used
    → ((other : Input) → SameNext rest other → p (w.used ++ other) ≡ Ok (a, other) → q (w.used ++ other) ≡ Ok (b, other)) → Accepted M q input b rest
accepted_as w spelled same = record { used = w.used; split = w.split; spelled = spelled; stable = λ other next. same other next (w.stable other next) }

pub rejected_as : {A B : Type 0} {L : Rule A} {M : Rule B} {p : Reader A} {q : Reader B} {input : Input} {count : ℕ} (w : Rejected L p input count) → Opens L M
    → ((other : Input) → SameNext w.rest other → p (w.used ++ other) ≡ Err (Syntax (length other)) → q (w.used ++ other) ≡ Err (Syntax (length other))) → Rejected M q input count
rejected_as {L = L} {M} w opens same = record {
  used = w.used;
  rest = w.rest;
  split = w.split;
  count_is = w.count_is;
  begun = begun_opens L M opens w.used w.begun;
  stable = λ other next. same other next (w.stable other next);
}

pub out_of_levels_as : {A B : Type 0} {L U : Rule A} {M V : Rule B} {p : Reader A} {q : Reader B} {input : Input} (w : OutOfLevels L U p input) → Opens L M → Opens U V
    → ((other : Input) → p (w.used ++ w.next ∷ other) ≡ Err TooDeep → q (w.used ++ w.next ∷ other) ≡ Err TooDeep) → OutOfLevels M V q input
out_of_levels_as {L = L} {U} {M} {V} w opens opens_deeper same = record {
  used = w.used;
  next = w.next;
  rest = w.rest;
  split = w.split;
  begun = begun_opens L M opens w.used w.begun;
  deeper = prefix_opens U V opens_deeper (w.used ++ w.next ∷ []) w.deeper;
  stable = λ other. same other (w.stable other);
}

pub next_of_split : (input used rest other : Input) → input ≡ used ++ rest → SameNext rest other → SameNext input (used ++ other)
next_of_split input used rest other split same = rw split (same_next_behind used rest other same)

-- another reader does the same where the next lexeme is the same, and what the rules spell other rules spell too
pub record Replaces {A : Type 0} (L U M V : A → List Lexeme → Type 0) (p q : Reader A) (input : List Lexeme) : Type 0 where
  pub spells : (a : A) (xs : List Lexeme) → L a xs → M a xs
  pub spells_deeper : (a : A) (xs : List Lexeme) → U a xs → V a xs
  pub same : (other : List Lexeme) → SameNext input other → q other ≡ p other

pub replaced : {A : Type 0} {L U M V : Rule A} {p q : Reader A} {input : Input} → Replaces L U M V p q input → (o : Outcome A) → Justified L U p input o → Justified M V q input o
replaced {input = input} r (Ok x) w = accepted_as w (r.spells x.0 w.used w.spelled) (λ other next e. r.same (w.used ++ other) (next_of_split input w.used x.1 other w.split next) ∙ e)
replaced r (Err Memory) w = absurd w
replaced {M = M} {input = input} r (Err (Syntax count)) w = rejected_as w (λ a xs h. whole_prefix M a xs (r.spells a xs h))
    (λ other next e. r.same (w.used ++ other) (next_of_split input w.used w.rest other w.split next) ∙ e)
replaced {M = M} {V} {input = input} r (Err TooDeep) w = out_of_levels_as w (λ a xs h. whole_prefix M a xs (r.spells a xs h)) (λ a xs h. whole_prefix V a xs (r.spells_deeper a xs h))
    (λ other e. r.same (w.used ++ w.next ∷ other) (next_of_split input w.used (w.next ∷ w.rest) (w.next ∷ other) w.split refl) ∙ e)

-- ---- one reading, and then another that depends on its value

-- q reads as p does, and then as f says
pub record Binds {A B : Type 0} (L U : A → List Lexeme → Type 0) (M V : B → List Lexeme → Type 0) (p : Reader A) (q : Reader B) (f : A → Reader B) (input : List Lexeme) : Type 0 where
  pub opens : (a : A) (xs : List Lexeme) → L a xs → Prefix M xs
  pub opens_deeper : (a : A) (xs : List Lexeme) → U a xs → Prefix V xs
  pub same : (other : List Lexeme) → SameNext input other → q other ≡ and_then (p other) f

-- the faults of p are faults of q
pub bound : {A B : Type 0} {L U : Rule A} {M V : Rule B} {p : Reader A} {q : Reader B} {f : A → Reader B} {input : Input} → Binds L U M V p q f input → (o : Outcome A) → Justified L U p input o
    → ((x : A × Input) → o ≡ Ok x → Accepted L p input x.0 x.1 → Justified M V q input (f x.0 x.1)) → Justified M V q input (and_then o f)
bound b (Ok x) w next = next x refl w
bound b (Err Memory) w next = absurd w
bound {f = f} {input} b (Err (Syntax count)) w next = rejected_as w b.opens
    (λ other alike e. b.same (w.used ++ other) (next_of_split input w.used w.rest other w.split alike) ∙ ap (λ o. and_then o f) e)
bound {f = f} {input} b (Err TooDeep) w next = out_of_levels_as w b.opens b.opens_deeper
    (λ other e. b.same (w.used ++ w.next ∷ other) (next_of_split input w.used (w.next ∷ w.rest) (w.next ∷ other) w.split refl) ∙ ap (λ o. and_then o f) e)

-- behind the lexemes that it used, r reads as q does
pub record Resumes {C : Type 0} (M V N W : C → List Lexeme → Type 0) (q r : Reader C) (input rest : List Lexeme) : Type 0 where
  pub used : List Lexeme
  pub split : input ≡ used ++ rest
  pub same : (other : List Lexeme) → SameNext rest other → r (used ++ other) ≡ q other
  pub spells : (c : C) (xs : List Lexeme) → M c xs → N c (used ++ xs)
  pub spells_deeper : (c : C) (xs : List Lexeme) → V c xs → W c (used ++ xs)
  pub begun : Prefix N used

further_split : (input used rest more last : Input) → input ≡ used ++ rest → rest ≡ more ++ last → input ≡ (used ++ more) ++ last
further_split input used rest more last outer inner = outer ∙ ap (λ z. used ++ z) inner ∙ sym (append_assoc used more last)

further_same : {C : Type 0} {M V N W : Rule C} {q r : Reader C} {input rest : Input} (s : Resumes M V N W q r input rest) (more last other : Input) → rest ≡ more ++ last → SameNext last other
    → r ((s.used ++ more) ++ other) ≡ q (more ++ other)
further_same {r = r} s more last other inner next = ap r (append_assoc s.used more other) ∙ s.same (more ++ other) (rw inner (same_next_behind more last other next))

further_begun : {C : Type 0} (M N : Rule C) (used more : Input) → ((c : C) (xs : Input) → M c xs → N c (used ++ xs)) → Prefix N used → EmptyOrPrefix M more → Prefix N (used ++ more)
further_begun M N used more spells begun (inl none) = rw (none, append-nil used) begun
further_begun M N used more spells begun (inr v) = record {
  value = v.value;
  further = v.further;
  spelled = subst (N v.value) (sym (append_assoc used more v.further)) (spells v.value (more ++ v.further) v.spelled);
}

-- what q says of the rest, r says of the whole
pub resumed : {C : Type 0} {M V N W : Rule C} {q r : Reader C} {input rest : Input} → Resumes M V N W q r input rest → (o : Outcome C) → Justified M V q rest o → Justified N W r input o
resumed {input = input} {rest} s (Ok x) w = record {
  used = s.used ++ w.used;
  split = further_split input s.used rest w.used x.1 s.split w.split;
  spelled = s.spells x.0 w.used w.spelled;
  stable = λ other next. further_same s w.used x.1 other w.split next ∙ w.stable other next;
}
resumed s (Err Memory) w = absurd w
resumed {M = M} {N = N} {input = input} {rest} s (Err (Syntax count)) w = record {
  used = s.used ++ w.used;
  rest = w.rest;
  split = further_split input s.used rest w.used w.rest s.split w.split;
  count_is = w.count_is;
  begun = inr (further_begun M N s.used w.used s.spells s.begun w.begun);
  stable = λ other next. further_same s w.used w.rest other w.split next ∙ w.stable other next;
}
resumed {M = M} {V} {N} {W} {input = input} {rest} s (Err TooDeep) w =
    let deeper : Prefix W (s.used ++ (w.used ++ w.next ∷ [])) = record {
      value = w.deeper.value;
      further = w.deeper.further;
      spelled = subst (W w.deeper.value) (sym (append_assoc s.used (w.used ++ w.next ∷ []) w.deeper.further)) (s.spells_deeper w.deeper.value ((w.used ++ w.next ∷ []) ++ w.deeper.further) w.deeper.spelled);
    } in
    record {
      used = s.used ++ w.used;
      next = w.next;
      rest = w.rest;
      split = further_split input s.used rest w.used (w.next ∷ w.rest) s.split w.split;
      begun = inr (further_begun M N s.used w.used s.spells s.begun w.begun);
      deeper = subst (Prefix W) (sym (append_assoc s.used w.used (w.next ∷ []))) deeper;
      stable = λ other. further_same s w.used (w.next ∷ w.rest) (w.next ∷ other) w.split refl ∙ w.stable other;
    }

-- ---- what is found

-- where the first reading finds its value, the whole finds what the second does
pub finds_then : {A B : Type 0} (d n : ℕ) (o : Outcome A) (a : A) (between : Input) (f : A → Reader B) (b : B) (rest : Input) → Finds d n o a between → Finds d n (f a between) b rest → Finds d n (and_then o f) b rest
finds_then d n o a between f b rest (inl e) h = subst (λ o. Finds d n (and_then o f) b rest) (sym e) h
finds_then d n o a between f b rest (inr deep) h = inr (deep.0, ap (λ o. and_then o f) deep.1)

-- an equal outcome
pub finds_equal : {A : Type 0} (d n : ℕ) (o other : Outcome A) (a : A) (rest : Input) → other ≡ o → Finds d n o a rest → Finds d n other a rest
finds_equal d n o other a rest e h = subst (λ o. Finds d n o a rest) (sym e) h
