-- One rule or another, where several lexemes ahead tell which.
use Rattle.std.proofs.Common.{◌≡◌, ℕ, suc, ◌<◌, ◌≤◌, ◌⊎◌, inl, inr, Bool, true, false, ◌&&◌, if◌then◌else◌, List, [], ◌∷◌, ◌++◌, length, Ok, Err, refl, ap, sym, ◌∙◌, subst, append_assoc, append-nil, length-append, arith}
use Rattle.std.proofs.lemmas.Bool.{cases_lt}
use Rattle.ct_grammar.specs.declared.fault.Fault.TheVariants.{Memory, Syntax, TooDeep}
use Rattle.ct_grammar.specs.Kinds.{Set, has}
use Rattle.ct_grammar.specs.Lexemes.{Lexeme, matches}
use Rattle.ct_grammar.specs.Rules.{Rule, ◌or◌}
use Rattle.ct_grammar.specs.Reading.{Outcome, Reader, ahead}
use Rattle.ct_grammar.proofs.FirstSets.{SameNext, true_or_false, NotNext, neither_next, end_not_next}
use Rattle.ct_grammar.proofs.Outcomes.{Input, Prefix, whole_prefix, Accepted, Justified, Finds, Opening, ReadsRule, accepted_as, rejected_as, out_of_levels_as, Replaces, replaced}
use Rattle.ct_grammar.proofs.Choices.{shape_or, spelled_left, spelled_right}

-- ---- how far a reader goes

-- the reader uses all of the lexemes, and no fault lies before their end
abbrev pub ReachesEnd : {A : Type 0} → Reader A → List Lexeme → Type 0
ReachesEnd p xs = ((a : _) × (p xs ≡ Ok (a, []))) ⊎ (p xs ≡ Err (Syntax 0))

-- the outcome comes before all lexemes are used
abbrev Early : {A : Type 0} → Outcome A → Type 0
Early (Ok x) = 0 < length x.1
Early (Err (Syntax count)) = 0 < count
Early (Err _) = Unit {0}

early_short_of_end : {A : Type 0} (p : Reader A) (xs : Input) (o : Outcome A) → p xs ≡ o → Early o → ReachesEnd p xs → ⊥
early_short_of_end p xs o e early (inl whole) = (let none : 0 < 0 = subst Early (sym e ∙ whole.1) early in omega (arith, none))
early_short_of_end p xs o e early (inr at_end) = (let none : 0 < 0 = subst Early (sym e ∙ at_end) early in omega (arith, none))

accepted_to_end : {A : Type 0} (L : Rule A) (p : Reader A) (xs further : Input) (value : A) → p (xs ++ further) ≡ Ok (value, []) → (a : A) (rest : Input) → p xs ≡ Ok (a, rest) → Accepted L p xs a rest → ReachesEnd p xs
accepted_to_end L p xs further value whole a [] e w = inl (a, e)
accepted_to_end L p xs further value whole a (u ∷ rest) e w =
    let longer : p (xs ++ further) ≡ Ok (a, u ∷ (rest ++ further)) = ap (λ z. p (z ++ further)) w.split ∙ ap p (append_assoc w.used (u ∷ rest) further) ∙ w.stable (u ∷ (rest ++ further)) refl in
    absurd (early_short_of_end p (xs ++ further) (Ok (a, u ∷ (rest ++ further))) longer (omega arith) (inl (value, whole)))

rejected_at_end : {A : Type 0} (p : Reader A) (xs further : Input) (value : A) → p (xs ++ further) ≡ Ok (value, []) → (count : ℕ) (used rest : Input) → p xs ≡ Err (Syntax count) → xs ≡ used ++ rest → count ≡ length rest
    → ((other : Input) → SameNext rest other → p (used ++ other) ≡ Err (Syntax (length other))) → ReachesEnd p xs
rejected_at_end p xs further value whole count used [] e split count_is stable = inr (e ∙ ap (λ n. Err (Syntax n)) count_is)
rejected_at_end p xs further value whole count used (u ∷ rest) e split count_is stable =
    let longer : p (xs ++ further) ≡ Err (Syntax (length (u ∷ (rest ++ further)))) = ap (λ z. p (z ++ further)) split ∙ ap p (append_assoc used (u ∷ rest) further) ∙ stable (u ∷ (rest ++ further)) refl in
    absurd (early_short_of_end p (xs ++ further) (Err (Syntax (length (u ∷ (rest ++ further))))) longer (omega arith) (inl (value, whole)))

justified_to_end : {A : Type 0} (L U : Rule A) (p : Reader A) (xs further : Input) (value : A) → p (xs ++ further) ≡ Ok (value, []) → (o : Outcome A) → p xs ≡ o → Justified L U p xs o → ReachesEnd p xs
justified_to_end L U p xs further value whole (Ok x) e w = accepted_to_end L p xs further value whole x.0 x.1 e w
justified_to_end L U p xs further value whole (Err Memory) e w = absurd w
justified_to_end L U p xs further value whole (Err (Syntax count)) e w = rejected_at_end p xs further value whole count w.used w.rest e w.split w.count_is w.stable
justified_to_end L U p xs further value whole (Err TooDeep) e w =
    let longer : p (xs ++ further) ≡ Err TooDeep = ap (λ z. p (z ++ further)) w.split ∙ ap p (append_assoc w.used (w.next ∷ w.rest) further) ∙ w.stable (w.rest ++ further) in
    absurd (early_short_of_end p (xs ++ further) (Err TooDeep) longer tt (inl (value, whole)))

whole_spelling : {A : Type 0} (p : Reader A) (d : ℕ) (xs : Input) (value : A) → Finds d d (p (xs ++ [])) value [] → p xs ≡ Ok (value, [])
whole_spelling p d xs value (inl e) = ap p (sym (append-nil xs)) ∙ e
whole_spelling p d xs value (inr deep) = absurd (omega (arith, deep.0))

-- what begins a spelling is read to its end
pub prefix_reaches_end : {A : Type 0} (L : ℕ → Rule A) (d : ℕ) (p : Reader A) (s : Set) (e : Bool) (g : Set) → ReadsRule L d p s e g → (xs : List Lexeme) → Prefix (L d) xs → ReachesEnd p xs
prefix_reaches_end L d p s e g w xs v =
    justified_to_end (L d) (L (suc d)) p xs v.further v.value (whole_spelling p d (xs ++ v.further) v.value (w.complete d v.value (xs ++ v.further) [] v.spelled (end_not_next g))) (p xs) refl (w.justified xs)

-- ---- lexemes of given sets

-- the lexemes are of the sets, one after another, as far as there are both
unfoldable pub agree : List Set → List Lexeme → Bool
agree [] xs = true
agree (s ∷ sets) [] = true
agree (s ∷ sets) (x ∷ xs) = has s x.kind && agree sets xs

disagree_on : (sets : List Set) (xs more : Input) → agree sets xs ≡ false → matches sets (xs ++ more) ≡ false
unfolding agree matches
disagree_on [] xs more h = absurd cc
disagree_on (s ∷ sets) [] more h = absurd cc
disagree_on (s ∷ sets) (x ∷ xs) more h = elim (true_or_false (has s x.kind)) [
  | inl hit ↦ (let others : agree sets xs ≡ false = subst (λ b. b && agree sets xs ≡ false) hit h in rw (hit, disagree_on sets xs more others) refl)
  | inr miss ↦ rw miss refl
]

-- as many lexemes as there are sets decide
enough_decides : (sets : List Set) (used xs ys : Input) → SameNext xs ys → length sets ≤ suc (length used) → matches sets (used ++ xs) ≡ matches sets (used ++ ys)
unfolding matches
enough_decides [] used xs ys same enough = refl
enough_decides (s ∷ sets) (u ∷ used) xs ys same enough = ap (λ b. has s u.kind && b) (enough_decides sets used xs ys same (omega arith))
enough_decides (s ∷ r ∷ sets) [] xs ys same enough = absurd (omega arith)
enough_decides (s ∷ []) [] [] [] same enough = refl
enough_decides (s ∷ []) [] [] (y ∷ ys) same enough = absurd same
enough_decides (s ∷ []) [] (x ∷ xs) [] same enough = absurd same
enough_decides (s ∷ []) [] (x ∷ xs) (y ∷ ys) same enough = ap (λ (t : Lexeme). has s t.kind && true) same

-- a proper beginning of what the sets ask for is read to its end
abbrev pub Traverses : {A : Type 0} → List Set → Reader A → Type 0
Traverses sets p = (xs : List Lexeme) → 0 < length xs → length xs < length sets → agree sets xs ≡ true → ReachesEnd p xs

-- where p does not reach the end of one lexeme more, what stands behind that lexeme does not change the choice
choice_stays : {A : Type 0} (sets : List Set) (p : Reader A) → Traverses sets p → (used rest other : Input) → ((u : Lexeme) (more : Input) → rest ≡ u ∷ more → ReachesEnd p (used ++ u ∷ []) → ⊥) → SameNext rest other
    → matches sets (used ++ other) ≡ matches sets (used ++ rest)
choice_stays sets p traverses used [] [] short same = refl
choice_stays sets p traverses used [] (v ∷ other) short same = absurd same
choice_stays sets p traverses used (u ∷ rest) [] short same = absurd same
choice_stays sets p traverses used (u ∷ rest) (v ∷ other) short same =
    let long : length (used ++ u ∷ []) ≡ suc (length used) = omega (arith, length-append used (u ∷ [])) in
    elim (cases_lt (suc (length used)) (length sets)) [
      | inr enough ↦ sym (enough_decides sets used (u ∷ rest) (v ∷ other) same enough)
      | inl fewer ↦ (elim (true_or_false (agree sets (used ++ u ∷ []))) [
        | inl agreed ↦ absurd (short u rest refl (traverses (used ++ u ∷ []) (omega (arith, long)) (omega (arith, long)) agreed))
        | inr out ↦ (
            let not_other : matches sets (used ++ u ∷ other) ≡ false = ap (matches sets) (sym (append_assoc used (u ∷ []) other)) ∙ disagree_on sets (used ++ u ∷ []) other out in
            let not_rest : matches sets (used ++ u ∷ rest) ≡ false = ap (matches sets) (sym (append_assoc used (u ∷ []) rest)) ∙ disagree_on sets (used ++ u ∷ []) rest out in
            ap (λ (z : Lexeme). matches sets (used ++ z ∷ other)) (sym same) ∙ not_other ∙ sym not_rest)
      ])
    ]

-- ---- the choice

-- q does what p does wherever the sets choose as for the input
record ChosenBy {A : Type 0} (sets : List Set) (L U M V : A → List Lexeme → Type 0) (p q : Reader A) (input : List Lexeme) : Type 0 where
  pub spells : (a : A) (xs : List Lexeme) → L a xs → M a xs
  pub spells_deeper : (a : A) (xs : List Lexeme) → U a xs → V a xs
  pub traverses : Traverses sets p
  pub same : (other : List Lexeme) → matches sets other ≡ matches sets input → q other ≡ p other

chosen_same : {A : Type 0} {sets : List Set} {L U M V : Rule A} {p q : Reader A} {input : Input} (c : ChosenBy sets L U M V p q input) (used rest other : Input) → input ≡ used ++ rest
    → ((u : Lexeme) (more : Input) → rest ≡ u ∷ more → ReachesEnd p (used ++ u ∷ []) → ⊥) → SameNext rest other → q (used ++ other) ≡ p (used ++ other)
chosen_same {sets = sets} {p = p} c used rest other split short same = c.same (used ++ other) (choice_stays sets p c.traverses used rest other short same ∙ ap (matches sets) (sym split))

chosen : {A : Type 0} {sets : List Set} {L U M V : Rule A} {p q : Reader A} {input : Input} → ChosenBy sets L U M V p q input → (o : Outcome A) → Justified L U p input o → Justified M V q input o
chosen {p = p} c (Ok x) w = accepted_as w (c.spells x.0 w.used w.spelled) (λ other next e.
    chosen_same c w.used x.1 other w.split (λ u more is. early_short_of_end p (w.used ++ u ∷ []) (Ok (x.0, u ∷ [])) (w.stable (u ∷ []) (rw is refl)) (omega arith)) next ∙ e)
chosen c (Err Memory) w = absurd w
chosen {M = M} {p = p} c (Err (Syntax count)) w = rejected_as w (λ a xs h. whole_prefix M a xs (c.spells a xs h)) (λ other next e.
    chosen_same c w.used w.rest other w.split (λ u more is. early_short_of_end p (w.used ++ u ∷ []) (Err (Syntax 1)) (w.stable (u ∷ []) (rw is refl)) (omega arith)) next ∙ e)
chosen {M = M} {V} {p = p} c (Err TooDeep) w = out_of_levels_as w (λ a xs h. whole_prefix M a xs (c.spells a xs h)) (λ a xs h. whole_prefix V a xs (c.spells_deeper a xs h)) (λ other e.
    chosen_same c w.used (w.next ∷ w.rest) (w.next ∷ other) w.split
    (λ u more is. (let same : w.next ≡ u = cc in early_short_of_end p (w.used ++ u ∷ []) (Err TooDeep) (rw (← same) (w.stable [])) tt)) refl ∙ e)

ahead_justified : {A : Type 0} (L U M V : Rule A) (sets : List Set) (p q : Reader A) (input : Input) → Traverses sets p → Traverses sets q → (matches sets input ≡ true → Justified (L or M) (U or V) p input (p input))
    → Justified M V q input (q input) → (b : Bool) → matches sets input ≡ b → Justified (L or M) (U or V) (ahead sets p q) input (if b then p input else q input)
ahead_justified L U M V sets p q input traverses others w v true h =
    let here : ChosenBy sets (L or M) (U or V) (L or M) (U or V) p (ahead sets p q) input = record {
      spells = λ a xs j. j;
      spells_deeper = λ a xs j. j;
      traverses = traverses;
      same = λ other alike. ap (λ b. if b then p other else q other) (alike ∙ h);
    } in
    chosen here (p input) (w h)
ahead_justified L U M V sets p q input traverses others w v false h =
    let there : ChosenBy sets M V (L or M) (U or V) q (ahead sets p q) input = record {
      spells = spelled_right L M;
      spells_deeper = spelled_right U V;
      traverses = others;
      same = λ other alike. ap (λ b. if b then p other else q other) (alike ∙ h);
    } in
    chosen there (q input) v

-- What is asked of a reader that is tried only where lexemes of the sets come next, and else others read the rule M.
pub record ReadsRuleAhead {A : Type 0} (sets : List Set) (L M : ℕ → A → List Lexeme → Type 0) (d : ℕ) (p : Reader A) (starts goes : Set) : Type 0 where
  pub opening : (n : ℕ) → Opening (L n) (L (suc n)) starts false
  pub justified : (input : List Lexeme) → matches sets input ≡ true → Justified (L d or M d) (L (suc d) or M (suc d)) p input (p input)
  pub complete : (n : ℕ) (a : A) (xs rest : List Lexeme) → L n a xs → NotNext goes rest → Finds d n (p (xs ++ rest)) a rest
  pub traverses : Traverses sets p
  pub matched : (n : ℕ) (a : A) (xs rest : List Lexeme) → L n a xs → matches sets (xs ++ rest) ≡ true

pub reads_ahead : {A : Type 0} (sets : List Set) (L M : ℕ → Rule A) (d : ℕ) (p : Reader A) (s g : Set) → Traverses sets p → ((n : ℕ) (a : A) (xs rest : List Lexeme) → L n a xs → matches sets (xs ++ rest) ≡ true)
    → ReadsRule L d p s false g → ReadsRuleAhead sets L M d p s g
reads_ahead sets L M d p s g traverses matched w = record {
  opening = w.opening;
  justified = λ input _. (
      let left : Replaces (L d) (L (suc d)) (L d or M d) (L (suc d) or M (suc d)) p p input = record { spells = spelled_left (L d) (M d); spells_deeper = spelled_left (L (suc d)) (M (suc d)); same = λ other _. refl } in
      replaced left (p input) (w.justified input));
  complete = w.complete;
  traverses = traverses;
  matched = matched;
}

pub law_ahead : {A : Type 0} (L M : ℕ → Rule A) (d : ℕ) (sets : List Set) (p q : Reader A) (s r g h k : Set) → ((n : ℕ) (a : A) (xs rest : List Lexeme) → M n a xs → NotNext k rest → matches sets (xs ++ rest) ≡ false)
    → Traverses sets q → ReadsRuleAhead sets L M d p s g → ReadsRule M d q r false h → ReadsRule (λ n. L n or M n) d (ahead sets p q) (s ++ r) false (g ++ (k ++ h))
law_ahead L M d sets p q s r g h k unmatched others w v = record {
  opening = λ n. shape_or (w.opening n) (v.opening n);
  justified = λ input. ahead_justified (L d) (L (suc d)) (M d) (M (suc d)) sets p q input w.traverses others (w.justified input) (v.justified input) (matches sets input) refl;
  complete = λ n a xs rest j next.
      let first = neither_next g (k ++ h) rest next in
      let second = neither_next k h rest first.1 in
      let found = λ (b : Bool). Finds d n (if b then p (xs ++ rest) else q (xs ++ rest)) a rest in
      elim j [
        | inl l ↦ subst found (sym (w.matched n a xs rest l)) (w.complete n a xs rest l first.0)
        | inr m ↦ subst found (sym (unmatched n a xs rest m second.0)) (v.complete n a xs rest m second.1)
      ];
}
