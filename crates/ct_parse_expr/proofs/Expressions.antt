-- The laws of the rules of expressions.
use Rattle.std.proofs.Common.{◌≡◌, ℕ, zero, suc, ◌<◌, inl, inr, true, false, List, [], ◌∷◌, ◌++◌, None, refl, arith}
use Rattle.ct_types.specs.declared.expr.Expr.{Expr}
use Rattle.ct_types.specs.declared.expr.Expr.TheVariants as e
use Rattle.ct_grammar.specs.declared.kind.Kind.TheVariants as k
use Rattle.ct_grammar.specs.Kinds.{same, Set, has, apart, within, names}
use Rattle.ct_grammar.specs.Lexemes.{Lexeme, matches}
use Rattle.ct_grammar.specs.Names.{second_part}
use Rattle.ct_grammar.specs.Words.{name_in}
use Rattle.ct_grammar.specs.Rules.{token, ◌and◌, ◌or◌, ◌of◌, maybe, below, one, kind, numbers}
use Rattle.ct_grammar.specs.Reading.{Outcome, Reader, ahead, guard, need}
use Rattle.ct_grammar.proofs.FirstSets.{NotNext, has_larger, elsewhere_or_behind}
use Rattle.ct_grammar.proofs.Outcomes.{Prefix, Finds, Opening, ReadsRule, HasSpelling}
use Rattle.ct_grammar.proofs.Sequences.{shape_then, shape_token, shape_of, some_token, some_of, some_then, law_token, law_of, law_then, law_weaken}
use Rattle.ct_grammar.proofs.Choices.{shape_or, shape_maybe, some_left, some_right, some_maybe, law_pick, law_option}
use Rattle.ct_grammar.proofs.Repetitions.{shape_many, some_many, law_repeat}
use Rattle.ct_grammar.proofs.Levels.{NextLevel, guarded}
use Rattle.ct_grammar.proofs.LeadingTokens.{second_unmatched}
use Rattle.ct_grammar.proofs.Fronts.{law_deeper}
use Rattle.ct_parse_expr.specs.declared.level.Entry.{Entry}
use Rattle.ct_parse_expr.specs.declared.level.Entry.TheVariants.{Whole, Negated, Signed}
use Rattle.ct_parse_expr.specs.Grammar as g
use Rattle.ct_parse_expr.specs.Grammar.{comparisons, signs, with_none, with_one, with_two, with_three, column_of, call_one, call_two}
use Rattle.ct_parse_expr.specs.ReadExpr as p
use Rattle.ct_grammar.proofs.NameLaws.{only, shape_kind, shape_name, table_name_shape, second_shape, some_one, some_name, some_table_name, law_one, law_kind, law_name, law_number, law_table_name}
use Rattle.ct_parse_expr.proofs.NameLaws.{alias_shape, name_list_shape, column_shape, some_alias, some_name_list, law_alias, law_name_list, law_column}
use Rattle.ct_parse_expr.proofs.Calls.{shape_below, call_misses, law_call_or}

-- ---- sets: how spellings begin, and by what they may go on

abbrev pub reference_starts : Set
reference_starts = with_none ++ (with_one ++ (with_two ++ (with_three ++ names)))

abbrev pub primary_starts : Set
primary_starts = k.Null ∷ k.Number ∷ k.Zero ∷ k.Text ∷ k.Bytes ∷ k.Variable ∷ k.Open ∷ reference_starts

abbrev pub unary_starts : Set
unary_starts = k.Minus ∷ primary_starts

abbrev pub negation_starts : Set
negation_starts = k.Not ∷ unary_starts

abbrev pub primary_goes : Set
primary_goes = k.Open ∷ k.Dot ∷ []

abbrev pub product_goes : Set
product_goes = k.Star ∷ primary_goes

abbrev pub sum_goes : Set
sum_goes = signs ++ product_goes

abbrev pub test_goes : Set
test_goes = comparisons ++ k.Is ∷ sum_goes

abbrev pub conjunction_goes : Set
conjunction_goes = k.And ∷ test_goes

abbrev pub disjunction_goes : Set
disjunction_goes = k.Or ∷ conjunction_goes

abbrev pub starts : Entry → Set
starts Whole = negation_starts
starts Negated = negation_starts
starts Signed = unary_starts

abbrev pub goes : Entry → Set
goes Whole = disjunction_goes
goes Negated = test_goes
goes Signed = primary_goes

-- ---- how spellings begin, from one level to the next

module _ (L U : Entry → Expr → List Lexeme → Type 0) (inner : (entry : Entry) → Opening (L entry) (U entry) (starts entry) false) where
  pub tuple_shape : Opening (g.tuple L) (g.tuple U) (k.Open ∷ []) false
  unfolding g.tuple
  tuple_shape = shape_of (shape_then (only k.Open) (shape_then (inner Whole) (shape_then (shape_many (shape_of (shape_then (only k.Comma) (inner Whole)))) (only k.Close))))

  pub version_tail_shape : Opening (g.version_tail L) (g.version_tail U) (k.Version ∷ []) false
  unfolding g.version_tail
  version_tail_shape = shape_of (shape_then (only k.Version) (shape_then table_name_shape (shape_then (only k.Comma) (shape_then name_list_shape (shape_then (only k.Comma) (shape_then tuple_shape (only k.Close)))))))

  pub version_shape : Opening (g.version L) (g.version U) (k.ChangeTable ∷ []) false
  unfolding g.version
  version_shape = shape_of (shape_then (only k.ChangeTable) (shape_then (only k.Open) version_tail_shape))

  pub scalar_shape : Opening (g.scalar L) (g.scalar U) (k.Select ∷ []) false
  unfolding g.scalar
  scalar_shape = shape_of (shape_then (only k.Select) (shape_then shape_name (shape_then (only k.Dot) (shape_then shape_name (shape_then (only k.From) (shape_then version_shape alias_shape))))))

  module _ (n : ℕ) where
    pub enclosed_shape : Opening (g.enclosed L n) (g.enclosed U (suc n)) (k.Select ∷ negation_starts) false
    unfolding g.enclosed
    enclosed_shape = shape_of (shape_then (shape_or (shape_of scalar_shape) (inner Whole)) (only k.Close))

    pub one_shape : Opening (g.one_argument L n) (g.one_argument U (suc n)) negation_starts false
    unfolding g.one_argument
    one_shape = shape_of (shape_then (inner Whole) (only k.Close))

    pub two_shape : Opening (g.two_arguments L n) (g.two_arguments U (suc n)) negation_starts false
    unfolding g.two_arguments
    two_shape = shape_of (shape_then (inner Whole) (shape_then (only k.Comma) (shape_then (inner Whole) (only k.Close))))

    pub three_shape : Opening (g.three_arguments L n) (g.three_arguments U (suc n)) negation_starts false
    unfolding g.three_arguments
    three_shape = shape_of (shape_then (inner Whole) (shape_then (only k.Comma) (shape_then (inner Whole) (shape_then (only k.Comma) (shape_then (inner Whole) (only k.Close))))))

    pub reference_shape : Opening (g.reference L n) (g.reference U (suc n)) reference_starts false
    unfolding g.reference
    reference_shape =
        shape_or (shape_of (shape_then (shape_kind with_none) (shape_then (only k.Open) (shape_below n (only k.Close)))))
        (shape_or (shape_of (shape_then (shape_kind with_one) (shape_then (only k.Open) (shape_below n one_shape))))
        (shape_or (shape_of (shape_then (shape_kind with_two) (shape_then (only k.Open) (shape_below n two_shape))))
        (shape_or (shape_of (shape_then (shape_kind with_three) (shape_then (only k.Open) (shape_below n three_shape))))
        column_shape)))

    pub primary_shape : Opening (g.primary L n) (g.primary U (suc n)) primary_starts false
    unfolding g.primary
    primary_shape =
        shape_or (shape_of (only k.Null))
        (shape_or (shape_of (shape_of (shape_token numbers)))
        (shape_or (shape_of (shape_of (shape_token (k.Text ∷ []))))
        (shape_or (shape_of (shape_of (shape_token (k.Bytes ∷ []))))
        (shape_or (shape_of (shape_of (shape_token (k.Variable ∷ []))))
        (shape_or (shape_of (shape_then (only k.Open) (shape_below n enclosed_shape)))
        reference_shape)))))

    pub unary_shape : Opening (g.unary L n) (g.unary U (suc n)) unary_starts false
    unfolding g.unary
    unary_shape = shape_or (shape_of (shape_then (only k.Minus) (inner Signed))) primary_shape

    pub product_shape : Opening (g.product L n) (g.product U (suc n)) unary_starts false
    unfolding g.product
    product_shape = shape_of (shape_then unary_shape (shape_many (shape_of (shape_then (only k.Star) unary_shape))))

    pub sum_shape : Opening (g.sum L n) (g.sum U (suc n)) unary_starts false
    unfolding g.sum
    sum_shape = shape_of (shape_then product_shape (shape_many (shape_of (shape_then (shape_kind signs) product_shape))))

    pub predicate_shape : Opening (g.predicate L n) (g.predicate U (suc n)) unary_starts false
    unfolding g.predicate
    predicate_shape = shape_of (shape_then sum_shape (shape_maybe (shape_or (shape_of (shape_then (shape_kind comparisons) sum_shape))
        (shape_of (shape_then (only k.Is) (shape_then (shape_maybe (only k.Not)) (only k.Null)))))))

    pub negation_shape : Opening (g.negation L n) (g.negation U (suc n)) negation_starts false
    unfolding g.negation
    negation_shape = shape_or (shape_of (shape_then (only k.Not) (inner Negated))) predicate_shape

    pub conjunction_shape : Opening (g.conjunction L n) (g.conjunction U (suc n)) negation_starts false
    unfolding g.conjunction
    conjunction_shape = shape_of (shape_then negation_shape (shape_many (shape_of (shape_then (only k.And) negation_shape))))

    pub disjunction_shape : Opening (g.disjunction L n) (g.disjunction U (suc n)) negation_starts false
    unfolding g.disjunction
    disjunction_shape = shape_of (shape_then conjunction_shape (shape_many (shape_of (shape_then (only k.Or) conjunction_shape))))

    pub level_shape : (entry : Entry) → Opening (g.level L n entry) (g.level U (suc n) entry) (starts entry) false
    level_shape Whole = disjunction_shape
    level_shape Negated = negation_shape
    level_shape Signed = unary_shape

pub expr_shape : (n : ℕ) (entry : Entry) → Opening (g.expr n entry) (g.expr (suc n) entry) (starts entry) false
expr_shape zero entry = record { begins = λ a ts h. absurd h; wider = λ a ts h. absurd h }
expr_shape (suc n) entry = level_shape (g.expr n) (g.expr (suc n)) (expr_shape n) n entry

-- ---- that there are some

pub some_primary : {d : ℕ} → HasSpelling d (λ n. g.primary (g.expr n) n)
unfolding g.primary has same
some_primary = some_left _ (some_of (some_one k.Null refl))

pub some_unary : {d : ℕ} → HasSpelling d (λ n. g.unary (g.expr n) n)
unfolding g.unary
some_unary = some_right _ some_primary

pub some_product : {d : ℕ} → HasSpelling d (λ n. g.product (g.expr n) n)
unfolding g.product
some_product = some_of (some_then some_unary (some_many _))

pub some_sum : {d : ℕ} → HasSpelling d (λ n. g.sum (g.expr n) n)
unfolding g.sum
some_sum = some_of (some_then some_product (some_many _))

pub some_predicate : {d : ℕ} → HasSpelling d (λ n. g.predicate (g.expr n) n)
unfolding g.predicate
some_predicate = some_of (some_then some_sum (some_maybe _))

pub some_negation : {d : ℕ} → HasSpelling d (λ n. g.negation (g.expr n) n)
unfolding g.negation
some_negation = some_right _ some_predicate

pub some_conjunction : {d : ℕ} → HasSpelling d (λ n. g.conjunction (g.expr n) n)
unfolding g.conjunction
some_conjunction = some_of (some_then some_negation (some_many _))

pub some_disjunction : {d : ℕ} → HasSpelling d (λ n. g.disjunction (g.expr n) n)
unfolding g.disjunction
some_disjunction = some_of (some_then some_conjunction (some_many _))

-- from one level on
pub level_some : (n : ℕ) (entry : Entry) → Prefix (g.expr (suc n) entry) []
level_some n Whole = some_disjunction {d = 0} n (omega arith)
level_some n Negated = some_negation {d = 0} n (omega arith)
level_some n Signed = some_unary {d = 0} n (omega arith)

-- where there is a level
deeper_some : (c : ℕ) (entry : Entry) → 0 < c → HasSpelling c (λ n. g.expr n entry)
deeper_some c entry some zero h = absurd (omega arith)
deeper_some c entry some (suc n) h = level_some n entry

-- where a level is left, the step to it is its law
living : {A : Type 0} {L : ℕ → A → List Lexeme → Type 0} {c : ℕ} {q : Reader A} {s g : Set} → 0 < c → NextLevel L c q s g → ReadsRule L c q s false g
living some (inl h) = absurd (omega (arith, h.0))
living some (inr h) = h.1

-- ---- the forms of CHANGETABLE and their values, over the law of an expression X

module _ (X : ℕ → Entry → Expr → List Lexeme → Type 0) (c : ℕ) (q : Entry → Reader Expr)
    (some : (entry : Entry) → HasSpelling c (λ n. X n entry)) (law : (entry : Entry) → ReadsRule (λ n. X n entry) c (q entry) (starts entry) false (goes entry)) where
  pub some_tuple : HasSpelling c (λ n. g.tuple (X n))
  unfolding g.tuple has same
  some_tuple = some_of (some_then (some_one k.Open refl) (some_then (some Whole) (some_then (some_many _) (some_one k.Close refl))))

  pub law_tuple : ReadsRule (λ n. g.tuple (X n)) c (p.tuple q) (k.Open ∷ []) false []
  unfolding g.tuple p.tuple p.more_values p.next_value apart has same
  law_tuple = law_of (law_then refl (some_then (some Whole) (some_then (some_many _) (some_one k.Close refl))) (law_one k.Open)
      (law_then refl (some_then (some_many _) (some_one k.Close refl)) (law Whole)
      (law_then refl (some_one k.Close refl) (law_repeat refl (law_of (law_then refl (some Whole) (law_one k.Comma) (law Whole)))) (law_one k.Close))))

  pub some_version_tail : HasSpelling c (λ n. g.version_tail (X n))
  unfolding g.version_tail has same
  some_version_tail = some_of (some_then (some_one k.Version refl) (some_then some_table_name (some_then (some_one k.Comma refl) (some_then some_name_list (some_then (some_one k.Comma refl) (some_then some_tuple (some_one k.Close refl)))))))

  pub law_version_tail : ReadsRule (λ n. g.version_tail (X n)) c (p.version_tail q) (k.Version ∷ []) false []
  unfolding g.version_tail p.version_tail apart has same
  law_version_tail =
      let one = some_then some_tuple (some_one k.Close refl) in
      let two = some_then (some_one k.Comma refl) one in
      let three = some_then some_name_list two in
      let four = some_then (some_one k.Comma refl) three in
      law_of (law_then refl (some_then some_table_name four) (law_one k.Version)
      (law_then refl four law_table_name (law_then refl three (law_one k.Comma) (law_then refl two law_name_list
      (law_then refl one (law_one k.Comma) (law_then refl (some_one k.Close refl) law_tuple (law_one k.Close)))))))

  pub some_version : HasSpelling c (λ n. g.version (X n))
  unfolding g.version has same
  some_version = some_of (some_then (some_one k.ChangeTable refl) (some_then (some_one k.Open refl) some_version_tail))

  pub law_version : ReadsRule (λ n. g.version (X n)) c (p.version q) (k.ChangeTable ∷ []) false []
  unfolding g.version p.version apart has same
  law_version = law_of (law_then refl (some_then (some_one k.Open refl) some_version_tail) (law_one k.ChangeTable)
      (law_then refl some_version_tail (law_one k.Open) law_version_tail))

  some_scalar : HasSpelling c (λ n. g.scalar (X n))
  unfolding g.scalar has same
  some_scalar = some_of (some_then (some_one k.Select refl) (some_then some_name (some_then (some_one k.Dot refl) (some_then some_name (some_then (some_one k.From refl) (some_then some_version some_alias))))))

  law_scalar : ReadsRule (λ n. g.scalar (X n)) c (p.scalar q) (k.Select ∷ []) false []
  unfolding g.scalar p.scalar apart has same
  law_scalar =
      let one = some_then some_version some_alias in
      let two = some_then (some_one k.From refl) one in
      let three = some_then some_name two in
      let four = some_then (some_one k.Dot refl) three in
      law_of (law_then refl (some_then some_name four) (law_one k.Select)
      (law_then refl four law_name (law_then refl three (law_one k.Dot) (law_then refl two law_name
      (law_then refl one (law_one k.From) (law_then refl some_alias law_version law_alias))))))

  pub law_enclosed : ReadsRule (λ n. g.enclosed (X n) n) c (p.enclosed q c) (k.Select ∷ negation_starts) false []
  unfolding g.enclosed p.enclosed p.enclosed_value p.scalar_value apart has same
  law_enclosed = law_of (law_then refl (some_one k.Close refl) (law_pick refl (law_of law_scalar) (law Whole)) (law_one k.Close))

  pub law_one_argument : ReadsRule (λ n. g.one_argument (X n) n) c (p.one_argument q c) negation_starts false []
  unfolding g.one_argument p.one_argument apart has same
  law_one_argument = law_of (law_then refl (some_one k.Close refl) (law Whole) (law_one k.Close))

  pub law_two_arguments : ReadsRule (λ n. g.two_arguments (X n) n) c (p.two_arguments q c) negation_starts false []
  unfolding g.two_arguments p.two_arguments apart has same
  law_two_arguments =
      let one = some_then (some Whole) (some_one k.Close refl) in
      law_of (law_then refl (some_then (some_one k.Comma refl) one) (law Whole) (law_then refl one (law_one k.Comma) (law_then refl (some_one k.Close refl) (law Whole) (law_one k.Close))))

  pub law_three_arguments : ReadsRule (λ n. g.three_arguments (X n) n) c (p.three_arguments q c) negation_starts false []
  unfolding g.three_arguments p.three_arguments apart has same
  law_three_arguments =
      let one = some_then (some Whole) (some_one k.Close refl) in
      let two = some_then (some_one k.Comma refl) one in
      let three = some_then (some Whole) two in
      law_of (law_then refl (some_then (some_one k.Comma refl) three) (law Whole) (law_then refl three (law_one k.Comma)
      (law_then refl two (law Whole) (law_then refl one (law_one k.Comma) (law_then refl (some_one k.Close refl) (law Whole) (law_one k.Close))))))

-- ---- references

-- a name alone is a column
pub column_alone : (t : Lexeme) → has names t.kind ≡ true → g.column (e.Column (column_of (name_in t.kind t.word) None)) (t ∷ [])
unfolding g.column
column_alone t h = record {
  from = (name_in t.kind t.word, None);
  is = refl;
  spelled = record { front = t ∷ []; back = []; cut = refl; first = record { from = t; is = refl; spelled = record { one = refl; kind = h } }; second = refl };
}

-- behind a column no bracket opens
column_misses : (s : Set) (a : Expr) (ts rest : List Lexeme) → g.column a ts → NotNext primary_goes rest → matches (s ∷ (k.Open ∷ []) ∷ []) (ts ++ rest) ≡ false
unfolding g.column apart has same
column_misses s a ts rest h stops = second_unmatched (λ x. name_in x.kind x.word) s (k.Open ∷ []) names (maybe second_part) h.from ts rest h.spelled
    (λ y m. elsewhere_or_behind (k.Open ∷ []) (k.Dot ∷ []) y rest refl ((shape_maybe second_shape).begins h.from.1 y m) stops)

some_open : Prefix (token (k.Open ∷ [])) []
unfolding has same
some_open = some_token {d = 0} (k.Open ∷ []) (record { kind = k.Open; word = [] }) refl 0 (omega arith)

abbrev rule_three : ℕ → Expr → List Lexeme → Type 0
rule_three n = ((λ p. e.ColumnProperty p.1.1.0 p.1.1.1.0 p.1.1.1.1) of (kind with_three and one k.Open and below n (g.three_arguments (g.expr n) n))) or g.column

abbrev rule_two : ℕ → Expr → List Lexeme → Type 0
rule_two n = ((λ p. call_two p.0 p.1.1.0 p.1.1.1) of (kind with_two and one k.Open and below n (g.two_arguments (g.expr n) n))) or rule_three n

abbrev rule_one : ℕ → Expr → List Lexeme → Type 0
rule_one n = ((λ p. call_one p.0 p.1.1) of (kind with_one and one k.Open and below n (g.one_argument (g.expr n) n))) or rule_two n

alone_three : (n : ℕ) (t : Lexeme) → has names t.kind ≡ true → Prefix (rule_three n) (t ∷ [])
alone_three n t h = record { value = e.Column (column_of (name_in t.kind t.word) None); further = []; spelled = inr (column_alone t h) }

alone_two : (n : ℕ) (t : Lexeme) → has names t.kind ≡ true → Prefix (rule_two n) (t ∷ [])
alone_two n t h = record { value = e.Column (column_of (name_in t.kind t.word) None); further = []; spelled = inr (inr (column_alone t h)) }

alone_one : (n : ℕ) (t : Lexeme) → has names t.kind ≡ true → Prefix (rule_one n) (t ∷ [])
alone_one n t h = record { value = e.Column (column_of (name_in t.kind t.word) None); further = []; spelled = inr (inr (inr (column_alone t h))) }

three_misses : (s : Set) → apart s with_three ≡ true → (n : ℕ) (a : Expr) (ts rest : List Lexeme) → rule_three n a ts → NotNext primary_goes rest → matches (s ∷ (k.Open ∷ []) ∷ []) (ts ++ rest) ≡ false
three_misses s clear n a ts rest (inl h) stops = call_misses _ (λ x. x.kind) (λ x. tt) with_three (k.Open ∷ []) s (below n (g.three_arguments (g.expr n) n)) a ts rest clear h
three_misses s clear n a ts rest (inr h) stops = column_misses s a ts rest h stops

two_misses : (s : Set) → apart s with_two ≡ true → apart s with_three ≡ true → (n : ℕ) (a : Expr) (ts rest : List Lexeme) → rule_two n a ts → NotNext primary_goes rest → matches (s ∷ (k.Open ∷ []) ∷ []) (ts ++ rest) ≡ false
two_misses s clear more n a ts rest (inl h) stops = call_misses _ (λ x. x.kind) (λ x. tt) with_two (k.Open ∷ []) s (below n (g.two_arguments (g.expr n) n)) a ts rest clear h
two_misses s clear more n a ts rest (inr h) stops = three_misses s more n a ts rest h stops

one_misses : (s : Set) → apart s with_one ≡ true → apart s with_two ≡ true → apart s with_three ≡ true → (n : ℕ) (a : Expr) (ts rest : List Lexeme) → rule_one n a ts → NotNext primary_goes rest → matches (s ∷ (k.Open ∷ []) ∷ []) (ts ++ rest) ≡ false
one_misses s clear more most n a ts rest (inl h) stops = call_misses _ (λ x. x.kind) (λ x. tt) with_one (k.Open ∷ []) s (below n (g.one_argument (g.expr n) n)) a ts rest clear h
one_misses s clear more most n a ts rest (inr h) stops = two_misses s more most n a ts rest h stops

-- the words of functions are names
is_name : (s : Set) → within s names ≡ true → (t : Lexeme) → has s t.kind ≡ true → has names t.kind ≡ true
is_name s sub t h = has_larger s names t.kind sub h

-- ---- the laws, over the step to the reader of a level deeper

module _ (c : ℕ) (q : Entry → Reader Expr) (step : (entry : Entry) → NextLevel (λ n. g.expr n entry) c (q entry) (starts entry) (goes entry)) where
  law_inner : 0 < c → (entry : Entry) → ReadsRule (λ n. g.expr n entry) c (q entry) (starts entry) false (goes entry)
  law_inner some entry = living some (step entry)

  enclosed_step : NextLevel (λ n. below n (g.enclosed (g.expr n) n)) c (guard c (p.enclosed q c)) (k.Select ∷ negation_starts) []
  enclosed_step = guarded (λ n. g.enclosed (g.expr n) n) c (p.enclosed q c) (k.Select ∷ negation_starts) [] (λ some. law_enclosed g.expr c q (λ entry. deeper_some c entry some) (law_inner some))

  enclosed_some : (n : ℕ) → Prefix (g.enclosed (g.expr (suc n)) (suc n)) []
  unfolding g.enclosed has same
  enclosed_some n = some_of (some_then (some_right (λ m. (λ s. e.Scalar s) of g.scalar (g.expr (suc m))) (λ m _. level_some m Whole)) (some_one {d = 0} k.Close refl)) n (omega arith)

  pub law_brackets : ReadsRule (λ n. (λ p. p.1) of (one k.Open and below n (g.enclosed (g.expr n) n))) c (p.brackets q c) (k.Open ∷ []) false []
  unfolding p.brackets
  law_brackets = law_of (law_deeper (λ x. tt) (k.Open ∷ []) (λ n. shape_below n (enclosed_shape (g.expr n) (g.expr (suc n)) (expr_shape n) n)) (λ b ts h. h) enclosed_some enclosed_step)

  law_three : ReadsRule rule_three c (ahead (with_three ∷ (k.Open ∷ []) ∷ []) (p.call_with_three q c) p.column) (with_three ++ names) false primary_goes
  unfolding p.call_with_three g.three_arguments apart has same within
  law_three = law_call_or (λ p. e.ColumnProperty p.1.1.0 p.1.1.1.0 p.1.1.1.1) (λ x. x.kind) (λ x. tt) with_three (k.Open ∷ []) (λ n. below n (g.three_arguments (g.expr n) n)) c (guard c (p.three_arguments q c)) negation_starts
      (λ n. g.column) p.column names primary_goes (λ n. shape_below n (three_shape (g.expr n) (g.expr (suc n)) (expr_shape n) n)) (λ b ts h. h)
      (λ n. some_of (some_then (λ m _. level_some m Whole) (some_then (some_one {d = 0} k.Comma refl) (some_then (λ m _. level_some m Whole) (some_then (some_one k.Comma refl) (some_then (λ m _. level_some m Whole) (some_one k.Close refl)))))) n (omega arith))
      (guarded (λ n. g.three_arguments (g.expr n) n) c (p.three_arguments q c) negation_starts [] (λ some. law_three_arguments g.expr c q (λ entry. deeper_some c entry some) (law_inner some)))
      (λ n t h. record { value = e.Column (column_of (name_in t.kind t.word) None); further = []; spelled = column_alone t (is_name with_three refl t h) }) some_open
      (λ n a ts rest h stops. column_misses with_three a ts rest h stops) refl law_column

  law_two : ReadsRule rule_two c (ahead (with_two ∷ (k.Open ∷ []) ∷ []) (p.call_with_two q c) (ahead (with_three ∷ (k.Open ∷ []) ∷ []) (p.call_with_three q c) p.column)) (with_two ++ (with_three ++ names)) false primary_goes
  unfolding p.call_with_two g.two_arguments apart has same within
  law_two = law_call_or (λ p. call_two p.0 p.1.1.0 p.1.1.1) (λ x. x.kind) (λ x. tt) with_two (k.Open ∷ []) (λ n. below n (g.two_arguments (g.expr n) n)) c (guard c (p.two_arguments q c)) negation_starts
      rule_three _ (with_three ++ names) primary_goes (λ n. shape_below n (two_shape (g.expr n) (g.expr (suc n)) (expr_shape n) n)) (λ b ts h. h)
      (λ n. some_of (some_then (λ m _. level_some m Whole) (some_then (some_one {d = 0} k.Comma refl) (some_then (λ m _. level_some m Whole) (some_one k.Close refl)))) n (omega arith))
      (guarded (λ n. g.two_arguments (g.expr n) n) c (p.two_arguments q c) negation_starts [] (λ some. law_two_arguments g.expr c q (λ entry. deeper_some c entry some) (law_inner some)))
      (λ n t h. alone_three n t (is_name with_two refl t h)) some_open (three_misses with_two refl) refl law_three

  law_one_or : ReadsRule rule_one c (ahead (with_one ∷ (k.Open ∷ []) ∷ []) (p.call_with_one q c) (ahead (with_two ∷ (k.Open ∷ []) ∷ []) (p.call_with_two q c) (ahead (with_three ∷ (k.Open ∷ []) ∷ []) (p.call_with_three q c) p.column)))
      (with_one ++ (with_two ++ (with_three ++ names))) false primary_goes
  unfolding p.call_with_one g.one_argument apart has same within
  law_one_or = law_call_or (λ p. call_one p.0 p.1.1) (λ x. x.kind) (λ x. tt) with_one (k.Open ∷ []) (λ n. below n (g.one_argument (g.expr n) n)) c (guard c (p.one_argument q c)) negation_starts
      rule_two _ (with_two ++ (with_three ++ names)) primary_goes (λ n. shape_below n (one_shape (g.expr n) (g.expr (suc n)) (expr_shape n) n)) (λ b ts h. h)
      (λ n. some_of (some_then (λ m _. level_some m Whole) (some_one {d = 0} k.Close refl)) n (omega arith))
      (guarded (λ n. g.one_argument (g.expr n) n) c (p.one_argument q c) negation_starts [] (λ some. law_one_argument g.expr c q (λ entry. deeper_some c entry some) (law_inner some)))
      (λ n t h. alone_two n t (is_name with_one refl t h)) some_open (two_misses with_one refl refl) refl law_two

  pub law_reference : ReadsRule (λ n. g.reference (g.expr n) n) c (p.reference q c) reference_starts false primary_goes
  unfolding g.reference p.reference p.call_none apart has same within
  law_reference = law_call_or (λ p. e.CurrentVersion) (λ x. x.kind) (λ x. tt) with_none (k.Open ∷ []) (λ n. below n (one k.Close)) c (guard c (need k.Close)) (k.Close ∷ [])
      rule_one _ (with_one ++ (with_two ++ (with_three ++ names))) primary_goes (λ n. shape_below n (only k.Close)) (λ b ts h. h)
      (λ n. some_one {d = 0} k.Close refl n (omega arith))
      (guarded (λ n. one k.Close) c (need k.Close) (k.Close ∷ []) [] (λ some. law_one k.Close))
      (λ n t h. alone_one n t (is_name with_none refl t h)) some_open (one_misses with_none refl refl refl) refl law_one_or

  pub law_primary : ReadsRule (λ n. g.primary (g.expr n) n) c (p.primary q c) primary_starts false primary_goes
  unfolding g.primary p.primary p.literal_or_reference apart has same
  law_primary =
      law_pick refl (law_of (law_one k.Null))
      (law_pick refl (law_of law_number)
      (law_pick refl (law_of (law_of (law_token (k.Text ∷ []))))
      (law_pick refl (law_of (law_of (law_token (k.Bytes ∷ []))))
      (law_pick refl (law_of (law_of (law_token (k.Variable ∷ []))))
      (law_pick refl law_brackets law_reference)))))

  pub law_unary : ReadsRule (λ n. g.unary (g.expr n) n) c (p.unary q c) unary_starts false primary_goes
  unfolding g.unary p.unary apart has same within
  law_unary = law_weaken primary_goes refl (law_pick refl
      (law_of (law_deeper (λ x. tt) (k.Minus ∷ []) (λ n. expr_shape n Signed) (λ b ts h. h) (λ n. level_some n Signed) (step Signed))) law_primary)

  pub law_product : ReadsRule (λ n. g.product (g.expr n) n) c (p.product q c) unary_starts false product_goes
  unfolding g.product p.product p.factors p.factor apart has same within
  law_product = law_weaken product_goes refl (law_of (law_then refl (some_many _) law_unary (law_repeat refl (law_of (law_then refl some_unary (law_one k.Star) law_unary)))))

  pub law_sum : ReadsRule (λ n. g.sum (g.expr n) n) c (p.sum q c) unary_starts false sum_goes
  unfolding g.sum p.sum p.terms p.term apart has same within
  law_sum = law_weaken sum_goes refl (law_of (law_then refl (some_many _) law_product (law_repeat refl (law_of (law_then refl some_product (law_kind signs) law_product)))))

  pub law_predicate : ReadsRule (λ n. g.predicate (g.expr n) n) c (p.predicate q c) unary_starts false test_goes
  unfolding g.predicate p.predicate p.behind_sum p.compared p.null_tested apart has same within
  law_predicate = law_weaken test_goes refl (law_of (law_then refl (some_maybe _) law_sum (law_option (law_pick refl
      (law_of (law_then refl some_sum (law_kind comparisons) law_sum))
      (law_of (law_then refl (some_then (some_maybe _) (some_one k.Null refl)) (law_one k.Is) (law_then refl (some_one k.Null refl) (law_option (law_one k.Not)) (law_one k.Null))))))))

  pub law_negation : ReadsRule (λ n. g.negation (g.expr n) n) c (p.negation q c) negation_starts false test_goes
  unfolding g.negation p.negation apart has same within
  law_negation = law_weaken test_goes refl (law_pick refl
      (law_of (law_deeper (λ x. tt) (k.Not ∷ []) (λ n. expr_shape n Negated) (λ b ts h. h) (λ n. level_some n Negated) (step Negated))) law_predicate)

  pub law_conjunction : ReadsRule (λ n. g.conjunction (g.expr n) n) c (p.conjunction q c) negation_starts false conjunction_goes
  unfolding g.conjunction p.conjunction p.and_more p.and_one apart has same within
  law_conjunction = law_weaken conjunction_goes refl (law_of (law_then refl (some_many _) law_negation (law_repeat refl (law_of (law_then refl some_negation (law_one k.And) law_negation)))))

  pub law_disjunction : ReadsRule (λ n. g.disjunction (g.expr n) n) c (p.disjunction q c) negation_starts false disjunction_goes
  unfolding g.disjunction p.disjunction p.or_more p.or_one apart has same within
  law_disjunction = law_weaken disjunction_goes refl (law_of (law_then refl (some_many _) law_conjunction (law_repeat refl (law_of (law_then refl some_conjunction (law_one k.Or) law_conjunction)))))

  pub law_level : (entry : Entry) → ReadsRule (λ n. g.level (g.expr n) n entry) c (p.level q c entry) (starts entry) false (goes entry)
  law_level Whole = law_disjunction
  law_level Negated = law_negation
  law_level Signed = law_unary

-- ---- from the rules inside a level to the level

meets_more : (c n : ℕ) (o : Outcome Expr) (a : Expr) (rest : List Lexeme) → Finds c n o a rest → Finds (suc c) (suc n) o a rest
meets_more c n o a rest (inl h) = inl h
meets_more c n o a rest (inr h) = inr (omega (arith, h.0), h.1)

raised_complete : (c : ℕ) (q : Reader Expr) (entry : Entry) → ((n : ℕ) (a : Expr) (ts rest : List Lexeme) → g.level (g.expr n) n entry a ts → NotNext (goes entry) rest → Finds c n (q (ts ++ rest)) a rest)
    → (n : ℕ) (a : Expr) (ts rest : List Lexeme) → g.expr n entry a ts → NotNext (goes entry) rest → Finds (suc c) n (q (ts ++ rest)) a rest
raised_complete c q entry w zero a ts rest h stops = absurd h
raised_complete c q entry w (suc n) a ts rest h stops = meets_more c n (q (ts ++ rest)) a rest (w n a ts rest h stops)

raised : (c : ℕ) (q : Reader Expr) (entry : Entry) → ReadsRule (λ n. g.level (g.expr n) n entry) c q (starts entry) false (goes entry) → ReadsRule (λ n. g.expr n entry) (suc c) q (starts entry) false (goes entry)
raised c q entry w = record {
  opening = λ n. expr_shape n entry;
  justified = w.justified;
  complete = raised_complete c q entry w.complete;
}

-- the step of each level
pub expr_step : (d : ℕ) (entry : Entry) → NextLevel (λ n. g.expr n entry) d (p.expr d entry) (starts entry) (goes entry)
unfolding p.expr
expr_step zero entry = inl (refl, λ i. refl)
expr_step (suc c) entry = inr (omega arith, raised c (p.level (p.expr c) c entry) entry (law_level c (p.expr c) (expr_step c) entry))

-- an expression with a level more than is counted
pub law_expr : (c : ℕ) (entry : Entry) → ReadsRule (λ n. g.expr (suc n) entry) c (p.expr (suc c) entry) (starts entry) false (goes entry)
unfolding p.expr
law_expr c entry = law_level c (p.expr c) (expr_step c) entry

pub some_expr : (c : ℕ) (entry : Entry) → HasSpelling c (λ n. g.expr (suc n) entry)
some_expr c entry n h = level_some n entry
