-- The laws of the rules of statements that hold expressions.
use Rattle.std.proofs.Common.{◌≡◌, ℕ, suc, inl, inr, true, false, ◌&&◌, List, [], ◌∷◌, ◌++◌, length, Some, None, Ok, Err, refl, ap, sym, ◌∙◌, append-nil, append_assoc, arith}
use Rattle.std.proofs.Math.Bool.{and-false}
use Rattle.ct_types.specs.declared.expr.Expr.{Expr}
use Rattle.ct_types.specs.declared.expr.Expr.TheVariants as e
use Rattle.ct_types.specs.declared.stmt.Source.{Source}
use Rattle.ct_types.specs.declared.stmt.Source.TheVariants as source_as
use Rattle.ct_types.specs.declared.stmt.SelectItem.{SelectItem}
use Rattle.ct_types.specs.declared.stmt.SelectItem.TheVariants as item_as
use Rattle.ct_grammar.specs.declared.kind.Kind.TheVariants as k
use Rattle.ct_grammar.specs.declared.fault.Fault.{Fault}
use Rattle.ct_grammar.specs.declared.fault.Fault.TheVariants.{Syntax, TooDeep}
use Rattle.ct_grammar.specs.Kinds.{same, Set, has, apart, within, names}
use Rattle.ct_grammar.specs.Lexemes.{Lexeme, sees, matches}
use Rattle.ct_grammar.specs.Words.{name_in}
use Rattle.ct_grammar.specs.Rules.{◌and◌, ◌or◌, ◌of◌, maybe, many, one, name, numbers}
use Rattle.ct_grammar.specs.Reading.{Outcome, Reader, and_then, ◌>>=◌, pure, expect, both, making, option, need}
use Rattle.ct_grammar.specs.Reading as r
use Rattle.ct_grammar.proofs.FirstSets.{NotNext, both_true, true_or_false, apart_excludes, has_larger, elsewhere_or_behind}
use Rattle.ct_grammar.proofs.Outcomes.{Prefix, Finds, ReadsRule, HasSpelling}
use Rattle.ct_grammar.proofs.Sequences.{expect_takes, expect_misses, some_of, some_then, law_of, law_then, law_weaken}
use Rattle.ct_grammar.proofs.Choices.{shape_maybe, some_left, some_right, some_maybe, law_pick, law_option}
use Rattle.ct_grammar.proofs.Repetitions.{some_many, law_repeat}
use Rattle.ct_grammar.proofs.Lookahead.{reads_ahead, law_ahead, prefix_reaches_end}
use Rattle.ct_grammar.proofs.LeadingTokens.{two_matched, three_matched, traverses_two, traverses_three, first_reached, second_reached}
use Rattle.ct_parse_expr.specs.declared.level.Entry.{Entry}
use Rattle.ct_parse_expr.specs.declared.level.Entry.TheVariants.{Whole}
use Rattle.ct_parse_expr.specs.Grammar.{column_of, with_none, with_one, with_two, with_three}
use Rattle.ct_grammar.specs.Names.{table_name}
use Rattle.ct_grammar.specs.ReadNames.{second_part}
use Rattle.ct_parse_expr.specs.Grammar as g
use Rattle.ct_parser.specs.Statements as s
use Rattle.ct_parser.specs.Statements.{directions}
use Rattle.ct_parse_expr.specs.ReadExpr as p
use Rattle.ct_parser.specs.ReadStmt as q
use Rattle.ct_grammar.proofs.NameLaws.{second_shape, some_one, some_name, some_variable, some_table_name, law_one, law_kind, law_name, law_variable, law_table_name}
use Rattle.ct_parse_expr.proofs.NameLaws.{alias_shape, some_alias, law_alias, law_name_list}
use Rattle.ct_parse_expr.proofs.Expressions.{negation_starts, disjunction_goes, column_alone, law_expr, some_expr, law_tuple, some_tuple, law_version_tail, law_version, some_version}
use Rattle.ct_parse_definition.proofs.DdlLaws.{law_alter, law_create, law_truncate, some_truncate, law_type_name, some_type_name}
use Rattle.ct_parser.proofs.StatementLaws.{law_begin, law_commit, law_rollback, some_table_source, law_table_source, law_join_kind}

-- an expression of a statement, by the levels of the statement
abbrev X : ℕ → Entry → Expr → List Lexeme → Type 0
X n = g.expr (suc n)

abbrev R : ℕ → Entry → Reader Expr
R c = p.expr (suc c)

abbrev value_goes : Set
value_goes = disjunction_goes

abbrev alias_starts : Set
alias_starts = k.As ∷ names

some_value : {d : ℕ} → HasSpelling d (λ n. X n Whole)
some_value {d} = some_expr d Whole

law_value : (c : ℕ) → ReadsRule (λ n. X n Whole) c (R c Whole) negation_starts false value_goes
law_value c = law_expr c Whole

-- ---- an expression in its place

some_condition : {d : ℕ} → HasSpelling d (λ n. s.condition (X n))
unfolding s.condition has same
some_condition = some_of (some_then (some_one k.Where refl) some_value)

law_condition : (c : ℕ) → ReadsRule (λ n. s.condition (X n)) c (q.condition (R c)) (k.Where ∷ []) false value_goes
unfolding s.condition q.condition apart has same
law_condition c = law_of (law_then refl some_value (law_one k.Where) (law_value c))

some_version_source : {d : ℕ} → HasSpelling d (λ n. s.version_source (X n))
unfolding s.version_source
some_version_source {d} = some_of (some_then (some_version X d (R d) (some_expr d) (law_expr d)) some_alias)

law_version_source : (c : ℕ) → ReadsRule (λ n. s.version_source (X n)) c (q.version_source (R c)) (k.ChangeTable ∷ []) false []
unfolding s.version_source q.version_source apart has same
law_version_source c = law_of (law_then refl some_alias (law_version X c (R c) (some_expr c) (law_expr c)) law_alias)

-- ---- sources

some_change_table : {d : ℕ} → HasSpelling d (λ n. s.change_table (X n))
unfolding s.change_table has same
some_change_table = some_left _ (some_of (some_then (some_one k.Changes refl) (some_then some_table_name (some_then (some_one k.Comma refl) (some_then some_value (some_one k.Close refl))))))

law_change_table : (c : ℕ) → ReadsRule (λ n. s.change_table (X n)) c (q.change_table (R c)) (k.Changes ∷ k.Version ∷ []) false []
unfolding s.change_table q.change_table q.changes apart has same
law_change_table c =
    let one = some_then some_value (some_one k.Close refl) in
    let two = some_then (some_one k.Comma refl) one in
    law_pick refl
    (law_of (law_then refl (some_then some_table_name two) (law_one k.Changes) (law_then refl two law_table_name (law_then refl one (law_one k.Comma) (law_then refl (some_one k.Close refl) (law_value c) (law_one k.Close))))))
    (law_of (law_version_tail X c (R c) (some_expr c) (law_expr c)))

-- one lexeme, and none of r behind it
stopped : (s r : Set) (t : Lexeme) (y : List Lexeme) → NotNext r y → matches (s ∷ r ∷ []) (t ∷ y) ≡ false
unfolding matches sees
stopped s r t [] h = and-false (has s t.kind)
stopped s r t (u ∷ y) h = rw h (and-false (has s t.kind))

-- a name alone is a table
table_alone : (t : Lexeme) → has names t.kind ≡ true → s.table_source (record { table = record { first = name_in t.kind t.word; second = None }; alias = None }) (t ∷ [])
unfolding s.table_source table_name
table_alone t h = record {
  from = (record { first = name_in t.kind t.word; second = None }, None);
  is = refl;
  spelled = record {
    front = t ∷ [];
    back = [];
    cut = refl;
    first = record {
      from = (name_in t.kind t.word, None);
      is = refl;
      spelled = record { front = t ∷ []; back = []; cut = refl; first = record { from = t; is = refl; spelled = record { one = refl; kind = h } }; second = refl };
    };
    second = refl;
  };
}

abbrev source_goes : Set
source_goes = k.Open ∷ k.Dot ∷ k.As ∷ names

-- behind a table and its alias no bracket opens
table_misses : (a : Source) (ts rest : List Lexeme) → ((λ table. source_as.Table table) of s.table_source) a ts → NotNext source_goes rest → matches ((k.ChangeTable ∷ []) ∷ (k.Open ∷ []) ∷ []) (ts ++ rest) ≡ false
unfolding s.table_source table_name apart has same
table_misses a ts rest h stops =
    let j = h.spelled.spelled in
    let i = j.first.spelled in
    let behind : NotNext (k.Open ∷ k.Dot ∷ []) (j.back ++ rest) = elsewhere_or_behind (k.Open ∷ k.Dot ∷ []) (k.As ∷ names) j.back rest refl ((shape_maybe alias_shape).begins h.spelled.from.1 j.back j.second) stops in
    let within : NotNext (k.Open ∷ []) (i.back ++ (j.back ++ rest)) = elsewhere_or_behind (k.Open ∷ []) (k.Dot ∷ []) i.back (j.back ++ rest) refl ((shape_maybe second_shape).begins j.first.from.1 i.back i.second) behind in
    rw (j.cut, i.cut, i.first.spelled.one) (stopped (k.ChangeTable ∷ []) (k.Open ∷ []) i.first.from ((i.back ++ j.back) ++ rest) (rw append_assoc within))

some_change_source : {d : ℕ} → HasSpelling d (λ n. (λ p. s.source_of p.1.1.0 p.1.1.1) of (one k.ChangeTable and one k.Open and s.change_table (X n) and g.alias))
unfolding has same
some_change_source = some_of (some_then (some_one k.ChangeTable refl) (some_then (some_one k.Open refl) (some_then some_change_table some_alias)))

law_change_source : (c : ℕ) → ReadsRule (λ n. (λ p. s.source_of p.1.1.0 p.1.1.1) of (one k.ChangeTable and one k.Open and s.change_table (X n) and g.alias)) c (q.change_source (R c)) (k.ChangeTable ∷ []) false []
unfolding q.change_source apart has same
law_change_source c =
    let one = some_then some_change_table some_alias in
    law_of (law_then refl (some_then (some_one k.Open refl) one) (law_one k.ChangeTable) (law_then refl one (law_one k.Open) (law_then refl some_alias (law_change_table c) law_alias)))

change_table_name : (t : Lexeme) → has (k.ChangeTable ∷ []) t.kind ≡ true → has names t.kind ≡ true
unfolding within has same
change_table_name t h = has_larger (k.ChangeTable ∷ []) names t.kind refl h

some_source : {d : ℕ} → HasSpelling d (λ n. s.source (X n))
unfolding s.source
some_source = some_right _ (some_of some_table_source)

law_source : (c : ℕ) → ReadsRule (λ n. s.source (X n)) c (q.source (R c)) (k.ChangeTable ∷ names) false source_goes
unfolding s.source q.source q.change_source apart has same within
law_source c = law_weaken source_goes refl (law_ahead (λ n. (λ p. s.source_of p.1.1.0 p.1.1.1) of (one k.ChangeTable and one k.Open and s.change_table (X n) and g.alias)) (λ n. (λ table. source_as.Table table) of s.table_source) c
    ((k.ChangeTable ∷ []) ∷ (k.Open ∷ []) ∷ []) (q.change_source (R c)) (making (λ table. source_as.Table table) q.table_source) (k.ChangeTable ∷ []) names [] (k.As ∷ k.Dot ∷ names) source_goes
    (λ n a ts rest h stops. table_misses a ts rest h stops)
    (traverses_two (k.ChangeTable ∷ []) (k.Open ∷ []) _ (λ t h. prefix_reaches_end (λ n. (λ table. source_as.Table table) of s.table_source) c _ _ _ _ (law_of law_table_source) (t ∷ [])
    (record { value = source_as.Table (record { table = record { first = name_in t.kind t.word; second = None }; alias = None }); further = []; spelled = record { from = record { table = record { first = name_in t.kind t.word; second = None }; alias = None }; is = refl; spelled = table_alone t (change_table_name t h) } })))
    (reads_ahead _ _ _ c (q.change_source (R c)) (k.ChangeTable ∷ []) []
    (traverses_two (k.ChangeTable ∷ []) (k.Open ∷ []) (q.change_source (R c)) (λ t h. first_reached (λ p. s.source_of p.1.1.0 p.1.1.1) (λ x. tt) (λ x. tt) (k.ChangeTable ∷ []) (k.Open ∷ []) (both (q.change_table (R c)) p.alias) t h))
    (λ n a ts rest h. two_matched (λ x. tt) (λ x. tt) (k.ChangeTable ∷ []) (k.Open ∷ []) (s.change_table (X n) and g.alias) h.from ts rest h.spelled)
    (law_change_source c))
    (law_of law_table_source))

-- ---- joins

abbrev join_starts : Set
join_starts = k.Join ∷ k.Inner ∷ k.Left ∷ k.Right ∷ k.Cross ∷ []

law_join : (c : ℕ) → ReadsRule (λ n. s.join (X n)) c (q.join (R c)) join_starts false value_goes
unfolding s.join q.join q.join_on q.join_apply apart has same within
law_join c =
    let one = some_then (some_one k.On refl) some_value in
    law_weaken value_goes refl (law_pick refl
    (law_of (law_then refl (some_then some_source one) law_join_kind (law_then refl one (law_source c) (law_then refl some_value (law_one k.On) (law_value c)))))
    (law_of (law_then refl (some_then (some_one k.Apply refl) some_version_source) (law_one k.Cross) (law_then refl some_version_source (law_one k.Apply) (law_version_source c)))))

abbrev from_goes : Set
from_goes = join_starts ++ (source_goes ++ value_goes)

law_from : (c : ℕ) → ReadsRule (λ n. s.from (X n)) c (q.from (R c)) (k.From ∷ []) false from_goes
unfolding s.from q.from apart has same within
law_from c = law_weaken from_goes refl (law_of (law_then refl (some_then some_source (some_maybe _)) (law_one k.From) (law_then refl (some_maybe _) (law_source c) (law_option (law_join c)))))

-- ---- a spelling of a column is one of an expression

alone : {A B C : Type 0} (f : A × List B → C) (L : A → List Lexeme → Type 0) (M : B → List Lexeme → Type 0) (a : A) (ts : List Lexeme) → L a ts → (f of (L and many M)) (f (a, [])) ts
alone f L M a ts l = record { from = (a, []); is = refl; spelled = record { front = ts; back = []; cut = sym (append-nil ts); first = l; second = refl } }

lift : (n : ℕ) (a : Expr) (ts : List Lexeme) → g.column a ts → X n Whole a ts
unfolding g.reference g.primary g.unary g.product g.sum g.predicate g.negation g.conjunction g.disjunction
lift n a ts l =
    let reference : g.reference (g.expr n) n a ts = inr (inr (inr (inr l))) in
    let primary : g.primary (g.expr n) n a ts = inr (inr (inr (inr (inr (inr reference))))) in
    let product : g.product (g.expr n) n a ts = alone _ _ _ a ts (inr primary) in
    let sum : g.sum (g.expr n) n a ts = alone _ _ _ a ts product in
    let predicate : g.predicate (g.expr n) n a ts = record { from = (a, None); is = refl; spelled = record { front = ts; back = []; cut = sym (append-nil ts); first = sum; second = refl } } in
    let conjunction : g.conjunction (g.expr n) n a ts = alone _ _ _ a ts (inr predicate) in
    alone _ _ _ a ts conjunction

column_of_two : (t u : Lexeme) → has names t.kind ≡ true → has (k.Dot ∷ []) u.kind ≡ true → g.column (e.Column (column_of (name_in t.kind t.word) (Some (name_in t.kind t.word)))) (t ∷ u ∷ t ∷ [])
unfolding g.column
column_of_two t u h i = record {
  from = (name_in t.kind t.word, Some (name_in t.kind t.word));
  is = refl;
  spelled = record {
    front = t ∷ [];
    back = u ∷ t ∷ [];
    cut = refl;
    first = record { from = t; is = refl; spelled = record { one = refl; kind = h } };
    second = record {
      from = (tt, name_in t.kind t.word);
      is = refl;
      spelled = record {
        front = u ∷ [];
        back = t ∷ [];
        cut = refl;
        first = record { from = u; is = refl; spelled = record { one = refl; kind = i } };
        second = record { from = t; is = refl; spelled = record { one = refl; kind = h } };
      };
    };
  };
}

-- ---- no expression begins `name.*`

first_fails : {A B C : Type 0} (f : A × B → C) (p : Reader A) (q : Reader B) (i : List Lexeme) (x : Fault) → p i ≡ Err x → making f (both p q) i ≡ Err x
first_fails f p q i x h = ap (λ o. and_then (and_then o (λ a. q >>= (λ b. pure (a, b)))) (λ a. pure (f a))) h

made_fails : {A C : Type 0} (f : A → C) (p : Reader A) (i : List Lexeme) (x : Fault) → p i ≡ Err x → making f p i ≡ Err x
made_fails f p i x h = ap (λ o. and_then o (λ a. pure (f a))) h

second_fails : {A B : Type 0} (p : Reader A) (q : Reader B) (i : List Lexeme) (a : A) (j : List Lexeme) (x : Fault) → p i ≡ Ok (a, j) → q j ≡ Err x → both p q i ≡ Err x
second_fails p q i a j x h k = ap (λ o. and_then o (λ a. q >>= (λ b. pure (a, b)))) h ∙ ap (λ o. and_then o (λ b. pure (a, b))) k

module _ (inner : Entry → Reader Expr) (n : ℕ) (t u v : Lexeme) (rest : List Lexeme) (is_name : has names t.kind ≡ true) (is_dot : has (k.Dot ∷ []) u.kind ≡ true) (is_star : has (k.Star ∷ []) v.kind ≡ true) where
  not_of : (s : Set) → apart s names ≡ true → sees s (t ∷ u ∷ v ∷ rest) ≡ false
  unfolding sees
  not_of s clear = apart_excludes s names t.kind clear is_name

  no_name : r.name (v ∷ rest) ≡ Err (Syntax (length (v ∷ rest)))
  unfolding apart has same sees
  no_name = made_fails (λ x. name_in x.kind x.word) (expect names) (v ∷ rest) _ (expect_misses names (v ∷ rest) (apart_excludes names (k.Star ∷ []) v.kind refl is_star))

  no_second : second_part (u ∷ v ∷ rest) ≡ Err (Syntax (length (v ∷ rest)))
  unfolding second_part
  no_second = made_fails (λ p. p.1) (both (need k.Dot) r.name) (u ∷ v ∷ rest) _
      (second_fails (need k.Dot) r.name (u ∷ v ∷ rest) tt (v ∷ rest) _ (ap (λ o. and_then o (λ x. pure tt)) (expect_takes (k.Dot ∷ []) u (v ∷ rest) is_dot)) no_name)

  no_option : option (k.Dot ∷ []) second_part (u ∷ v ∷ rest) ≡ Err (Syntax (length (v ∷ rest)))
  unfolding sees
  no_option = rw is_dot (made_fails Some second_part (u ∷ v ∷ rest) _ no_second)

  no_column : p.column (t ∷ u ∷ v ∷ rest) ≡ Err (Syntax (length (v ∷ rest)))
  unfolding p.column
  no_column = made_fails (λ p. e.Column (column_of p.0 p.1)) (both r.name (option (k.Dot ∷ []) second_part)) (t ∷ u ∷ v ∷ rest) _
      (second_fails r.name (option (k.Dot ∷ []) second_part) (t ∷ u ∷ v ∷ rest) (name_in t.kind t.word) (u ∷ v ∷ rest) _
      (ap (λ o. and_then o (λ x. pure (name_in x.kind x.word))) (expect_takes names t (u ∷ v ∷ rest) is_name)) no_option)

  skipped : (s : Set) → matches (s ∷ (k.Open ∷ []) ∷ []) (t ∷ u ∷ v ∷ rest) ≡ false
  unfolding matches apart has same
  skipped s = let not_open : has (k.Open ∷ []) u.kind ≡ false = apart_excludes (k.Open ∷ []) (k.Dot ∷ []) u.kind refl is_dot in rw not_open (and-false (has s t.kind))

  no_reference : p.reference inner n (t ∷ u ∷ v ∷ rest) ≡ Err (Syntax (length (v ∷ rest)))
  unfolding p.reference
  no_reference = rw (skipped with_none, skipped with_one, skipped with_two, skipped with_three) no_column

  no_primary : p.primary inner n (t ∷ u ∷ v ∷ rest) ≡ Err (Syntax (length (v ∷ rest)))
  unfolding p.primary p.literal_or_reference apart has same
  no_primary = rw (not_of (k.Null ∷ []) refl, not_of numbers refl, not_of (k.Text ∷ []) refl, not_of (k.Bytes ∷ []) refl, not_of (k.Variable ∷ []) refl, not_of (k.Open ∷ []) refl) no_reference

  no_expr : p.disjunction inner n (t ∷ u ∷ v ∷ rest) ≡ Err (Syntax (length (v ∷ rest)))
  unfolding p.disjunction p.conjunction p.negation p.predicate p.sum p.product p.unary apart has same
  no_expr =
      let i : List Lexeme = t ∷ u ∷ v ∷ rest in
      let unary : p.unary inner n i ≡ Err (Syntax (length (v ∷ rest))) = rw (not_of (k.Minus ∷ []) refl) no_primary in
      let product : p.product inner n i ≡ Err (Syntax (length (v ∷ rest))) = first_fails _ (p.unary inner n) _ i _ unary in
      let sum : p.sum inner n i ≡ Err (Syntax (length (v ∷ rest))) = first_fails _ (p.product inner n) _ i _ product in
      let predicate : p.predicate inner n i ≡ Err (Syntax (length (v ∷ rest))) = first_fails _ (p.sum inner n) _ i _ sum in
      let negation : p.negation inner n i ≡ Err (Syntax (length (v ∷ rest))) = rw (not_of (k.Not ∷ []) refl) predicate in
      let conjunction : p.conjunction inner n i ≡ Err (Syntax (length (v ∷ rest))) = first_fails _ (p.negation inner n) _ i _ negation in
      first_fails _ (p.conjunction inner n) _ i _ conjunction

-- ---- items

abbrev one_goes : Set
one_goes = alias_starts ++ value_goes

abbrev one_rule : ℕ → SelectItem → List Lexeme → Type 0
one_rule n = (λ p. item_as.One p.0 p.1) of (X n Whole and maybe g.alias)

law_item_one : (c : ℕ) → ReadsRule one_rule c (q.item_one (R c)) negation_starts false one_goes
unfolding q.item_one apart has same
law_item_one c = law_of (law_then refl (some_maybe _) (law_value c) (law_option law_alias))

one_spelled : (n : ℕ) (a : Expr) (ts : List Lexeme) → g.column a ts → one_rule n (item_as.One a None) ts
one_spelled n a ts l = record { from = (a, None); is = refl; spelled = record { front = ts; back = []; cut = sym (append-nil ts); first = lift n a ts l; second = refl } }

no_item : (c : ℕ) (t u v : Lexeme) (rest : List Lexeme) → has names t.kind ≡ true → has (k.Dot ∷ []) u.kind ≡ true → has (k.Star ∷ []) v.kind ≡ true → q.item_one (R c) (t ∷ u ∷ v ∷ rest) ≡ Err (Syntax (length (v ∷ rest)))
unfolding p.expr q.item_one
no_item c t u v rest h i j = first_fails _ (p.expr (suc c) Whole) _ (t ∷ u ∷ v ∷ rest) _ (no_expr (p.expr c) c t u v rest h i j)

abbrev ahead_all : List Set
ahead_all = names ∷ (k.Dot ∷ []) ∷ (k.Star ∷ []) ∷ []

wrong_meets : {A : Type 0} (d n : ℕ) (o : Outcome A) (a : A) (rest : List Lexeme) (m : ℕ) → Finds d n o a rest → o ≡ Err (Syntax m) → ⊥
wrong_meets d n o a rest m (inl h) e = (let f : Ok (a, rest) ≡ Err (Syntax m) = sym h ∙ e in cc)
wrong_meets d n o a rest m (inr h) e = (let f : Err TooDeep ≡ Err (Syntax m) = sym (h.1) ∙ e in cc)

-- an item that is not `name.*` never begins so
one_misses : (c n : ℕ) (a : SelectItem) (i rest : List Lexeme) → Finds c n (q.item_one (R c) i) a rest → matches ahead_all i ≡ true → ⊥
unfolding matches
one_misses c n a [] rest m h = (let no : false ≡ true = h in cc)
one_misses c n a (t ∷ []) rest m h = (let no : false ≡ true = (both_true (has names t.kind) false h).1 in cc)
one_misses c n a (t ∷ u ∷ []) rest m h = (let no : false ≡ true = (both_true (has (k.Dot ∷ []) u.kind) false ((both_true (has names t.kind) (has (k.Dot ∷ []) u.kind && false) h).1)).1 in cc)
one_misses c n a (t ∷ u ∷ v ∷ i) rest m h =
    let one = both_true (has names t.kind) (has (k.Dot ∷ []) u.kind && (has (k.Star ∷ []) v.kind && true)) h in
    let two = both_true (has (k.Dot ∷ []) u.kind) (has (k.Star ∷ []) v.kind && true) one.1 in
    let three = both_true (has (k.Star ∷ []) v.kind) true two.1 in
    wrong_meets c n (q.item_one (R c) (t ∷ u ∷ v ∷ i)) a rest _ m (no_item c t u v i one.0 two.0 three.0)

abbrev all_rule : ℕ → SelectItem → List Lexeme → Type 0
all_rule n = (λ p. item_as.AllOf p.0) of (name and one k.Dot and one k.Star)

law_all_of : (c : ℕ) → ReadsRule all_rule c (q.item_all_of (R c)) names false []
unfolding q.item_all_of apart has same
law_all_of c = law_of (law_then refl (some_then (some_one k.Dot refl) (some_one k.Star refl)) law_name (law_then refl (some_one k.Star refl) (law_one k.Dot) (law_one k.Star)))

law_item : (c : ℕ) → ReadsRule (λ n. s.item (X n)) c (q.item (R c)) (k.Star ∷ names ++ negation_starts) false one_goes
unfolding s.item q.item q.item_all_of apart has same within
law_item c = law_weaken one_goes refl (law_pick refl (law_of (law_one k.Star))
    (law_ahead all_rule one_rule c ahead_all (q.item_all_of (R c)) (q.item_one (R c)) names negation_starts [] one_goes one_goes
    (λ n a ts rest j stops. elim (true_or_false (matches ahead_all (ts ++ rest))) [
      | inl hit ↦ absurd (one_misses c n a (ts ++ rest) rest ((law_item_one c).complete n a ts rest j stops) hit)
      | inr miss ↦ miss
    ])
    (traverses_three names (k.Dot ∷ []) (k.Star ∷ []) (q.item_one (R c))
    (λ t h. prefix_reaches_end one_rule c (q.item_one (R c)) _ _ _ (law_item_one c) (t ∷ []) (record { value = item_as.One (e.Column (column_of (name_in t.kind t.word) None)) None; further = []; spelled = one_spelled c _ _ (column_alone t h) }))
    (λ t u h i. prefix_reaches_end one_rule c (q.item_one (R c)) _ _ _ (law_item_one c) (t ∷ u ∷ []) (record { value = item_as.One (e.Column (column_of (name_in t.kind t.word) (Some (name_in t.kind t.word)))) None; further = t ∷ []; spelled = one_spelled c _ _ (column_of_two t u h i) })))
    (reads_ahead ahead_all all_rule one_rule c (q.item_all_of (R c)) names [] (traverses_three names (k.Dot ∷ []) (k.Star ∷ []) (q.item_all_of (R c))
    (λ t h. first_reached (λ p. item_as.AllOf p.0) (λ x. name_in x.kind x.word) (λ x. tt) names (k.Dot ∷ []) (need k.Star) t h)
    (λ t u h i. second_reached (λ p. item_as.AllOf p.0) (λ x. name_in x.kind x.word) (λ x. tt) (λ x. tt) names (k.Dot ∷ []) (k.Star ∷ []) t u h i))
    (λ n a ts rest j. three_matched (λ x. name_in x.kind x.word) (λ x. tt) (λ x. tt) names (k.Dot ∷ []) (k.Star ∷ []) j.from ts rest j.spelled)
    (law_all_of c))
    (law_item_one c)))

some_item : {d : ℕ} → HasSpelling d (λ n. s.item (X n))
unfolding s.item has same
some_item = some_left _ (some_of (some_one k.Star refl))

-- ---- SELECT

abbrev order_goes : Set
order_goes = directions ++ value_goes

some_order_item : {d : ℕ} → HasSpelling d (λ n. s.order_item (X n))
unfolding s.order_item
some_order_item = some_of (some_then some_value (some_maybe _))

law_order_item : (c : ℕ) → ReadsRule (λ n. s.order_item (X n)) c (q.order_item (R c)) negation_starts false order_goes
unfolding s.order_item q.order_item apart has same
law_order_item c = law_of (law_then refl (some_maybe _) (law_value c) (law_option (law_kind directions)))

law_order : (c : ℕ) → ReadsRule (λ n. s.order (X n)) c (q.order (R c)) (k.Order ∷ []) false (k.Comma ∷ order_goes)
unfolding s.order q.order q.more_order q.next_order apart has same within
law_order c = law_weaken (k.Comma ∷ order_goes) refl (law_of (law_then refl (some_then (some_one k.By refl) (some_then some_order_item (some_many _))) (law_one k.Order)
    (law_then refl (some_then some_order_item (some_many _)) (law_one k.By)
    (law_then refl (some_many _) (law_order_item c) (law_repeat refl (law_of (law_then refl some_order_item (law_one k.Comma) (law_order_item c))))))))

abbrev select_goes : Set
select_goes = k.Comma ∷ k.From ∷ k.Where ∷ k.Order ∷ k.Asc ∷ k.Desc ∷ from_goes

law_select : (c : ℕ) → ReadsRule (λ n. s.select (X n)) c (q.select (R c)) (k.Select ∷ []) false select_goes
unfolding s.select q.select q.more_items q.next_item apart has same within
law_select c = law_weaken select_goes refl (law_of (law_then refl (some_then some_item (some_then (some_many _) (some_then (some_maybe _) (some_then (some_maybe _) (some_maybe _))))) (law_one k.Select)
    (law_then refl (some_then (some_many _) (some_then (some_maybe _) (some_then (some_maybe _) (some_maybe _)))) (law_item c)
    (law_then refl (some_then (some_maybe _) (some_then (some_maybe _) (some_maybe _))) (law_repeat refl (law_of (law_then refl some_item (law_one k.Comma) (law_item c))))
    (law_then refl (some_then (some_maybe _) (some_maybe _)) (law_option (law_from c))
    (law_then refl (some_maybe _) (law_option (law_condition c)) (law_option (law_order c))))))))

-- ---- writes

some_values : {d : ℕ} → HasSpelling d (λ n. g.tuple (X n))
some_values {d} = some_tuple X d (R d) (some_expr d) (law_expr d)

law_values : (c : ℕ) → ReadsRule (λ n. g.tuple (X n)) c (p.tuple (R c)) (k.Open ∷ []) false []
law_values c = law_tuple X c (R c) (some_expr c) (law_expr c)

law_insert : (c : ℕ) → ReadsRule (λ n. s.insert (X n)) c (q.insert (R c)) (k.Insert ∷ []) false (k.Comma ∷ [])
unfolding s.insert q.insert q.more_tuples q.next_tuple apart has same
law_insert c =
    let one = some_then some_values (some_many _) in
    let two = some_then (some_one k.Values refl) one in
    let three = some_then (some_maybe _) two in
    let four = some_then some_table_name three in
    law_of (law_then refl (some_then (some_maybe _) four) (law_one k.Insert) (law_then refl four (law_option (law_one k.Into)) (law_then refl three law_table_name
    (law_then refl two (law_option law_name_list) (law_then refl one (law_one k.Values)
    (law_then refl (some_many _) (law_values c) (law_repeat refl (law_of (law_then refl some_values (law_one k.Comma) (law_values c))))))))))

some_set_column : {d : ℕ} → HasSpelling d (λ n. s.set_column (X n))
unfolding s.set_column has same
some_set_column = some_of (some_then some_name (some_then (some_one k.Equal refl) some_value))

law_set_column : (c : ℕ) → ReadsRule (λ n. s.set_column (X n)) c (q.set_column (R c)) names false value_goes
unfolding s.set_column q.set_column apart has same
law_set_column c = law_of (law_then refl (some_then (some_one k.Equal refl) some_value) law_name (law_then refl some_value (law_one k.Equal) (law_value c)))

abbrev write_goes : Set
write_goes = k.Comma ∷ k.From ∷ k.Where ∷ source_goes ++ value_goes

law_update : (c : ℕ) → ReadsRule (λ n. s.update (X n)) c (q.update (R c)) (k.Update ∷ []) false write_goes
unfolding s.update q.update q.more_sets q.next_set q.from_table apart has same within
law_update c =
    let one = some_then (some_maybe _) (some_maybe _) in
    let two = some_then (some_many _) one in
    let three = some_then some_set_column two in
    let four = some_then (some_one k.Set refl) three in
    law_weaken write_goes refl (law_of (law_then refl (some_then some_table_name four) (law_one k.Update) (law_then refl four law_table_name (law_then refl three (law_one k.Set)
    (law_then refl two (law_set_column c) (law_then refl one (law_repeat refl (law_of (law_then refl some_set_column (law_one k.Comma) (law_set_column c))))
    (law_then refl (some_maybe _) (law_option (law_of (law_then refl some_table_source (law_one k.From) law_table_source))) (law_option (law_condition c)))))))))

some_delete : {d : ℕ} → HasSpelling d (λ n. s.delete (X n))
unfolding s.delete has same
some_delete = some_of (some_then (some_one k.Delete refl) (some_then (some_maybe _) (some_then some_table_name (some_maybe _))))

law_delete : (c : ℕ) → ReadsRule (λ n. s.delete (X n)) c (q.delete (R c)) (k.Delete ∷ []) false write_goes
unfolding s.delete q.delete apart has same within
law_delete c =
    let one = some_then some_table_name (some_maybe _) in
    law_weaken write_goes refl (law_of (law_then refl (some_then (some_maybe _) one) (law_one k.Delete) (law_then refl one (law_option (law_one k.From)) (law_then refl (some_maybe _) law_table_name (law_option (law_condition c))))))

law_context : (c : ℕ) → ReadsRule (λ n. s.context (X n)) c (q.context (R c)) (k.With ∷ []) false []
unfolding s.context q.context apart has same
law_context c =
    let one = some_then some_value (some_one k.Close refl) in
    let two = some_then (some_one k.Open refl) one in
    law_of (law_then refl (some_then (some_one k.ChangeTrackingContext refl) two) (law_one k.With) (law_then refl two (law_one k.ChangeTrackingContext)
    (law_then refl one (law_one k.Open) (law_then refl (some_one k.Close refl) (law_value c) (law_one k.Close)))))

law_written : (c : ℕ) → ReadsRule (λ n. s.written (X n)) c (q.written (R c)) (k.With ∷ k.Insert ∷ k.Update ∷ k.Delete ∷ []) false write_goes
unfolding s.written q.written q.write apart has same within
law_written c = law_weaken write_goes refl (law_of (law_then refl (some_right _ (some_right _ some_delete)) (law_option (law_context c)) (law_pick refl (law_insert c) (law_pick refl (law_update c) (law_delete c)))))

-- ---- SET and DECLARE

law_set : (c : ℕ) → ReadsRule (λ n. s.set (X n)) c (q.set (R c)) (k.Set ∷ []) false value_goes
unfolding s.set q.set q.set_tail q.set_isolation q.set_timeout q.set_variable q.isolation q.read_committed apart has same within
law_set c =
    let level = some_left _ (some_of (some_one k.Snapshot refl)) in
    law_weaken value_goes refl (law_of (law_then refl (some_right _ (some_left _ (some_of (some_then (some_one k.LockTimeout refl) (some_one k.Zero refl))))) (law_one k.Set)
    (law_pick refl
    (law_of (law_then refl (some_then (some_one k.Isolation refl) (some_then (some_one k.Level refl) level)) (law_one k.Transaction) (law_then refl (some_then (some_one k.Level refl) level) (law_one k.Isolation) (law_then refl level (law_one k.Level)
    (law_pick refl (law_of (law_one k.Snapshot)) (law_of (law_then refl (some_one k.Committed refl) (law_one k.Read) (law_one k.Committed))))))))
    (law_pick refl (law_of (law_then refl (some_one k.Zero refl) (law_one k.LockTimeout) (law_one k.Zero)))
    (law_of (law_then refl (some_then (some_one k.Equal refl) some_value) law_variable (law_then refl some_value (law_one k.Equal) (law_value c))))))))

abbrev declare_goes : Set
declare_goes = k.Equal ∷ value_goes

law_declare : (c : ℕ) → ReadsRule (λ n. s.declare (X n)) c (q.declare (R c)) (k.Declare ∷ []) false declare_goes
unfolding s.declare q.declare q.first_value apart has same within
law_declare c =
    let one = some_then some_type_name (some_maybe _) in
    let two = some_then (some_maybe _) one in
    law_weaken declare_goes refl (law_of (law_then refl (some_then some_variable two) (law_one k.Declare) (law_then refl two law_variable (law_then refl one (law_option (law_one k.As))
    (law_then refl (some_maybe _) law_type_name (law_option (law_of (law_then refl some_value (law_one k.Equal) (law_value c)))))))))

-- ---- statements

abbrev body_goes : Set
body_goes = k.With ∷ k.Tran ∷ k.Transaction ∷ select_goes

law_session : (c : ℕ) → ReadsRule (λ n. s.begin or s.commit or s.rollback or s.set (X n) or s.declare (X n)) c (q.body_of_session (R c)) (k.Begin ∷ k.Commit ∷ k.Rollback ∷ k.Set ∷ k.Declare ∷ []) false body_goes
unfolding q.body_of_session apart has same within
law_session c = law_weaken body_goes refl (law_pick refl law_begin (law_pick refl law_commit (law_pick refl law_rollback (law_pick refl (law_set c) (law_declare c)))))

law_body : (c : ℕ) → ReadsRule (λ n. s.body (X n)) c (q.body (R c)) (k.Alter ∷ k.Create ∷ k.Truncate ∷ k.With ∷ k.Insert ∷ k.Update ∷ k.Delete ∷ k.Select ∷ k.Begin ∷ k.Commit ∷ k.Rollback ∷ k.Set ∷ k.Declare ∷ []) false body_goes
unfolding s.body q.body q.selection apart has same within
law_body c = law_weaken body_goes refl (law_pick refl law_alter (law_pick refl law_create (law_pick refl law_truncate (law_pick refl (law_written c) (law_pick refl (law_of (law_select c)) (law_session c))))))

some_body : {d : ℕ} → HasSpelling d (λ n. s.body (X n))
unfolding s.body
some_body = some_right _ (some_right _ (some_left _ some_truncate))

abbrev pub statement_starts : Set
statement_starts = k.Alter ∷ k.Create ∷ k.Truncate ∷ k.With ∷ k.Insert ∷ k.Update ∷ k.Delete ∷ k.Select ∷ k.Begin ∷ k.Commit ∷ k.Rollback ∷ k.Set ∷ k.Declare ∷ []

abbrev pub statement_goes : Set
statement_goes = k.Semicolon ∷ body_goes

pub law_statement : (c : ℕ) → ReadsRule (λ n. s.statement n) c (q.statement c) statement_starts false statement_goes
unfolding s.whole q.statement q.whole apart has same
law_statement c = law_of (law_then refl (some_maybe _) (law_body c) (law_option (law_one k.Semicolon)))

pub some_statement : (n : ℕ) → Prefix (s.statement n) []
unfolding s.whole
some_statement n = some_of (some_then (some_body {d = 0}) (some_maybe (λ n. one k.Semicolon))) n (omega arith)
