-- The laws of the rules of statements that hold no expression.
use Rattle.std.proofs.Common.{ℕ, false, [], ◌∷◌, refl}
use Rattle.ct_grammar.specs.declared.kind.Kind.TheVariants as k
use Rattle.ct_grammar.specs.Kinds.{same, has, apart, within, names}
use Rattle.ct_grammar.proofs.Outcomes.{ReadsRule, HasSpelling}
use Rattle.ct_grammar.proofs.Sequences.{some_of, some_then, law_of, law_then, law_weaken}
use Rattle.ct_grammar.proofs.Choices.{some_left, some_maybe, law_pick, law_option}
use Rattle.ct_parser.specs.Statements as g
use Rattle.ct_parser.specs.Statements.{transactions}
use Rattle.ct_parser.specs.ReadStmt as p
use Rattle.ct_grammar.proofs.NameLaws.{some_one, some_kind, some_table_name, law_one, law_kind, law_table_name}
use Rattle.ct_parse_expr.proofs.NameLaws.{law_alias}

-- ---- transactions

pub law_begin : {d : ℕ} → ReadsRule (λ n. g.begin) d p.begin (k.Begin ∷ []) false []
unfolding g.begin p.begin apart has same
law_begin = law_of (law_then refl (some_kind transactions k.Tran refl) (law_one k.Begin) (law_kind transactions))

pub law_commit : {d : ℕ} → ReadsRule (λ n. g.commit) d p.commit (k.Commit ∷ []) false transactions
unfolding g.commit p.commit apart has same
law_commit = law_of (law_then refl (some_maybe _) (law_one k.Commit) (law_option (law_kind transactions)))

pub law_rollback : {d : ℕ} → ReadsRule (λ n. g.rollback) d p.rollback (k.Rollback ∷ []) false transactions
unfolding g.rollback p.rollback apart has same
law_rollback = law_of (law_then refl (some_maybe _) (law_one k.Rollback) (law_option (law_kind transactions)))

-- ---- FROM

pub some_table_source : {d : ℕ} → HasSpelling d (λ n. g.table_source)
unfolding g.table_source
some_table_source = some_of (some_then some_table_name (some_maybe _))

pub law_table_source : {d : ℕ} → ReadsRule (λ n. g.table_source) d p.table_source names false (k.As ∷ k.Dot ∷ names)
unfolding g.table_source p.table_source apart has same within
law_table_source = law_weaken (k.As ∷ k.Dot ∷ names) refl (law_of (law_then refl (some_maybe _) law_table_name (law_option law_alias)))

pub some_join_kind : {d : ℕ} → HasSpelling d (λ n. g.join_kind)
unfolding g.join_kind has same
some_join_kind = some_left _ (some_of (some_one k.Join refl))

pub law_join_kind : {d : ℕ} → ReadsRule (λ n. g.join_kind) d p.join_kind (k.Join ∷ k.Inner ∷ k.Left ∷ k.Right ∷ []) false []
unfolding g.join_kind p.join_kind p.inner_join p.left_join p.right_join apart has same
law_join_kind = law_pick refl (law_of (law_one k.Join)) (law_pick refl (law_of (law_then refl (some_one k.Join refl) (law_one k.Inner) (law_one k.Join)))
    (law_pick refl
    (law_of (law_then refl (some_then (some_maybe _) (some_one k.Join refl)) (law_one k.Left) (law_then refl (some_one k.Join refl) (law_option (law_one k.Outer)) (law_one k.Join))))
    (law_of (law_then refl (some_then (some_maybe _) (some_one k.Join refl)) (law_one k.Right) (law_then refl (some_one k.Join refl) (law_option (law_one k.Outer)) (law_one k.Join))))))
