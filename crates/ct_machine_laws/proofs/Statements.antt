-- Each form of statement is read as the grammar promises.
use Rattle.std.proofs.Common.{ℕ, suc, List, arith}
use Rattle.ct_types.specs.declared.expr.Expr.{Expr}
use Rattle.ct_grammar.specs.Lexemes.{Lexeme, lexemes}
use Rattle.ct_parse_expr.specs.declared.level.Entry.{Entry}
use Rattle.ct_parse_expr.specs.Grammar.{expr}
use Rattle.ct_parser.specs.Statements as g
use Rattle.ct_parser.specs.Exact.{most}
use Rattle.ct_bind_kind_laws.specs.Laws.{SetsSome}
use Rattle.ct_machine_laws.specs.Spelled.{IsSpelled}
use Rattle.ct_machine_laws.specs.Grammar.{ParsedAreSpelled}
use Rattle.ct_machine_laws.proofs.Lexemes.{lexemes_stand}
use Rattle.ct_machine_laws.proofs.Yields.{Yields, yields_first, yields_second, yields_either, yields_of, yields_made}
use Rattle.ct_machine_laws.proofs.Definitions.{create_spelled, alter_spelled, truncate_spelled}

-- ---- transactions

begin_spelled : Yields g.begin IsSpelled
unfolding g.begin
begin_spelled = yields_made (λ p. tt)

commit_spelled : Yields g.commit IsSpelled
unfolding g.commit
commit_spelled = yields_made (λ p. tt)

rollback_spelled : Yields g.rollback IsSpelled
unfolding g.rollback
rollback_spelled = yields_made (λ p. tt)

module _ (inner : Entry → Expr → List Lexeme → Type 0) where
  -- ---- writes

  insert_sets : Yields (g.insert inner) SetsSome
  unfolding g.insert
  insert_sets = yields_made (λ p. tt)

  update_sets : Yields (g.update inner) SetsSome
  unfolding g.update
  update_sets = yields_made (λ p. omega arith)

  delete_sets : Yields (g.delete inner) SetsSome
  unfolding g.delete
  delete_sets = yields_made (λ p. tt)

  written_spelled : Yields (g.written inner) IsSpelled
  unfolding g.written
  written_spelled = yields_of (yields_second (yields_either insert_sets (yields_either update_sets delete_sets))) (λ p h. h)

  -- ---- SET and DECLARE

  set_spelled : Yields (g.set inner) IsSpelled
  unfolding g.set
  set_spelled = yields_of (yields_second (yields_either (yields_made (λ p. tt)) (yields_either (yields_made (λ p. tt)) (yields_made (λ p. tt))))) (λ p h. h)

  declare_spelled : Yields (g.declare inner) IsSpelled
  unfolding g.declare
  declare_spelled = yields_made (λ p. tt)

  -- ---- statements

  body_spelled : Yields (g.body inner) IsSpelled
  unfolding g.body
  body_spelled =
      yields_either alter_spelled
      (yields_either create_spelled
      (yields_either truncate_spelled
      (yields_either written_spelled
      (yields_either (yields_made (λ select. tt))
      (yields_either begin_spelled
      (yields_either commit_spelled
      (yields_either rollback_spelled
      (yields_either set_spelled declare_spelled))))))))

  whole_spelled : Yields (g.whole inner) IsSpelled
  unfolding g.whole
  whole_spelled = yields_of (yields_first body_spelled) (λ p h. h)

statement_spelled : (n : ℕ) → Yields (g.statement n) IsSpelled
statement_spelled n = whole_spelled (expr (suc n))

pub parsed_are_spelled : ParsedAreSpelled
parsed_are_spelled text tokens tree cut parsed = (statement_spelled most).holds tree (lexemes text tokens) (lexemes_stand text tokens cut) parsed.spelled
