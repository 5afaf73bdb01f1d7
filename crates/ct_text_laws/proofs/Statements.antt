-- The text literals that a statement writes, or gives a variable, are of code points where it is read from a text of code points.
use Rattle.std.proofs.Common.{ℕ, suc, List, Option, Some, None, IfSome}
use Rattle.std.specs.Option.{option_to_list}
use Rattle.ct_types.specs.declared.expr.Expr.{Expr}
use Rattle.ct_grammar.specs.Lexemes.{Lexeme, lexemes}
use Rattle.ct_parse_expr.specs.declared.level.Entry.{Entry}
use Rattle.ct_parse_expr.specs.declared.level.Entry.TheVariants.{Whole}
use Rattle.ct_parse_expr.specs.Grammar.{expr}
use Rattle.ct_parse_definition.specs.Grammar as d
use Rattle.ct_parser.specs.Statements as g
use Rattle.ct_parser.specs.Exact.{most}
use Rattle.ct_types.specs.declared.expr.ObjectName.{ObjectName}
use Rattle.ct_value_laws.specs.Texts.{IsOfCodePoints, AreOfCodePoints, WritesCodePoints, GivesCodePoints}
use Rattle.ct_text_laws.specs.Laws.{ParsedAreOfCodePoints}
use Rattle.ct_text_laws.proofs.Lexemes.{lexemes_have}
use Rattle.ct_text_laws.proofs.Expressions.{Reads, tuple_read, expr_read}
use Rattle.ct_text_laws.proofs.Yields.{yields_both, yields_first, yields_second, yields_either, yields_of, yields_made, yields_maybe, yields_many}

-- ---- statements that give no value

begin_read : Reads g.begin GivesCodePoints
unfolding g.begin
begin_read = yields_made (λ p. tt)

commit_read : Reads g.commit GivesCodePoints
unfolding g.commit
commit_read = yields_made (λ p. tt)

rollback_read : Reads g.rollback GivesCodePoints
unfolding g.rollback
rollback_read = yields_made (λ p. tt)

switched : (table : ObjectName) (columns_updated : _) → GivesCodePoints (d.tracking_of table columns_updated)
switched table None = tt
switched table (Some on) = tt

alter_read : Reads d.alter GivesCodePoints
unfolding d.alter d.database d.tracking
alter_read = yields_of (yields_second (yields_either (yields_made (λ p. tt)) (yields_made (λ p. switched p.1.0 p.1.1)))) (λ p h. h)

create_read : Reads d.create GivesCodePoints
unfolding d.create
create_read = yields_made (λ p. tt)

truncate_read : Reads d.truncate GivesCodePoints
unfolding d.truncate
truncate_read = yields_made (λ p. tt)

given : (found : Option Expr) → IfSome found IsOfCodePoints → AreOfCodePoints (option_to_list found)
given None is = tt
given (Some x) is = (is, tt)

module _ (inner : Entry → Expr → List Lexeme → Type 0) (deeper : (entry : Entry) → Reads (inner entry) IsOfCodePoints) where
  -- ---- writes

  insert_read : Reads (g.insert inner) WritesCodePoints
  unfolding g.insert
  insert_read =
      let tuple = tuple_read inner deeper in
      yields_of (yields_second (yields_second (yields_second (yields_second (yields_second (yields_both tuple (yields_many (yields_of (yields_second tuple) (λ p h. h)))))))))
      (λ p h. (h.0, h.1))

  set_column_read : Reads (g.set_column inner) (λ set. IsOfCodePoints set.value)
  unfolding g.set_column
  set_column_read = yields_of (yields_second (yields_second (deeper Whole))) (λ p h. h)

  update_read : Reads (g.update inner) WritesCodePoints
  unfolding g.update
  update_read =
      yields_of (yields_second (yields_second (yields_second (yields_both set_column_read (yields_first (yields_many (yields_of (yields_second set_column_read) (λ p h. h))))))))
      (λ p h. (h.0, h.1))

  delete_read : Reads (g.delete inner) WritesCodePoints
  unfolding g.delete
  delete_read = yields_made (λ p. tt)

  written_read : Reads (g.written inner) GivesCodePoints
  unfolding g.written
  written_read = yields_of (yields_second (yields_either insert_read (yields_either update_read delete_read))) (λ p h. h)

  -- ---- SET and DECLARE

  set_read : Reads (g.set inner) GivesCodePoints
  unfolding g.set
  set_read =
      yields_of (yields_second (yields_either (yields_made (λ p. tt)) (yields_either (yields_made (λ p. tt)) (yields_of (yields_second (yields_second (deeper Whole))) (λ p h. h)))))
      (λ p h. h)

  declare_read : Reads (g.declare inner) GivesCodePoints
  unfolding g.declare
  declare_read =
      yields_of (yields_second (yields_second (yields_second (yields_second (yields_maybe (yields_of (yields_second (deeper Whole)) (λ p h. h)))))))
      (λ p h. given p.1.1.1.1 h)

  -- ---- statements

  body_read : Reads (g.body inner) GivesCodePoints
  unfolding g.body
  body_read =
      yields_either alter_read
      (yields_either create_read
      (yields_either truncate_read
      (yields_either written_read
      (yields_either (yields_made (λ select. tt))
      (yields_either begin_read
      (yields_either commit_read
      (yields_either rollback_read
      (yields_either set_read declare_read))))))))

  whole_read : Reads (g.whole inner) GivesCodePoints
  unfolding g.whole
  whole_read = yields_of (yields_first body_read) (λ p h. h)

statement_read : (n : ℕ) → Reads (g.statement n) GivesCodePoints
statement_read n = whole_read (expr (suc n)) (expr_read (suc n))

pub parsed_are_of_code_points : ParsedAreOfCodePoints
parsed_are_of_code_points text tokens tree utf8 cut parsed = (statement_read most).holds tree (lexemes text tokens) (lexemes_have text tokens utf8 cut) parsed.spelled
