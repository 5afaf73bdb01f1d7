-- A function value that reads expressions of at most so many levels less one.
use Rattle.std.specs.Prelude.{ℕ, List, Result}
use Rattle.std.specs.declared.alloc.Global.{Global}
use denote.Ref.{MutBor}
use Rattle.ct_types.specs.declared.expr.Expr.{Expr}
use Rattle.ct_parse_expr.specs.declared.level.Entry.{Entry}
use Rattle.ct_grammar.specs.Lexemes.{Lexeme}
use Rattle.ct_grammar.specs.declared.fault.Fault.{Fault}
use Rattle.ct_grammar.specs.Reading.{Reads}
use Rattle.ct_parse_expr.specs.ReadExpr.{expr}

pub record Nests (depth : ℕ) (pre : Global → MutBor (List Lexeme) → ℕ → Entry → Type 0)
    (post : Global → MutBor (List Lexeme) → ℕ → Entry → Result Expr Fault → MutBor (List Lexeme) → Type 0) : Type 0 where
  pub callable : (alloc : Global) (old : MutBor (List Lexeme)) (entry : Entry) → pre alloc old depth entry
  pub reads : (alloc : Global) (old new : MutBor (List Lexeme)) (entry : Entry) (r : Result Expr Fault) → post alloc old depth entry r new
      → Reads (expr depth entry old.now) r new.now
