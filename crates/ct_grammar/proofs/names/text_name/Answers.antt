use Rattle.std.proofs.Common.{arith}
use Rattle.ct_grammar.proofs.TableTexts.{by_whole, by_fault}
use Rattle.ct_grammar.proofs.names.text_name.Goals as goal

pub returns-in-Ok : goal.returns-in-Ok
returns-in-Ok c =
    by_whole c.args.text.now c.as_slice.result.now c.spelled_name.result (omega (arith, c.if-text.false)) (rw c.as_slice.ensures c.in-Ok.ensures.cut) c.spelled_name.ensures

pub returns-in-Err-Syntax : goal.returns-in-Err-Syntax
returns-in-Err-Syntax c = by_fault c.args.text.now c.in-Err-Syntax.field-0-0 (rw c.in-Err-Syntax.field-0-is at c.in-Err-Syntax.ensures.wrong)
