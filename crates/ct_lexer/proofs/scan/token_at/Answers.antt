use Rattle.std.proofs.Common.{◌∙◌, sym}
use Rattle.ct_lexer.proofs.scan.token_at.Goals as goal
use Rattle.ct_lexer.proofs.Opening.{no_token, no_other}

pub returns-in_err-kind : goal.returns-in_err-kind
returns-in_err-kind c = rw c.from_residual.ensures (no_token c.args.bytes.now (sym c.kind_at.ensures ∙ c.in_err-kind.was))

pub returns-in_err-len : goal.returns-in_err-len
returns-in_err-len c =
    rw c.from_residual-in_err-len.ensures (no_other c.args.bytes.now c.in_ok-kind.kind (sym c.kind_at.ensures ∙ c.in_ok-kind.was) c.in_err-len.ensures)
