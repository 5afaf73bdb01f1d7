use Rattle.ct_grammar.proofs.Told.{fits_at, kinded_so_far}
use Rattle.ct_grammar.proofs.kinded.with_kinds.Goals as goal

pub with_kind-requires : goal.with_kind-requires
with_kind-requires c = fits_at c.args.text.now c.args.tokens.now c.loop-token.token-index _ c.loop-token-test.true c.requires

pub returns : goal.returns
returns c = kinded_so_far c.args.text.now c.args.tokens.now c.loop-token.made.items c.loop-token.token-index c.requires c.loop-token.invariant c.loop-token-test.false
