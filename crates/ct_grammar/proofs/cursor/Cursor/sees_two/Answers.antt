use Rattle.std.proofs.Common.{[], ◌∷◌, arith}
use Rattle.ct_grammar.proofs.Told.{too_few}
use Rattle.ct_grammar.proofs.cursor.Cursor.sees_two.Goals as goal

pub returns-in-len1 : goal.returns-in-len1
returns-in-len1 c = too_few c.self.inside.text.now c.self.inside.tokens.now (c.args.one.now ∷ c.args.two.now ∷ []) _ c.self.view_is (omega (arith, c.in-len1.len_below))
