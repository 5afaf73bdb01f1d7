use Rattle.std.proofs.Common.{rules, arith, Some, drop, sym, ◌∙◌, ap}
use Rattle.std.proofs.lemmas.Grind.{common_steps}
use Rattle.ct_codec.proofs.Numbers.{number_here}
use Rattle.ct_codec.proofs.input.u32_of.Goals as goal

pub returns : goal.returns
returns c = number_here 4 c.args.bytes.now (λ i. first_of (search rules, grind (arith, common_steps))) (omega (arith, c.requires)) ∙ ap (λ n. Some (n, drop 4 c.args.bytes.now)) (sym c.read_u32.ensures)
