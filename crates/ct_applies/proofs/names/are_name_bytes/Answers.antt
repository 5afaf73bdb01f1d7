use Rattle.std.proofs.Common.{rules}
use Rattle.ct_model.specs.Names.{IsNameByte}
use Rattle.ct_applies.proofs.Each.{by_recursion}
use Rattle.ct_applies.proofs.names.are_name_bytes.Goals as goal

pub returns : goal.returns
returns c = by_recursion IsNameByte c.args.name.now _ (search rules)
