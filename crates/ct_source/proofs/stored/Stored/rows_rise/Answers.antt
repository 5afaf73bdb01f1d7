use Rattle.ct_source.specs.Rows.{IsWhole}
use Rattle.ct_model.proofs.Members.{all_map}
use Rattle.ct_source.proofs.PairsByKey.{rows_rise}
use Rattle.ct_source.proofs.stored.Stored.rows_rise.Goals as goal

pub returns-clause-rising : goal.returns-clause-rising
returns-clause-rising c = rw (← c.self.view_is) (rows_rise c.self.inside.schema.value c.self.inside.tree c.self.invariant.keys c.pairs.ensures.rising)

pub returns-clause-whole : goal.returns-clause-whole
returns-clause-whole c =
    rw (← c.self.view_is) (all_map (λ pair. IsWhole c.self.inside.schema.value pair.value) (IsWhole c.self.inside.schema.value) (λ pair. pair.value) (λ pair whole. whole) c.self.inside.tree c.self.invariant.whole)
