use Rattle.std.proofs.Common.{get_or, ap, ◌∙◌, rules}
use Rattle.ct_script.proofs.Placements.{no_counts_at}
use Rattle.ct_script.proofs.schedule.no_counts.Goals as goal

pub returns-clause-zero : goal.returns-clause-zero
returns-clause-zero c =
    λ s. ap (λ l. get_or l s 0) (c.in_ok-vec.ensures.items_if_clones_equal (λ y h. search rules)) ∙ no_counts_at 256 s
