use Rattle.std.proofs.Common.{◌≡◌, length, take_while, reverse}
use Rattle.ct_script.specs.Forms.{is_blank}
use Rattle.ct_script.proofs.Blanks.{IsCharBoundary-after_blanks, IsCharBoundary-before_blanks}
use Rattle.ct_script.proofs.forms.trimmed.Goals as goal

pub range_from-rest-requires : goal.range_from-rest-requires
range_from-rest-requires c =
    let count : c.blanks_before-from.result ≡ length (take_while is_blank c.args.text.now) = cc in
    λ _. IsCharBoundary-after_blanks _ _ c.utf8.text count

pub range-requires-clause-end_boundary : goal.range-requires-clause-end_boundary
range-requires-clause-end_boundary c =
    let count : c.blanks_after.result ≡ length (take_while is_blank (reverse c.range_from-rest.result.now)) = cc in
    IsCharBoundary-before_blanks _ _ c.range_from-rest.utf8 count
