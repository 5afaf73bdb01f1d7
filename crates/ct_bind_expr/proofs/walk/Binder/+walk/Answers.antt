use Rattle.std.proofs.Common.{List, map, get_or, Ok, Err, refl, sym, ap, ◌∙◌}
use Rattle.std.proofs.lemmas.Result.{err_from_is_err_and}
use Rattle.ct_types.specs.declared.bound.BoundExpr.{BoundExpr}
use Rattle.ct_types.specs.declared.bound.BoundExpr.TheVariants as bound
use Rattle.ct_types.specs.declared.catalogue.Catalogued.{Catalogued}
use Rattle.ct_types.specs.declared.catalogue.Variable.{Variable}
use Rattle.ct_types.specs.declared.expr.Expr.TheVariants as form
use Rattle.ct_types.specs.declared.expr.Term.{Term}
use Rattle.ct_bind_kinds.specs.declared.kind.Kind.TheVariants.{Number, Condition, Null}
use Rattle.ct_types.specs.Answers.{Answer, ◌>>◌}
use Rattle.ct_bind_expr.specs.Places.{typed}
use Rattle.ct_bind_expr.specs.Versions.{Walk, operand, values}
use Rattle.ct_bind_expr.specs.Walk as spec
use Rattle.ct_bind_expr.specs.Walk.{walk, term_walk}
use Rattle.ct_bind_expr.specs.Walked.{walked}
use Rattle.ct_bind_expr.proofs.Arms as arms
use Rattle.ct_bind_expr.proofs.Gives.{gives_exact, gives_same, itself}
use Rattle.ct_bind_expr.proofs.Opened.{opened_term}
use Rattle.ct_bind_expr.proofs.Steps.{no_items, one_item, first_item, first_items, first_kind, asked_more, term_more, none_chained, one_chained, chained, unchained, one_summed, summed, unsummed, tuple_counts, versioned, unversioned, unlisted}
use Rattle.ct_bind_expr.proofs.Turns.{goes_on, stops, finishes, fills_begins, fills_on, fills_stop, fills_no_kind, fills_no_value}
use Rattle.ct_bind_expr.proofs.walk.Binder.+walk.Goals as goal

-- the operand of a term
abbrev value_walk : List Catalogued → List Variable → Term → Walk
value_walk tables variables term = walk tables variables term.value

pub walk-returns-in-Null : goal.walk-returns-in-Null
walk-returns-in-Null t c =
    arms.arm_none c.args.self.now.tables.now c.args.self.now.variables.now c.args.place.now c.args.e.now form.Null (Ok (typed bound.Null Null)) (Ok (typed bound.Null Null)) c.in-Null.is (arms.opens_Null c.args.self.now.tables.now c.args.self.now.variables.now c.args.place.now) refl

pub walk-returns-in-CurrentVersion : goal.walk-returns-in-CurrentVersion
walk-returns-in-CurrentVersion t c =
    arms.arm_none c.args.self.now.tables.now c.args.self.now.variables.now c.args.place.now c.args.e.now form.CurrentVersion (Ok (typed bound.CurrentVersion Number)) (Ok (typed bound.CurrentVersion Number)) c.in-CurrentVersion.is (arms.opens_CurrentVersion c.args.self.now.tables.now c.args.self.now.variables.now c.args.place.now) refl

pub walk-returns-in-Number : goal.walk-returns-in-Number
walk-returns-in-Number t c =
    arms.arm_none c.args.self.now.tables.now c.args.self.now.variables.now c.args.place.now c.args.e.now (form.Number c.in-Number.digits) _ c.number_literal.result c.in-Number.is (arms.opens_Number c.args.self.now.tables.now c.args.self.now.variables.now c.args.place.now c.in-Number.digits) (gives_exact _ c.number_literal.result c.number_literal.ensures)

pub walk-returns-in-Text : goal.walk-returns-in-Text
walk-returns-in-Text t c =
    arms.arm_none c.args.self.now.tables.now c.args.self.now.variables.now c.args.place.now c.args.e.now (form.Text c.in-Text.text) _ c.text_literal.result c.in-Text.is (arms.opens_Text c.args.self.now.tables.now c.args.self.now.variables.now c.args.place.now c.in-Text.text) c.text_literal.ensures

pub walk-returns-in-Bytes : goal.walk-returns-in-Bytes
walk-returns-in-Bytes t c =
    arms.arm_none c.args.self.now.tables.now c.args.self.now.variables.now c.args.place.now c.args.e.now (form.Bytes c.in-Bytes.bytes) _ c.bytes_literal.result c.in-Bytes.is (arms.opens_Bytes c.args.self.now.tables.now c.args.self.now.variables.now c.args.place.now c.in-Bytes.bytes) c.bytes_literal.ensures

pub walk-returns-in-Variable : goal.walk-returns-in-Variable
walk-returns-in-Variable t c =
    arms.arm_none c.args.self.now.tables.now c.args.self.now.variables.now c.args.place.now c.args.e.now (form.Variable c.in-Variable.name) _ c.variable.result c.in-Variable.is (arms.opens_Variable c.args.self.now.tables.now c.args.self.now.variables.now c.args.place.now c.in-Variable.name) c.variable.ensures

pub walk-returns-in-Column : goal.walk-returns-in-Column
walk-returns-in-Column t c =
    arms.arm_none c.args.self.now.tables.now c.args.self.now.variables.now c.args.place.now c.args.e.now (form.Column c.in-Column.name) _ c.column.result c.in-Column.is (arms.opens_Column c.args.self.now.tables.now c.args.self.now.variables.now c.args.place.now c.in-Column.name) c.column.ensures

pub walk-returns-in-MinValidVersion : goal.walk-returns-in-MinValidVersion
walk-returns-in-MinValidVersion t c =
    arms.arm_one c.args.self.now.tables.now c.args.self.now.variables.now c.args.place.now form.MinValidVersion spec.min_valid_version (arms.opens_MinValidVersion c.args.self.now.tables.now c.args.self.now.variables.now c.args.place.now) c.args.e.now c.in-MinValidVersion.table c.get.result.now c.walk.result c.min_valid_version.result
    c.in-MinValidVersion.is c.get.ensures c.walk.ensures c.min_valid_version.ensures

pub walk-returns-in-ObjectId : goal.walk-returns-in-ObjectId
walk-returns-in-ObjectId t c =
    arms.arm_one c.args.self.now.tables.now c.args.self.now.variables.now c.args.place.now form.ObjectId spec.object_id (arms.opens_ObjectId c.args.self.now.tables.now c.args.self.now.variables.now c.args.place.now) c.args.e.now c.in-ObjectId.name c.get-in-ObjectId.result.now c.walk-in-ObjectId.result c.object_id.result
    c.in-ObjectId.is c.get-in-ObjectId.ensures c.walk-in-ObjectId.ensures c.object_id.ensures

pub walk-returns-in-Negative : goal.walk-returns-in-Negative
walk-returns-in-Negative t c =
    arms.arm_one c.args.self.now.tables.now c.args.self.now.variables.now c.args.place.now form.Negative spec.negative (arms.opens_Negative c.args.self.now.tables.now c.args.self.now.variables.now c.args.place.now) c.args.e.now c.in-Negative.operand c.get-in-Negative.result.now c.walk-in-Negative.result c.negative.result
    c.in-Negative.is c.get-in-Negative.ensures c.walk-in-Negative.ensures c.negative.ensures

pub walk-returns-in-IsNull : goal.walk-returns-in-IsNull
walk-returns-in-IsNull t c =
    arms.arm_one c.args.self.now.tables.now c.args.self.now.variables.now c.args.place.now form.IsNull spec.is_null (arms.opens_IsNull c.args.self.now.tables.now c.args.self.now.variables.now c.args.place.now) c.args.e.now c.in-IsNull.operand c.get-in-IsNull.result.now c.walk-in-IsNull.result c.is_null.result
    c.in-IsNull.is c.get-in-IsNull.ensures c.walk-in-IsNull.ensures c.is_null.ensures

pub walk-returns-in-IsNotNull : goal.walk-returns-in-IsNotNull
walk-returns-in-IsNotNull t c =
    arms.arm_one c.args.self.now.tables.now c.args.self.now.variables.now c.args.place.now form.IsNotNull spec.is_not_null (arms.opens_IsNotNull c.args.self.now.tables.now c.args.self.now.variables.now c.args.place.now) c.args.e.now c.in-IsNotNull.operand c.get-in-IsNotNull.result.now c.walk-in-IsNotNull.result c.is_not_null.result
    c.in-IsNotNull.is c.get-in-IsNotNull.ensures c.walk-in-IsNotNull.ensures c.is_not_null.ensures

pub walk-returns-in-Not : goal.walk-returns-in-Not
walk-returns-in-Not t c =
    arms.arm_one c.args.self.now.tables.now c.args.self.now.variables.now c.args.place.now form.Not spec.negated (arms.opens_Not c.args.self.now.tables.now c.args.self.now.variables.now c.args.place.now) c.args.e.now c.in-Not.operand c.get-in-Not.result.now c.walk-in-Not.result c.negated.result
    c.in-Not.is c.get-in-Not.ensures c.walk-in-Not.ensures c.negated.ensures

pub walk-returns-in-IsColumnInMask : goal.walk-returns-in-IsColumnInMask
walk-returns-in-IsColumnInMask t c =
    arms.arm_two c.args.self.now.tables.now c.args.self.now.variables.now c.args.place.now form.IsColumnInMask spec.is_column_in_mask (arms.opens_IsColumnInMask c.args.self.now.tables.now c.args.self.now.variables.now c.args.place.now) c.args.e.now c.in-IsColumnInMask.column c.in-IsColumnInMask.mask c.get-in-IsColumnInMask.result.now c.get-in-IsColumnInMask-2.result.now
    c.walk-column.result c.walk-in-IsColumnInMask.result c.is_column_in_mask.result c.in-IsColumnInMask.is c.get-in-IsColumnInMask.ensures c.get-in-IsColumnInMask-2.ensures c.walk-column.ensures c.walk-in-IsColumnInMask.ensures c.is_column_in_mask.ensures

pub walk-returns-in-IfNull : goal.walk-returns-in-IfNull
walk-returns-in-IfNull t c =
    arms.arm_two c.args.self.now.tables.now c.args.self.now.variables.now c.args.place.now form.IfNull spec.if_null (arms.opens_IfNull c.args.self.now.tables.now c.args.self.now.variables.now c.args.place.now) c.args.e.now c.in-IfNull.value c.in-IfNull.instead c.get-in-IfNull.result.now c.get-in-IfNull-2.result.now
    c.walk-value.result c.walk-in-IfNull.result c.if_null.result c.in-IfNull.is c.get-in-IfNull.ensures c.get-in-IfNull-2.ensures c.walk-value.ensures c.walk-in-IfNull.ensures c.if_null.ensures

pub walk-returns-in-Compare : goal.walk-returns-in-Compare
walk-returns-in-Compare t c =
    arms.arm_two c.args.self.now.tables.now c.args.self.now.variables.now c.args.place.now (form.Compare c.in-Compare.operator) (spec.compare c.in-Compare.operator) (arms.opens_Compare c.args.self.now.tables.now c.args.self.now.variables.now c.args.place.now c.in-Compare.operator) c.args.e.now c.in-Compare.left c.in-Compare.right c.get-in-Compare.result.now c.get-in-Compare-2.result.now
    c.walk-left.result c.walk-in-Compare.result c.compare.result c.in-Compare.is c.get-in-Compare.ensures c.get-in-Compare-2.ensures c.walk-left.ensures c.walk-in-Compare.ensures c.compare.ensures

pub walk-returns-in-ColumnProperty : goal.walk-returns-in-ColumnProperty
walk-returns-in-ColumnProperty t c =
    arms.arm_three c.args.self.now.tables.now c.args.self.now.variables.now c.args.place.now c.args.e.now c.in-ColumnProperty.table c.in-ColumnProperty.column c.in-ColumnProperty.property c.get-in-ColumnProperty.result.now c.get-in-ColumnProperty-2.result.now c.get-in-ColumnProperty-3.result.now
    c.walk-table.result c.walk-column-in-ColumnProperty.result c.walk-in-ColumnProperty.result c.column_property.result c.in-ColumnProperty.is c.get-in-ColumnProperty.ensures c.get-in-ColumnProperty-2.ensures c.get-in-ColumnProperty-3.ensures
    c.walk-table.ensures c.walk-column-in-ColumnProperty.ensures c.walk-in-ColumnProperty.ensures c.column_property.ensures

pub walk-returns-in-Product : goal.walk-returns-in-Product
walk-returns-in-Product t c =
    arms.arm_chain c.args.self.now.tables.now c.args.self.now.variables.now c.args.place.now form.Product Number bound.Product (arms.opens_Product c.args.self.now.tables.now c.args.self.now.variables.now c.args.place.now) c.args.e.now c.in-Product.factors c.as_slice-in-Product.result.now c.chain.result c.product.result
    c.in-Product.is c.as_slice-in-Product.ensures c.chain.ensures c.product.ensures

pub walk-returns-in-And : goal.walk-returns-in-And
walk-returns-in-And t c =
    arms.arm_chain c.args.self.now.tables.now c.args.self.now.variables.now c.args.place.now form.And Condition bound.And (arms.opens_And c.args.self.now.tables.now c.args.self.now.variables.now c.args.place.now) c.args.e.now c.in-And.operands c.as_slice-in-And.result.now c.chain-in-And.result c.conjunction.result
    c.in-And.is c.as_slice-in-And.ensures c.chain-in-And.ensures c.conjunction.ensures

pub walk-returns-in-Or : goal.walk-returns-in-Or
walk-returns-in-Or t c =
    arms.arm_chain c.args.self.now.tables.now c.args.self.now.variables.now c.args.place.now form.Or Condition bound.Or (arms.opens_Or c.args.self.now.tables.now c.args.self.now.variables.now c.args.place.now) c.args.e.now c.in-Or.operands c.as_slice-in-Or.result.now c.chain-in-Or.result c.disjunction.result
    c.in-Or.is c.as_slice-in-Or.ensures c.chain-in-Or.ensures c.disjunction.ensures

pub walk-returns-in-Sum : goal.walk-returns-in-Sum
walk-returns-in-Sum t c =
    arms.arm_sum c.args.self.now.tables.now c.args.self.now.variables.now c.args.place.now c.args.e.now c.in-Sum.first c.get-in-Sum.result.now c.in-Sum.more c.as_slice-in-Sum.result.now c.walk-first.result c.sum.result c.sum-in-Sum.result
    c.in-Sum.is c.get-in-Sum.ensures c.as_slice-in-Sum.ensures c.walk-first.ensures c.sum.ensures c.sum-in-Sum.ensures

pub operands-loop-at-init : goal.operands-loop-at-init
operands-loop-at-init t c = record { rest = refl }

pub operands-loop-at-preserved : goal.operands-loop-at-preserved
operands-loop-at-preserved t c =
    goes_on (operand c.args.wanted c.args.place.now) (walk c.args.self.now.tables.now c.args.self.now.variables.now) c.args.all.now c.loop-at.at c.index-all-at.result c.loop-at.made c.in_ok-made.made _ c.loop-at-test.true c.index-all-at.is c.loop-at.invariant
    (asked_more c.args.wanted c.args.place.now (walk c.args.self.now.tables.now c.args.self.now.variables.now c.index-all-at.result) c.walk.result c.loop-at.made (Ok c.in_ok-made.made) c.walk.ensures c.in_ok-made.ensures)

pub operands-returns-in_err-made : goal.operands-returns-in_err-made
operands-returns-in_err-made t c =
    let p = err_from_is_err_and c.from_residual.result c.from_residual.ensures.1 in
    rw (p.1, p.2) (λ other. stops (operand c.args.wanted c.args.place.now) (walk c.args.self.now.tables.now c.args.self.now.variables.now) c.args.all.now c.loop-at.at c.index-all-at.result c.loop-at.made _ c.in_err-made.field-0.0 c.loop-at-test.true c.index-all-at.is c.loop-at.invariant
    (asked_more c.args.wanted c.args.place.now (walk c.args.self.now.tables.now c.args.self.now.variables.now c.index-all-at.result) c.walk.result c.loop-at.made (Err c.in_err-made.field-0.0) c.walk.ensures c.in_err-made.ensures other))

pub operands-returns : goal.operands-returns
operands-returns t c =
    finishes (operand c.args.wanted c.args.place.now) (walk c.args.self.now.tables.now c.args.self.now.variables.now) c.args.all.now c.loop-at.at c.loop-at.made _ c.loop-at-test.false c.loop-at.invariant

pub chain-returns-in-empty : goal.chain-returns-in-empty
chain-returns-in-empty t c =
    none_chained c.args.wanted c.args.place.now (walk c.args.self.now.tables.now c.args.self.now.variables.now) c.args.all.now (no_items c.args.all.now c.in-empty.len_below) ∙ ap (λ (made : List BoundExpr). Ok made) (sym c.new.ensures)

pub chain-returns-in-len1 : goal.chain-returns-in-len1
chain-returns-in-len1 t c =
    one_chained c.args.wanted c.args.place.now (walk c.args.self.now.tables.now c.args.self.now.variables.now) c.args.all.now c.only-item.result c.walk.result c.new-in-len1.result c.with_operand.result
    (one_item c.args.all.now c.only-item.result c.in-len1.len_at_least c.in-len1.len_below c.only-item.is) c.new-in-len1.ensures c.walk.ensures c.with_operand.ensures

pub chain-returns-in_ok-made-in-len2-up : goal.chain-returns-in_ok-made-in-len2-up
chain-returns-in_ok-made-in-len2-up t c =
    chained c.args.wanted c.args.place.now (walk c.args.self.now.tables.now c.args.self.now.variables.now) c.args.all.now c.left-item.result c.right-item.result _ c.walk-left.result c.walk-in-len2-up.result c.in_ok-made-in-len2-up.made c.operands.result
    (first_items c.args.all.now c.left-item.result c.right-item.result c.in-len2-up.len_at_least c.left-item.is c.right-item.is) c.walk-left.ensures c.walk-in-len2-up.ensures c.in_ok-made-in-len2-up.ensures c.operands.ensures

pub chain-returns-in_err-made-in-len2-up : goal.chain-returns-in_err-made-in-len2-up
chain-returns-in_err-made-in-len2-up t c =
    let p = err_from_is_err_and c.from_residual.result c.from_residual.ensures.1 in
    rw (p.1, p.2) (λ other. unchained c.args.wanted c.args.place.now (walk c.args.self.now.tables.now c.args.self.now.variables.now) c.args.all.now c.left-item.result c.right-item.result _ c.walk-left.result c.walk-in-len2-up.result c.in_err-made-in-len2-up.field-0.0
    (first_items c.args.all.now c.left-item.result c.right-item.result c.in-len2-up.len_at_least c.left-item.is c.right-item.is) c.walk-left.ensures c.walk-in-len2-up.ensures c.in_err-made-in-len2-up.ensures other)

pub terms-loop-at-init : goal.terms-loop-at-init
terms-loop-at-init t c = record { rest = refl }

pub terms-loop-at-preserved : goal.terms-loop-at-preserved
terms-loop-at-preserved t c =
    goes_on (spec.further_term c.args.place.now) (term_walk c.args.self.now.tables.now c.args.self.now.variables.now) c.args.all.now c.loop-at.at c.index-all-at.result c.loop-at.made c.in_ok-made.made _ c.loop-at-test.true c.index-all-at.is c.loop-at.invariant
    (term_more c.args.place.now (value_walk c.args.self.now.tables.now c.args.self.now.variables.now) (term_walk c.args.self.now.tables.now c.args.self.now.variables.now) (opened_term c.args.self.now.tables.now c.args.self.now.variables.now) c.index-all-at.result c.walk.result c.loop-at.made (Ok c.in_ok-made.made) c.walk.ensures c.in_ok-made.ensures)

pub terms-returns-in_err-made : goal.terms-returns-in_err-made
terms-returns-in_err-made t c =
    let p = err_from_is_err_and c.from_residual.result c.from_residual.ensures.1 in
    rw (p.1, p.2) (λ other. stops (spec.further_term c.args.place.now) (term_walk c.args.self.now.tables.now c.args.self.now.variables.now) c.args.all.now c.loop-at.at c.index-all-at.result c.loop-at.made _ c.in_err-made.field-0.0 c.loop-at-test.true c.index-all-at.is c.loop-at.invariant
    (term_more c.args.place.now (value_walk c.args.self.now.tables.now c.args.self.now.variables.now) (term_walk c.args.self.now.tables.now c.args.self.now.variables.now) (opened_term c.args.self.now.tables.now c.args.self.now.variables.now) c.index-all-at.result c.walk.result c.loop-at.made (Err c.in_err-made.field-0.0) c.walk.ensures c.in_err-made.ensures other))

pub terms-returns : goal.terms-returns
terms-returns t c =
    finishes (spec.further_term c.args.place.now) (term_walk c.args.self.now.tables.now c.args.self.now.variables.now) c.args.all.now c.loop-at.at c.loop-at.made _ c.loop-at-test.false c.loop-at.invariant

pub sum-returns-in-empty : goal.sum-returns-in-empty
sum-returns-in-empty t c =
    one_summed c.args.place.now (value_walk c.args.self.now.tables.now c.args.self.now.variables.now) (term_walk c.args.self.now.tables.now c.args.self.now.variables.now) (opened_term c.args.self.now.tables.now c.args.self.now.variables.now) (walked c.args.left) c.args.more.now c.args.left c.only_term.result
    (no_items c.args.more.now c.in-empty.len_below) (itself c.args.left) c.only_term.ensures

pub sum-returns-in_ok-first-in-len1-up : goal.sum-returns-in_ok-first-in-len1-up
sum-returns-in_ok-first-in-len1-up t c =
    summed c.args.place.now (value_walk c.args.self.now.tables.now c.args.self.now.variables.now) (term_walk c.args.self.now.tables.now c.args.self.now.variables.now) (opened_term c.args.self.now.tables.now c.args.self.now.variables.now) (walked c.args.left) c.args.more.now c.second-item.result _ c.args.left c.walk-right.result
    (c.in_ok-first-in-len1-up.first, c.in_ok-first-in-len1-up.made) c.terms.result c.joined.result
    (first_item c.args.more.now c.second-item.result c.in-len1-up.len_at_least c.second-item.is) (itself c.args.left) c.walk-right.ensures c.in_ok-first-in-len1-up.ensures c.terms.ensures c.joined.ensures

pub sum-returns-in_err-first-in-len1-up : goal.sum-returns-in_err-first-in-len1-up
sum-returns-in_err-first-in-len1-up t c =
    let p = err_from_is_err_and c.from_residual.result c.from_residual.ensures.1 in
    rw (p.1, p.2) (λ other. unsummed c.args.place.now (value_walk c.args.self.now.tables.now c.args.self.now.variables.now) (term_walk c.args.self.now.tables.now c.args.self.now.variables.now) (opened_term c.args.self.now.tables.now c.args.self.now.variables.now) (walked c.args.left) c.args.more.now c.second-item.result _ c.args.left c.walk-right.result c.in_err-first-in-len1-up.field-0.0
    (first_item c.args.more.now c.second-item.result c.in-len1-up.len_at_least c.second-item.is) (itself c.args.left) c.walk-right.ensures c.in_err-first-in-len1-up.ensures other)

pub values-loop-e-init : goal.values-loop-e-init
values-loop-e-init t c = fills_begins c.args.place.now (walk c.args.self.now.tables.now c.args.self.now.variables.now) c.args.kinds.now c.args.all.now c.new-made.result c.new-made.ensures

pub values-loop-e-preserved : goal.values-loop-e-preserved
values-loop-e-preserved t c =
    fills_on c.args.place.now (walk c.args.self.now.tables.now c.args.self.now.variables.now) (get_or c.loop-e.left.now 0 Number) _ c.loop-e.left.now c.args.all.now c.loop-e.e-index c.e-item.result c.loop-e.made c.in_ok-made.made _ c.loop-e-test.true c.e-item.is
    (first_kind Number c.loop-e.left.now c.in-len1-up.len_at_least) c.loop-e.invariant
    (asked_more (get_or c.loop-e.left.now 0 Number) c.args.place.now (walk c.args.self.now.tables.now c.args.self.now.variables.now c.e-item.result) c.walk.result c.loop-e.made (Ok c.in_ok-made.made) c.walk.ensures c.in_ok-made.ensures)

pub values-returns-in_default : goal.values-returns-in_default
values-returns-in_default t c =
    fills_no_kind c.args.place.now (walk c.args.self.now.tables.now c.args.self.now.variables.now) c.loop-e.left.now c.args.all.now c.loop-e.e-index c.loop-e.made _ (no_items c.loop-e.left.now c.in_default.len_below) c.loop-e.invariant

pub values-returns-in_err-made : goal.values-returns-in_err-made
values-returns-in_err-made t c =
    let p = err_from_is_err_and c.from_residual.result c.from_residual.ensures.1 in
    rw (p.1, p.2) (λ other. fills_stop c.args.place.now (walk c.args.self.now.tables.now c.args.self.now.variables.now) (get_or c.loop-e.left.now 0 Number) _ c.loop-e.left.now c.args.all.now c.loop-e.e-index c.e-item.result c.loop-e.made _ c.in_err-made.field-0.0 c.loop-e-test.true c.e-item.is
    (first_kind Number c.loop-e.left.now c.in-len1-up.len_at_least) c.loop-e.invariant
    (asked_more (get_or c.loop-e.left.now 0 Number) c.args.place.now (walk c.args.self.now.tables.now c.args.self.now.variables.now c.e-item.result) c.walk.result c.loop-e.made (Err c.in_err-made.field-0.0) c.walk.ensures c.in_err-made.ensures other))

pub values-returns : goal.values-returns
values-returns t c =
    fills_no_value c.args.place.now (walk c.args.self.now.tables.now c.args.self.now.variables.now) c.loop-e.left.now c.args.all.now c.loop-e.e-index c.loop-e.made _ c.loop-e-test.false c.loop-e.invariant

pub listed-returns : goal.listed-returns
listed-returns t c =
    gives_same _ (values c.args.place.now c.args.kinds.now (map (walk c.args.self.now.tables.now c.args.self.now.variables.now) c.args.all.now)) c.values.result
    (tuple_counts c.args.place.now c.args.kinds.now (walk c.args.self.now.tables.now c.args.self.now.variables.now) c.args.all.now ∙ ap (λ (it : Answer (Unit {0})). it >> values c.args.place.now c.args.kinds.now (map (walk c.args.self.now.tables.now c.args.self.now.variables.now) c.args.all.now)) c.in_ok-as_many.ensures) c.values.ensures

pub listed-returns-in_err-as_many : goal.listed-returns-in_err-as_many
listed-returns-in_err-as_many t c =
    let p = err_from_is_err_and c.from_residual.result c.from_residual.ensures.1 in
    rw (p.1, p.2) (λ other. tuple_counts c.args.place.now c.args.kinds.now (walk c.args.self.now.tables.now c.args.self.now.variables.now) c.args.all.now
    ∙ ap (λ (it : Answer (Unit {0})). it >> values c.args.place.now c.args.kinds.now (map (walk c.args.self.now.tables.now c.args.self.now.variables.now) c.args.all.now)) (c.in_err-as_many.ensures other))

pub version_of-returns : goal.version_of-returns
version_of-returns t c =
    versioned c.args.table.now c.args.names.now (map (walk c.args.self.now.tables.now c.args.self.now.variables.now) c.args.all.now) c.args.place.now c.in_ok-key.key c.as_slice.result.now c.as_slice-3.result.now c.in_ok-kinds.kinds c.as_slice-2.result.now c.in_ok-values.values c.version.result
    c.in_ok-key.ensures c.as_slice.ensures c.in_ok-kinds.ensures c.as_slice-2.ensures c.in_ok-values.ensures c.as_slice-3.ensures c.version.ensures

pub version_of-returns-in_err-values : goal.version_of-returns-in_err-values
version_of-returns-in_err-values t c =
    let p = err_from_is_err_and c.from_residual-in_err-values.result c.from_residual-in_err-values.ensures.1 in
    rw (p.1, p.2) (λ other. unversioned c.args.table.now c.args.names.now (map (walk c.args.self.now.tables.now c.args.self.now.variables.now) c.args.all.now) c.args.place.now c.in_ok-key.key c.as_slice.result.now c.in_ok-kinds.kinds c.as_slice-2.result.now c.in_err-values.field-0.0
    c.in_ok-key.ensures c.as_slice.ensures c.in_ok-kinds.ensures c.as_slice-2.ensures (c.in_err-values.ensures other))

pub version_of-returns-in_err-kinds : goal.version_of-returns-in_err-kinds
version_of-returns-in_err-kinds t c =
    let p = err_from_is_err_and c.from_residual-in_err-kinds.result c.from_residual-in_err-kinds.ensures.1 in
    rw (p.1, p.2) (λ other. unlisted c.args.table.now c.args.names.now (map (walk c.args.self.now.tables.now c.args.self.now.variables.now) c.args.all.now) c.args.place.now c.in_ok-key.key c.as_slice.result.now c.in_err-kinds.field-0.0
    c.in_ok-key.ensures c.as_slice.ensures (c.in_err-kinds.ensures other))

pub walk-returns-in_ok-table-in-Scalar : goal.walk-returns-in_ok-table-in-Scalar
walk-returns-in_ok-table-in-Scalar t c =
    arms.arm_scalar c.args.self.now.tables.now c.args.self.now.variables.now c.args.place.now c.args.e.now c.in-Scalar.scalar c.get-scalar.result.now c.in_ok-table-in-Scalar.field-0.now c.as_slice-names.result.now c.as_slice.result.now c.version_of-bound.result c.scalar.result
    c.in-Scalar.is c.get-scalar.ensures c.in_ok-table-in-Scalar.ensures c.as_slice-names.ensures c.as_slice.ensures c.version_of-bound.ensures c.scalar.ensures

pub walk-returns-in_err-table-in-Scalar : goal.walk-returns-in_err-table-in-Scalar
walk-returns-in_err-table-in-Scalar t c =
    let p = err_from_is_err_and c.from_residual.result c.from_residual.ensures.1 in
    rw (p.1, p.2) (λ other. arms.arm_untracked c.args.self.now.tables.now c.args.self.now.variables.now c.args.place.now c.args.e.now c.in-Scalar.scalar c.get-scalar.result.now c.in_err-table-in-Scalar.field-0.0
    c.in-Scalar.is c.get-scalar.ensures (c.in_err-table-in-Scalar.ensures other))
