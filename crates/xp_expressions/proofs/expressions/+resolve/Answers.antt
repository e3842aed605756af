use Rattle.std.proofs.Common.{◌≡◌, ◌≤◌, [], ◌∷◌, codes, drop, false, length, map, take, arith, refl, sym, ap, Ok, Err, None}
use Rattle.std.proofs.lemmas.List.{length-map}
use denote.Param.Weighed.{at_most, most}
use Rattle.xp_grammar.specs.declared.ast.Arm.{size-Arm}
use Rattle.std.specs.Prelude.{option_map}
use Rattle.xp_base.specs.FromLeft.{and_then}
use Rattle.xp_base.specs.OrMemory.{OrMemory}
use Rattle.xp_resolve.specs.Made.{is_memory}
use Rattle.xp_resolve.specs.declared.made.Made.{Made}
use Rattle.xp_resolve.proofs.Steps.{then_err}
use Rattle.xp_expressions.specs.Branches.{arms, no_arms, with_arm}
use Rattle.xp_forms.specs.Rewritten.{first_half, lower_operator, upper_operator}
use Rattle.xp_expressions.specs.Composed.{halved, member}
use Rattle.xp_expressions.specs.Expressions.{meaning, resolved}
use Rattle.xp_expressions.specs.Operands.{begun, beside, gathered, optional, with_operand}
use Rattle.xp_expressions.specs.Words.{operator}
use Rattle.xp_expressions.specs.inner.Arms.{branch_of}
use Rattle.xp_expressions.proofs.Forms.{and_is, array_is, between_is, branch_is, call_is, case_is, cast_is, column_is, extract_is, in_is, is_distinct_is, is_is, like_is, not_is, null_if_is, number_is, one_operand, or_is, position_is, selection_is, subscript_is, substring_from_is, substring_is, trim_from_is, trim_is, two_operands, typed_is}
use Rattle.xp_expressions.proofs.Gathering.{behind_end, behind_next, behind_none, each_behind}
use Rattle.xp_expressions.proofs.Halves.{both_halved_are, first_fewer, halved_over, one_item, rest_fewer, several}
use Rattle.xp_expressions.proofs.expressions.+resolve.Goals as goal

pub resolve-returns-in-Number-clause-value : goal.resolve-returns-in-Number-clause-value
resolve-returns-in-Number-clause-value t c =
    rw (c.in-Number.is, number_is c.args.scene.now c.in-Number.at c.in-Number.value c.in-Number.whole)
    (rw c.from.ensures at c.number.ensures.value)

pub resolve-returns-in-Column-clause-value : goal.resolve-returns-in-Column-clause-value
resolve-returns-in-Column-clause-value t c =
    rw (c.in-Column.is, column_is c.args.scene.now c.in-Column.at c.in-Column.name)
    (rw (c.from-in-Column.ensures, c.as_str-in-Column.ensures) at c.named_column.ensures.value)

pub resolve-returns-in-Typed-clause-value : goal.resolve-returns-in-Typed-clause-value
resolve-returns-in-Typed-clause-value t c =
    rw (c.in-Typed.is, typed_is c.args.scene.now c.in-Typed.target c.in-Typed.at c.in-Typed.text)
    (rw (c.get.ensures, c.as_str-in-Typed.ensures) at c.typed.ensures.value)

pub resolve-returns-in-Call-clause-value : goal.resolve-returns-in-Call-clause-value
resolve-returns-in-Call-clause-value t c =
    rw (c.in-Call.is, call_is c.args.scene.now c.in-Call.at c.in-Call.name c.in-Call.args c.in-Call.variadic)
    (rw (c.as_slice.ensures, c.as_str-in-Call.ensures) at (c.over_arguments.ensures.value _ c.gather-all.ensures.value))

pub resolve-returns-in-Cast-clause-value : goal.resolve-returns-in-Cast-clause-value
resolve-returns-in-Cast-clause-value t c =
    rw (c.in-Cast.is, cast_is c.args.scene.now c.in-Cast.at c.in-Cast.inner c.in-Cast.target)
    (rw (c.get-in-Cast.ensures, c.get-in-Cast-2.ensures) at c.cast.ensures.value)

pub resolve-returns-in-Case-clause-value : goal.resolve-returns-in-Case-clause-value
resolve-returns-in-Case-clause-value t c =
    rw (c.in-Case.is, case_is c.args.scene.now c.in-Case.at c.in-Case.operand c.in-Case.arms c.in-Case.otherwise)
    (rw c.as_slice-in-Case.ensures at c.choice.ensures.value)

pub resolve-returns-in-Selection-clause-value : goal.resolve-returns-in-Selection-clause-value
resolve-returns-in-Selection-clause-value t c =
    rw (c.in-Selection.is, selection_is c.args.scene.now c.in-Selection.at c.in-Selection.which c.in-Selection.args)
    (rw c.as_slice-in-Selection.ensures at (c.selection.ensures.value _ c.gather-all-in-Selection.ensures.value))

pub resolve-returns-in-NullIf-clause-value : goal.resolve-returns-in-NullIf-clause-value
resolve-returns-in-NullIf-clause-value t c =
    rw (c.in-NullIf.is, null_if_is c.args.scene.now c.in-NullIf.at c.in-NullIf.left c.in-NullIf.right)
    (rw (c.get-in-NullIf.ensures, c.get-in-NullIf-2.ensures) at (c.null_if.ensures.value _ c.pair-both.ensures.value))

pub resolve-returns-in-Array-clause-value : goal.resolve-returns-in-Array-clause-value
resolve-returns-in-Array-clause-value t c =
    rw (c.in-Array.is, array_is c.args.scene.now c.in-Array.at c.in-Array.elements)
    (rw c.as_slice-in-Array.ensures at (c.array.ensures.value _ c.gather-all-in-Array.ensures.value))

pub resolve-returns-in-Position-clause-value : goal.resolve-returns-in-Position-clause-value
resolve-returns-in-Position-clause-value t c =
    rw (c.in-Position.is, position_is c.args.scene.now c.in-Position.at c.in-Position.part c.in-Position.whole)
    (rw (c.get-in-Position.ensures, c.get-in-Position-2.ensures) at (c.over_swapped.ensures.value _ c.pair-both-in-Position.ensures.value))

pub resolve-returns-in-Substring-clause-value : goal.resolve-returns-in-Substring-clause-value
resolve-returns-in-Substring-clause-value t c =
    rw (c.in-Substring.is, substring_is c.args.scene.now c.in-Substring.at c.in-Substring.args)
    (rw c.as_slice-in-Substring.ensures at (c.over_written.ensures.value _ c.gather-all-in-Substring.ensures.value))

pub resolve-returns-in-SubstringFrom-clause-value : goal.resolve-returns-in-SubstringFrom-clause-value
resolve-returns-in-SubstringFrom-clause-value t c =
    rw (c.in-SubstringFrom.is, substring_from_is c.args.scene.now c.in-SubstringFrom.at c.in-SubstringFrom.text c.in-SubstringFrom.from c.in-SubstringFrom.length)
    (rw c.get-in-SubstringFrom.ensures at (c.over_written-in-SubstringFrom.ensures.value _ (c.with_optional-all.ensures.value _ (c.with_place-two.ensures.value _ c.first-one.ensures.value))))

pub resolve-returns-in-Trim-clause-value : goal.resolve-returns-in-Trim-clause-value
resolve-returns-in-Trim-clause-value t c =
    rw (c.in-Trim.is, trim_is c.args.scene.now c.in-Trim.at c.in-Trim.side c.in-Trim.text c.in-Trim.set)
    (rw (c.get-in-Trim.ensures, c.trim_name.ensures) at (c.over_written-in-Trim.ensures.value _ (c.with_optional-all-in-Trim.ensures.value _ c.first-one-in-Trim.ensures.value)))

pub resolve-returns-in-TrimFrom-clause-value : goal.resolve-returns-in-TrimFrom-clause-value
resolve-returns-in-TrimFrom-clause-value t c =
    rw (
      c.in-TrimFrom.is,
      trim_from_is c.args.scene.now c.in-TrimFrom.at c.in-TrimFrom.side c.in-TrimFrom.set c.in-TrimFrom.text,
      each_behind with_operand (Ok (begun c.args.progress)) (optional (option_map (resolved c.args.scene.now) c.in-TrimFrom.set)) (resolved c.args.scene.now c.in-TrimFrom.text ∷ []),
    )
    (rw (c.trim_name-in-TrimFrom.ensures, c.get-in-TrimFrom.ensures) at
    (c.over_swapped-in-TrimFrom.ensures.value _ (c.with_operand-all.ensures.value _ (c.with_optional-some.ensures.value (Ok (begun c.args.progress)) (ap Ok (sym c.begun.ensures))))))

pub resolve-returns-in-Extract-clause-value : goal.resolve-returns-in-Extract-clause-value
resolve-returns-in-Extract-clause-value t c =
    rw (c.in-Extract.is, extract_is c.args.scene.now c.in-Extract.at c.in-Extract.field_at c.in-Extract.field c.in-Extract.source)
    (rw c.get-in-Extract.ensures at (c.over_written-in-Extract.ensures.value _ (c.with_operand-both.ensures.value _ (rw c.as_str-in-Extract.ensures at c.with_text-one.ensures.value))))

pub resolve-returns-in-Subscript-clause-value : goal.resolve-returns-in-Subscript-clause-value
resolve-returns-in-Subscript-clause-value t c =
    rw (c.in-Subscript.is, subscript_is c.args.scene.now c.in-Subscript.at c.in-Subscript.array c.in-Subscript.index)
    (rw (c.get-in-Subscript.ensures, c.get-in-Subscript-2.ensures) at (c.subscript.ensures.value _ c.both-operands.ensures.value))

pub resolve-returns-in-Sign-clause-value : goal.resolve-returns-in-Sign-clause-value
resolve-returns-in-Sign-clause-value t c =
    rw (one_operand c.args.scene.now c.args.ast.now c.in-Sign.at c.in-Sign.name c.in-Sign.arg c.in-Sign.is)
    (rw (c.get-in-Sign.ensures, c.as_str-in-Sign.ensures) at (c.over_operands.ensures.value _ c.first-one-in-Sign.ensures.value))

pub resolve-returns-in-Power-clause-value : goal.resolve-returns-in-Power-clause-value
resolve-returns-in-Power-clause-value t c =
    rw (two_operands c.args.scene.now c.args.ast.now c.in-Power.at c.in-Power.name c.in-Power.left c.in-Power.right c.in-Power.is)
    (rw (c.get-in-Power.ensures, c.get-in-Power-2.ensures, c.as_str-in-Power.ensures) at c.operation.ensures.value)

pub resolve-returns-in-Between-clause-value : goal.resolve-returns-in-Between-clause-value
resolve-returns-in-Between-clause-value t c =
    rw (c.in-Between.is, between_is c.args.scene.now c.in-Between.at c.in-Between.negated c.in-Between.arg c.in-Between.low c.in-Between.high)
    (rw (c.get-in-Between.ensures, c.get-in-Between-2.ensures, c.get-in-Between-3.ensures) at c.between.ensures.value)

pub resolve-returns-in-In-clause-value : goal.resolve-returns-in-In-clause-value
resolve-returns-in-In-clause-value t c =
    rw (c.in-In.is, in_is c.args.scene.now c.in-In.at c.in-In.negated c.in-In.arg c.in-In.list)
    (rw (c.get-in-In.ensures, c.as_slice-in-In.ensures) at c.inside.ensures.value)

pub resolve-returns-in-Like-clause-value : goal.resolve-returns-in-Like-clause-value
resolve-returns-in-Like-clause-value t c =
    rw (c.in-Like.is, like_is c.args.scene.now c.in-Like.at c.in-Like.negated c.in-Like.any_case c.in-Like.left c.in-Like.right)
    (rw (c.get-in-Like.ensures, c.get-in-Like-2.ensures) at (c.like.ensures.value _ c.pair-both-in-Like.ensures.value))

pub resolve-returns-in-Is-clause-value : goal.resolve-returns-in-Is-clause-value
resolve-returns-in-Is-clause-value t c =
    rw (c.in-Is.is, is_is c.args.scene.now c.in-Is.at c.in-Is.negated c.in-Is.which c.in-Is.arg)
    (rw c.get-in-Is.ensures at (c.test.ensures.value _ c.resolve-operand.ensures.value))

pub resolve-returns-in-IsDistinct-clause-value : goal.resolve-returns-in-IsDistinct-clause-value
resolve-returns-in-IsDistinct-clause-value t c =
    rw (c.in-IsDistinct.is, is_distinct_is c.args.scene.now c.in-IsDistinct.at c.in-IsDistinct.negated c.in-IsDistinct.left c.in-IsDistinct.right)
    (rw (c.get-in-IsDistinct.ensures, c.get-in-IsDistinct-2.ensures) at (c.distinction.ensures.value _ c.pair-both-in-IsDistinct.ensures.value))

pub resolve-returns-in-Not-clause-value : goal.resolve-returns-in-Not-clause-value
resolve-returns-in-Not-clause-value t c =
    rw (c.in-Not.is, not_is c.args.scene.now c.in-Not.at c.in-Not.arg)
    (rw c.get-in-Not.ensures at (c.negation.ensures.value _ c.resolve-operand-in-Not.ensures.value))

pub resolve-returns-in-And-clause-value : goal.resolve-returns-in-And-clause-value
resolve-returns-in-And-clause-value t c =
    rw (c.in-And.is, and_is c.args.scene.now c.in-And.at c.in-And.left c.in-And.right)
    (rw (c.get-in-And.ensures, c.get-in-And-2.ensures) at (c.connective.ensures.value _ c.both-operands-in-And.ensures.value))

pub resolve-returns-in-Or-clause-value : goal.resolve-returns-in-Or-clause-value
resolve-returns-in-Or-clause-value t c =
    rw (c.in-Or.is, or_is c.args.scene.now c.in-Or.at c.in-Or.left c.in-Or.right)
    (rw (c.get-in-Or.ensures, c.get-in-Or-2.ensures) at (c.connective-in-Or.ensures.value _ c.both-operands-in-Or.ensures.value))

-- ---- operands

pub with_operand-returns-in-Ok-clause-value : goal.with_operand-returns-in-Ok-clause-value
with_operand-returns-in-Ok-clause-value t c said is =
    let own : said ≡ Ok c.in-Ok.before = rw c.in-Ok.is at is in
    rw own (c.with_made.ensures.value (resolved c.args.scene.now c.args.operand.now c.in-Ok.before.progress) c.resolve-made.ensures.value)

pub first-returns-clause-value : goal.first-returns-clause-value
first-returns-clause-value t c = c.with_operand.ensures.value (Ok (begun c.args.progress)) (ap Ok (sym c.begun.ensures))

pub first-returns-clause-count : goal.first-returns-clause-count
first-returns-clause-count t c = c.with_operand.ensures.count 0 (rw c.begun.ensures refl)

pub pair-returns-clause-value : goal.pair-returns-clause-value
pair-returns-clause-value t c = c.with_operand.ensures.value _ c.first-one.ensures.value

pub pair-returns-clause-two : goal.pair-returns-clause-two
pair-returns-clause-two t c = c.with_operand.ensures.count 1 c.first-one.ensures.count

pub both-returns-in-Ok-clause-value : goal.both-returns-in-Ok-clause-value
both-returns-in-Ok-clause-value t c = rw c.in-Ok.ensures.value (c.beside.ensures.value _ c.resolve-right.ensures.value)

pub both-returns-in-Err-clause-value : goal.both-returns-in-Err-clause-value
both-returns-in-Err-clause-value t c =
    then_err (resolved c.args.scene.now c.args.left.now c.args.progress) (λ (l : Made). and_then (resolved c.args.scene.now c.args.right.now l.progress) (λ r. Ok (beside l.part r))) c.in-Err.refusal c.in-Err.ensures.value

pub both-returns-in-Ok-clause-right : goal.both-returns-in-Ok-clause-right
both-returns-in-Ok-clause-right t c = c.beside.ensures.right c.args.scene.now.c c.resolve-right.ensures.source

pub with_optional-returns-in-Some-clause-value : goal.with_optional-returns-in-Some-clause-value
with_optional-returns-in-Some-clause-value t c said is = rw c.in-Some.is (rw c.get.ensures at (c.with_operand.ensures.value said is))

pub with_place-returns-in-Some-clause-value : goal.with_place-returns-in-Some-clause-value
with_place-returns-in-Some-clause-value t c said is = rw c.in-Some.is (rw c.get.ensures at (c.with_operand.ensures.value said is))

pub with_place-returns-in-None-clause-value : goal.with_place-returns-in-None-clause-value
with_place-returns-in-None-clause-value t c said is = rw c.in-None.is (c.with_one.ensures.value said is)

pub gather-operands-preserved : goal.gather-operands-preserved
gather-operands-preserved t c = record {
  sources = c.with_operand-all.ensures.sources;
  says = behind_next with_operand (resolved c.args.scene.now) (gathered (Ok (begun c.args.progress)) (map (resolved c.args.scene.now) c.args.operands.now)) c.operands.all c.with_operand-all.result c.args.operands.now c.operands.operand-index _ c.operands-test.true c.operand-item.is c.operands.invariant.says c.with_operand-all.ensures.value;
}

pub gather-returns-clause-value : goal.gather-returns-clause-value
gather-returns-clause-value t c =
    behind_end with_operand (resolved c.args.scene.now) (gathered (Ok (begun c.args.progress)) (map (resolved c.args.scene.now) c.args.operands.now)) c.operands.all c.args.operands.now c.operands.operand-index c.operands-test.false c.operands.invariant.says

-- ---- BETWEEN and IN

pub operation-returns-clause-value : goal.operation-returns-clause-value
operation-returns-clause-value t c = c.over_operands.ensures.value _ c.pair-both.ensures.value

pub bounds-returns-in-Ok-clause-value : goal.bounds-returns-in-Ok-clause-value
bounds-returns-in-Ok-clause-value t c =
    let said : operator c.args.scene.now c.args.at (lower_operator c.args.negated) (resolved c.args.scene.now c.args.operand.now ∷ resolved c.args.scene.now c.args.low.now ∷ []) c.args.progress ≡ Ok c.in-Ok.lower = rw c.lower_operator.ensures at c.in-Ok.ensures.value in
    rw said (rw c.upper_operator.ensures at (c.beside.ensures.value _ c.operation-upper.ensures.value))

pub bounds-returns-in-Ok-clause-right : goal.bounds-returns-in-Ok-clause-right
bounds-returns-in-Ok-clause-right t c = c.beside.ensures.right c.args.scene.now.c c.operation-upper.ensures.source

pub bounds-returns-in-Err-clause-value : goal.bounds-returns-in-Err-clause-value
bounds-returns-in-Err-clause-value t c =
    then_err (operator c.args.scene.now c.args.at (lower_operator c.args.negated) (resolved c.args.scene.now c.args.operand.now ∷ resolved c.args.scene.now c.args.low.now ∷ []) c.args.progress)
    (λ (l : Made). and_then (operator c.args.scene.now c.args.at (upper_operator c.args.negated) (resolved c.args.scene.now c.args.operand.now ∷ resolved c.args.scene.now c.args.high.now ∷ []) l.progress) (λ r. Ok (beside l.part r)))
    c.in-Err.refusal (rw c.lower_operator.ensures at c.in-Err.ensures.value)

pub between-returns-clause-value : goal.between-returns-clause-value
between-returns-clause-value t c = rw c.between_connective.ensures at (c.connective.ensures.value _ c.bounds-both.ensures.value)

pub both_halves-returns-in-Ok-clause-right : goal.both_halves-returns-in-Ok-clause-right
both_halves-returns-in-Ok-clause-right t c = c.beside.ensures.right c.args.scene.now.c c.halves-right.ensures.source

pub both_halves-returns-in-Ok-clause-value : goal.both_halves-returns-in-Ok-clause-value
both_halves-returns-in-Ok-clause-value t c depth enough =
    let front : c.split_at.result.0.now ≡ take (first_half (length c.args.list.now)) c.args.list.now = rw c.first_half.ensures.value at c.split_at.ensures.front in
    let back : c.split_at.result.1.now ≡ drop (first_half (length c.args.list.now)) c.args.list.now = rw c.first_half.ensures.value at c.split_at.ensures.back in
    let left : halved c.args.scene.now c.args.at c.args.negated depth (map (member c.args.scene.now c.args.at c.args.negated (resolved c.args.scene.now c.args.operand.now)) (map (resolved c.args.scene.now) (take (first_half (length c.args.list.now)) c.args.list.now))) c.args.progress ≡ Ok c.in-Ok.left =
    rw front at (c.in-Ok.ensures.value depth (omega (arith, c.split_at.ensures.front_len, c.split_at.ensures.back_len, c.first_half.ensures.value, first_fewer (length c.args.list.now) c.requires.several, rest_fewer (length c.args.list.now) c.requires.several, enough))) in
    let right : OrMemory is_memory (halved c.args.scene.now c.args.at c.args.negated depth (map (member c.args.scene.now c.args.at c.args.negated (resolved c.args.scene.now c.args.operand.now)) (map (resolved c.args.scene.now) (drop (first_half (length c.args.list.now)) c.args.list.now))) c.in-Ok.left.progress) c.halves-right.result =
    rw back at (c.halves-right.ensures.value depth (omega (arith, c.split_at.ensures.front_len, c.split_at.ensures.back_len, c.first_half.ensures.value, first_fewer (length c.args.list.now) c.requires.several, rest_fewer (length c.args.list.now) c.requires.several, enough))) in
    rw (both_halved_are c.args.scene.now c.args.at c.args.negated depth (member c.args.scene.now c.args.at c.args.negated (resolved c.args.scene.now c.args.operand.now)) (resolved c.args.scene.now) c.args.list.now c.args.progress, left)
    (c.beside.ensures.value _ right)

pub both_halves-returns-in-Err-clause-value : goal.both_halves-returns-in-Err-clause-value
both_halves-returns-in-Err-clause-value t c depth enough =
    let front : c.split_at.result.0.now ≡ take (first_half (length c.args.list.now)) c.args.list.now = rw c.first_half.ensures.value at c.split_at.ensures.front in
    let said : OrMemory is_memory (halved c.args.scene.now c.args.at c.args.negated depth (map (member c.args.scene.now c.args.at c.args.negated (resolved c.args.scene.now c.args.operand.now)) (map (resolved c.args.scene.now) (take (first_half (length c.args.list.now)) c.args.list.now))) c.args.progress) (Err c.in-Err.refusal) =
    rw front at (c.in-Err.ensures.value depth (omega (arith, c.split_at.ensures.front_len, c.split_at.ensures.back_len, c.first_half.ensures.value, first_fewer (length c.args.list.now) c.requires.several, rest_fewer (length c.args.list.now) c.requires.several, enough))) in
    rw (both_halved_are c.args.scene.now c.args.at c.args.negated depth (member c.args.scene.now c.args.at c.args.negated (resolved c.args.scene.now c.args.operand.now)) (resolved c.args.scene.now) c.args.list.now c.args.progress)
    (then_err (halved c.args.scene.now c.args.at c.args.negated depth (map (member c.args.scene.now c.args.at c.args.negated (resolved c.args.scene.now c.args.operand.now)) (map (resolved c.args.scene.now) (take (first_half (length c.args.list.now)) c.args.list.now))) c.args.progress)
    (λ (l : Made). and_then (halved c.args.scene.now c.args.at c.args.negated depth (map (member c.args.scene.now c.args.at c.args.negated (resolved c.args.scene.now c.args.operand.now)) (map (resolved c.args.scene.now) (drop (first_half (length c.args.list.now)) c.args.list.now))) l.progress) (λ r. Ok (beside l.part r))) c.in-Err.refusal said)

pub halves-returns-in_default-clause-value : goal.halves-returns-in_default-clause-value
halves-returns-in_default-clause-value t c depth enough =
    let pairs = (map (member c.args.scene.now c.args.at c.args.negated (resolved c.args.scene.now c.args.operand.now)) (map (resolved c.args.scene.now) c.args.list.now)) in
    let long : length pairs ≡ length c.args.list.now = omega (arith, length-map (map (resolved c.args.scene.now) c.args.list.now) (member c.args.scene.now c.args.at c.args.negated (resolved c.args.scene.now c.args.operand.now)), length-map c.args.list.now (resolved c.args.scene.now)) in
    halved_over c.args.scene.now c.args.at c.args.negated depth pairs c.args.progress c.both_halves-both.result c.connective.result
    (omega (arith, long, c.in_default.len_at_least)) (omega (arith, long, enough)) (λ d few. c.both_halves-both.ensures.value d (omega (arith, long, few)))
    (rw c.in_connective.ensures at c.connective.ensures.value)

pub inside-returns-in-len1-clause-value : goal.inside-returns-in-len1-clause-value
inside-returns-in-len1-clause-value t c =
    rw (one_item c.args.list.now c.only-item.result c.in-len1.len_at_least c.in-len1.len_below c.only-item.is)
    (rw c.member_operator.ensures at (c.alone.ensures.value _ c.operation-both.ensures.value))

pub inside-returns-in_default-clause-value : goal.inside-returns-in_default-clause-value
inside-returns-in_default-clause-value t c =
    let pairs = (map (member c.args.scene.now c.args.at c.args.negated (resolved c.args.scene.now c.args.operand.now)) (map (resolved c.args.scene.now) c.args.list.now)) in
    let long : length pairs ≡ length c.args.list.now = omega (arith, length-map (map (resolved c.args.scene.now) c.args.list.now) (member c.args.scene.now c.args.at c.args.negated (resolved c.args.scene.now c.args.operand.now)), length-map c.args.list.now (resolved c.args.scene.now)) in
    rw (several c.args.scene.now c.args.at c.args.negated pairs (omega (arith, long, c.in_default.len_at_least))) (c.halves.ensures.value (length pairs) (omega (arith, long)))

-- ---- CASE

pub with_arm-returns-in-Ok-clause-value : goal.with_arm-returns-in-Ok-clause-value
with_arm-returns-in-Ok-clause-value t c said is =
    let own : said ≡ Ok c.in-Ok.before = rw c.in-Ok.is at is in
    rw own (c.with_when.ensures.value _ c.arm_made-made.ensures.value)

pub arms_of-arms-preserved : goal.arms_of-arms-preserved
arms_of-arms-preserved t c = record {
  are_resolved = c.with_arm-all.ensures.resolved;
  says = behind_next (with_arm c.args.scene.now (option_map (resolved c.args.scene.now) c.args.operand.now)) (branch_of c.args.scene.now) _ c.arms.all c.with_arm-all.result c.args.arms.now c.arms.arm-index _ c.arms-test.true c.arm-item.is c.arms.invariant.says c.with_arm-all.ensures.value;
}

pub arms_of-returns-clause-value : goal.arms_of-returns-clause-value
arms_of-returns-clause-value t c =
    behind_end (with_arm c.args.scene.now (option_map (resolved c.args.scene.now) c.args.operand.now)) (branch_of c.args.scene.now) _ c.arms.all c.args.arms.now c.arms.arm-index c.arms-test.false c.arms.invariant.says

pub arms_of-with_arm-all-requires : goal.arms_of-with_arm-all-requires
arms_of-with_arm-all-requires t c =
    let own : size-Arm c.arm-item.result ≤ most size-Arm c.args.arms.now = rw (← c.arm-item.is) at (at_most size-Arm c.args.arms.now c.arms.arm-index c.arm-item.result c.arms-test.true) in
    (omega (arith, own, c.decreases), (c.requires.scene, c.arms.invariant.are_resolved))

pub arm_made-returns-in-Ok-clause-value : goal.arm_made-returns-in-Ok-clause-value
arm_made-returns-in-Ok-clause-value t c =
    rw (branch_is c.args.scene.now c.args.arm.now, c.in-Ok.ensures.value (resolved c.args.scene.now c.args.arm.now.gives)) (c.arm_of.ensures.value _ c.resolve-gives.ensures.value)

pub choice-returns-in-Ok-clause-value : goal.choice-returns-in-Ok-clause-value
choice-returns-in-Ok-clause-value t c = rw c.in-Ok.ensures.value (c.case_over.ensures.value _ c.or_null-last.ensures.value)

-- ---- casts

pub cast-returns-in-None-clause-value : goal.cast-returns-in-None-clause-value
cast-returns-in-None-clause-value t c =
    let none : (meaning c.args.scene.now c.args.operand.now).empty ≡ None = sym (c.in-None.ensures c.args.scene.now) in
    rw none (c.cast_operand.ensures.value _ c.resolve-made.ensures.value)
