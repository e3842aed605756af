use Rattle.std.proofs.Common.{◌≡◌, ◌∙◌, Ok, Some, None, refl, sym, ap, false, true}
use Rattle.xp_token.specs.Lexemes.{all_placed}
use Rattle.xp_parser.specs.Parses.{is_memory}
use Rattle.xp_analyse.specs.Checks.{described_one, ends_behind, one_of_tokens}
use Rattle.xp_analyse.proofs.CheckTexts.{one_refused, one_said}
use Rattle.xp_analyse.proofs.checks.check_of_tokens.Goals as goal

pub returns-in-Some-clause-value : goal.returns-in-Some-clause-value
returns-in-Some-clause-value c =
    let e : ends_behind c.args.end (all_placed c.args.tokens.now) ≡ true = sym c.ends_behind.ensures ∙ c.if-not-ends_behind.false in
    let g : described_one c.in-Ok.statement ≡ Some c.in-Some.expression.now = sym c.in-Some.ensures in
    let s : one_of_tokens c.args.end (all_placed c.args.tokens.now) ≡ Some c.in-Some.expression.now = one_said c.args.end c.args.tokens.now (Ok c.in-Ok.statement) e c.in-Ok.ensures.value ∙ g in
    rw s c.check_tree.ensures.value

pub returns-in-Ok-clause-value : goal.returns-in-Ok-clause-value
returns-in-Ok-clause-value c =
    let e : ends_behind c.args.end (all_placed c.args.tokens.now) ≡ true = sym c.ends_behind.ensures ∙ c.if-not-ends_behind.false in
    let g : described_one c.in-Ok.statement ≡ None = sym c.in-None.ensures in
    let s : one_of_tokens c.args.end (all_placed c.args.tokens.now) ≡ None = one_said c.args.end c.args.tokens.now (Ok c.in-Ok.statement) e c.in-Ok.ensures.value ∙ g in
    rw s refl

pub returns-in-Err-Syntax : goal.returns-in-Err-Syntax
returns-in-Err-Syntax c =
    let e : ends_behind c.args.end (all_placed c.args.tokens.now) ≡ true = sym c.ends_behind.ensures ∙ c.if-not-ends_behind.false in
    let z : is_memory c.in-Err-Syntax.field-0 ≡ false = ap is_memory c.in-Err-Syntax.field-0-is in
    let s : one_of_tokens c.args.end (all_placed c.args.tokens.now) ≡ None = one_refused c.args.end c.args.tokens.now c.in-Err-Syntax.field-0 e z c.in-Err-Syntax.ensures.value in
    record { value = rw s refl; truth = tt }

pub returns-in-Err-TooDeep-clause-value : goal.returns-in-Err-TooDeep-clause-value
returns-in-Err-TooDeep-clause-value c =
    let e : ends_behind c.args.end (all_placed c.args.tokens.now) ≡ true = sym c.ends_behind.ensures ∙ c.if-not-ends_behind.false in
    let z : is_memory c.in-Err-TooDeep.field-0 ≡ false = ap is_memory c.in-Err-TooDeep.field-0-is in
    let s : one_of_tokens c.args.end (all_placed c.args.tokens.now) ≡ None = one_refused c.args.end c.args.tokens.now c.in-Err-TooDeep.field-0 e z c.in-Err-TooDeep.ensures.value in
    rw s refl
