use Rattle.std.proofs.Common.{◌≡◌, true, false, drop, [], sym, ◌∙◌, subst}
use Rattle.std.proofs.lemmas.List.{append-nil}
use Rattle.std.specs.Str.{IsUtf8}
use Rattle.xp_base.proofs.Lists.{drop_none}
use Rattle.xp_lexer.specs.inner.Cutting.{undoubled}
use Rattle.xp_lexer.proofs.Quotes.{undoubled_utf8}
use Rattle.xp_lexer.proofs.quoted.undoubled.Goals as goal

pub unreachable-requires : goal.unreachable-requires
unreachable-requires c =
    let none : drop c.loop-b.b-index c.args.raw.now ≡ [] = drop_none c.args.raw.now c.loop-b.b-index c.loop-b-test.false in
    let all : c.loop-b.bytes.items ≡ undoubled c.args.quote false c.args.raw.now = sym (append-nil _) ∙ rw none at c.loop-b.invariant in
    let no : false ≡ true = c.in-Err.ensures.succeeds (subst IsUtf8 (sym all) (undoubled_utf8 c.args.quote c.args.raw.now c.requires.quote c.requires.text)) in absurd cc
