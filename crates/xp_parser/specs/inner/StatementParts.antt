-- What is read of each part of a statement outside its expressions, as the functions go (manual 7.3, 7.4 and 7.7).
use Rattle.std.specs.Prelude.{List, [], ◌∷◌}
use Rattle.xp_token.specs.declared.token.Token.{Token}
use Rattle.xp_token.specs.declared.words.Word.TheVariants as word
use Rattle.xp_token.specs.declared.token.Mark.TheVariants as mark
use Rattle.xp_grammar.specs.declared.kind.Kind.TheVariants as k
use Rattle.xp_grammar.specs.declared.kind.Class.TheVariants.{Only, Names}
use Rattle.xp_grammar.specs.declared.ast.Ast.{Ast}
use Rattle.xp_grammar.specs.declared.statement.Item.{Item}
use Rattle.xp_grammar.specs.declared.statement.SelectArm.{SelectArm}
use Rattle.xp_grammar.specs.Table.{Value, Word, Labels, Lists, Selected, made, with_item, with_row, with_select}
use Rattle.xp_grammar.specs.Table.{Level as l}
use Rattle.xp_grammar.specs.Table.{Start as s}
use Rattle.xp_grammar.specs.inner.Machine.{Parser, ◌>>=◌, pure, expect, after, parse, more}

unfoldable pub item_part : Parser Value
item_part = parse l.E0 >>= (λ v. after (Only (k.Word word.As)) (λ a. expect Names >>= (λ n. pure (made s.item_as (v ∷ Word a ∷ Word n ∷ [])))) (pure (made s.item (v ∷ []))))

-- one more item, behind a comma
unfoldable pub more_items_part : List Item → Parser Value
more_items_part all = after (Only (k.Mark mark.Comma)) (λ a. parse l.Item >>= (λ v. more l.Items (with_item (Labels all) (v ∷ [])))) (pure (Labels all))

-- behind a SELECT, by the token at whose place it counts
unfoldable pub select_then : List SelectArm → Token → Parser Value
select_then arms a = parse l.Items >>= (λ v. more l.Selects (with_select (Selected arms) (Word a ∷ v ∷ [])))

unfoldable pub more_selects_part : List SelectArm → Parser Value
more_selects_part arms = after (Only (k.Word word.Union)) (λ a. expect (Only (k.Word word.All)) >>= (λ b. expect (Only (k.Word word.Select)) >>= (λ c. select_then arms a))) (pure (Selected arms))

-- the next list of VALUES
unfoldable pub rows_part : List (List Ast) → Parser Value
rows_part lists = expect (Only (k.Mark mark.OpenParen)) >>= (λ a. parse l.Shown >>= (λ v. expect (Only (k.Mark mark.CloseParen)) >>= (λ b. more l.Rows (with_row (Lists lists) (Word a ∷ v ∷ Word b ∷ [])))))

unfoldable pub more_rows_part : List (List Ast) → Parser Value
more_rows_part lists = after (Only (k.Mark mark.Comma)) (λ a. rows_part lists) (pure (Lists lists))

unfoldable pub store_then : Token → Parser Value
store_then a = parse l.Full >>= (λ n. expect (Only (k.Word word.From)) >>= (λ b. parse l.E0 >>= (λ v. pure (made s.store (Word a ∷ n ∷ Word b ∷ v ∷ [])))))

unfoldable pub explain_then : Token → Parser Value
explain_then a = after (Only (k.Word word.Analyze))
    (λ b. parse l.E0 >>= (λ v. pure (made s.explain_analyze (Word a ∷ Word b ∷ v ∷ []))))
    (parse l.E0 >>= (λ v. pure (made s.explain (Word a ∷ v ∷ []))))

unfoldable pub statement_part : Parser Value
statement_part =
    after (Only (k.Word word.Values)) (λ a. parse l.Rows >>= (λ v. pure (made s.values (Word a ∷ v ∷ []))))
    (after (Only (k.Word word.Store)) store_then
    (after (Only (k.Word word.Describe)) (λ a. parse l.Shown >>= (λ v. pure (made s.describe (Word a ∷ v ∷ []))))
    (after (Only (k.Word word.Explain)) explain_then
    (parse l.Selects >>= (λ v. pure (made s.selects (v ∷ [])))))))
