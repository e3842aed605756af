-- What is read of a statement outside its expressions, and of a whole list of tokens.
use Rattle.std.proofs.Common.{◌≡◌, ℕ, ◌<◌, List, [], ◌∷◌, length, slice_get, Option, Some, None, Ok, Err, refl, ap, ◌∙◌, arith}
use Rattle.xp_token.specs.declared.token.Token.{Token}
use Rattle.xp_token.specs.declared.words.Word.TheVariants as word
use Rattle.xp_grammar.specs.declared.kind.Kind.TheVariants as k
use Rattle.xp_grammar.specs.declared.kind.Class.TheVariants.{Only}
use Rattle.xp_grammar.specs.declared.ast.Ast.{Ast}
use Rattle.xp_grammar.specs.declared.statement.Item.{Item}
use Rattle.xp_grammar.specs.declared.statement.SelectArm.{SelectArm}
use Rattle.xp_grammar.specs.declared.statement.Statement.TheVariants as stating
use Rattle.xp_grammar.specs.Table.{Value, Stated, Labels, Lists, Selected, selected, with_item}
use Rattle.xp_grammar.specs.Table.{Level as l}
use Rattle.xp_grammar.specs.inner.Machine.{◌>>=◌, expect, onward, parse, more}
use Rattle.xp_grammar.specs.Reads.{to_end, read}
use Rattle.xp_grammar.proofs.Straight.{reach, again, parse_straight, more_straight}
use Rattle.xp_parser.specs.inner.StatementParts.{item_part, more_items_part, select_then, more_selects_part, rows_part, more_rows_part, store_then, explain_then, statement_part}

pub item_is : (ts : List Token) → parse l.Item ts ≡ item_part ts
unfolding reach onward item_part
item_is ts = parse_straight l.Item ts

pub items_is : (ts : List Token) → parse l.Items ts ≡ (parse l.Item >>= (λ v. more l.Items (with_item (Labels []) (v ∷ [])))) ts
unfolding reach more
items_is ts = parse_straight l.Items ts

pub more_items : (all : List Item) (ts : List Token) → more l.Items (Labels all) ts ≡ more_items_part all ts
unfolding reach again more_items_part
more_items all ts = more_straight l.Items (Labels all) ts

pub selects_is : (ts : List Token) → parse l.Selects ts ≡ (expect (Only (k.Word word.Select)) >>= select_then []) ts
unfolding reach more select_then
selects_is ts = parse_straight l.Selects ts

pub more_selects : (arms : List SelectArm) (ts : List Token) → more l.Selects (Selected arms) ts ≡ more_selects_part arms ts
unfolding reach again select_then more_selects_part
more_selects arms ts = more_straight l.Selects (Selected arms) ts

pub rows_is : (ts : List Token) → parse l.Rows ts ≡ rows_part [] ts
unfolding reach more rows_part
rows_is ts = parse_straight l.Rows ts

pub more_rows : (lists : List (List Ast)) (ts : List Token) → more l.Rows (Lists lists) ts ≡ more_rows_part lists ts
unfolding reach again rows_part more_rows_part
more_rows lists ts = more_straight l.Rows (Lists lists) ts

pub statement_is : (ts : List Token) → parse l.Statement ts ≡ statement_part ts
unfolding reach onward store_then explain_then statement_part
statement_is ts = parse_straight l.Statement ts

-- ---- SELECTs with UNION ALL between

abbrev held : SelectArm → Option SelectArm → SelectArm
held x (Some y) = y
held x None = x

pub selected_one : (arms : List SelectArm) (x : SelectArm) → slice_get arms 0 ≡ Some x → length arms ≡ 1 → selected arms ≡ Stated (stating.Select x.at x.items)
selected_one [] x e h = absurd (omega (arith, h))
selected_one (a ∷ []) x e h = ap (λ z. Stated (stating.Select (held a z).at (held a z).items)) e
selected_one (a ∷ b ∷ more) x e h = absurd (omega (arith, h))

pub selected_more : (arms : List SelectArm) (x : SelectArm) → slice_get arms 0 ≡ Some x → 1 < length arms → selected arms ≡ Stated (stating.UnionAll x.at arms)
selected_more [] x e h = absurd (omega (arith, h))
selected_more (a ∷ []) x e h = absurd (omega (arith, h))
selected_more (a ∷ b ∷ more) x e h = ap (λ z. Stated (stating.UnionAll (held a z).at (a ∷ b ∷ more))) e

-- ---- a whole list of tokens

read_is : (ts : List Token) → read ts ≡ to_end (parse l.Statement ts)
unfolding read
read_is ts = refl

pub read_err : (ts : List Token) (n : ℕ) → parse l.Statement ts ≡ Err n → read ts ≡ Err n
read_err ts n e = read_is ts ∙ ap to_end e

pub read_ended : (ts : List Token) (v : Value) (r : List Token) → parse l.Statement ts ≡ Ok (v, r) → length r ≡ 0 → read ts ≡ Ok v
read_ended ts v [] e h = read_is ts ∙ ap to_end e
read_ended ts v (t ∷ r) e h = absurd (omega (arith, h))

pub read_on : (ts : List Token) (v : Value) (r : List Token) → parse l.Statement ts ≡ Ok (v, r) → 0 < length r → read ts ≡ Err (length r)
read_on ts v [] e h = absurd (omega (arith, h))
read_on ts v (t ∷ r) e h = read_is ts ∙ ap to_end e
