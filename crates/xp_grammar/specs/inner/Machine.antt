-- The same grammar read from the left, with one token seen ahead, lines that begin alike being read together (manual 4.1.6).
use Rattle.std.specs.Prelude.{ℕ, zero, suc, ◌+◌, ◌*◌, ◌-◌, take, Bool, true, false, ◌||◌, List, [], ◌∷◌, length, Option, Some, None, Result, Ok, Err, if◌then◌else◌}
use Rattle.xp_token.specs.declared.token.Token.{Token}
use Rattle.xp_token.specs.declared.words.Word.TheVariants as w
use Rattle.xp_token.specs.declared.token.Mark.TheVariants as m
use Rattle.xp_grammar.specs.declared.kind.Kind.{Kind}
use Rattle.xp_grammar.specs.declared.kind.Class.{Class}
use Rattle.xp_grammar.specs.declared.kind.Class.TheVariants.{Names, Plains, Moments, Zoned, TruthTests, Constants, Likes, Selections, Sides, Fields}
use Rattle.xp_grammar.specs.Kinds.{kind, ahead, has, among}
use Rattle.xp_grammar.specs.declared.kind.Kind.TheVariants as k
use Rattle.xp_grammar.specs.Table.{Level, Sym, Tok, Lev, tok, word, mark, Value, Word, Start, Tail, is_open, made, joined}
use Rattle.xp_grammar.specs.Table.{Level as l}
use Rattle.xp_grammar.specs.Table.{Start as s}
use Rattle.xp_grammar.specs.Table.{Tail as c}

abbrev pub Outcome : Type 0 → Type 0
Outcome A = Result (A × List Token) ℕ

abbrev pub Parser : Type 0 → Type 0
Parser A = List Token → Outcome A

abbrev pub and_then : {A B : Type 0} → Outcome A → (A → Parser B) → Outcome B
and_then (Ok p) f = f p.0 p.1
and_then (Err e) f = Err e

infixl 10 ◌>>=◌
abbrev pub ◌>>=◌ : {A B : Type 0} → Parser A → (A → Parser B) → Parser B
p >>= f = λ i. and_then (p i) f

abbrev pub pure : {A : Type 0} → A → Parser A
pure a = λ i. Ok (a, i)

abbrev pub expect : Class → Parser Token
expect c [] = Err 0
expect c (t ∷ ts) = if has c (kind t) then Ok (t, ts) else Err (length (t ∷ ts))

abbrev pub fail : {A : Type 0} → Parser A
fail = λ ts. Err (length ts)

-- the next token, where it is of the class
abbrev pub eat : Class → Parser (Option Token)
eat c [] = Ok (None, [])
eat c (t ∷ ts) = if has c (kind t) then Ok (Some t, ts) else Ok (None, t ∷ ts)

abbrev pub taken : {A : Type 0} → (Token → Parser A) → Parser A → Option Token → Parser A
taken found other (Some t) = found t
taken found other None = other

abbrev pub after : {A : Type 0} → Class → (Token → Parser A) → Parser A → Parser A
after c found other = eat c >>= taken found other

-- lines that begin alike
mutual
  pub data Node (A : Type 0) : Type 0 where
    node : Option A → Edges A → Node A

  pub data Edges (A : Type 0) : Type 0 where
    stop : Edges A
    edge : Sym → Node A → Edges A → Edges A

abbrev pub ends : {A : Type 0} → A → Node A
ends x = node (Some x) stop

abbrev pub to : {A : Type 0} → Sym → Node A → Node A
to s n = node None (edge s n stop)

abbrev pub trie : Level → Node Start
trie l.Statement = node None (edge (word w.Values) (to (Lev l.Rows) (ends s.values)) (edge (word w.Store) (to (Lev l.Full) (to (word w.From) (to (Lev l.E0) (ends s.store)))) (edge (word w.Describe) (to (Lev l.Shown) (ends s.describe)) (edge (word w.Explain) (node None (edge (word w.Analyze) (to (Lev l.E0) (ends s.explain_analyze)) (edge (Lev l.E0) (ends s.explain) stop))) (edge (Lev l.Selects) (ends s.selects) stop)))))
trie l.Selects = to (word w.Select) (to (Lev l.Items) (ends s.select))
trie l.Items = to (Lev l.Item) (ends s.first_item)
trie l.Item = to (Lev l.E0) (node (Some s.item) (edge (word w.As) (to (Tok Names) (ends s.item_as)) stop))
trie l.Rows = to (mark m.OpenParen) (to (Lev l.Shown) (to (mark m.CloseParen) (ends s.first_row)))
trie l.Shown = to (Lev l.E0) (ends s.first_shown)
trie l.E0 = to (Lev l.E1) (ends s.one_or)
trie l.E1 = to (Lev l.E2) (ends s.one_and)
trie l.E2 = node None (edge (word w.Not) (to (Lev l.E2) (ends s.not)) (edge (Lev l.E3) (ends s.not_free) stop))
trie l.E3 = to (Lev l.E4) (node (Some s.test_free) (edge (word w.Is) (node None (edge (word w.Not) (node None (edge (Tok TruthTests) (ends s.is_not_truth) (edge (word w.Distinct) (to (word w.From) (to (Lev l.E4) (ends s.is_not_distinct))) stop))) (edge (Tok TruthTests) (ends s.is_truth) (edge (word w.Distinct) (to (word w.From) (to (Lev l.E4) (ends s.is_distinct))) stop)))) (edge (word w.Isnull) (ends s.isnull) (edge (word w.Notnull) (ends s.notnull) stop))))
trie l.E4 = to (Lev l.E5) (node (Some s.compare_free) (edge (tok k.Compare) (to (Lev l.E5) (ends s.compared)) stop))
trie l.E5 = to (Lev l.E6) (node (Some s.range_free) (edge (word w.Not) (node None (edge (word w.Between) (to (Lev l.E6) (to (word w.And) (to (Lev l.E6) (ends s.not_between)))) (edge (word w.In) (to (mark m.OpenParen) (to (Lev l.Shown) (to (mark m.CloseParen) (ends s.not_within)))) (edge (Tok Likes) (to (Lev l.E6) (ends s.not_like)) stop)))) (edge (word w.Between) (to (Lev l.E6) (to (word w.And) (to (Lev l.E6) (ends s.between)))) (edge (word w.In) (to (mark m.OpenParen) (to (Lev l.Shown) (to (mark m.CloseParen) (ends s.within)))) (edge (Tok Likes) (to (Lev l.E6) (ends s.like)) stop)))))
trie l.E6 = node None (edge (Lev l.P) (ends s.other_prefix) (edge (Lev l.E7) (ends s.other_free) stop))
trie l.P = to (tok k.Other) (node None (edge (Lev l.P) (ends s.prefix_prefix) (edge (Lev l.E7) (ends s.prefix) stop)))
trie l.E7 = to (Lev l.E8) (ends s.one_sum)
trie l.E8 = to (Lev l.E9) (ends s.one_product)
trie l.E9 = to (Lev l.E10) (ends s.one_power)
trie l.E10 = node None (edge (tok k.Sign) (to (Lev l.E10) (ends s.signed)) (edge (Lev l.E11) (ends s.sign_free) stop))
trie l.E11 = to (Lev l.E12) (ends s.operand)
trie l.E12 = node None (edge (Tok Constants) (ends s.constant) (edge (Tok Names) (node (Some s.column) (edge (tok k.String) (ends s.typed_constant) (edge (mark m.OpenParen) (node None (edge (mark m.CloseParen) (ends s.called_empty) (edge (Lev l.Args) (to (mark m.CloseParen) (ends s.called)) stop))) stop))) (edge (mark m.OpenParen) (to (Lev l.E0) (to (mark m.CloseParen) (ends s.paren))) (edge (word w.Cast) (to (mark m.OpenParen) (to (Lev l.E0) (to (word w.As) (to (Lev l.Full) (to (mark m.CloseParen) (ends s.cast_as)))))) (edge (word w.Case) (node None (edge (Lev l.Arms) (node None (edge (word w.Else) (to (Lev l.E0) (to (word w.End) (ends s.cases_else))) (edge (word w.End) (ends s.cases) stop))) (edge (Lev l.E0) (to (Lev l.Arms) (node None (edge (word w.Else) (to (Lev l.E0) (to (word w.End) (ends s.cases_of_else))) (edge (word w.End) (ends s.cases_of) stop)))) stop))) (edge (Tok Selections) (to (mark m.OpenParen) (to (Lev l.Shown) (to (mark m.CloseParen) (ends s.selection)))) (edge (word w.Nullif) (to (mark m.OpenParen) (to (Lev l.E0) (to (mark m.Comma) (to (Lev l.E0) (to (mark m.CloseParen) (ends s.nullif)))))) (edge (word w.Array) (to (mark m.OpenBracket) (node None (edge (mark m.CloseBracket) (ends s.array_empty) (edge (Lev l.Shown) (to (mark m.CloseBracket) (ends s.array)) stop)))) (edge (word w.Position) (to (mark m.OpenParen) (to (Lev l.E6) (to (word w.In) (to (Lev l.E6) (to (mark m.CloseParen) (ends s.position)))))) (edge (word w.Substring) (to (mark m.OpenParen) (to (Lev l.E0) (node None (edge (mark m.Comma) (to (Lev l.Shown) (to (mark m.CloseParen) (ends s.substring_more))) (edge (word w.From) (to (Lev l.E0) (node None (edge (word w.For) (to (Lev l.E0) (to (mark m.CloseParen) (ends s.substring_from_for))) (edge (mark m.CloseParen) (ends s.substring_from) stop)))) (edge (word w.For) (to (Lev l.E0) (to (mark m.CloseParen) (ends s.substring_for))) (edge (mark m.CloseParen) (ends s.substring_one) stop))))))) (edge (word w.Trim) (to (mark m.OpenParen) (node None (edge (Tok Sides) (node None (edge (word w.From) (to (Lev l.E0) (to (mark m.CloseParen) (ends s.trim_side_from))) (edge (Lev l.E0) (node None (edge (word w.From) (to (Lev l.E0) (to (mark m.CloseParen) (ends s.trim_side_set_from))) (edge (mark m.Comma) (to (Lev l.E0) (to (mark m.CloseParen) (ends s.trim_side_set))) (edge (mark m.CloseParen) (ends s.trim_side) stop)))) stop))) (edge (word w.From) (to (Lev l.E0) (to (mark m.CloseParen) (ends s.trim_from))) (edge (Lev l.E0) (node None (edge (word w.From) (to (Lev l.E0) (to (mark m.CloseParen) (ends s.trim_set_from))) (edge (mark m.Comma) (to (Lev l.E0) (to (mark m.CloseParen) (ends s.trim_set))) (edge (mark m.CloseParen) (ends s.trim) stop)))) stop))))) (edge (word w.Extract) (to (mark m.OpenParen) (to (Tok Fields) (to (word w.From) (to (Lev l.E0) (to (mark m.CloseParen) (ends s.extract)))))) stop))))))))))))
trie l.Args = node None (edge (word w.Variadic) (to (Lev l.E0) (ends s.variadic)) (edge (Lev l.E0) (ends s.one_arg) stop))
trie l.Arms = to (word w.When) (to (Lev l.E0) (to (word w.Then) (to (Lev l.E0) (ends s.first_arm))))
trie l.Full = to (Lev l.Basic) (ends s.full_basic)
trie l.Basic = to (Lev l.Typename) (node (Some s.basic) (edge (mark m.OpenParen) (to (tok k.Whole) (node None (edge (mark m.Comma) (to (tok k.Whole) (to (mark m.CloseParen) (ends s.basic_scaled))) (edge (mark m.CloseParen) (ends s.basic_sized) stop)))) stop))
trie l.Typename = node None (edge (Tok Plains) (ends s.plain_type) (edge (tok k.Double) (node (Some s.double_type) (edge (tok k.Precision) (ends s.double_precision) stop)) (edge (tok k.Character) (node (Some s.character_type) (edge (tok k.Varying) (ends s.character_varying) stop)) (edge (Tok Moments) (node (Some s.moment_type) (edge (Tok Zoned) (to (tok k.Time) (to (tok k.Zone) (ends s.moment_zoned))) stop)) stop))))

-- how a level goes on; the Bool says that its value is open
abbrev pub tails : Level → Bool → Edges Tail
tails l.Selects b = edge (word w.Union) (to (word w.All) (to (word w.Select) (to (Lev l.Items) (ends c.union)))) stop
tails l.Items b = edge (mark m.Comma) (to (Lev l.Item) (ends c.next_item)) stop
tails l.Rows b = edge (mark m.Comma) (to (mark m.OpenParen) (to (Lev l.Shown) (to (mark m.CloseParen) (ends c.next_row)))) stop
tails l.Shown b = edge (mark m.Comma) (to (Lev l.E0) (ends c.next_shown)) stop
tails l.E0 b = edge (word w.Or) (to (Lev l.E1) (ends c.or)) stop
tails l.E1 b = edge (word w.And) (to (Lev l.E2) (ends c.and)) stop
tails l.E6 b = edge (tok k.Other) (node None (edge (Lev l.P) (ends c.other_then_prefix) (edge (Lev l.E7) (ends c.other_then) stop))) stop
tails l.E7 b = edge (tok k.Sign) (to (Lev l.E8) (ends c.added)) stop
tails l.E8 b = edge (tok k.Times) (to (Lev l.E9) (ends c.multiplied)) stop
tails l.E9 b = edge (tok k.Power) (to (Lev l.E10) (ends c.raised)) stop
tails l.E11 true = edge (mark m.DoubleColon) (to (Lev l.Basic) (ends c.cast)) (edge (mark m.OpenBracket) (node None (edge (mark m.CloseBracket) (ends c.empty_brackets) (edge (Lev l.E0) (to (mark m.CloseBracket) (ends c.brackets)) stop))) stop)
tails l.E11 false = edge (mark m.DoubleColon) (to (Lev l.Basic) (ends c.cast)) (edge (mark m.OpenBracket) (to (Lev l.E0) (to (mark m.CloseBracket) (ends c.brackets))) stop)
tails l.Args true = edge (mark m.Comma) (node None (edge (word w.Variadic) (to (Lev l.E0) (ends c.next_variadic)) (edge (Lev l.E0) (ends c.next_one) stop))) stop
tails l.Args false = stop
tails l.Arms b = edge (word w.When) (to (Lev l.E0) (to (word w.Then) (to (Lev l.E0) (ends c.next_arm)))) stop
tails l.Full b = edge (mark m.OpenBracket) (node None (edge (tok k.Whole) (to (mark m.CloseBracket) (ends c.full_sized_pair)) (edge (mark m.CloseBracket) (ends c.full_pair) stop))) stop
tails _ b = stop

abbrev expression_first : List Kind
expression_first = k.Whole ∷ k.Decimal ∷ k.Wide ∷ k.String ∷ k.Name ∷ k.Double ∷ k.Precision ∷ k.Character ∷ k.Varying ∷ k.Timestamp ∷ k.Time ∷ k.With ∷ k.Without ∷ k.Zone ∷ k.Quoted ∷ (k.Word w.Array) ∷ (k.Word w.Case) ∷ (k.Word w.Cast) ∷ (k.Word w.Coalesce) ∷ (k.Word w.Extract) ∷ (k.Word w.False) ∷ (k.Word w.Greatest) ∷ (k.Word w.Least) ∷ (k.Word w.Not) ∷ (k.Word w.Null) ∷ (k.Word w.Nullif) ∷ (k.Word w.Position) ∷ (k.Word w.Substring) ∷ (k.Word w.Trim) ∷ (k.Word w.True) ∷ k.Sign ∷ k.Other ∷ (k.Mark m.OpenParen) ∷ []

abbrev operation_first : List Kind
operation_first = k.Whole ∷ k.Decimal ∷ k.Wide ∷ k.String ∷ k.Name ∷ k.Double ∷ k.Precision ∷ k.Character ∷ k.Varying ∷ k.Timestamp ∷ k.Time ∷ k.With ∷ k.Without ∷ k.Zone ∷ k.Quoted ∷ (k.Word w.Array) ∷ (k.Word w.Case) ∷ (k.Word w.Cast) ∷ (k.Word w.Coalesce) ∷ (k.Word w.Extract) ∷ (k.Word w.False) ∷ (k.Word w.Greatest) ∷ (k.Word w.Least) ∷ (k.Word w.Null) ∷ (k.Word w.Nullif) ∷ (k.Word w.Position) ∷ (k.Word w.Substring) ∷ (k.Word w.Trim) ∷ (k.Word w.True) ∷ k.Sign ∷ k.Other ∷ (k.Mark m.OpenParen) ∷ []

abbrev sum_first : List Kind
sum_first = k.Whole ∷ k.Decimal ∷ k.Wide ∷ k.String ∷ k.Name ∷ k.Double ∷ k.Precision ∷ k.Character ∷ k.Varying ∷ k.Timestamp ∷ k.Time ∷ k.With ∷ k.Without ∷ k.Zone ∷ k.Quoted ∷ (k.Word w.Array) ∷ (k.Word w.Case) ∷ (k.Word w.Cast) ∷ (k.Word w.Coalesce) ∷ (k.Word w.Extract) ∷ (k.Word w.False) ∷ (k.Word w.Greatest) ∷ (k.Word w.Least) ∷ (k.Word w.Null) ∷ (k.Word w.Nullif) ∷ (k.Word w.Position) ∷ (k.Word w.Substring) ∷ (k.Word w.Trim) ∷ (k.Word w.True) ∷ k.Sign ∷ (k.Mark m.OpenParen) ∷ []

abbrev first_list : Level → List Kind
first_list l.Statement = (k.Word w.Describe) ∷ (k.Word w.Explain) ∷ (k.Word w.Select) ∷ (k.Word w.Store) ∷ (k.Word w.Values) ∷ []
first_list l.Selects = (k.Word w.Select) ∷ []
first_list l.Items = expression_first
first_list l.Item = expression_first
first_list l.Rows = (k.Mark m.OpenParen) ∷ []
first_list l.Shown = expression_first
first_list l.E0 = expression_first
first_list l.E1 = expression_first
first_list l.E2 = expression_first
first_list l.E3 = operation_first
first_list l.E4 = operation_first
first_list l.E5 = operation_first
first_list l.E6 = operation_first
first_list l.P = k.Other ∷ []
first_list l.E7 = sum_first
first_list l.E8 = sum_first
first_list l.E9 = sum_first
first_list l.E10 = sum_first
first_list l.E11 = k.Whole ∷ k.Decimal ∷ k.Wide ∷ k.String ∷ k.Name ∷ k.Double ∷ k.Precision ∷ k.Character ∷ k.Varying ∷ k.Timestamp ∷ k.Time ∷ k.With ∷ k.Without ∷ k.Zone ∷ k.Quoted ∷ (k.Word w.Array) ∷ (k.Word w.Case) ∷ (k.Word w.Cast) ∷ (k.Word w.Coalesce) ∷ (k.Word w.Extract) ∷ (k.Word w.False) ∷ (k.Word w.Greatest) ∷ (k.Word w.Least) ∷ (k.Word w.Null) ∷ (k.Word w.Nullif) ∷ (k.Word w.Position) ∷ (k.Word w.Substring) ∷ (k.Word w.Trim) ∷ (k.Word w.True) ∷ (k.Mark m.OpenParen) ∷ []
first_list l.E12 = k.Whole ∷ k.Decimal ∷ k.Wide ∷ k.String ∷ k.Name ∷ k.Double ∷ k.Precision ∷ k.Character ∷ k.Varying ∷ k.Timestamp ∷ k.Time ∷ k.With ∷ k.Without ∷ k.Zone ∷ k.Quoted ∷ (k.Word w.Array) ∷ (k.Word w.Case) ∷ (k.Word w.Cast) ∷ (k.Word w.Coalesce) ∷ (k.Word w.Extract) ∷ (k.Word w.False) ∷ (k.Word w.Greatest) ∷ (k.Word w.Least) ∷ (k.Word w.Null) ∷ (k.Word w.Nullif) ∷ (k.Word w.Position) ∷ (k.Word w.Substring) ∷ (k.Word w.Trim) ∷ (k.Word w.True) ∷ (k.Mark m.OpenParen) ∷ []
first_list l.Args = k.Whole ∷ k.Decimal ∷ k.Wide ∷ k.String ∷ k.Name ∷ k.Double ∷ k.Precision ∷ k.Character ∷ k.Varying ∷ k.Timestamp ∷ k.Time ∷ k.With ∷ k.Without ∷ k.Zone ∷ k.Quoted ∷ (k.Word w.Array) ∷ (k.Word w.Case) ∷ (k.Word w.Cast) ∷ (k.Word w.Coalesce) ∷ (k.Word w.Extract) ∷ (k.Word w.False) ∷ (k.Word w.Greatest) ∷ (k.Word w.Least) ∷ (k.Word w.Not) ∷ (k.Word w.Null) ∷ (k.Word w.Nullif) ∷ (k.Word w.Position) ∷ (k.Word w.Substring) ∷ (k.Word w.Trim) ∷ (k.Word w.True) ∷ (k.Word w.Variadic) ∷ k.Sign ∷ k.Other ∷ (k.Mark m.OpenParen) ∷ []
first_list l.Arms = (k.Word w.When) ∷ []
first_list l.Full = k.Name ∷ k.Double ∷ k.Precision ∷ k.Character ∷ k.Varying ∷ k.Timestamp ∷ k.Time ∷ k.With ∷ k.Without ∷ k.Zone ∷ k.Quoted ∷ []
first_list l.Basic = k.Name ∷ k.Double ∷ k.Precision ∷ k.Character ∷ k.Varying ∷ k.Timestamp ∷ k.Time ∷ k.With ∷ k.Without ∷ k.Zone ∷ k.Quoted ∷ []
first_list l.Typename = k.Name ∷ k.Double ∷ k.Precision ∷ k.Character ∷ k.Varying ∷ k.Timestamp ∷ k.Time ∷ k.With ∷ k.Without ∷ k.Zone ∷ k.Quoted ∷ []

unfoldable pub first : Level → Kind → Bool
first m a = among a (first_list m)

-- whether the symbol may begin with a token of this kind
abbrev pub opens : Sym → Kind → Bool
opens (Tok c) a = has c a
opens (Lev m) a = first m a

abbrev pub any_opens : {A : Type 0} → Edges A → Kind → Bool
any_opens stop a = false
any_opens (edge s n es) a = opens s a || any_opens es a

-- whether the level may begin with the next token decides
abbrev pub starting : {A : Type 0} → Level → Parser A → Parser A → Parser A
starting m found other = λ ts. if first m (ahead ts) then found ts else other ts

-- what was read of ts, where r is left
abbrev pub used : List Token → List Token → List Token
used ts r = take (length ts - length r) ts

module _ (read : Level → Parser Value) where
  unfoldable pub symbol : Sym → Parser Value
  symbol (Tok c) = expect c >>= (λ t. pure (Word t))
  symbol (Lev l) = read l

  abbrev pub finish : {A : Type 0} → Option A → Parser (A × List Value)
  finish None ts = Err (length ts)
  finish (Some x) ts = Ok ((x, []), ts)

  unfoldable mutual
    pub walk : {A : Type 0} → Node A → Parser (A × List Value)
    walk (node d es) ts = choose es d ts

    pub choose : {A : Type 0} → Edges A → Option A → Parser (A × List Value)
    choose stop d ts = finish d ts
    choose (edge s n es) d ts =
        if opens s (ahead ts) then and_then (symbol s ts) (λ v. walk n >>= (λ p. pure (p.0, v ∷ p.1))) else choose es d ts

  unfoldable pub onward : ℕ → Level → Value → Parser Value
  onward zero l v ts = Err (length ts)
  onward (suc n) l v ts =
      if any_opens (tails l (is_open v)) (ahead ts)
      then and_then (choose (tails l (is_open v)) None ts) (λ p r. onward n l (joined p.0 v (used ts r) p.1) r)
      else Ok (v, ts)

  abbrev pub one : Level → Parser Value
  one l ts = and_then (walk (trie l) ts) (λ p r. onward (suc (length r)) l (made p.0 p.1) r)

unfoldable pub run : ℕ → Level → Parser Value
run zero l ts = Err (length ts)
run (suc n) l ts = one (run n) l ts

-- the height of a level, over the levels that its lines begin with
abbrev pub rank : Level → ℕ
rank l.Statement = 1
rank l.Selects = 0
rank l.Items = 14
rank l.Item = 13
rank l.Rows = 0
rank l.Shown = 13
rank l.E0 = 12
rank l.E1 = 11
rank l.E2 = 10
rank l.E3 = 9
rank l.E4 = 8
rank l.E5 = 7
rank l.E6 = 6
rank l.P = 0
rank l.E7 = 5
rank l.E8 = 4
rank l.E9 = 3
rank l.E10 = 2
rank l.E11 = 1
rank l.E12 = 0
rank l.Args = 13
rank l.Arms = 0
rank l.Full = 2
rank l.Basic = 1
rank l.Typename = 0

-- with calls enough for these tokens
unfoldable pub parse : Level → Parser Value
parse l ts = run (suc (15 * length ts + rank l)) l ts

-- how a level goes on after a value of it
unfoldable pub more : Level → Value → Parser Value
more l v ts = onward parse (suc (length ts)) l v ts
