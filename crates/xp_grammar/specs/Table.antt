-- The lines of the grammar, and what each builds (manual 4.1.6, 4.2).
use Rattle.std.specs.Prelude.{ℕ, Bool, true, false, List, [], ◌∷◌, ◌++◌, Option, Some, None, if◌then◌else◌}
use Rattle.xp_base.specs.declared.numbers.Span.{Span}
use Rattle.xp_token.specs.declared.token.Token.{Token}
use Rattle.xp_token.specs.declared.token.TokenKind.{TokenKind}
use Rattle.xp_token.specs.declared.token.TokenKind.TheVariants as t
use Rattle.xp_token.specs.declared.words.Word.{Word as Reserved}
use Rattle.xp_token.specs.declared.words.Word.TheVariants as w
use Rattle.xp_token.specs.declared.token.Mark.{Mark}
use Rattle.xp_token.specs.declared.token.Mark.TheVariants as m
use Rattle.xp_grammar.specs.declared.kind.Kind.{Kind}
use Rattle.xp_grammar.specs.declared.kind.Kind.TheVariants as k
use Rattle.xp_grammar.specs.declared.kind.Class.{Class}
use Rattle.xp_grammar.specs.declared.kind.Class.TheVariants.{Only, Names, Plains, Moments, Zoned, TruthTests, Constants, Likes, Selections, Sides, Fields}
use Rattle.xp_grammar.specs.declared.types.Moment.{Moment}
use Rattle.xp_grammar.specs.declared.types.Moment.TheVariants as moment
use Rattle.xp_grammar.specs.declared.types.TypeName.{TypeName}
use Rattle.xp_grammar.specs.declared.types.TypeName.TheVariants as name
use Rattle.xp_grammar.specs.declared.types.TypeModifier.{TypeModifier}
use Rattle.xp_grammar.specs.declared.types.TypeModifier.TheVariants as modifier
use Rattle.xp_grammar.specs.declared.types.TypeWords.{TypeWords}
use Rattle.xp_grammar.specs.declared.ast.TruthTest.{TruthTest}
use Rattle.xp_grammar.specs.declared.ast.TruthTest.TheVariants as tests
use Rattle.xp_grammar.specs.declared.ast.Selection.{Selection}
use Rattle.xp_grammar.specs.declared.ast.Selection.TheVariants as selections
use Rattle.xp_grammar.specs.declared.ast.Side.{Side}
use Rattle.xp_grammar.specs.declared.ast.Side.TheVariants as sides
use Rattle.xp_grammar.specs.declared.ast.Ast.{Ast}
use Rattle.xp_grammar.specs.declared.ast.Ast.TheVariants as e
use Rattle.xp_grammar.specs.declared.ast.Arm.{Arm, roll-Arm}
use Rattle.xp_grammar.specs.declared.statement.Item.{Item as ItemAst}
use Rattle.xp_grammar.specs.declared.statement.SelectArm.{SelectArm}
use Rattle.xp_grammar.specs.declared.statement.Statement.{Statement as StatementAst}
use Rattle.xp_grammar.specs.declared.statement.Statement.TheVariants as stating
use Rattle.xp_grammar.specs.Kinds.{kind, same}

-- E0 to E12 and P are the levels of expressions from OR down; Full is a type, Basic one without brackets, Typename one without its modifier;
-- Selects are the SELECTs between which UNION ALL stands, Items and Item what one shows, Rows the lists of VALUES, Shown expressions with commas between, Arms those of CASE
pub data Level : Type 0 where
  Statement Selects Items Item Rows Shown E0 E1 E2 E3 E4 E5 E6 P E7 E8 E9 E10 E11 E12 Args Arms Full Basic Typename : Level

pub data Sym : Type 0 where
  Tok : Class → Sym
  Lev : Level → Sym

abbrev pub tok : Kind → Sym
tok a = Tok (Only a)

abbrev pub word : Reserved → Sym
word a = tok (k.Word a)

abbrev pub mark : Mark → Sym
mark a = tok (k.Mark a)

-- What is read by a token or a level. Casted is an expression that ends in a type, with the place of its `::`; Given are arguments, with the word VARIADIC before the last or not.
pub data Value : Type 0 where
  Word : Token → Value
  Tree : Ast → Value
  Casted : Ast → Span → TypeWords → Value
  Given : List Ast → Bool → Value
  Trees : List Ast → Value
  Lists : List (List Ast) → Value
  Cases : List Arm → Value
  Spelled : Span → TypeName → Value
  Named : TypeWords → Value
  Labelled : ItemAst → Value
  Labels : List ItemAst → Value
  Selected : List SelectArm → Value
  Stated : StatementAst → Value
  Wrong : Value

-- the lines that don't begin with their own level
pub data Start : Type 0 where
  selects values store describe explain explain_analyze select first_item item item_as first_row first_shown one_or one_and not_free not test_free is_truth is_not_truth isnull notnull is_distinct is_not_distinct compare_free compared range_free between not_between within not_within like not_like other_free other_prefix prefix prefix_prefix one_sum one_product one_power sign_free signed operand constant column typed_constant called_empty called paren cast_as cases cases_else cases_of cases_of_else selection nullif array_empty array position substring_one substring_more substring_from substring_from_for substring_for trim_from trim_set_from trim_side_from trim_side_set_from trim trim_set trim_side trim_side_set extract one_arg variadic first_arm full_basic basic basic_sized basic_scaled plain_type double_type double_precision character_type character_varying moment_type moment_zoned : Start

-- the lines that do
pub data Tail : Type 0 where
  union next_item next_row next_shown or and other_then other_then_prefix added multiplied raised cast empty_brackets brackets next_one next_variadic next_arm full_pair full_sized_pair : Tail

-- an expression that ends in a type, and arguments without VARIADIC
abbrev pub is_open : Value → Bool
is_open (Casted a p n) = true
is_open (Given all false) = true
is_open _ = false

-- ---- what tokens hold

abbrev pub at : Token → Span
at token = token.span

abbrev pub letters : TokenKind → List ℕ
letters (t.Name n) = n
letters (t.Quoted n) = n
letters (t.Operator n) = n
letters (t.Str n) = n
letters _ = []

-- the characters of a name, an operator or a string
abbrev pub name_of : Token → List ℕ
name_of token = letters token.kind

abbrev pub spelled_as : TokenKind → TypeName
spelled_as (t.Quoted n) = name.Quoted n
spelled_as other = name.Plain (letters other)

abbrev pub type_name : Token → TypeName
type_name token = spelled_as token.kind

abbrev pub constant_at : Span → TokenKind → Ast
constant_at p (t.Number value whole) = e.Number p value whole
constant_at p t.Wide = e.Wide p
constant_at p (t.Str text) = e.Text p text
constant_at p (t.Word w.True) = e.Bool p true
constant_at p (t.Word w.False) = e.Bool p false
constant_at p _ = e.Null p

abbrev pub constant_of : Token → Ast
constant_of token = constant_at token.span token.kind

abbrev pub test_at : TokenKind → TruthTest
test_at (t.Word w.True) = tests.True
test_at (t.Word w.False) = tests.False
test_at (t.Word w.Unknown) = tests.Unknown
test_at _ = tests.Null

abbrev pub test_of : Token → TruthTest
test_of token = test_at token.kind

abbrev pub selection_at : TokenKind → Selection
selection_at (t.Word w.Greatest) = selections.Greatest
selection_at (t.Word w.Least) = selections.Least
selection_at _ = selections.Coalesce

abbrev pub selection_of : Token → Selection
selection_of token = selection_at token.kind

abbrev pub side_at : TokenKind → Side
side_at (t.Word w.Leading) = sides.Leading
side_at (t.Word w.Trailing) = sides.Trailing
side_at _ = sides.Both

abbrev pub side_of : Token → Side
side_of token = side_at token.kind

-- whether letters of any case are alike
abbrev pub any_case : Token → Bool
any_case token = same (kind token) (k.Word w.Ilike)

abbrev pub moment_of : Token → Moment
moment_of token = if same (kind token) k.Time then moment.Time else moment.Timestamp

abbrev pub zoned : Token → Moment → TypeName
zoned token m = if same (kind token) k.With then name.WithTimeZone m else name.WithoutTimeZone m

-- ---- what lines build

abbrev pub words : Span → TypeName → TypeModifier → TypeWords
words p n m = record { at = p; name = n; modifier = m; array = false }

-- a modifier of one number, and of two; no other tokens stand there
abbrev pub sized : Span → TokenKind → TypeModifier
sized p (t.Number length whole) = modifier.Length p length
sized p _ = modifier.None

abbrev pub scaled : Span → TokenKind → TokenKind → TypeModifier
scaled p (t.Number precision whole) (t.Number scale whole') = modifier.Digits p precision scale
scaled p _ _ = modifier.None

-- a name alone, as a type
abbrev pub one_word : Token → TypeWords
one_word token = words (at token) (type_name token) modifier.None

abbrev pub array_of : TypeWords → TypeWords
array_of n = record { at = n.at; name = n.name; modifier = n.modifier; array = true }

abbrev pub arm : Span → Ast → Ast → Arm
arm p when gives = roll-Arm (record { at = p; when = when; gives = gives })

abbrev pub labelled : Ast → Option (List ℕ) → ItemAst
labelled a label = record { expr = a; label = label }

abbrev pub select_arm : Span → List ItemAst → SelectArm
select_arm p items = record { at = p; items = items }

abbrev pub selected : List SelectArm → Value
selected [] = Wrong
selected (a ∷ []) = Stated (stating.Select a.at a.items)
selected (a ∷ b ∷ more) = Stated (stating.UnionAll a.at (a ∷ b ∷ more))

-- an expression that ends in a type, as one
abbrev pub closed : Value → Value
closed (Casted a p n) = Tree (e.Cast p a n)
closed v = v

-- one more of a list, by the values of its line
abbrev pub with_select : Value → List Value → Value
with_select (Selected arms) (Word a ∷ Labels items ∷ []) = Selected (arms ++ select_arm (at a) items ∷ [])
with_select _ _ = Wrong

abbrev pub with_item : Value → List Value → Value
with_item (Labels items) (Labelled one ∷ []) = Labels (items ++ one ∷ [])
with_item _ _ = Wrong

abbrev pub with_row : Value → List Value → Value
with_row (Lists lists) (a ∷ Trees all ∷ b ∷ []) = Lists (lists ++ all ∷ [])
with_row _ _ = Wrong

abbrev pub with_shown : Value → List Value → Value
with_shown (Trees all) (Tree x ∷ []) = Trees (all ++ x ∷ [])
with_shown _ _ = Wrong

abbrev pub with_arg : Value → List Value → Value
with_arg (Given all false) (Tree x ∷ []) = Given (all ++ x ∷ []) false
with_arg _ _ = Wrong

abbrev pub with_variadic : Value → List Value → Value
with_variadic (Given all false) (a ∷ Tree x ∷ []) = Given (all ++ x ∷ []) true
with_variadic _ _ = Wrong

abbrev pub with_arm : Value → List Value → Value
with_arm (Cases arms) (Word a ∷ Tree x ∷ b ∷ Tree y ∷ []) = Cases (arms ++ arm (at a) x y ∷ [])
with_arm _ _ = Wrong

-- tests, negated or not
abbrev pub is_of : Bool → Value → List Value → Value
is_of negated (Tree x) (Word a ∷ Word b ∷ []) = Tree (e.Is (at a) negated (test_of b) x)
is_of _ _ _ = Wrong

abbrev pub distinct_of : Bool → Value → List Value → Value
distinct_of negated (Tree x) (Word a ∷ b ∷ c ∷ Tree y ∷ []) = Tree (e.IsDistinct (at a) negated x y)
distinct_of _ _ _ = Wrong

abbrev pub between_of : Bool → Value → List Value → Value
between_of negated (Tree x) (Word a ∷ Tree low ∷ b ∷ Tree high ∷ []) = Tree (e.Between (at a) negated x low high)
between_of _ _ _ = Wrong

abbrev pub in_of : Bool → Value → List Value → Value
in_of negated (Tree x) (Word a ∷ b ∷ Trees all ∷ c ∷ []) = Tree (e.In (at a) negated x all)
in_of _ _ _ = Wrong

abbrev pub like_of : Bool → Value → List Value → Value
like_of negated (Tree x) (Word a ∷ Tree y ∷ []) = Tree (e.Like (at a) negated (any_case a) x y)
like_of _ _ _ = Wrong

-- IS NOT, without its NOT
abbrev pub negated_is : List Value → List Value
negated_is (a ∷ b ∷ vs) = a ∷ vs
negated_is _ = []

abbrev pub prefix_of : List Value → Value
prefix_of (Word a ∷ Tree x ∷ []) = Tree (e.Prefix (at a) (name_of a) x)
prefix_of _ = Wrong

-- CASE by its operand and what stands behind that
abbrev pub case_of : Span → Option Ast → List Value → Value
case_of p x (Cases arms ∷ b ∷ []) = Tree (e.Case p x arms None)
case_of p x (Cases arms ∷ b ∷ Tree y ∷ c ∷ []) = Tree (e.Case p x arms (Some y))
case_of p x _ = Wrong

abbrev pub operand_case : Span → Value → List Value → Value
operand_case p (Tree x) vs = case_of p (Some x) vs
operand_case p _ _ = Wrong

abbrev pub call_of : Token → Value → Value
call_of a (Given all ends) = Tree (e.Call (at a) (name_of a) all ends)
call_of a _ = Wrong

-- SUBSTRING by its first expression and what stands behind the comma, FROM or FOR
abbrev pub substring_alone : Span → Value → Value
substring_alone p (Tree x) = Tree (e.Substring p (x ∷ []))
substring_alone p _ = Wrong

abbrev pub substring_listed : Span → Value → List Value → Value
substring_listed p (Tree x) (Trees more ∷ a ∷ []) = Tree (e.Substring p (x ∷ more))
substring_listed p _ _ = Wrong

abbrev pub substring_begun : Span → Value → List Value → Value
substring_begun p (Tree x) (Tree y ∷ a ∷ []) = Tree (e.SubstringFrom p x (Some y) None)
substring_begun p (Tree x) (Tree y ∷ a ∷ Tree z ∷ b ∷ []) = Tree (e.SubstringFrom p x (Some y) (Some z))
substring_begun p _ _ = Wrong

abbrev pub substring_ended : Span → Value → List Value → Value
substring_ended p (Tree x) (Tree z ∷ a ∷ []) = Tree (e.SubstringFrom p x None (Some z))
substring_ended p _ _ = Wrong

-- TRIM by its side and set, and what stands behind FROM
abbrev pub trimmed_from : Span → Option Side → Option Ast → List Value → Value
trimmed_from p side set (Tree x ∷ a ∷ []) = Tree (e.TrimFrom p side set x)
trimmed_from p side set _ = Wrong

abbrev pub trimmed_set_from : Span → Option Side → Value → List Value → Value
trimmed_set_from p side (Tree y) vs = trimmed_from p side (Some y) vs
trimmed_set_from p side _ _ = Wrong

-- TRIM by its side and text, and what stands behind the comma
abbrev pub trimmed : Span → Option Side → Value → Value
trimmed p side (Tree x) = Tree (e.Trim p side x None)
trimmed p side _ = Wrong

abbrev pub trimmed_set : Span → Option Side → Value → List Value → Value
trimmed_set p side (Tree x) (Tree y ∷ a ∷ []) = Tree (e.Trim p side x (Some y))
trimmed_set p side _ _ = Wrong

-- two operands and what stands between them
abbrev pub or_of : Value → List Value → Value
or_of (Tree x) (Word a ∷ Tree y ∷ []) = Tree (e.Or (at a) x y)
or_of _ _ = Wrong

abbrev pub and_of : Value → List Value → Value
and_of (Tree x) (Word a ∷ Tree y ∷ []) = Tree (e.And (at a) x y)
and_of _ _ = Wrong

abbrev pub other_of : Value → List Value → Value
other_of (Tree x) (Word a ∷ Tree y ∷ []) = Tree (e.Other (at a) (name_of a) x y)
other_of _ _ = Wrong

abbrev pub sum_of : Value → List Value → Value
sum_of (Tree x) (Word a ∷ Tree y ∷ []) = Tree (e.Sum (at a) (name_of a) x y)
sum_of _ _ = Wrong

abbrev pub product_of : Value → List Value → Value
product_of (Tree x) (Word a ∷ Tree y ∷ []) = Tree (e.Product (at a) (name_of a) x y)
product_of _ _ = Wrong

abbrev pub power_of : Value → List Value → Value
power_of (Tree x) (Word a ∷ Tree y ∷ []) = Tree (e.Power (at a) (name_of a) x y)
power_of _ _ = Wrong

abbrev pub cast_of : Value → List Value → Value
cast_of (Tree x) (Word a ∷ Named n ∷ []) = Casted x (at a) n
cast_of (Casted x p m) (Word a ∷ Named n ∷ []) = Casted (e.Cast p x m) (at a) n
cast_of _ _ = Wrong

-- a type that takes a pair of brackets
abbrev pub array_cast : Value → Value
array_cast (Casted x p n) = Casted x p (array_of n)
array_cast _ = Wrong

abbrev pub array_type : Value → Value
array_type (Named n) = Named (array_of n)
array_type _ = Wrong

-- whether the brackets hold one whole number
abbrev pub one_whole : List Token → Bool
one_whole (a ∷ n ∷ b ∷ []) = same k.Whole (kind n)
one_whole _ = false

-- Brackets behind an expression: a type takes those that hold one whole number, any others are a subscript.
abbrev pub bracketed : Value → Bool → List Value → Value
bracketed (Casted a p n) true (Word q ∷ Tree i ∷ []) = Casted a p (array_of n)
bracketed (Casted a p n) false (Word q ∷ Tree i ∷ []) = Tree (e.Subscript (at q) (e.Cast p a n) i)
bracketed (Tree a) whole (Word q ∷ Tree i ∷ []) = Tree (e.Subscript (at q) a i)
bracketed _ whole _ = Wrong

abbrev pub behind : List Value → List Value
behind [] = []
behind (a ∷ vs) = vs

-- brackets without the closing one
abbrev pub opened : List Value → List Value
opened (a ∷ b ∷ c ∷ []) = a ∷ b ∷ []
opened _ = []

-- UNION ALL SELECT, without ALL SELECT
abbrev pub union_alone : List Value → List Value
union_alone (a ∷ b ∷ c ∷ vs) = a ∷ vs
union_alone _ = []

-- ---- the lines

-- a line: its level, its symbols, and what is built of their values
pub record Line : Type 0 where
  pub level : Level
  pub parts : List Sym
  pub builds : List Value → Value

abbrev at_level : Level → List Sym → (List Value → Value) → Line
at_level m ss f = record { level = m; parts = ss; builds = f }

abbrev alone : List Value → Value
alone (v ∷ []) = v
alone _ = Wrong

abbrev pub line : Start → Line
line values = at_level Statement (word w.Values ∷ Lev Rows ∷ [])
    (elim [ Word a ∷ Lists lists ∷ [] ↦ Stated (stating.Values (at a) lists) | _ ↦ Wrong ])
line store = at_level Statement (word w.Store ∷ Lev Full ∷ word w.From ∷ Lev E0 ∷ [])
    (elim [ Word a ∷ Named n ∷ b ∷ Tree x ∷ [] ↦ Stated (stating.Store (at a) n x) | _ ↦ Wrong ])
line describe = at_level Statement (word w.Describe ∷ Lev Shown ∷ [])
    (elim [ Word a ∷ Trees all ∷ [] ↦ Stated (stating.Describe (at a) all) | _ ↦ Wrong ])
line explain_analyze = at_level Statement (word w.Explain ∷ word w.Analyze ∷ Lev E0 ∷ [])
    (elim [ Word a ∷ b ∷ Tree x ∷ [] ↦ Stated (stating.ExplainAnalyze (at a) x) | _ ↦ Wrong ])
line explain = at_level Statement (word w.Explain ∷ Lev E0 ∷ []) (elim [ Word a ∷ Tree x ∷ [] ↦ Stated (stating.Explain (at a) x) | _ ↦ Wrong ])
line selects = at_level Statement (Lev Selects ∷ []) (elim [ Selected arms ∷ [] ↦ selected arms | _ ↦ Wrong ])
line select = at_level Selects (word w.Select ∷ Lev Items ∷ []) (with_select (Selected []))
line first_item = at_level Items (Lev Item ∷ []) (with_item (Labels []))
line item = at_level Item (Lev E0 ∷ []) (elim [ Tree x ∷ [] ↦ Labelled (labelled x None) | _ ↦ Wrong ])
line item_as = at_level Item (Lev E0 ∷ word w.As ∷ Tok Names ∷ [])
    (elim [ Tree x ∷ a ∷ Word n ∷ [] ↦ Labelled (labelled x (Some (name_of n))) | _ ↦ Wrong ])
line first_row = at_level Rows (mark m.OpenParen ∷ Lev Shown ∷ mark m.CloseParen ∷ []) (with_row (Lists []))
line first_shown = at_level Shown (Lev E0 ∷ []) (with_shown (Trees []))
line one_or = at_level E0 (Lev E1 ∷ []) alone
line one_and = at_level E1 (Lev E2 ∷ []) alone
line not = at_level E2 (word w.Not ∷ Lev E2 ∷ []) (elim [ Word a ∷ Tree x ∷ [] ↦ Tree (e.Not (at a) x) | _ ↦ Wrong ])
line not_free = at_level E2 (Lev E3 ∷ []) alone
line test_free = at_level E3 (Lev E4 ∷ []) alone
line is_not_truth = at_level E3 (Lev E4 ∷ word w.Is ∷ word w.Not ∷ Tok TruthTests ∷ []) (elim [ v ∷ vs ↦ is_of true v (negated_is vs) | _ ↦ Wrong ])
line is_not_distinct = at_level E3 (Lev E4 ∷ word w.Is ∷ word w.Not ∷ word w.Distinct ∷ word w.From ∷ Lev E4 ∷ [])
    (elim [ v ∷ vs ↦ distinct_of true v (negated_is vs) | _ ↦ Wrong ])
line is_truth = at_level E3 (Lev E4 ∷ word w.Is ∷ Tok TruthTests ∷ []) (elim [ v ∷ vs ↦ is_of false v vs | _ ↦ Wrong ])
line is_distinct = at_level E3 (Lev E4 ∷ word w.Is ∷ word w.Distinct ∷ word w.From ∷ Lev E4 ∷ [])
    (elim [ v ∷ vs ↦ distinct_of false v vs | _ ↦ Wrong ])
line isnull = at_level E3 (Lev E4 ∷ word w.Isnull ∷ []) (elim [ Tree x ∷ Word a ∷ [] ↦ Tree (e.Is (at a) false tests.Null x) | _ ↦ Wrong ])
line notnull = at_level E3 (Lev E4 ∷ word w.Notnull ∷ []) (elim [ Tree x ∷ Word a ∷ [] ↦ Tree (e.Is (at a) true tests.Null x) | _ ↦ Wrong ])
line compare_free = at_level E4 (Lev E5 ∷ []) alone
line compared = at_level E4 (Lev E5 ∷ tok k.Compare ∷ Lev E5 ∷ [])
    (elim [ Tree x ∷ Word a ∷ Tree y ∷ [] ↦ Tree (e.Compare (at a) (name_of a) x y) | _ ↦ Wrong ])
line range_free = at_level E5 (Lev E6 ∷ []) alone
line not_between = at_level E5 (Lev E6 ∷ word w.Not ∷ word w.Between ∷ Lev E6 ∷ word w.And ∷ Lev E6 ∷ [])
    (elim [ v ∷ a ∷ vs ↦ between_of true v vs | _ ↦ Wrong ])
line not_within = at_level E5 (Lev E6 ∷ word w.Not ∷ word w.In ∷ mark m.OpenParen ∷ Lev Shown ∷ mark m.CloseParen ∷ [])
    (elim [ v ∷ a ∷ vs ↦ in_of true v vs | _ ↦ Wrong ])
line not_like = at_level E5 (Lev E6 ∷ word w.Not ∷ Tok Likes ∷ Lev E6 ∷ []) (elim [ v ∷ a ∷ vs ↦ like_of true v vs | _ ↦ Wrong ])
line between = at_level E5 (Lev E6 ∷ word w.Between ∷ Lev E6 ∷ word w.And ∷ Lev E6 ∷ []) (elim [ v ∷ vs ↦ between_of false v vs | _ ↦ Wrong ])
line within = at_level E5 (Lev E6 ∷ word w.In ∷ mark m.OpenParen ∷ Lev Shown ∷ mark m.CloseParen ∷ [])
    (elim [ v ∷ vs ↦ in_of false v vs | _ ↦ Wrong ])
line like = at_level E5 (Lev E6 ∷ Tok Likes ∷ Lev E6 ∷ []) (elim [ v ∷ vs ↦ like_of false v vs | _ ↦ Wrong ])
line other_prefix = at_level E6 (Lev P ∷ []) alone
line other_free = at_level E6 (Lev E7 ∷ []) alone
line prefix_prefix = at_level P (tok k.Other ∷ Lev P ∷ []) prefix_of
line prefix = at_level P (tok k.Other ∷ Lev E7 ∷ []) prefix_of
line one_sum = at_level E7 (Lev E8 ∷ []) alone
line one_product = at_level E8 (Lev E9 ∷ []) alone
line one_power = at_level E9 (Lev E10 ∷ []) alone
line signed = at_level E10 (tok k.Sign ∷ Lev E10 ∷ []) (elim [ Word a ∷ Tree x ∷ [] ↦ Tree (e.Sign (at a) (name_of a) x) | _ ↦ Wrong ])
line sign_free = at_level E10 (Lev E11 ∷ []) (elim [ v ∷ [] ↦ closed v | _ ↦ Wrong ])
line operand = at_level E11 (Lev E12 ∷ []) alone
line constant = at_level E12 (Tok Constants ∷ []) (elim [ Word a ∷ [] ↦ Tree (constant_of a) | _ ↦ Wrong ])
line column = at_level E12 (Tok Names ∷ []) (elim [ Word a ∷ [] ↦ Tree (e.Column (at a) (name_of a)) | _ ↦ Wrong ])
line typed_constant = at_level E12 (Tok Names ∷ tok k.String ∷ [])
    (elim [ Word a ∷ Word b ∷ [] ↦ Tree (e.Typed (one_word a) (at b) (name_of b)) | _ ↦ Wrong ])
line called_empty = at_level E12 (Tok Names ∷ mark m.OpenParen ∷ mark m.CloseParen ∷ [])
    (elim [ Word a ∷ b ∷ c ∷ [] ↦ Tree (e.Call (at a) (name_of a) [] false) | _ ↦ Wrong ])
line called = at_level E12 (Tok Names ∷ mark m.OpenParen ∷ Lev Args ∷ mark m.CloseParen ∷ [])
    (elim [ Word a ∷ b ∷ v ∷ c ∷ [] ↦ call_of a v | _ ↦ Wrong ])
line paren = at_level E12 (mark m.OpenParen ∷ Lev E0 ∷ mark m.CloseParen ∷ [])
    (elim [ Word a ∷ Tree x ∷ b ∷ [] ↦ Tree (e.Paren (at a) x) | _ ↦ Wrong ])
line cast_as = at_level E12 (word w.Cast ∷ mark m.OpenParen ∷ Lev E0 ∷ word w.As ∷ Lev Full ∷ mark m.CloseParen ∷ [])
    (elim [ Word a ∷ b ∷ Tree x ∷ c ∷ Named n ∷ d ∷ [] ↦ Tree (e.Cast (at a) x n) | _ ↦ Wrong ])
line cases_else = at_level E12 (word w.Case ∷ Lev Arms ∷ word w.Else ∷ Lev E0 ∷ word w.End ∷ [])
    (elim [ Word a ∷ vs ↦ case_of (at a) None vs | _ ↦ Wrong ])
line cases = at_level E12 (word w.Case ∷ Lev Arms ∷ word w.End ∷ []) (elim [ Word a ∷ vs ↦ case_of (at a) None vs | _ ↦ Wrong ])
line cases_of_else = at_level E12 (word w.Case ∷ Lev E0 ∷ Lev Arms ∷ word w.Else ∷ Lev E0 ∷ word w.End ∷ [])
    (elim [ Word a ∷ v ∷ vs ↦ operand_case (at a) v vs | _ ↦ Wrong ])
line cases_of = at_level E12 (word w.Case ∷ Lev E0 ∷ Lev Arms ∷ word w.End ∷ []) (elim [ Word a ∷ v ∷ vs ↦ operand_case (at a) v vs | _ ↦ Wrong ])
line selection = at_level E12 (Tok Selections ∷ mark m.OpenParen ∷ Lev Shown ∷ mark m.CloseParen ∷ [])
    (elim [ Word a ∷ b ∷ Trees all ∷ c ∷ [] ↦ Tree (e.Selection (at a) (selection_of a) all) | _ ↦ Wrong ])
line nullif = at_level E12 (word w.Nullif ∷ mark m.OpenParen ∷ Lev E0 ∷ mark m.Comma ∷ Lev E0 ∷ mark m.CloseParen ∷ [])
    (elim [ Word a ∷ b ∷ Tree x ∷ c ∷ Tree y ∷ d ∷ [] ↦ Tree (e.NullIf (at a) x y) | _ ↦ Wrong ])
line array_empty = at_level E12 (word w.Array ∷ mark m.OpenBracket ∷ mark m.CloseBracket ∷ [])
    (elim [ Word a ∷ b ∷ c ∷ [] ↦ Tree (e.Array (at a) []) | _ ↦ Wrong ])
line array = at_level E12 (word w.Array ∷ mark m.OpenBracket ∷ Lev Shown ∷ mark m.CloseBracket ∷ [])
    (elim [ Word a ∷ b ∷ Trees all ∷ c ∷ [] ↦ Tree (e.Array (at a) all) | _ ↦ Wrong ])
line position = at_level E12 (word w.Position ∷ mark m.OpenParen ∷ Lev E6 ∷ word w.In ∷ Lev E6 ∷ mark m.CloseParen ∷ [])
    (elim [ Word a ∷ b ∷ Tree x ∷ c ∷ Tree y ∷ d ∷ [] ↦ Tree (e.Position (at a) x y) | _ ↦ Wrong ])
line substring_more = at_level E12 (word w.Substring ∷ mark m.OpenParen ∷ Lev E0 ∷ mark m.Comma ∷ Lev Shown ∷ mark m.CloseParen ∷ [])
    (elim [ Word a ∷ b ∷ v ∷ c ∷ vs ↦ substring_listed (at a) v vs | _ ↦ Wrong ])
line substring_from_for = at_level E12 (word w.Substring ∷ mark m.OpenParen ∷ Lev E0 ∷ word w.From ∷ Lev E0 ∷ word w.For ∷ Lev E0 ∷ mark m.CloseParen ∷ [])
    (elim [ Word a ∷ b ∷ v ∷ c ∷ vs ↦ substring_begun (at a) v vs | _ ↦ Wrong ])
line substring_from = at_level E12 (word w.Substring ∷ mark m.OpenParen ∷ Lev E0 ∷ word w.From ∷ Lev E0 ∷ mark m.CloseParen ∷ [])
    (elim [ Word a ∷ b ∷ v ∷ c ∷ vs ↦ substring_begun (at a) v vs | _ ↦ Wrong ])
line substring_for = at_level E12 (word w.Substring ∷ mark m.OpenParen ∷ Lev E0 ∷ word w.For ∷ Lev E0 ∷ mark m.CloseParen ∷ [])
    (elim [ Word a ∷ b ∷ v ∷ c ∷ vs ↦ substring_ended (at a) v vs | _ ↦ Wrong ])
line substring_one = at_level E12 (word w.Substring ∷ mark m.OpenParen ∷ Lev E0 ∷ mark m.CloseParen ∷ [])
    (elim [ Word a ∷ b ∷ v ∷ c ∷ [] ↦ substring_alone (at a) v | _ ↦ Wrong ])
line trim_side_from = at_level E12 (word w.Trim ∷ mark m.OpenParen ∷ Tok Sides ∷ word w.From ∷ Lev E0 ∷ mark m.CloseParen ∷ [])
    (elim [ Word a ∷ b ∷ Word c ∷ d ∷ vs ↦ trimmed_from (at a) (Some (side_of c)) None vs | _ ↦ Wrong ])
line trim_side_set_from = at_level E12 (word w.Trim ∷ mark m.OpenParen ∷ Tok Sides ∷ Lev E0 ∷ word w.From ∷ Lev E0 ∷ mark m.CloseParen ∷ [])
    (elim [ Word a ∷ b ∷ Word c ∷ v ∷ d ∷ vs ↦ trimmed_set_from (at a) (Some (side_of c)) v vs | _ ↦ Wrong ])
line trim_side_set = at_level E12 (word w.Trim ∷ mark m.OpenParen ∷ Tok Sides ∷ Lev E0 ∷ mark m.Comma ∷ Lev E0 ∷ mark m.CloseParen ∷ [])
    (elim [ Word a ∷ b ∷ Word c ∷ v ∷ d ∷ vs ↦ trimmed_set (at a) (Some (side_of c)) v vs | _ ↦ Wrong ])
line trim_side = at_level E12 (word w.Trim ∷ mark m.OpenParen ∷ Tok Sides ∷ Lev E0 ∷ mark m.CloseParen ∷ [])
    (elim [ Word a ∷ b ∷ Word c ∷ v ∷ d ∷ [] ↦ trimmed (at a) (Some (side_of c)) v | _ ↦ Wrong ])
line trim_from = at_level E12 (word w.Trim ∷ mark m.OpenParen ∷ word w.From ∷ Lev E0 ∷ mark m.CloseParen ∷ [])
    (elim [ Word a ∷ b ∷ c ∷ vs ↦ trimmed_from (at a) None None vs | _ ↦ Wrong ])
line trim_set_from = at_level E12 (word w.Trim ∷ mark m.OpenParen ∷ Lev E0 ∷ word w.From ∷ Lev E0 ∷ mark m.CloseParen ∷ [])
    (elim [ Word a ∷ b ∷ v ∷ c ∷ vs ↦ trimmed_set_from (at a) None v vs | _ ↦ Wrong ])
line trim_set = at_level E12 (word w.Trim ∷ mark m.OpenParen ∷ Lev E0 ∷ mark m.Comma ∷ Lev E0 ∷ mark m.CloseParen ∷ [])
    (elim [ Word a ∷ b ∷ v ∷ c ∷ vs ↦ trimmed_set (at a) None v vs | _ ↦ Wrong ])
line trim = at_level E12 (word w.Trim ∷ mark m.OpenParen ∷ Lev E0 ∷ mark m.CloseParen ∷ [])
    (elim [ Word a ∷ b ∷ v ∷ c ∷ [] ↦ trimmed (at a) None v | _ ↦ Wrong ])
line extract = at_level E12 (word w.Extract ∷ mark m.OpenParen ∷ Tok Fields ∷ word w.From ∷ Lev E0 ∷ mark m.CloseParen ∷ [])
    (elim [ Word a ∷ b ∷ Word c ∷ d ∷ Tree x ∷ f ∷ [] ↦ Tree (e.Extract (at a) (at c) (name_of c) x) | _ ↦ Wrong ])
line variadic = at_level Args (word w.Variadic ∷ Lev E0 ∷ []) (with_variadic (Given [] false))
line one_arg = at_level Args (Lev E0 ∷ []) (with_arg (Given [] false))
line first_arm = at_level Arms (word w.When ∷ Lev E0 ∷ word w.Then ∷ Lev E0 ∷ []) (with_arm (Cases []))
line full_basic = at_level Full (Lev Basic ∷ []) alone
line basic = at_level Basic (Lev Typename ∷ []) (elim [ Spelled p n ∷ [] ↦ Named (words p n modifier.None) | _ ↦ Wrong ])
line basic_scaled = at_level Basic (Lev Typename ∷ mark m.OpenParen ∷ tok k.Whole ∷ mark m.Comma ∷ tok k.Whole ∷ mark m.CloseParen ∷ [])
    (elim [ Spelled p n ∷ Word a ∷ Word b ∷ c ∷ Word d ∷ f ∷ [] ↦ Named (words p n (scaled (at a) b.kind d.kind)) | _ ↦ Wrong ])
line basic_sized = at_level Basic (Lev Typename ∷ mark m.OpenParen ∷ tok k.Whole ∷ mark m.CloseParen ∷ [])
    (elim [ Spelled p n ∷ Word a ∷ Word b ∷ c ∷ [] ↦ Named (words p n (sized (at a) b.kind)) | _ ↦ Wrong ])
line plain_type = at_level Typename (Tok Plains ∷ []) (elim [ Word a ∷ [] ↦ Spelled (at a) (type_name a) | _ ↦ Wrong ])
line double_type = at_level Typename (tok k.Double ∷ []) (elim [ Word a ∷ [] ↦ Spelled (at a) (type_name a) | _ ↦ Wrong ])
line double_precision = at_level Typename (tok k.Double ∷ tok k.Precision ∷ [])
    (elim [ Word a ∷ b ∷ [] ↦ Spelled (at a) name.DoublePrecision | _ ↦ Wrong ])
line character_type = at_level Typename (tok k.Character ∷ []) (elim [ Word a ∷ [] ↦ Spelled (at a) (type_name a) | _ ↦ Wrong ])
line character_varying = at_level Typename (tok k.Character ∷ tok k.Varying ∷ [])
    (elim [ Word a ∷ b ∷ [] ↦ Spelled (at a) name.CharacterVarying | _ ↦ Wrong ])
line moment_type = at_level Typename (Tok Moments ∷ []) (elim [ Word a ∷ [] ↦ Spelled (at a) (type_name a) | _ ↦ Wrong ])
line moment_zoned = at_level Typename (Tok Moments ∷ Tok Zoned ∷ tok k.Time ∷ tok k.Zone ∷ [])
    (elim [ Word a ∷ Word b ∷ c ∷ d ∷ [] ↦ Spelled (at a) (zoned b (moment_of a)) | _ ↦ Wrong ])

abbrev pub level : Start → Level
level x = (line x).level

abbrev pub parts : Start → List Sym
parts x = (line x).parts

abbrev pub made : Start → List Value → Value
made x = (line x).builds

-- a line that begins with its own level: that level, the class of the token behind it, the other symbols,
-- and what is built of the value before, and of the tokens and values behind it
pub record TailLine : Type 0 where
  pub level : Level
  pub lead : Class
  pub rest : List Sym
  pub joins : Value → List Token → List Value → Value

abbrev behind_level : Level → Class → List Sym → (Value → List Token → List Value → Value) → TailLine
behind_level m a ss f = record { level = m; lead = a; rest = ss; joins = f }

abbrev pub tail_line : Tail → TailLine
tail_line union = behind_level Selects (Only (k.Word w.Union)) (word w.All ∷ word w.Select ∷ Lev Items ∷ [])
    (λ v us vs. with_select v (union_alone vs))
tail_line next_item = behind_level Items (Only (k.Mark m.Comma)) (Lev Item ∷ [])
    (λ v us vs. with_item v (behind vs))
tail_line next_row = behind_level Rows (Only (k.Mark m.Comma)) (mark m.OpenParen ∷ Lev Shown ∷ mark m.CloseParen ∷ [])
    (λ v us vs. with_row v (behind vs))
tail_line next_shown = behind_level Shown (Only (k.Mark m.Comma)) (Lev E0 ∷ [])
    (λ v us vs. with_shown v (behind vs))
tail_line or = behind_level E0 (Only (k.Word w.Or)) (Lev E1 ∷ [])
    (λ v us vs. or_of v vs)
tail_line and = behind_level E1 (Only (k.Word w.And)) (Lev E2 ∷ [])
    (λ v us vs. and_of v vs)
tail_line other_then = behind_level E6 (Only k.Other) (Lev E7 ∷ [])
    (λ v us vs. other_of v vs)
tail_line other_then_prefix = behind_level E6 (Only k.Other) (Lev P ∷ [])
    (λ v us vs. other_of v vs)
tail_line added = behind_level E7 (Only k.Sign) (Lev E8 ∷ [])
    (λ v us vs. sum_of v vs)
tail_line multiplied = behind_level E8 (Only k.Times) (Lev E9 ∷ [])
    (λ v us vs. product_of v vs)
tail_line raised = behind_level E9 (Only k.Power) (Lev E10 ∷ [])
    (λ v us vs. power_of v vs)
tail_line cast = behind_level E11 (Only (k.Mark m.DoubleColon)) (Lev Basic ∷ [])
    (λ v us vs. cast_of v vs)
tail_line empty_brackets = behind_level E11 (Only (k.Mark m.OpenBracket)) (mark m.CloseBracket ∷ [])
    (λ v us vs. array_cast v)
tail_line brackets = behind_level E11 (Only (k.Mark m.OpenBracket)) (Lev E0 ∷ mark m.CloseBracket ∷ [])
    (λ v us vs. bracketed v (one_whole us) (opened vs))
tail_line next_one = behind_level Args (Only (k.Mark m.Comma)) (Lev E0 ∷ [])
    (λ v us vs. with_arg v (behind vs))
tail_line next_variadic = behind_level Args (Only (k.Mark m.Comma)) (word w.Variadic ∷ Lev E0 ∷ [])
    (λ v us vs. with_variadic v (behind vs))
tail_line next_arm = behind_level Arms (Only (k.Word w.When)) (Lev E0 ∷ word w.Then ∷ Lev E0 ∷ [])
    (λ v us vs. with_arm v vs)
tail_line full_pair = behind_level Full (Only (k.Mark m.OpenBracket)) (mark m.CloseBracket ∷ [])
    (λ v us vs. array_type v)
tail_line full_sized_pair = behind_level Full (Only (k.Mark m.OpenBracket)) (tok k.Whole ∷ mark m.CloseBracket ∷ [])
    (λ v us vs. array_type v)

abbrev pub on : Tail → Level
on x = (tail_line x).level

abbrev pub lead : Tail → Class
lead x = (tail_line x).lead

abbrev pub rest : Tail → List Sym
rest x = (tail_line x).rest

abbrev pub joined : Tail → Value → List Token → List Value → Value
joined x = (tail_line x).joins

-- what stands behind the level in its own line
abbrev pub turn : Tail → List Sym
turn x = Tok (lead x) ∷ rest x

abbrev pub takes : Tail → Bool → Bool
takes empty_brackets b = b
takes next_one b = b
takes next_variadic b = b
takes _ b = true

-- empty brackets stand behind a type alone, and nothing behind the argument of VARIADIC
abbrev pub fits : Tail → Value → Bool
fits x v = takes x (is_open v)
